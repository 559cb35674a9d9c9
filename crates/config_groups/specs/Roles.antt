-- What a group is, by its kind and by the groups before it.
use Rattle.std.specs.Prelude.{ℕ, ◌-◌, Bool, true, false, ◌==◌, List, codes, bytes_eq, Option, Some, None, if◌then◌else◌}
use Rattle.std.specs.List.{find}
use Rattle.route_rules.specs.declared.link_kind.LinkKind.{LinkKind}
use Rattle.route_rules.specs.declared.link_kind.LinkKind.TheVariants as protocols
use Rattle.config_groups.specs.declared.group.Set.{Set}
use Rattle.config_groups.specs.declared.role.Family.{Family}
use Rattle.config_groups.specs.declared.role.Family.TheVariants as families
use Rattle.config_groups.specs.declared.role.Kind.{Kind}
use Rattle.config_groups.specs.declared.role.Kind.TheVariants.{Core, Link, Smsbox, User, Service}
use Rattle.config_groups.specs.declared.role.Role.{Role}
use Rattle.config_groups.specs.declared.role.Role.TheVariants.{Nameless, Passed, Taken, Excess}
use Rattle.config_groups.specs.declared.role.Room.{Room}
use Rattle.config_groups.specs.declared.table.Section.{Section}
use Rattle.config_groups.specs.declared.table.Section.TheVariants as sections
use Rattle.config_groups.specs.Table.{protocol_of}

-- the room in front of the first group
abbrev pub whole_room : Room
whole_room = record { core = 1; links = 1000; smsbox = 1; users = 1000; services = 1000 }

abbrev pub has_name : List ℕ → Set → Bool
has_name name set = bytes_eq set.name name

-- the first variable of a name
abbrev pub first : List ℕ → List Set → Option Set
first name sets = find (has_name name) sets

-- the protocol that a variable names
abbrev pub protocol_by : Option Set → Option LinkKind
protocol_by (Some set) = protocol_of set.value
protocol_by None = None

-- the protocol that a group names
abbrev pub protocol_in : List Set → Option LinkKind
protocol_in group = protocol_by (first (codes "smsc") group)

-- a group of a kind of which only so many may stand
abbrev pub bounded : (left : ℕ) → Kind → Role
bounded left kind = if left == 0 then Excess kind else Taken kind

-- a group of a kind of which only the first counts
abbrev pub only_first : (left : ℕ) → Kind → Role
only_first left kind = if left == 0 then Passed else Taken kind

-- the kind of a name
abbrev pub family_of : List ℕ → Option Family
family_of name =
    if bytes_eq name (codes "core") then Some families.Core else
    if bytes_eq name (codes "smsc") then Some families.Link else
    if bytes_eq name (codes "smsbox") then Some families.Smsbox else
    if bytes_eq name (codes "sendsms-user") then Some families.User else
    if bytes_eq name (codes "sms-service") then Some families.Service else None

-- what becomes of a group of a kind
abbrev pub role_in : Room → Option Family → List Set → Role
role_in room (Some families.Core) group = only_first room.core Core
role_in room (Some families.Link) group = bounded room.links (Link (protocol_in group))
role_in room (Some families.Smsbox) group = only_first room.smsbox Smsbox
role_in room (Some families.User) group = bounded room.users User
role_in room (Some families.Service) group = bounded room.services Service
role_in room None group = Passed

abbrev pub role_by : Room → Option Set → List Set → Role
role_by room (Some set) group = role_in room (family_of set.value) group
role_by room None group = Nameless

-- what becomes of a group, where there is so much room
abbrev pub role_of : Room → List Set → Role
role_of room group = role_by room (first (codes "group") group) group

-- the room behind a group
abbrev pub room_behind : Room → Role → Room
room_behind room (Taken Core) = record room { core = room.core - 1 }
room_behind room (Taken (Link protocol)) = record room { links = room.links - 1 }
room_behind room (Taken Smsbox) = record room { smsbox = room.smsbox - 1 }
room_behind room (Taken User) = record room { users = room.users - 1 }
room_behind room (Taken Service) = record room { services = room.services - 1 }
room_behind room role = room

abbrev pub is_link_of : Kind → LinkKind → Bool
is_link_of (Link (Some protocols.Smpp)) protocols.Smpp = true
is_link_of (Link (Some protocols.Ucp)) protocols.Ucp = true
is_link_of (Link (Some protocols.Cimd2)) protocols.Cimd2 = true
is_link_of kind protocol = false

-- groups of a kind have the variables of a section
abbrev pub has_section : Kind → Section → Bool
has_section kind sections.Every = true
has_section Core sections.Core = true
has_section (Link protocol) sections.Link = true
has_section kind sections.Smpp = is_link_of kind protocols.Smpp
has_section kind sections.Ucp = is_link_of kind protocols.Ucp
has_section kind sections.Cimd2 = is_link_of kind protocols.Cimd2
has_section Smsbox sections.Smsbox = true
has_section User sections.User = true
has_section Service sections.Service = true
has_section User sections.Split = true
has_section Service sections.Split = true
has_section kind section = false

-- a group has the variables of a section
abbrev pub has : Role → Section → Bool
has Nameless sections.Every = true
has Nameless section = false
has Passed section = false
has (Taken kind) section = has_section kind section
has (Excess kind) section = has_section kind section
