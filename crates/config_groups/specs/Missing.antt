-- The first variable that is missing.
use Rattle.std.specs.Prelude.{ℕ, Bool, false, not, ◌&&◌, ◌==◌, List, [], ◌∷◌, codes, Option, Some, None, if◌then◌else◌}
use Rattle.std.specs.List.{list_any}
use Rattle.kn_base.specs.Count.{next_count}
use Rattle.config_groups.specs.declared.group.Set.{Set}
use Rattle.config_groups.specs.declared.role.Role.{Role}
use Rattle.config_groups.specs.declared.role.Room.{Room}
use Rattle.config_groups.specs.Roles.{has, has_name, role_of, room_behind, whole_room}
use Rattle.config_groups.specs.Table.{Need, Free, Always, Without, Row, rows}

-- a group lacks a variable that it needs
abbrev pub is_lacking : Need → List ℕ → List Set → Bool
is_lacking Free name group = false
is_lacking Always name group = not (list_any (has_name name) group)
is_lacking (Without other) name group = not (list_any (has_name name) group) && not (list_any (has_name other) group)

-- the name of the first of these rows that such a group needs and lacks
abbrev pub lacking_in : Role → List Set → List Row → Option (List ℕ)
lacking_in role group [] = None
lacking_in role group (row ∷ rest) = if has role row.of && is_lacking row.need row.name group then Some row.name else lacking_in role group rest

-- the name of the first variable that a group needs and lacks
unfoldable pub lacking : Role → List Set → Option (List ℕ)
lacking role group = lacking_in role group rows

abbrev pub missing_by : (number : ℕ) → Option (List ℕ) → Option (ℕ × List ℕ) → Option (ℕ × List ℕ)
missing_by number (Some name) later = Some (number, name)
missing_by number None later = later

-- the first that is missing in groups from a number on, where there is so much room in front of them
abbrev pub missing_in : Room → (number : ℕ) → List (List Set) → Option (ℕ × List ℕ)
missing_in room number [] = if room.core == 0 then None else Some (number, codes "core")
missing_in room number (group ∷ rest) =
    let role = role_of room group in missing_by number (lacking role group) (missing_in (room_behind room role) (next_count number) rest)

-- the number of the first group that lacks a variable, and its name; or how many groups there are, and core, where there is no group of it
unfoldable pub first_missing : List (List Set) → Option (ℕ × List ℕ)
first_missing groups = missing_in whole_room 0 groups
