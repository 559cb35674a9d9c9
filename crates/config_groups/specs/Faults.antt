-- The first value that is outside its range, in the order of reading.
use Rattle.std.specs.Prelude.{ℕ, ◌+◌, ◌-◌, Bool, true, false, not, ◌&&◌, ◌||◌, ◌==◌, List, [], ◌∷◌, take, drop, codes, bytes_eq, Option, Some, None, if◌then◌else◌}
use Rattle.std.specs.List.{list_any}
use Rattle.config_values.specs.Values.{characters}
use Rattle.config_groups.specs.declared.fault.Place.{Place}
use Rattle.config_groups.specs.declared.group.Set.{Set}
use Rattle.config_groups.specs.declared.role.Role.{Role}
use Rattle.config_groups.specs.declared.role.Role.TheVariants.{Excess}
use Rattle.config_groups.specs.declared.role.Room.{Room}
use Rattle.config_groups.specs.declared.table.Range.{Range}
use Rattle.config_groups.specs.declared.table.Range.TheVariants.{Text}
use Rattle.config_groups.specs.Roles.{has, has_name, role_of, room_behind, whole_room}
use Rattle.config_groups.specs.Table.{Row, rows, is_in}

-- what a variable may hold, by the first of these rows that has its name in such a group
abbrev pub range_in : Role → List ℕ → List Row → Option Range
range_in role name [] = None
range_in role name (row ∷ rest) = if has role row.of && bytes_eq row.name name then Some row.range else range_in role name rest

-- what a variable may hold, where such a group has one of this name
unfoldable pub range_of : Role → List ℕ → Option Range
range_of role name = range_in role name rows

-- ---- texts that go into each part of a message

abbrev pub is_text : Option Range → Bool
is_text (Some Text) = true
is_text range = false

-- a variable is such a text, and the first of its name
abbrev pub is_counted : Role → (before : List Set) → Set → Bool
is_counted role before set = is_text (range_of role set.name) && not (list_any (has_name set.name) before)

-- how many characters it counts for
abbrev pub text_len : Role → (before : List Set) → Set → ℕ
text_len role before set = if is_counted role before set then characters set.value else 0

-- such a text stands in a group from a place on, where these are left
abbrev pub has_counted : Role → (group : List Set) → (at : ℕ) → (rest : List Set) → Bool
has_counted role group at [] = false
has_counted role group at (set ∷ rest) = is_counted role (take at group) set || has_counted role group (at + 1) rest

-- what the texts of a group from a place on leave of a room for characters
abbrev pub text_room : Role → (group : List Set) → (room at : ℕ) → (rest : List Set) → ℕ
text_room role group room at [] = room
text_room role group room at (set ∷ rest) = text_room role group (room - text_len role (take at group) set) (at + 1) rest

-- the texts of a group have more than 30 characters together
abbrev pub are_too_long : Role → List Set → Bool
are_too_long role group = text_room role group 31 0 group == 0

-- ---- the first fault

abbrev pub is_outside : Option Range → List ℕ → Bool
is_outside None value = false
is_outside (Some range) value = not (is_in range value)

-- the kind of one group more than may stand
abbrev pub is_excess : Role → List ℕ → Bool
is_excess (Excess kind) name = bytes_eq name (codes "group")
is_excess role name = false

-- the last of texts that are too long together
abbrev pub is_last_text : Role → (group : List Set) → (at : ℕ) → Set → Bool
is_last_text role group at set =
    is_counted role (take at group) set && not (has_counted role group (at + 1) (drop (at + 1) group)) && are_too_long role group

-- The variable at a place has a fault: it is the first of its name, and its value is outside its range, or it is the kind of one group
-- more than may stand, or the last of texts that are too long together.
abbrev pub is_wrong : Role → (group : List Set) → (at : ℕ) → Set → Bool
is_wrong role group at set =
    (is_outside (range_of role set.name) set.value || is_excess role set.name || is_last_text role group at set)
    && not (list_any (has_name set.name) (take at group))

abbrev pub place_of : Set → Place
place_of set = record { file = set.file; line = set.line }

-- the first fault of a group from a place on, where these are left
abbrev pub fault_from : Role → (group : List Set) → (at : ℕ) → (rest : List Set) → Option Place
fault_from role group at [] = None
fault_from role group at (set ∷ rest) = if is_wrong role group at set then Some (place_of set) else fault_from role group (at + 1) rest

-- the first fault of a group
abbrev pub group_fault : Role → List Set → Option Place
group_fault role group = fault_from role group 0 group

abbrev pub first_of : Option Place → Option Place → Option Place
first_of (Some place) later = Some place
first_of None later = later

-- the first fault of groups, where there is so much room
abbrev pub fault_in : Room → List (List Set) → Option Place
fault_in room [] = None
fault_in room (group ∷ rest) =
    let role = role_of room group in first_of (group_fault role group) (fault_in (room_behind room role) rest)

-- the first fault of groups
unfoldable pub first_fault : List (List Set) → Option Place
first_fault groups = fault_in whole_room groups
