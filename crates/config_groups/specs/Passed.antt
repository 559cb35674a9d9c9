-- How much of a configuration is passed over: groups of an unknown kind, those of core and smsbox behind the first, and unknown variables
-- of the others.
use Rattle.std.specs.Prelude.{ℕ, List, [], ◌∷◌, if◌then◌else◌, is_none}
use Rattle.kn_base.specs.Count.{next_count}
use Rattle.config_groups.specs.declared.group.Set.{Set}
use Rattle.config_groups.specs.declared.role.Role.{Role}
use Rattle.config_groups.specs.declared.role.Role.TheVariants.{Passed}
use Rattle.config_groups.specs.declared.role.Room.{Room}
use Rattle.config_groups.specs.Roles.{role_of, room_behind, whole_room}
use Rattle.config_groups.specs.Faults.{range_of}

-- a count, and one more for each variable that such a group doesn't have
abbrev pub unknown_behind : Role → (count : ℕ) → List Set → ℕ
unknown_behind role count [] = count
unknown_behind role count (set ∷ rest) = unknown_behind role (if is_none (range_of role set.name) then next_count count else count) rest

-- the count behind a group
abbrev pub passed_behind : Role → (count : ℕ) → List Set → ℕ
passed_behind Passed count group = next_count count
passed_behind role count group = unknown_behind role count group

-- the count behind groups, where there is so much room in front of them
abbrev pub passed_in : Room → (count : ℕ) → List (List Set) → ℕ
passed_in room count [] = count
passed_in room count (group ∷ rest) = let role = role_of room group in passed_in (room_behind room role) (passed_behind role count group) rest

-- how many groups and variables are passed over
unfoldable pub passed_of : List (List Set) → ℕ
passed_of groups = passed_in whole_room 0 groups
