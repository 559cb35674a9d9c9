-- The groups of a configuration: what stands between blank lines (Kannel User Guide 1.4, 'Configuration file syntax').
use Rattle.std.specs.Prelude.{ℕ, Bool, true, false, List, [], ◌∷◌, ◌++◌, if◌then◌else◌}
use Rattle.config_lines.specs.declared.line.Line.{Line}
use Rattle.config_lines.specs.declared.line.Line.TheVariants as says
use Rattle.config_lines.specs.declared.read.PlacedLine.{PlacedLine}
use Rattle.config_groups.specs.declared.group.Set.{Set}

-- a line that ends a group
abbrev pub ends_group : Line → Bool
ends_group says.Blank = true
ends_group line = false

-- what a line at this place sets: one variable, or none
abbrev pub sets_of : (file line : ℕ) → Line → List Set
sets_of file line (says.Variable name value) = record { file = file; line = line; name = name; value = value } ∷ []
sets_of file line other = []

-- a group, unless it sets nothing
abbrev pub some_group : List Set → List (List Set)
some_group [] = []
some_group (first ∷ rest) = (first ∷ rest) ∷ []

-- the groups of lines, of which the first has these sets in front
abbrev pub groups_behind : List Set → List PlacedLine → List (List Set)
groups_behind sets [] = some_group sets
groups_behind sets (line ∷ lines) =
    if ends_group line.says then some_group sets ++ groups_behind [] lines else groups_behind (sets ++ sets_of line.file line.line line.says) lines

-- the groups of lines
unfoldable pub groups_of : List PlacedLine → List (List Set)
groups_of lines = groups_behind [] lines
