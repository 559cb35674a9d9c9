-- The words of the program.
use Rattle.std.specs.Prelude.{ℕ, List, [], ◌∷◌, bytes_eq, Option, Some, None, if◌then◌else◌}
use Rattle.boxes_main.specs.declared.command.Command.{Command}
use Rattle.boxes_main.specs.declared.command.Command.TheVariants.{Door, Show, Link}

-- the name of a configuration, behind the word that names a command; other words name none for it
abbrev pub configuration_of : (command : List ℕ) → List (List ℕ) → Option (List ℕ)
configuration_of command (word ∷ name ∷ []) = if bytes_eq word command then Some name else None
configuration_of command words = None

-- the configuration that a command names, where it is `door`
abbrev pub door_in : Option Command → Option (List ℕ)
door_in None = None
door_in (Some (Door configuration)) = Some configuration.now
door_in (Some (Show configuration)) = None
door_in (Some (Link configuration id)) = None

-- and where it is `show`
abbrev pub show_in : Option Command → Option (List ℕ)
show_in None = None
show_in (Some (Door configuration)) = None
show_in (Some (Show configuration)) = Some configuration.now
show_in (Some (Link configuration id)) = None

-- the name of a configuration and the id of a link, behind the word that names a command; other words name none for it
abbrev pub link_words : (command : List ℕ) → List (List ℕ) → Option (List ℕ × List ℕ)
link_words command (word ∷ name ∷ id ∷ []) = if bytes_eq word command then Some (name, id) else None
link_words command words = None

-- the configuration and the id that a command names, where it is `link`
abbrev pub link_in : Option Command → Option (List ℕ × List ℕ)
link_in None = None
link_in (Some (Door configuration)) = None
link_in (Some (Show configuration)) = None
link_in (Some (Link configuration id)) = Some (configuration.now, id.now)
