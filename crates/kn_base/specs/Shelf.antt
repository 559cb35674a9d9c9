-- Files by their names.
use Rattle.std.specs.Prelude.{◌≡◌, ℕ, List, [], ◌∷◌, ◌++◌, Option, Some, None, IfSome, nat_eq, if◌then◌else◌}
use Rattle.std.specs.Cmp.Lexicographic.{pointwise}

-- the text under a name, the first where it stands twice
abbrev pub text_of : List ℕ → List (List ℕ × List ℕ) → Option (List ℕ)
text_of name [] = None
text_of name (file ∷ files) = if pointwise nat_eq name file.0 then Some file.1 else text_of name files

-- These names were asked for behind those before, in this order, and no other, where a shelf tells it; one that doesn't tell it never does.
abbrev pub AsksFor : List (List ℕ) → (old new : Option (List (List ℕ))) → Type 0
AsksFor names old new = (before : List (List ℕ)) → IfSome old (λ asked. asked ≡ before) → IfSome new (λ asked. asked ≡ before ++ names)
