-- The lines on standard error: their texts, and what the parts of one come to.
use Rattle.std.specs.Prelude.{ℕ, List, ◌∷◌, [], ◌++◌, codes, decimal}
use Rattle.store_disk.specs.declared.area.Area.{Area}
use Rattle.store_disk.specs.declared.area.Area.TheVariants.{A, B, Pick}
use Rattle.boxes_main.specs.declared.line.Line.{Line}
use Rattle.boxes_main.specs.declared.line.Line.TheVariants.{Text, Place, Lack, Misfit, Counted}

-- how the program ends: its status, and the line on standard error
abbrev pub Row : Type 0
Row = ℕ × List ℕ

-- a text, ended by LF
abbrev pub line : List ℕ → List ℕ
line text = text ++ 10 ∷ []

-- a line of a file of the configuration, both by their numbers
abbrev pub place : (file number : ℕ) → List ℕ
place file number = codes "boxes: configuration: file " ++ decimal file ++ codes " line " ++ decimal number

-- a group of the configuration by its number, and the variable that it lacks
abbrev pub lack : (group : ℕ) (variable : List ℕ) → List ℕ
lack group variable = codes "boxes: configuration: group " ++ decimal group ++ codes " lacks " ++ variable

-- the word for an area of a store
abbrev pub area_word : Area → List ℕ
area_word A = codes "a"
area_word B = codes "b"
area_word Pick = codes "pick"

-- the first place of a store that doesn't fit, in octets
abbrev pub misfit : Area → (at : ℕ) → List ℕ
misfit area at = codes "boxes: store: area " ++ area_word area ++ codes " at " ++ decimal at

-- words and a number
abbrev pub counted : (words : List ℕ) (number : ℕ) → List ℕ
counted words number = words ++ decimal number

-- the parts of a line, put together
abbrev pub text_in : Line → List ℕ
text_in (Text text) = text.now
text_in (Place file number) = line (place file number)
text_in (Lack group variable) = line (lack group variable.now)
text_in (Misfit area at) = line (misfit area at)
text_in (Counted words number) = line (counted words.now number)
