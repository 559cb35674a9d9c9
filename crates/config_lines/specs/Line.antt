-- What one line of a configuration says (Kannel User Guide 1.4, 'Configuration file syntax').
use Rattle.std.specs.Prelude.{ℕ, Bool, true, false, ◌||◌, ◌&&◌, ◌==◌, nat_lt, List, [], ◌∷◌, length, Option, Some, None, option_map, if◌then◌else◌}
use Rattle.config_lines.specs.declared.line.Line.{Line}
use Rattle.config_lines.specs.declared.line.Line.TheVariants as says

-- a blank: space or TAB
abbrev pub is_blank : ℕ → Bool
is_blank octet = octet == 32 || octet == 9

-- LF, with which a line ends
abbrev pub is_newline : ℕ → Bool
is_newline octet = octet == 10

-- octets without the blanks at their front
abbrev pub behind_blanks : List ℕ → List ℕ
behind_blanks [] = []
behind_blanks (octet ∷ rest) = if is_blank octet then behind_blanks rest else octet ∷ rest

-- an octet in front of others, but for a blank in front of none
abbrev pub blank_or_cons : ℕ → List ℕ → List ℕ
blank_or_cons octet [] = if is_blank octet then [] else octet ∷ []
blank_or_cons octet (next ∷ rest) = octet ∷ next ∷ rest

-- octets without the blanks at their end
abbrev pub before_blanks : List ℕ → List ℕ
before_blanks [] = []
before_blanks (octet ∷ rest) = blank_or_cons octet (before_blanks rest)

-- what a name ends before: a blank, or =
abbrev pub ends_name : ℕ → Bool
ends_name octet = is_blank octet || octet == 61

-- the octet that an escape stands for, by the one behind its backslash: \\ \" \n \r \t \0
abbrev pub escaped : ℕ → Option ℕ
escaped code =
    if code == 92 then Some 92 else
    if code == 34 then Some 34 else
    if code == 110 then Some 10 else
    if code == 114 then Some 13 else
    if code == 116 then Some 9 else
    if code == 48 then Some 0 else None

-- an octet in front of a text, where there are both
abbrev pub in_front : Option ℕ → Option (List ℕ) → Option (List ℕ)
in_front (Some octet) (Some text) = Some (octet ∷ text)
in_front octet text = None

-- a text behind which nothing stands
abbrev pub ended : List ℕ → Option (List ℕ)
ended [] = Some []
ended (next ∷ rest) = None

-- the text in quotation marks, of what stands behind the first of them, or behind a backslash in it: it ends with the second mark,
-- behind which nothing stands
abbrev pub quoted : (escaping : Bool) → List ℕ → Option (List ℕ)
quoted escaping [] = None
quoted true (code ∷ rest) = in_front (escaped code) (quoted false rest)
quoted false (octet ∷ rest) =
    if octet == 34 then ended rest else
    if octet == 92 then quoted true rest else in_front (Some octet) (quoted false rest)

-- the value that octets without blanks around them write, in quotation marks or without
abbrev pub value_of : List ℕ → Option (List ℕ)
value_of [] = Some []
value_of (first ∷ rest) = if first == 34 then quoted false rest else Some (first ∷ rest)

-- the value behind a name: optional blanks, =, optional blanks and the value
abbrev pub assigned : List ℕ → Option (List ℕ)
assigned [] = None
assigned (first ∷ rest) = if first == 61 then value_of (behind_blanks rest) else None

-- a name has 1 to 64 octets
abbrev pub is_name : List ℕ → Bool
is_name name = nat_lt 0 (length name) && nat_lt (length name) 65

-- the octets up to where a name ends
abbrev pub name_of : List ℕ → List ℕ
name_of [] = []
name_of (octet ∷ rest) = if ends_name octet then [] else octet ∷ name_of rest

-- the octets behind a name
abbrev pub behind_name : List ℕ → List ℕ
behind_name [] = []
behind_name (octet ∷ rest) = if ends_name octet then octet ∷ rest else behind_name rest

-- the variable that octets without blanks around them set
abbrev pub variable_of : List ℕ → Option Line
variable_of octets =
    if is_name (name_of octets) then option_map (says.Variable (name_of octets)) (assigned (behind_blanks (behind_name octets))) else None

-- what octets without blanks around them say
abbrev pub said_by : List ℕ → Option Line
said_by [] = Some says.Blank
said_by (first ∷ rest) = if first == 35 then Some says.Comment else variable_of (first ∷ rest)

-- what a line says, where it is one
abbrev pub line_of : List ℕ → Option Line
line_of octets = said_by (before_blanks (behind_blanks octets))
