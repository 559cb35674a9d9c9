-- The parts of a text, as a recursion on its whole characters.
use Rattle.std.specs.Prelude.{◌≡◌, ℕ, zero, suc, ◌+◌, ◌-◌, ◌%◌, ◌^◌, ◌<◌, ◌≤◌, ◌==◌, nat_le, nat_lt, Bool, List, [], ◌∷◌, ◌++◌, length, drop, Result, Ok, Err, if◌then◌else◌}
use Rattle.std.specs.List.{concat, list_any}
use Rattle.std.specs.Str.{bytes_eq}
use Rattle.sms_record.specs.declared.coding.Coding.{Coding}
use Rattle.sms_record.specs.declared.coding.Coding.TheVariants.{Seven, Eight, Ucs2}
use Rattle.sms_record.specs.Record.{IsOfCoding}
use Rattle.sms_record.specs.Room.{cap, header_len}
use Rattle.concat_split.specs.declared.limits.Limits.{Limits}
use Rattle.concat_split.specs.declared.part.Part.{Part}
use Rattle.concat_split.specs.declared.split_fault.SplitFault.{SplitFault}
use Rattle.concat_split.specs.declared.split_fault.SplitFault.TheVariants.{NoRoom, Memory}
use Rattle.concat_split.specs.Characters.{characters, units, Cuts}

-- the longest front of these characters that has at most so many units
abbrev pub front : Coding → ℕ → List (List ℕ) → List (List ℕ)
front coding room [] = []
front coding room (c ∷ cs) = if nat_le (units coding c) room then c ∷ front coding (room - units coding c) cs else []

-- it is one of these characters
abbrev pub is_among : List (List ℕ) → List ℕ → Bool
is_among separators c = list_any (λ s. bytes_eq s c) separators

-- these characters up to and with the last separator, or none where no separator is among them
abbrev pub up_to_last : List (List ℕ) → List (List ℕ) → List (List ℕ)
up_to_last separators [] = []
up_to_last separators (c ∷ cs) =
    if length (up_to_last separators cs) == 0 then (if is_among separators c then c ∷ [] else []) else c ∷ up_to_last separators cs

-- the characters of a part that another one follows: up to the last separator, where there is one
abbrev pub broken : List (List ℕ) → List (List ℕ) → List (List ℕ)
broken separators cs = if length (up_to_last separators cs) == 0 then cs else up_to_last separators cs

-- the units of header and footer
abbrev pub round : Coding → Limits → ℕ
round coding limits = units coding limits.header + units coding limits.footer

-- a text behind the header and before the footer
abbrev pub wrapped : Limits → List ℕ → List ℕ
wrapped limits text = limits.header ++ text ++ limits.footer

-- the texts of so many parts at most, each of so many units at most
abbrev pub texts : Coding → ℕ → Limits → ℕ → List (List ℕ) → List (List ℕ)
texts coding room limits zero cs = []
texts coding room limits (suc left) cs =
    if nat_le (round coding limits + units coding (concat cs)) room then wrapped limits (concat cs) ∷ []
    else if left == 0 then wrapped limits (concat (front coding (room - round coding limits) cs)) ∷ []
    else (let taken = broken (characters coding limits.split_chars) (front coding (room - (round coding limits + units coding limits.suffix)) cs) in
    wrapped limits (concat taken ++ limits.suffix) ∷ texts coding room limits left (drop (length taken) cs))

-- what the last part has of a text: all of it where it fits, else the longest front that does
abbrev pub last_text : Coding → ℕ → Limits → List ℕ → List ℕ
last_text coding room limits text =
    if nat_le (round coding limits + units coding text) room then text
    else concat (front coding (room - round coding limits) (characters coding text))

-- a part that another one follows takes so many octets of a text
abbrev pub Takes : Coding → ℕ → Limits → List ℕ → ℕ → Type 0
Takes coding room limits text len =
    Cuts coding text (broken (characters coding limits.split_chars) (front coding (room - (round coding limits + units coding limits.suffix)) (characters coding text))) len

-- the parts with these texts, numbered from k
abbrev pub numbered : ℕ → ℕ → List (List ℕ) → List Part
numbered total k [] = []
numbered total k (text ∷ rest) = record { body = text; total = total; part = k } ∷ numbered total (k + 1) rest

-- the parts with these texts, which stand alone
abbrev pub alone : List (List ℕ) → List Part
alone [] = []
alone (text ∷ rest) = record { body = text; total = 1; part = 1 } ∷ alone rest

-- the units that a part has room for, where the request's own header has so many octets
abbrev pub room_of : Coding → ℕ → Limits → ℕ
room_of coding udh limits =
    if limits.parts == 1 then cap coding udh else cap coding (header_len udh (if limits.concatenate then 2 else 1))

-- the units of what stands round the text of a part
abbrev pub around_of : Coding → Limits → ℕ
around_of coding limits = if limits.parts == 1 then round coding limits else round coding limits + units coding limits.suffix

-- the parts of a text, or the fault that it has none
abbrev pub parts_of : Coding → List ℕ → ℕ → Limits → Result (List Part) SplitFault
parts_of coding body udh limits =
    if nat_le (round coding limits + units coding body) (cap coding udh) then Ok (alone (wrapped limits body ∷ []))
    else (let room = room_of coding udh limits in let around = around_of coding limits in
    if nat_lt room (around + 2) then Err (NoRoom room around)
    else (let all = texts coding room limits limits.parts (characters coding body) in
    Ok (if limits.concatenate then numbered (length all) 1 all else alone all)))

-- the fault that a text has no parts is that there is no room, unless memory ran out
abbrev pub IsFaultOf : Result (List Part) SplitFault → SplitFault → Type 0
IsFaultOf parts (NoRoom room around) = parts ≡ Err (NoRoom room around)
IsFaultOf parts Memory = Unit {0}

-- what stands round a text has so few octets that NoRoom can tell how many
abbrev pub AreShort : Limits → Type 0
AreShort limits = length limits.header + length limits.suffix + length limits.footer < 2 ^ 63

-- limits that a text of this coding may have
pub record AreLimits (coding : Coding) (limits : Limits) : Type 0 where
  pub some : 1 ≤ limits.parts
  pub few : limits.parts ≤ 100
  pub header : IsOfCoding coding limits.header
  pub suffix : IsOfCoding coding limits.suffix
  pub footer : IsOfCoding coding limits.footer
  pub short : AreShort limits
