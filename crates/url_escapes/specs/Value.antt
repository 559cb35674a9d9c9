-- What each escape stands for, and which words it uses.
use Rattle.std.specs.Prelude.{ℕ, ◌==◌, ◌&&◌, List, [], ◌∷◌, ◌++◌, map, drop, decimal, Option, Some, None, if◌then◌else◌}
use Rattle.std.specs.List.{flat_map}
use Rattle.url_escapes.specs.Date.{date_text}
use Rattle.url_escapes.specs.declared.facts.Facts.{Facts}
use Rattle.url_escapes.specs.declared.escape.Escape.{Escape}
use Rattle.url_escapes.specs.declared.escape.Escape.TheVariants.{Keyword, NextWord, NextWordTilde, OtherWords, AllWords, Message, Date, Seconds, Sender, Receiver, SenderPlus, ReceiverPlus, Smsc, InternalId, ReportValue, Answer, ForeignId, Name, Coding, Class, Charset, Udh, Account}

-- the first of some words, and nothing of none
abbrev pub first_word : List (List ℕ) → List ℕ
first_word [] = []
first_word (word ∷ words) = word

-- words with a space between them
abbrev pub joined : List (List ℕ) → List ℕ
joined [] = []
joined (word ∷ words) = word ++ flat_map (λ next. 32 ∷ next) words

-- a word with * as ~
abbrev pub tilde_octet : ℕ → ℕ
tilde_octet octet = if octet == 42 then 126 else octet

-- a number with a leading 00 as +
abbrev pub with_plus : List ℕ → List ℕ
with_plus [] = []
with_plus (a ∷ []) = a ∷ []
with_plus (a ∷ b ∷ rest) = if a == 48 && b == 48 then 43 ∷ rest else a ∷ b ∷ rest

-- a number in decimal, and nothing for 0
abbrev pub above_0 : ℕ → List ℕ
above_0 number = if number == 0 then [] else decimal number

-- a number in decimal where there is one
abbrev pub if_any : Option ℕ → List ℕ
if_any None = []
if_any (Some number) = decimal number

-- what an escape stands for, where unused are the words behind the first that no escape before it used
abbrev pub value : Facts → (unused : List (List ℕ)) → Escape → List ℕ
value facts unused Keyword = facts.keyword
value facts unused NextWord = first_word unused
value facts unused NextWordTilde = map tilde_octet (first_word unused)
value facts unused OtherWords = joined unused
value facts unused AllWords = joined facts.words
value facts unused Message = facts.message
value facts unused Date = date_text facts.time
value facts unused Seconds = decimal facts.time
value facts unused Sender = facts.sender
value facts unused Receiver = facts.receiver
value facts unused SenderPlus = with_plus facts.sender
value facts unused ReceiverPlus = with_plus facts.receiver
value facts unused Smsc = facts.smsc
value facts unused InternalId = facts.internal
value facts unused ReportValue = above_0 facts.value
value facts unused Answer = facts.answer
value facts unused ForeignId = facts.foreign
value facts unused Name = facts.name
value facts unused Coding = decimal facts.coding
value facts unused Class = if_any facts.class
value facts unused Charset = facts.charset
value facts unused Udh = facts.udh
value facts unused Account = facts.account

-- the words that are left behind it
abbrev pub left_by : (unused : List (List ℕ)) → Escape → List (List ℕ)
left_by unused NextWord = drop 1 unused
left_by unused NextWordTilde = drop 1 unused
left_by unused OtherWords = []
left_by unused escape = unused
