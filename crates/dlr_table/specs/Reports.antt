-- The lists of awaited messages, one under each key of an SMSC id and a foreign id.
use Rattle.std.specs.Prelude.{◌≡◌, ◌≢◌, ℕ, Bool, false, ◌&&◌, nat_lt, List, [], ◌∷◌, map, length, filter, Option, Some, None, vec_len, vec_capacity, if◌then◌else◌}
use Rattle.dlr_table.specs.Key.{Ids, is_key}
use Rattle.dlr_table.specs.declared.awaited.Awaited.{Awaited}
use Rattle.dlr_table.specs.declared.reports.Entry.{Entry}
use Rattle.dlr_table.specs.declared.reports.Reports.{Reports}

-- the entry is one of this key
abbrev pub is_under : (smsc foreign : List ℕ) → Entry → Bool
is_under smsc foreign entry = is_key smsc foreign entry.key

-- the messages of entries
abbrev pub messages : List Entry → List Awaited
messages entries = map (λ entry. entry.awaited) entries

-- the list under a key, the oldest first
abbrev pub under : Reports → (smsc foreign : List ℕ) → List Awaited
under reports smsc foreign = messages (filter (is_under smsc foreign) reports.entries.items)

-- how many messages there are under all keys together
abbrev pub count_of : Reports → ℕ
count_of reports = length reports.entries.items

-- this is the key that was made beforehand
abbrev pub is_made : (smsc foreign : List ℕ) → Option Ids → Bool
is_made smsc foreign None = false
is_made smsc foreign (Some key) = is_key smsc foreign key

-- how many messages surely find room under a key: one where its key was made beforehand and there is a place
abbrev pub spare : Reports → (smsc foreign : List ℕ) → ℕ
spare reports smsc foreign =
    if is_made smsc foreign reports.made && nat_lt (vec_len reports.entries) (vec_capacity reports.entries) then 1 else 0

-- the first of a list, where it has one
abbrev pub oldest : {A : Type 0} → List A → Option A
oldest [] = None
oldest (x ∷ xs) = Some x

-- each list is as it was
abbrev pub SameLists : Reports → Reports → Type 0
SameLists old new = (smsc foreign : List ℕ) → under new smsc foreign ≡ under old smsc foreign

-- each list under another key is as it was
abbrev pub SameElsewhere : (smsc foreign : List ℕ) → Reports → Reports → Type 0
SameElsewhere smsc foreign old new = (key : List ℕ × List ℕ) → key ≢ (smsc, foreign) → under new key.0 key.1 ≡ under old key.0 key.1
