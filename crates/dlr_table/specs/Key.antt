-- What a report is matched by.
use Rattle.std.specs.Prelude.{ℕ, ◌+◌, ◌*◌, ◌%◌, ◌^◌, Bool, ◌&&◌, List, fold, bytes_eq}

-- The SMSC id of a link, and the id that its centre gave a message.
pub record Ids : Type 0 where
  pub smsc : List ℕ
  pub foreign : List ℕ

-- the key is that of these two ids
abbrev pub is_key : (smsc foreign : List ℕ) → Ids → Bool
is_key smsc foreign key = bytes_eq key.foreign foreign && bytes_eq key.smsc smsc

-- a number of an id, in 64 bits, in which each octet counts
abbrev pub mark_of : List ℕ → ℕ
mark_of id = fold (λ mark octet. (mark * 31 % 2 ^ 64 + octet) % 2 ^ 64) 0 id
