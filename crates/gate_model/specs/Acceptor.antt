-- What a store was handed, what it answered, and what its count of faults says of that.
use Rattle.std.specs.Prelude.{◌≡◌, ◌≢◌, ℕ, ◌<◌, ◌≤◌, ◌^◌, List, All, Result, Err}
use Rattle.kn_base.specs.Count.{Rose}
use Rattle.sms_record.specs.declared.sms.Sms.{Sms}
use Rattle.gate_entries.specs.Entry.{IsAccept, accept_size}
use Rattle.gate_model.specs.declared.reply.Reply.{Reply}
use Rattle.gate_model.specs.declared.reply.Refusal.{Refusal}
use Rattle.gate_model.specs.declared.reply.Refusal.TheVariants.{Disk}

-- Messages that were handed in at a time, and the outcome.
pub record Deed : Type 0 where
  pub parts : List Sms
  pub time : ℕ
  pub outcome : Result Reply Refusal

-- the most octets that an entry has which a box frame can carry
abbrev pub entry_limit : ℕ
entry_limit = 16777212

-- Messages that one entry can hold, at a reading of the clock.
pub record MayBeHanded (parts : List Sms) (time : ℕ) : Type 0 where
  pub accept : IsAccept (record { time = time; parts = parts })
  pub time_below : time < 2 ^ 37
  pub small : accept_size (record { time = time; parts = parts }) ≤ entry_limit

-- the deed wasn't refused because the disk failed
abbrev pub IsSpared : Deed → Type 0
IsSpared deed = deed.outcome ≢ Err Disk

-- a deed is refused because the disk failed only where the count of faults rose
abbrev pub IsFaultCounted : ℕ → ℕ → Deed → Type 0
IsFaultCounted before now deed = deed.outcome ≡ Err Disk → Rose before now

-- The store's count of faults, by its deeds: it rose where the disk failed in one, and stands still where it did in none.
pub record CountsFaults (before now : ℕ) (deeds : List Deed) : Type 0 where
  pub counted : All (IsFaultCounted before now) deeds
  pub spared : All IsSpared deeds → now ≡ before
  pub kept : before ≤ now
