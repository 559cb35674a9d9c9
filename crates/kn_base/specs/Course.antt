-- What one end of a connection has been through so far, as far as it tells that.
use Rattle.std.specs.Prelude.{◌≡◌, ℕ, ◌≤◌, true, List, [], ◌∷◌, ◌++◌, length, take, drop, Option, IfSome, option_map}
use Rattle.kn_base.specs.Count.{Counts, no_counts, CountsFailure, CountsQuiet}
use Rattle.kn_base.specs.declared.piece.Piece.{Piece}
use Rattle.kn_base.specs.declared.piece.Piece.TheVariants.{Heard, Said}
use Rattle.kn_base.specs.declared.source.Take.{Take}
use Rattle.kn_base.specs.declared.source.Take.TheVariants as take_is
use Rattle.kn_base.specs.declared.sink.Give.{Give}
use Rattle.kn_base.specs.declared.sink.Give.TheVariants as give_is

-- Its counts and, each where it is told, what is still to be taken, what was given, and the pieces that were heard and said
-- in their order.
pub record Course : Type 0 where
  pub counts : Counts
  pub left : Option (List ℕ)
  pub given : Option (List ℕ)
  pub talk : Option (List Piece)

-- Nothing has happened yet.
pub record IsFresh (course : Course) : Type 0 where
  pub counts : course.counts ≡ no_counts
  pub given : IfSome course.given (λ given. given ≡ [])
  pub talk : IfSome course.talk (λ talk. talk ≡ [])

-- a list with more behind it, where it is told
abbrev pub with_more : {A : Type 0} → Option (List A) → List A → Option (List A)
with_more told more = option_map (λ xs. xs ++ more) told

-- the octets are the next of what is left, where that is told
abbrev pub IsNext : List ℕ → Option (List ℕ) → Type 0
IsNext octets left = IfSome left (λ all. (rest : List ℕ) × (all ≡ octets ++ rest))

-- A call failed, and nothing else happened.
pub record Fails (old new : Course) : Type 0 where
  pub counts : CountsFailure old.counts new.counts
  pub same : new ≡ record old { counts = new.counts }

-- A take gave n octets, the first of the buffer: they were the next that were left, and were heard.
pub record Hears (buffer : List ℕ) (n : ℕ) (old new : Course) : Type 0 where
  pub some : 1 ≤ n
  pub within : n ≤ length buffer
  pub next : IsNext (take n buffer) old.left
  pub after : new ≡ record old { left = option_map (drop n) old.left; talk = with_more old.talk (Heard (take n buffer) ∷ []) }

-- Nothing came in time, and nothing else happened.
pub record IsQuiet (old new : Course) : Type 0 where
  pub counts : CountsQuiet old.counts new.counts
  pub same : new ≡ record old { counts = new.counts }

-- Nothing more comes: where it is told, nothing is left.
pub record Ends (old new : Course) : Type 0 where
  pub nothing : IfSome old.left (λ left. left ≡ [])
  pub same : new ≡ record old { counts = record (old.counts) { ended = true } }

-- what a take does, by its answer; buffer is what it was passed, as it leaves it
abbrev pub TakesSo : List ℕ → Take → Course → Course → Type 0
TakesSo buffer (take_is.Bytes n) old new = Hears buffer n old new
TakesSo buffer take_is.End old new = Ends old new
TakesSo buffer take_is.Quiet old new = IsQuiet old new
TakesSo buffer take_is.Failed old new = Fails old new

-- A take, which answers End for ever once it has done so.
pub record Takes (buffer : List ℕ) (answer : Take) (old new : Course) : Type 0 where
  pub so : TakesSo buffer answer old new
  pub for_ever : old.counts.ended ≡ true → answer ≡ take_is.End

-- A give took the first n octets: they were given, and said.
pub record Says (octets : List ℕ) (n : ℕ) (old new : Course) : Type 0 where
  pub some : 1 ≤ n
  pub within : n ≤ length octets
  pub after : new ≡ record old { given = with_more old.given (take n octets); talk = with_more old.talk (Said (take n octets) ∷ []) }

-- what a give does, by its answer
abbrev pub Gives : List ℕ → Give → Course → Course → Type 0
Gives octets (give_is.Took n) old new = Says octets n old new
Gives octets give_is.Failed old new = Fails old new
