-- The head of a request (RFC 9112 2 to 6), as far as it is looked at, and what reading it answers.
use Rattle.std.specs.Prelude.{◌≡◌, ◌⊎◌, ℕ, ◌<◌, ◌≤◌, Bool, ◌&&◌, ◌||◌, not, ◌==◌, nat_lt, List, ◌++◌, length, take, map, codes}
use Rattle.std.specs.List.{list_all, list_any}
use Rattle.std.specs.Str.{bytes_eq, str_eq_ignore_ascii_case}
use Rattle.httparse.specs.Grammar.{RequestHead, print_request, ReadsRequest, EndsInTarget}
use Rattle.httparse.specs.Spans.{name_and_value}
use Rattle.http_text.specs.declared.head.Head.{Head}
use Rattle.http_text.specs.declared.head.read.HeadRead.{HeadRead}
use Rattle.http_text.specs.declared.head.read.HeadRead.TheVariants as read_is

-- how many octets are looked at
abbrev pub head_limit : ℕ
head_limit = 65536

-- how many header lines a head may have
abbrev pub line_limit : ℕ
line_limit = 64

-- the octets that are looked at
abbrev pub looked_at : List ℕ → List ℕ
looked_at octets = take head_limit octets

-- A head of no more header lines stands at the front, and the rest behind it.
pub record Stands (octets : List ℕ) (h : RequestHead) (rest : List ℕ) : Type 0 where
  pub reads : ReadsRequest octets h rest
  pub few : length h.fields ≤ line_limit

-- no such head stands at the front
abbrev pub HasNone : List ℕ → Type 0
HasNone octets = (h : RequestHead) (rest : List ℕ) → ¬ (Stands octets h rest)

-- whatever octets follow, none will
abbrev pub NeverHas : List ℕ → Type 0
NeverHas octets = (more : List ℕ) → HasNone (octets ++ more)

-- some octets can follow that make one
abbrev pub MayHave : List ℕ → Type 0
MayHave octets = (more : List ℕ) × (h : RequestHead) × (rest : List ℕ) × Stands (octets ++ more) h rest

-- None stands there yet, and one may come, or the octets end within a target, which is looked at once it has ended.
pub record IsOpen (octets : List ℕ) : Type 0 where
  pub none : HasNone octets
  pub may_come : MayHave octets ⊎ EndsInTarget octets

-- More octets are needed: these are open, and fewer than are looked at.
pub record NeedsMore (octets : List ℕ) : Type 0 where
  pub few : length octets < head_limit
  pub open_yet : IsOpen octets

-- As many octets as are looked at are there, and these are open.
pub record IsTooLong (octets : List ℕ) : Type 0 where
  pub many : head_limit ≤ length octets
  pub open_yet : IsOpen (looked_at octets)

-- a field's name and its value, without the white space around it
abbrev pub NamedValue : Type 0
NamedValue = List ℕ × List ℕ

-- the field has this name (RFC 9110 5.1: in any case)
abbrev pub is_named : List ℕ → NamedValue → Bool
is_named name field = str_eq_ignore_ascii_case field.0 name

-- Connection: close (RFC 9112 9.6)
abbrev pub is_close : NamedValue → Bool
is_close field = is_named (codes "connection") field && str_eq_ignore_ascii_case field.1 (codes "close")

-- a decimal number of value 0: one or more digits 0
abbrev pub is_zero : List ℕ → Bool
is_zero digits = nat_lt 0 (length digits) && list_all (λ d. d == 48) digits

-- a body follows: Transfer-Encoding, or Content-Length but for a decimal 0 (RFC 9112 6.1 to 6.3)
abbrev pub is_of_body : NamedValue → Bool
is_of_body field =
    is_named (codes "transfer-encoding") field || (is_named (codes "content-length") field && not (is_zero field.1))

-- what a head says by its method, its minor version, its target and its fields
abbrev pub head_from : List ℕ → ℕ → List ℕ → List NamedValue → Head
head_from method minor target fields = record {
  get = bytes_eq method (codes "GET");
  minor = minor;
  target = target;
  close = minor == 0 || list_any is_close fields;
  body = list_any is_of_body fields;
}

-- what a head says
abbrev pub head_of : RequestHead → Head
head_of h = head_from h.method h.minor h.target (map name_and_value h.fields)

-- a head stands at the front of these octets, and says this
abbrev pub BeginsWith : List ℕ → Head → Type 0
BeginsWith octets head = (h : RequestHead) × (rest : List ℕ) × Stands octets h rest × (head ≡ head_of h)

-- a head stands at the front of these octets, says this, and has so many octets
abbrev pub IsWhole : List ℕ → Head → ℕ → Type 0
IsWhole octets head len =
    (h : RequestHead) × (rest : List ℕ) × Stands octets h rest × (head ≡ head_of h) × (len ≡ length (print_request h))

-- what each answer of a reader says of the octets that it was given
abbrev pub IsReadAs : List ℕ → HeadRead → Type 0
IsReadAs octets (read_is.Whole head len) = IsWhole (looked_at octets) head len
IsReadAs octets read_is.NeedMore = NeedsMore octets
IsReadAs octets read_is.Bad = NeverHas (looked_at octets)
IsReadAs octets (read_is.TooLong seen) = (seen ≡ head_limit) × IsTooLong octets
