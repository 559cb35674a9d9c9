-- The grammar of a protocol is a relation: these octets are one whole frame, and it says this.
use Rattle.std.specs.Prelude.{◌≡◌, ℕ, ◌<◌, ◌≤◌, List, ◌++◌, length, take}
use Rattle.exact_octets.specs.Fronts.{IsProperFront}
use Rattle.link_core.specs.declared.heard.Heard.{Heard}
use Rattle.link_core.specs.declared.framed.Framed.{Framed}
use Rattle.link_core.specs.declared.framed.Framed.TheVariants as framed
use Rattle.link_core.specs.Heard.{heard_tag, IsSound}

-- octets that are one whole frame
abbrev pub IsFrame : (List ℕ → Heard → Type 0) → List ℕ → Type 0
IsFrame hears octets = (heard : Heard) × hears octets heard

-- octets at whose front a frame stands
pub record HasFirst (G : List ℕ → Type 0) (octets : List ℕ) : Type 0 where
  pub frame : List ℕ
  pub rest : List ℕ
  pub is : G frame
  pub parts : octets ≡ frame ++ rest

-- no frame comes of the octets, whatever follows them
abbrev pub NoneComes : (List ℕ → Type 0) → List ℕ → Type 0
NoneComes G octets = (more : List ℕ) → ¬ HasFirst G (octets ++ more)

-- what the frames of each protocol keep to
pub record IsGrammar (hears : List ℕ → Heard → Type 0) (holds : ℕ → Type 0) (most : ℕ) : Type 0 where
  -- no frame is a proper front of another, and each says one thing
  pub one : (x y behind behind' : List ℕ) (heard heard' : Heard) → hears x heard → hears y heard' → x ++ behind ≡ y ++ behind' → (x ≡ y) × (heard ≡ heard')
  -- each has an octet, and at most so many
  pub some : (x : List ℕ) (heard : Heard) → hears x heard → 0 < length x
  pub within : (x : List ℕ) (heard : Heard) → hears x heard → length x ≤ most
  -- its tag is one that a frame has room for
  pub held : (x : List ℕ) (heard : Heard) → hears x heard → holds (heard_tag heard)
  pub sound : (x : List ℕ) (heard : Heard) → hears x heard → IsSound heard

-- ---- what reading answers

-- what an answer says of the octets
abbrev pub Tells : (List ℕ → Heard → Type 0) → (List ℕ → ℕ → ℕ → Type 0) → List ℕ → Framed → Type 0
Tells hears refuses octets (framed.Whole heard len) = hears (take len octets) heard × (len ≤ length octets)
Tells hears refuses octets framed.NeedMore = IsProperFront (IsFrame hears) octets
Tells hears refuses octets (framed.Bad at code) = NoneComes (IsFrame hears) octets × refuses octets at code

-- octets are read as this answer
pub record IsReadAs (hears : List ℕ → Heard → Type 0) (refuses : List ℕ → ℕ → ℕ → Type 0) (octets : List ℕ) (answer : Framed) : Type 0 where
  -- the answer is right
  pub told : Tells hears refuses octets answer
  -- Whole: wherever a frame stands first, whatever follows it
  pub whole : (frame rest : List ℕ) (heard : Heard) → hears frame heard → octets ≡ frame ++ rest → answer ≡ framed.Whole heard (length frame)
  -- NeedMore: wherever something lacks of a frame
  pub need_more : IsProperFront (IsFrame hears) octets → answer ≡ framed.NeedMore
  -- Bad: wherever no frame comes, at the protocol's place and with its code
  pub bad : (at code : ℕ) → refuses octets at code → answer ≡ framed.Bad at code
