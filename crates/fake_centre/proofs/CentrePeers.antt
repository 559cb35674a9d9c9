-- What the calls of a centre as a peer come to.
use Rattle.std.proofs.Common.{◌≡◌, ℕ, ◌≤◌, List, [], ◌∷◌, ◌++◌, length, take, ap, ◌∙◌, arith}
use Rattle.std.proofs.lemmas.List.{append-nil, take_all}
use Rattle.kn_base.specs.declared.piece.Piece.{Piece}
use Rattle.kn_base.specs.declared.piece.Piece.TheVariants.{Heard, Said}
use Rattle.kn_base.specs.Count.{Counts}
use Rattle.kn_base.specs.Course.{Hears, Says}
use Rattle.kn_base.specs.Talk.{said_of}
use Rattle.kn_base.proofs.Talks.{said_of-append}
use Rattle.fake_centre.specs.CentrePeer.{told_course}

-- a take that gave octets
pub hears_now : (counts : Counts) (n : ℕ) (pieces more : List Piece) (into : List ℕ) → 1 ≤ n → n ≤ length into
    → more ≡ pieces ++ Heard (take n into) ∷ [] → Hears into n (told_course counts pieces) (told_course counts more)
hears_now counts n pieces more into some within grown =
    let silent : said_of (pieces ++ Heard (take n into) ∷ []) ≡ said_of pieces = said_of-append pieces (Heard (take n into) ∷ []) ∙ append-nil (said_of pieces) in
    record { some = some; within = within; next = tt; after = cc }

-- a give that took all
pub said_now : (counts : Counts) (pieces more : List Piece) (octets : List ℕ) → 1 ≤ length octets
    → more ≡ pieces ++ Said octets ∷ [] → Says octets (length octets) (told_course counts pieces) (told_course counts more)
said_now counts pieces more octets some grown =
    let whole : take (length octets) octets ≡ octets = take_all (length octets) octets (omega arith) in
    let said : said_of (pieces ++ Said octets ∷ []) ≡ said_of pieces ++ octets =
    said_of-append pieces (Said octets ∷ []) ∙ ap (λ x. said_of pieces ++ x) (append-nil octets) in
    record { some = some; within = omega arith; after = rw whole (cc) }
