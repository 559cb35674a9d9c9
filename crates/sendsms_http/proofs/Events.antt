-- The events of a session, after each step.
use Rattle.std.proofs.Common.{◌≡◌, ◌⊎◌, inl, inr, ℕ, Bool, List, [], ◌∷◌, ◌++◌, All, refl, ap, sym, ◌∙◌, subst, append_assoc}
use Rattle.std.proofs.lemmas.List.{append-nil}
use Rattle.std.proofs.lemmas.List.Elements.{All-nil, All-weaker}
use Rattle.config_groups.specs.declared.settings.Settings.{Settings}
use Rattle.gate_model.specs.Acceptor.{Deed, IsFaultCounted, IsSpared}
use Rattle.kn_base.specs.Talk.{said_of, heard_of}
use Rattle.kn_base.proofs.Talks.{said_of-append, heard_of-append}
use Rattle.kn_base.specs.declared.piece.Piece.{Piece}
use Rattle.kn_base.specs.declared.piece.Piece.TheVariants.{Heard}
use Rattle.sendsms_http.specs.Events.{Event, Spoke, Read, Handed, pieces_of, readings_of, deeds_of, IsReadAt, AreRead, IsMoment, AreMoments, IsInTurn, AreOwn}
use Rattle.sendsms_http.specs.Exchange.{Exchange, text_of, IsExchange, IsKept, heard_in, said_in, deeds_in}
use Rattle.sendsms_http.proofs.Exchanges.{split_at, deeds_last}

-- ---- lists that are cut

append_none : {A : Type 0} (xs ys : List A) → xs ++ ys ≡ [] → xs ≡ []
append_none [] ys e = refl
append_none (x ∷ xs) ys e = cc

-- a front of two lists ends in the first or in the second
split_two : {A : Type 0} (xs ys before after : List A) → xs ++ ys ≡ before ++ after
    → ((rest : List A) × (xs ≡ before ++ rest)) ⊎ ((front : List A) × (before ≡ xs ++ front) × (ys ≡ front ++ after))
split_two [] ys before after e = inr (before, refl, e)
split_two (x ∷ xs) ys [] after e = inl (x ∷ xs, refl)
split_two (x ∷ xs) ys (b ∷ before) after e =
    let tails : xs ++ ys ≡ before ++ after = cc in
    let heads : x ≡ b = cc in
    elim (split_two xs ys before after tails) [
      | inl first ↦ inl (first.0, cc)
      | inr second ↦ inr (second.0, cc, second.2)
    ]

-- a front of one is nothing or all
front_of_one : {A : Type 0} (x : A) (front back : List A) → x ∷ [] ≡ front ++ back → (front ≡ []) ⊎ (front ≡ x ∷ [])
front_of_one x [] back e = inl refl
front_of_one x (y ∷ []) back e = inr cc
front_of_one x (y ∷ z ∷ front) back e = cc

-- what stands in one is that one
only_one : {A : Type 0} (x y : A) (front back : List A) → x ∷ [] ≡ front ++ y ∷ back → (front ≡ []) × (y ≡ x) × (back ≡ [])
only_one x y [] back e = (refl, cc, cc)
only_one x y (z ∷ []) back e = cc
only_one x y (z ∷ w ∷ front) back e = cc

-- ---- what is in events, part by part

pieces_append : (a b : List Event) → pieces_of (a ++ b) ≡ pieces_of a ++ pieces_of b
pieces_append [] b = refl
pieces_append (Spoke piece ∷ a) b = ap (λ pieces. piece ∷ pieces) (pieces_append a b)
pieces_append (Read time ∷ a) b = pieces_append a b
pieces_append (Handed deed ∷ a) b = pieces_append a b

readings_append : (a b : List Event) → readings_of (a ++ b) ≡ readings_of a ++ readings_of b
readings_append [] b = refl
readings_append (Spoke piece ∷ a) b = readings_append a b
readings_append (Read time ∷ a) b = ap (λ readings. time ∷ readings) (readings_append a b)
readings_append (Handed deed ∷ a) b = readings_append a b

deeds_append : (a b : List Event) → deeds_of (a ++ b) ≡ deeds_of a ++ deeds_of b
deeds_append [] b = refl
deeds_append (Spoke piece ∷ a) b = deeds_append a b
deeds_append (Read time ∷ a) b = deeds_append a b
deeds_append (Handed deed ∷ a) b = ap (λ deeds. deed ∷ deeds) (deeds_append a b)

-- pieces that were said, one behind the other
abbrev pub spoken : List Piece → List Event
spoken [] = []
spoken (piece ∷ pieces) = Spoke piece ∷ spoken pieces

pieces_spoken : (pieces : List Piece) → pieces_of (spoken pieces) ≡ pieces
pieces_spoken [] = refl
pieces_spoken (piece ∷ pieces) = ap (λ rest. piece ∷ rest) (pieces_spoken pieces)

readings_spoken : (pieces : List Piece) → readings_of (spoken pieces) ≡ []
readings_spoken [] = refl
readings_spoken (piece ∷ pieces) = readings_spoken pieces

deeds_spoken : (pieces : List Piece) → deeds_of (spoken pieces) ≡ []
deeds_spoken [] = refl
deeds_spoken (piece ∷ pieces) = deeds_spoken pieces

-- ---- when a request was read

pub read_at_more : (events more : List Event) (earlier : List Exchange) (octets : List ℕ) (time : ℕ) → IsReadAt events earlier octets time
    → IsReadAt (events ++ more) earlier octets time
read_at_more events more earlier octets time r = record {
  before = r.before;
  after = r.after ++ more;
  left = r.left;
  read = ap (λ all. all ++ more) r.read ∙ append_assoc r.before (Read time ∷ r.after) more;
  heard = r.heard;
  said = r.said;
  handed = r.handed;
}

read_more : (events more : List Event) (exchanges : List Exchange) → AreRead events exchanges → AreRead (events ++ more) exchanges
read_more events more exchanges read earlier later exchange is =
    All-weaker (IsReadAt events earlier exchange.octets) (IsReadAt (events ++ more) earlier exchange.octets)
    (λ time r. read_at_more events more earlier exchange.octets time r) exchange.times (read earlier later exchange is)

read_none : (events : List Event) → AreRead events []
read_none events [] later exchange is = cc
read_none events (first ∷ earlier) later exchange is = cc

-- one exchange more
pub read_last : (events : List Event) (exchanges : List Exchange) (e : Exchange) → AreRead events exchanges → All (IsReadAt events exchanges e.octets) e.times
    → AreRead events (exchanges ++ e ∷ [])
read_last events exchanges e read last earlier later exchange is =
    elim (split_at exchanges (e ∷ []) earlier later exchange is) [
      | inl first ↦ read earlier first.0 exchange first.1
      | inr second ↦
          let one = only_one e exchange second.0 later second.2 in
          let front : exchanges ≡ earlier = sym (second.1 ∙ ap (λ front. exchanges ++ front) one.0 ∙ append-nil exchanges) in
          subst (λ (x : Exchange). All (IsReadAt events earlier x.octets) x.times) (sym one.1)
          (subst (λ before. All (IsReadAt events before e.octets) e.times) front last)
    ]

-- ---- moments

-- nothing was said of a next answer
pub waits_moment : (settings : Settings) (kept : List Exchange) (left heard said : List ℕ) (deeds more : List Deed) → All (IsKept settings) kept
    → heard ≡ heard_in kept ++ left → said ≡ said_in kept → deeds ≡ deeds_in kept ++ more → IsMoment settings heard said deeds
waits_moment settings kept left heard said deeds more each hears says handed = record {
  kept = kept;
  left = left;
  handed_last = more;
  said_last = [];
  kept_each = each;
  hears = hears;
  says = says ∙ sym (append-nil (said_in kept));
  handed_in = handed;
  next = inl refl;
}

abbrev MomentAt : Settings → List Event → Type 0
MomentAt settings events = IsMoment settings (heard_of (pieces_of events)) (said_of (pieces_of events)) (deeds_of events)

moments_more : (settings : Settings) (events more : List Event) → AreMoments settings events
    → ((front back : List Event) → more ≡ front ++ back → MomentAt settings (events ++ front)) → AreMoments settings (events ++ more)
moments_more settings events more all each before after e =
    elim (split_two events more before after e) [
      | inl first ↦ all before first.0 first.1
      | inr second ↦ subst (MomentAt settings) (sym second.1) (each second.0 after second.2)
    ]

moments_one : (settings : Settings) (events : List Event) (event : Event) → AreMoments settings events → MomentAt settings (events ++ event ∷ [])
    → AreMoments settings (events ++ event ∷ [])
moments_one settings events event all last =
    moments_more settings events (event ∷ []) all (λ front back e. elim (front_of_one event front back e) [
      | inl none ↦
          subst (λ more. MomentAt settings (events ++ more)) (sym none)
          (subst (MomentAt settings) (sym (append-nil events)) (all events [] (sym (append-nil events))))
      | inr whole ↦ subst (λ more. MomentAt settings (events ++ more)) (sym whole) last
    ])

-- a moment by what its events are
moment_by : (settings : Settings) (events : List Event) (pieces : List Piece) (deeds : List Deed) → pieces_of events ≡ pieces → deeds_of events ≡ deeds
    → IsMoment settings (heard_of pieces) (said_of pieces) deeds → MomentAt settings events
moment_by settings events pieces deeds p d m =
    subst (λ ds. IsMoment settings (heard_of (pieces_of events)) (said_of (pieces_of events)) ds) (sym d)
    (subst (λ ps. IsMoment settings (heard_of ps) (said_of ps) deeds) (sym p) m)

-- ---- steps

pub turn_none : (settings : Settings) → IsInTurn settings [] [] [] [] []
turn_none settings = record {
  pieces_are = refl;
  readings_are = refl;
  deeds_are = refl;
  read = read_none [];
  moments = none;
}
  where
    none : AreMoments settings []
    none [] after e = waits_moment settings [] [] [] [] [] [] (All-nil (IsKept settings)) refl refl refl
    none (event ∷ before) after e = cc

module _ (settings : Settings) (events : List Event) (pieces : List Piece) (readings : List ℕ) (deeds : List Deed) (exchanges : List Exchange)
    (t : IsInTurn settings events pieces readings deeds exchanges) where
  -- the clock was read
  pub turn_read : (time : ℕ) → IsInTurn settings (events ++ Read time ∷ []) pieces (readings ++ time ∷ []) deeds exchanges
  turn_read time =
      let same : pieces_of (events ++ Read time ∷ []) ≡ pieces = pieces_append events (Read time ∷ []) ∙ append-nil (pieces_of events) ∙ t.pieces_are in
      let none : deeds_of (events ++ Read time ∷ []) ≡ deeds = deeds_append events (Read time ∷ []) ∙ append-nil (deeds_of events) ∙ t.deeds_are in
      let now = t.moments events [] (sym (append-nil events)) in
      record {
        pieces_are = same;
        readings_are = readings_append events (Read time ∷ []) ∙ ap (λ all. all ++ time ∷ []) t.readings_are;
        deeds_are = none;
        read = read_more events (Read time ∷ []) exchanges t.read;
        moments = moments_one settings events (Read time) t.moments (moment_by settings (events ++ Read time ∷ []) pieces deeds same none
            (subst (λ ds. IsMoment settings (heard_of pieces) (said_of pieces) ds) t.deeds_are
            (subst (λ ps. IsMoment settings (heard_of ps) (said_of ps) (deeds_of events)) t.pieces_are now)));
      }

  -- and a request that was heard was read at that time
  pub read_now : (time : ℕ) (octets left : List ℕ) → heard_of pieces ≡ heard_in exchanges ++ (octets ++ left) → said_of pieces ≡ said_in exchanges
      → deeds ≡ deeds_in exchanges → IsReadAt (events ++ Read time ∷ []) exchanges octets time
  read_now time octets left heard said handed = record {
    before = events;
    after = [];
    left = left;
    read = refl;
    heard = ap heard_of t.pieces_are ∙ heard;
    said = ap said_of t.pieces_are ∙ said;
    handed = t.deeds_are ∙ handed;
  }

  -- octets were heard
  pub turn_heard : (octets : List ℕ) → IsMoment settings (heard_of (pieces ++ Heard octets ∷ [])) (said_of (pieces ++ Heard octets ∷ [])) deeds
      → IsInTurn settings (events ++ Spoke (Heard octets) ∷ []) (pieces ++ Heard octets ∷ []) readings deeds exchanges
  turn_heard octets m =
      let more : List Event = Spoke (Heard octets) ∷ [] in
      let p : pieces_of (events ++ more) ≡ pieces ++ Heard octets ∷ [] = pieces_append events more ∙ ap (λ all. all ++ Heard octets ∷ []) t.pieces_are in
      let d : deeds_of (events ++ more) ≡ deeds = deeds_append events more ∙ append-nil (deeds_of events) ∙ t.deeds_are in
      record {
        pieces_are = p;
        readings_are = readings_append events more ∙ append-nil (readings_of events) ∙ t.readings_are;
        deeds_are = d;
        read = read_more events more exchanges t.read;
        moments = moments_one settings events (Spoke (Heard octets)) t.moments (moment_by settings (events ++ more) (pieces ++ Heard octets ∷ []) deeds p d m);
      }

  -- messages were handed in
  pub turn_handed : (deed : Deed) → IsMoment settings (heard_of pieces) (said_of pieces) (deeds ++ deed ∷ [])
      → IsInTurn settings (events ++ Handed deed ∷ []) pieces readings (deeds ++ deed ∷ []) exchanges
  turn_handed deed m =
      let more : List Event = Handed deed ∷ [] in
      let p : pieces_of (events ++ more) ≡ pieces = pieces_append events more ∙ append-nil (pieces_of events) ∙ t.pieces_are in
      let d : deeds_of (events ++ more) ≡ deeds ++ deed ∷ [] = deeds_append events more ∙ ap (λ all. all ++ deed ∷ []) t.deeds_are in
      record {
        pieces_are = p;
        readings_are = readings_append events more ∙ append-nil (readings_of events) ∙ t.readings_are;
        deeds_are = d;
        read = read_more events more exchanges t.read;
        moments = moments_one settings events (Handed deed) t.moments (moment_by settings (events ++ more) pieces (deeds ++ deed ∷ []) p d m);
      }

  -- an answer, or a front of it, was said in some pieces
  pub turn_said : (kept : List Exchange) (e : Exchange) (ended : Bool) (left gone : List ℕ) (more : List Piece) → All (IsKept settings) kept
      → IsExchange settings ended e → heard_of pieces ≡ heard_in kept ++ (e.octets ++ left) → said_of pieces ≡ said_in kept → deeds ≡ deeds_in (kept ++ e ∷ [])
      → heard_of more ≡ [] → text_of e ≡ said_of more ++ gone
      → IsInTurn settings (events ++ spoken more) (pieces ++ more) readings deeds exchanges
  turn_said kept e ended left gone more each is heard said handed silent says = record {
    pieces_are = pieces_append events (spoken more) ∙ ap (λ back. pieces_of events ++ back) (pieces_spoken more) ∙ ap (λ all. all ++ more) t.pieces_are;
    readings_are = readings_append events (spoken more) ∙ ap (λ back. readings_of events ++ back) (readings_spoken more) ∙ append-nil (readings_of events) ∙ t.readings_are;
    deeds_are = deeds_append events (spoken more) ∙ ap (λ back. deeds_of events ++ back) (deeds_spoken more) ∙ append-nil (deeds_of events) ∙ t.deeds_are;
    read = read_more events (spoken more) exchanges t.read;
    moments = moments_more settings events (spoken more) t.moments front_said;
  }
    where
      front_said : (front back : List Event) → spoken more ≡ front ++ back → MomentAt settings (events ++ front)
      front_said front back cut =
          let first = pieces_of front in
          let second = pieces_of back in
          let parts : more ≡ first ++ second = sym (pieces_spoken more) ∙ ap pieces_of cut ∙ pieces_append front back in
          let nothing : heard_of first ≡ [] = append_none (heard_of first) (heard_of second) (sym (heard_of-append first second) ∙ ap heard_of (sym parts) ∙ silent) in
          let none : deeds_of front ≡ [] = append_none (deeds_of front) (deeds_of back) (sym (deeds_append front back) ∙ ap deeds_of (sym cut) ∙ deeds_spoken more) in
          let text : text_of e ≡ said_of first ++ (said_of second ++ gone) =
          says ∙ ap (λ octets. octets ++ gone) (ap said_of parts ∙ said_of-append first second) ∙ append_assoc (said_of first) (said_of second) gone in
          let p : pieces_of (events ++ front) ≡ pieces ++ first = pieces_append events front ∙ ap (λ all. all ++ first) t.pieces_are in
          let d : deeds_of (events ++ front) ≡ deeds =
          deeds_append events front ∙ ap (λ back. deeds_of events ++ back) none ∙ append-nil (deeds_of events) ∙ t.deeds_are in
          moment_by settings (events ++ front) (pieces ++ first) deeds p d (record {
            kept = kept;
            left = e.octets ++ left;
            handed_last = e.deeds;
            said_last = said_of first;
            kept_each = each;
            hears = heard_of-append pieces first ∙ ap (λ back. heard_of pieces ++ back) nothing ∙ append-nil (heard_of pieces) ∙ heard;
            says = said_of-append pieces first ∙ ap (λ all. all ++ said_of first) said;
            handed_in = handed ∙ deeds_last kept e;
            next = inr (record {
              exchange = e;
              ended = ended;
              rest = left;
              gone = said_of second ++ gone;
              is = is;
              heard = refl;
              handed_in = refl;
              says = text;
            });
          })

  -- one exchange more, whose request was read
  pub turn_last : (e : Exchange) → All (IsReadAt events exchanges e.octets) e.times → IsInTurn settings events pieces readings deeds (exchanges ++ e ∷ [])
  turn_last e last = record {
    pieces_are = t.pieces_are;
    readings_are = t.readings_are;
    deeds_are = t.deeds_are;
    read = read_last events exchanges e t.read last;
    moments = t.moments;
  }

-- ---- deeds of their own

pub own_none : {S : Type 0} (leads : S → List Deed → S → Type 0) (faults : S → ℕ) (store : S) → AreOwn leads faults store store []
own_none leads faults store [] after deed is = cc
own_none leads faults store (first ∷ before) after deed is = cc

pub own_more : {S : Type 0} (leads : S → List Deed → S → Type 0) (faults : S → ℕ) → ((a : S) → leads a [] a)
    → ((a b c : S) (xs ys : List Deed) → leads a xs b → leads b ys c → leads a (xs ++ ys) c)
    → (store later now : S) (deeds : List Deed) (deed : Deed) → AreOwn leads faults store later deeds → leads store deeds later → leads later (deed ∷ []) now
    → IsFaultCounted (faults later) (faults now) deed → (IsSpared deed → faults now ≡ faults later)
    → AreOwn leads faults store now (deeds ++ deed ∷ [])
own_more leads faults nowhere leads_on store later now deeds deed own led more counted spared before after one is =
    elim (split_at deeds (deed ∷ []) before after one is) [
      | inl first ↦
          let o = own before first.0 one first.1 in
          let behind : after ≡ first.0 ++ deed ∷ [] = rest_of before first.0 after one first.1 is in
          record {
            asked = o.asked;
            answered = o.answered;
            led_before = o.led_before;
            led = o.led;
            led_after = subst (λ ds. leads o.answered ds now) (sym behind) (leads_on o.answered later now first.0 (deed ∷ []) o.led_after more);
            disk = o.disk;
            spared = o.spared;
          }
      | inr second ↦
          let last = only_one deed one second.0 after second.2 in
          let front : deeds ≡ before = sym (second.1 ∙ ap (λ front. deeds ++ front) last.0 ∙ append-nil deeds) in
          record {
            asked = later;
            answered = now;
            led_before = subst (λ ds. leads store ds later) front led;
            led = subst (λ (d : Deed). leads later (d ∷ []) now) (sym last.1) more;
            led_after = subst (λ ds. leads now ds now) (sym last.2) (nowhere now);
            disk = subst (λ (d : Deed). IsFaultCounted (faults later) (faults now) d) (sym last.1) counted;
            spared = subst (λ (d : Deed). IsSpared d → faults now ≡ faults later) (sym last.1) spared;
          }
    ]
  where
    tail_of : List Deed → List Deed
    tail_of [] = []
    tail_of (d ∷ ds) = ds

    same_front : (before xs ys : List Deed) → before ++ xs ≡ before ++ ys → tail_of xs ≡ tail_of ys
    same_front [] xs ys e = ap tail_of e
    same_front (d ∷ before) xs ys e = same_front before xs ys cc

    rest_of : (before rest after : List Deed) (one : Deed) → deeds ≡ before ++ one ∷ rest → deeds ++ deed ∷ [] ≡ before ++ one ∷ after → after ≡ rest ++ deed ∷ []
    rest_of before rest after one cut whole =
        same_front before (one ∷ after) (one ∷ (rest ++ deed ∷ []))
        (sym whole ∙ ap (λ ds. ds ++ deed ∷ []) cut ∙ append_assoc before (one ∷ rest) (deed ∷ []))
