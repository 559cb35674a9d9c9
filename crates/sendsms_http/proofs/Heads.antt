-- What is wished once octets were looked at.
use Rattle.std.proofs.Common.{◌≡◌, ◌≢◌, ◌⊎◌, inl, inr, ℕ, ◌<◌, Bool, true, false, ◌||◌, List, [], ◌∷◌, ◌++◌, length, take, drop, All, Some, Result, Ok, Err, refl, ap, sym, ◌∙◌, subst, arith, append_assoc, take-append-drop, if◌then◌else◌, IsTrue, ◌↔◌}
use Rattle.std.proofs.lemmas.Bool.{false≢true}
use Rattle.std.proofs.lemmas.List.{append-nil}
use Rattle.std.proofs.lemmas.List.Elements.{All-head, All-tail}
use Rattle.std.specs.List.{find}
use Rattle.config_groups.specs.declared.settings.Settings.{Settings}
use Rattle.config_groups.specs.declared.settings.user.User.{User}
use Rattle.http_text.specs.Head.{head_limit, looked_at, Stands, NeverHas, NeedsMore, IsTooLong, IsWhole, IsReadAs}
use Rattle.http_text.specs.OneHead.{IsHead}
use Rattle.http_text.specs.declared.answer.Answer.{Answer}
use Rattle.http_text.specs.declared.answer.Answer.TheVariants.{BadRequest, OutOfMemory}
use Rattle.http_text.specs.declared.answer.spot.Spot.TheVariants as spot_is
use Rattle.http_text.specs.declared.head.Head.{Head}
use Rattle.http_text.specs.declared.head.read.HeadRead.{HeadRead}
use Rattle.http_text.specs.declared.head.read.HeadRead.TheVariants as read_is
use Rattle.sms_record.specs.declared.sms.Sms.{Sms}
use Rattle.config_groups.specs.Ranges.{IsUser}
use Rattle.sendsms_http.specs.Request.{asked}
use Rattle.sendsms_http.specs.Session.{Exchange, ComesTo, RefusesOctets, WantsMemory, AnswersRequest, IsNoRequest, closes_always}
use Rattle.sendsms_http.specs.Users.{user_of}
use Rattle.sendsms_http.specs.Visit.{Asks, Owes, LooksAt, IsAtEnd}
use Rattle.sendsms_http.specs.declared.visit.Phase.TheVariants.{Submitting}
use Rattle.sendsms_form.specs.declared.pairs.Pair.{Pair}
use Rattle.sendsms_http.specs.declared.visit.Visit.{Visit}
use Rattle.sendsms_http.specs.declared.visit.VisitWish.{VisitWish}
use Rattle.sendsms_http.specs.declared.visit.VisitWish.TheVariants.{Say}
use Rattle.gate_model.specs.Acceptor.{MayBeHanded}

-- ---- users

-- what was found is one of them
found : {A : Type 0} (P : A → Type 0) (test : A → Bool) (xs : List A) (x : A) → All P xs → find test xs ≡ Some x → P x
found P test [] x all is = cc
found P test (y ∷ xs) x all is = by (test y) (found P test xs x (All-tail P y xs all)) is
  where
    by : (b : Bool) → (find test xs ≡ Some x → P x) → (if b then Some y else find test xs) ≡ Some x → P x
    by true later is = subst P (let e : y ≡ x = cc in e) (All-head P y xs all)
    by false later is = later is

pub user_found : (users : List User) (given : List Pair) (user : User) → All IsUser users → Some user ≡ user_of users given → IsUser user
user_found users given user all is = found IsUser _ users user all (sym is)

-- ---- what is owed

-- octets that were not read as a request
abbrev not_read : List ℕ → Answer → Exchange
not_read octets answer = record { octets = octets; times = []; deeds = []; answer = answer; close = true }

pub owes_octets : (settings : Settings) (ended : Bool) (now : ℕ) (octets : List ℕ) (visit : Visit) (answer : Answer) → visit.kept ≡ []
    → RefusesOctets ended (not_read octets answer) ⊎ WantsMemory (not_read octets answer) → Owes settings ended now octets visit answer true
owes_octets settings ended now octets visit answer none cause = record {
  exchange = not_read octets answer;
  exchanged = inr (record { cause = cause; no_time = refl; no_deed = refl; close = refl });
  cut = sym (ap (λ kept. octets ++ kept) none ∙ append-nil octets);
  timed = tt;
  no_deed = refl;
  answers = refl;
  closes = refl;
}

pub owes_memory : (settings : Settings) (ended : Bool) (now : ℕ) (octets : List ℕ) (visit : Visit) → visit.kept ≡ [] → octets ≢ []
    → Owes settings ended now octets visit OutOfMemory true
owes_memory settings ended now octets visit none some = owes_octets settings ended now octets visit OutOfMemory none (inr (record { some = some; answered = refl }))

pub owes_refusal : (settings : Settings) (ended : Bool) (now : ℕ) (octets : List ℕ) (visit : Visit) → visit.kept ≡ [] → octets ≢ [] → IsNoRequest octets ended
    → Owes settings ended now octets visit (BadRequest spot_is.Head) true
owes_refusal settings ended now octets visit none some no_request =
    owes_octets settings ended now octets visit (BadRequest spot_is.Head) none (inl (record { some = some; no_request = no_request; answered = refl }))

-- where none can come of the octets that are looked at, none can come of all
pub never : (octets : List ℕ) → NeverHas (looked_at octets) → NeverHas octets
never octets none more h rest stands =
    let same : looked_at octets ++ (drop head_limit octets ++ more) ≡ octets ++ more =
    sym (append_assoc (looked_at octets) (drop head_limit octets) more) ∙ ap (λ all. all ++ more) (take-append-drop head_limit octets) in
    none (drop head_limit octets ++ more) h rest (subst (λ all. Stands all h rest) (sym same) stands)

-- the input ended within a head
pub refused_at_end : (settings : Settings) (now : ℕ) (octets : List ℕ) (visit : Visit) (wish : VisitWish) → visit.kept ≡ [] → octets ≢ [] → NeedsMore octets
    → wish ≡ Say (BadRequest spot_is.Head) true → IsAtEnd settings now octets visit wish
refused_at_end settings now [] visit wish none some more is = absurd (some refl)
refused_at_end settings now (octet ∷ octets) visit wish none some more is =
    subst (IsAtEnd settings now (octet ∷ octets) visit) (sym is) (owes_refusal settings true now (octet ∷ octets) visit none some more, refl)

-- a request that is refused
pub owes_refused : (settings : Settings) (now len : ℕ) (octets : List ℕ) (head : Head) (visit : Visit) (answer : Answer) → IsHead (take len octets) head
    → visit.kept ≡ drop len octets → (answer ≡ OutOfMemory) ⊎ (asked settings head now ≡ Err answer)
    → Owes settings false now octets visit answer ((head.close || head.body) || closes_always answer)
owes_refused settings now len octets head visit answer heard kept refusal =
    let e : Exchange = record {
      octets = take len octets;
      times = now ∷ [];
      deeds = [];
      answer = answer;
      close = (head.close || head.body) || closes_always answer;
    } in
    let request : AnswersRequest settings e = record {
      head = head;
      heard = heard;
      now = now;
      time = refl;
      comes_to = elim refusal [
        | inl want ↦ inr (refl, want)
        | inr is ↦ inl (subst (λ (asks : Result (List Sms) Answer). ComesTo asks now [] answer) (sym is) (refl, refl))
      ];
      close = refl;
    } in
    record {
      exchange = e;
      exchanged = inl request;
      cut = sym (take-append-drop len octets) ∙ ap (λ kept. take len octets ++ kept) (sym kept);
      timed = inl (refl, tt);
      no_deed = refl;
      answers = refl;
      closes = refl;
    }

-- a request whose parts are handed in
pub asks : (settings : Settings) (now len : ℕ) (octets : List ℕ) (head : Head) (visit : Visit) (parts : List Sms) → IsHead (take len octets) head
    → visit.kept ≡ drop len octets → visit.phase ≡ Submitting (head.close || head.body) → asked settings head now ≡ Ok parts
    → MayBeHanded parts now → Asks settings now octets visit now parts
asks settings now len octets head visit parts heard kept phase is fits = record {
  front = take len octets;
  head = head;
  heard = heard;
  cut = sym (take-append-drop len octets) ∙ ap (λ kept. take len octets ++ kept) (sym kept);
  read_at = refl;
  asks = is;
  fits = fits;
  phase = phase;
}

-- ---- what a reading of a head says

pub whole_of : (octets kept : List ℕ) (read : HeadRead) (head : Head) (len : ℕ) → octets ≡ kept → read ≡ read_is.Whole head len → IsReadAs octets read
    → IsWhole (looked_at kept) head len
whole_of octets kept read head len same is reads = subst (λ all. IsWhole (looked_at all) head len) same (subst (IsReadAs octets) is reads)

pub bad_of : (octets kept : List ℕ) (read : HeadRead) → octets ≡ kept → read ≡ read_is.Bad → IsReadAs octets read → IsNoRequest kept false
bad_of octets kept read same is reads = inl (never kept (subst (λ all. NeverHas (looked_at all)) same (subst (IsReadAs octets) is reads)))

pub long_of : (octets kept : List ℕ) (read : HeadRead) (seen : ℕ) → octets ≡ kept → read ≡ read_is.TooLong seen → IsReadAs octets read → IsNoRequest kept false
long_of octets kept read seen same is reads =
    let long : IsReadAs octets (read_is.TooLong seen) = subst (IsReadAs octets) is reads in
    inr (subst IsTooLong same long.1)

pub more_of : (octets kept : List ℕ) (read : HeadRead) → octets ≡ kept → read ≡ read_is.NeedMore → IsReadAs octets read → NeedsMore kept
more_of octets kept read same is reads = subst NeedsMore same (subst (IsReadAs octets) is reads)

-- the answer is owed that is wished to be said
pub says_owed : (settings : Settings) (now : ℕ) (octets : List ℕ) (visit : Visit) (wish : VisitWish) (answer : Answer) (close : Bool) → wish ≡ Say answer close
    → Owes settings false now octets visit answer close → LooksAt settings now octets visit wish
says_owed settings now octets visit wish answer close is owes = subst (LooksAt settings now octets visit) (sym is) owes

pub not_empty : (b : Bool) (octets : List ℕ) → (IsTrue b ↔ (octets ≡ [])) → b ≡ false → octets ≢ []
not_empty b octets is empty none = false≢true (sym empty ∙ is.1 none)

-- some octets more are some
pub some_more : (kept octets : List ℕ) → 0 < length octets → kept ++ octets ≢ []
some_more [] [] some none = absurd (omega (arith, some))
some_more [] (octet ∷ octets) some none = cc
some_more (octet ∷ kept) octets some none = cc

-- the same with what the answer closes
pub owes_refused_so : (settings : Settings) (now len : ℕ) (octets : List ℕ) (head : Head) (visit : Visit) (answer : Answer) (last close : Bool) → IsHead (take len octets) head
    → visit.kept ≡ drop len octets → last ≡ (head.close || head.body) → close ≡ (last || closes_always answer)
    → (answer ≡ OutOfMemory) ⊎ (asked settings head now ≡ Err answer) → Owes settings false now octets visit answer close
owes_refused_so settings now len octets head visit answer last close heard kept is closing refusal =
    subst (λ close. Owes settings false now octets visit answer close) (sym (closing ∙ ap (λ last. last || closes_always answer) is))
    (owes_refused settings now len octets head visit answer heard kept refusal)
