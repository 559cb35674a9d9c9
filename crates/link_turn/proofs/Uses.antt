-- Messages under tags, and messages that are held.
use Rattle.std.proofs.Common.{◌≡◌, ◌≢◌, ◌∙◌, refl, sym, ap, subst, ℕ, true, false, inl, inr, ◌⊎◌, List, [], ◌∷◌, ◌++◌}
use Rattle.std.specs.Prelude.{◌==◌, Some, None}
use Rattle.std.proofs.lemmas.Bool.{cases_Bool, eqb-true, eq-eqb, false≢true}
use Rattle.link_turn.specs.Back.{has_tag, without_tag, message_under, IsFree, without_message, IsAmong}
use Rattle.link_turn.specs.Session.{messages}
use Rattle.link_turn.specs.SessionSteps.{AreApart}
use Rattle.link_turn.specs.declared.submitted.Submitted.{Submitted}

pub same : (n : ℕ) → (n == n) ≡ true
same n = eq-eqb n n refl

pub other : (m n : ℕ) → m ≢ n → (m == n) ≡ false
other m n differ =
    elim (cases_Bool (m == n)) [
      | inl is ↦ absurd (differ (eqb-true m n is))
      | inr differs ↦ differs
    ]

none_is_some : {T : Type 0} (x : T) → None ≡ Some x → ⊥
none_is_some x e = cc

-- ---- messages

pub among_head : (message : ℕ) (messages : List ℕ) → IsAmong message (message ∷ messages)
among_head message messages = rw (same message)

pub among_tail : (message first : ℕ) (messages : List ℕ) → IsAmong message messages → IsAmong message (first ∷ messages)
among_tail message first messages among =
    elim (cases_Bool (first == message)) [
      | inl is ↦ rw is (ap Some (eqb-true first message is))
      | inr differs ↦ rw differs among
    ]

-- what is among some is their first, or among the others
pub among_cases : (message first : ℕ) (messages : List ℕ) → IsAmong message (first ∷ messages) → (first ≡ message) ⊎ IsAmong message messages
among_cases message first messages among =
    elim (cases_Bool (first == message)) [
      | inl is ↦ inl (eqb-true first message is)
      | inr differs ↦ inr (rw differs at among)
    ]

pub among_last : (message : ℕ) (messages : List ℕ) → IsAmong message (messages ++ message ∷ [])
among_last message [] = among_head message []
among_last message (first ∷ messages) = among_tail message first (messages ++ message ∷ []) (among_last message messages)

-- among more behind
pub among_more : (message : ℕ) (messages more : List ℕ) → IsAmong message messages → IsAmong message (messages ++ more)
among_more message [] more among = absurd (none_is_some message among)
among_more message (first ∷ messages) more among =
    elim (among_cases message first messages among) [
      | inl is ↦ subst (λ (m : ℕ). IsAmong m (first ∷ messages ++ more)) is (among_head first (messages ++ more))
      | inr behind ↦ among_tail message first (messages ++ more) (among_more message messages more behind)
    ]

pub among_push_cases : (message last : ℕ) (messages : List ℕ) → IsAmong message (messages ++ last ∷ []) → IsAmong message messages ⊎ (last ≡ message)
among_push_cases message last [] among =
    elim (among_cases message last [] among) [
      | inl is ↦ inr is
      | inr none ↦ absurd (none_is_some message none)
    ]
among_push_cases message last (first ∷ messages) among =
    elim (among_cases message first (messages ++ last ∷ []) among) [
      | inl is ↦ inl (subst (λ (m : ℕ). IsAmong m (first ∷ messages)) is (among_head first messages))
      | inr behind ↦ elim (among_push_cases message last messages behind) [
        | inl here ↦ inl (among_tail message first messages here)
        | inr is ↦ inr is
      ]
    ]

-- a message that isn't there isn't taken away
pub without_absent : (message : ℕ) (messages : List ℕ) → ¬ IsAmong message messages → without_message message messages ≡ messages
without_absent message [] none = refl
without_absent message (first ∷ messages) none =
    let differs : first ≢ message = λ e. none (subst (λ (m : ℕ). IsAmong m (first ∷ messages)) e (among_head first messages)) in
    rw (other first message differs) (ap (λ ms. first ∷ ms) (without_absent message messages (λ among. none (among_tail message first messages among))))

pub without_head : (message : ℕ) (messages : List ℕ) → ¬ IsAmong message messages → without_message message (message ∷ messages) ≡ messages
without_head message messages none = rw (same message) (without_absent message messages none)

pub without_push : (message : ℕ) (messages : List ℕ) → ¬ IsAmong message messages → without_message message (messages ++ message ∷ []) ≡ messages
without_push message [] none = rw (same message)
without_push message (first ∷ messages) none =
    let differs : first ≢ message = λ e. none (subst (λ (m : ℕ). IsAmong m (first ∷ messages)) e (among_head first messages)) in
    rw (other first message differs) (ap (λ ms. first ∷ ms) (without_push message messages (λ among. none (among_tail message first messages among))))

-- what is taken away is no more there
pub not_among_without : (message : ℕ) (messages : List ℕ) → ¬ IsAmong message (without_message message messages)
not_among_without message [] among = none_is_some message among
not_among_without message (first ∷ messages) among =
    elim (cases_Bool (first == message)) [
      | inl is ↦ not_among_without message messages (rw is at among)
      | inr differs ↦
          let rest = not_among_without message messages in
          let here : IsAmong message (first ∷ without_message message messages) = rw differs at among in
          elim (among_cases message first (without_message message messages) here) [
            | inl is ↦ absurd (false≢true (sym differs ∙ eq-eqb first message is))
            | inr behind ↦ rest behind
          ]
    ]

-- the others are still there
pub among_without : (message gone : ℕ) (messages : List ℕ) → gone ≢ message → IsAmong message messages → IsAmong message (without_message gone messages)
among_without message gone [] differ among = among
among_without message gone (first ∷ messages) differ among =
    elim (among_cases message first messages among) [
      | inl is ↦
          let stays : (first == gone) ≡ false = other first gone (λ e. differ (sym e ∙ is)) in
          rw stays (subst (λ (m : ℕ). IsAmong m (first ∷ without_message gone messages)) is (among_head first (without_message gone messages)))
      | inr behind ↦
          let rest = among_without message gone messages differ behind in
          elim (cases_Bool (first == gone)) [
            | inl is ↦ rw is rest
            | inr stays ↦ rw stays (among_tail message first (without_message gone messages) rest)
          ]
    ]

-- what is still there was there
pub among_before : (message gone : ℕ) (messages : List ℕ) → IsAmong message (without_message gone messages) → IsAmong message messages
among_before message gone [] among = among
among_before message gone (first ∷ messages) among =
    elim (cases_Bool (first == gone)) [
      | inl is ↦ among_tail message first messages (among_before message gone messages (rw is at among))
      | inr stays ↦
          let here : IsAmong message (first ∷ without_message gone messages) = rw stays at among in
          elim (among_cases message first (without_message gone messages) here) [
            | inl is ↦ subst (λ (m : ℕ). IsAmong m (first ∷ messages)) is (among_head first messages)
            | inr behind ↦ among_tail message first messages (among_before message gone messages behind)
          ]
    ]

-- ---- tags

pub free_here : (tag : ℕ) (submitted : Submitted) (uses : List Submitted) → IsFree tag (submitted ∷ uses) → has_tag tag submitted ≡ false
free_here tag submitted uses free =
    elim (cases_Bool (has_tag tag submitted)) [
      | inl is ↦ absurd (none_is_some submitted (sym free ∙ rw is))
      | inr differs ↦ differs
    ]

pub free_behind : (tag : ℕ) (submitted : Submitted) (uses : List Submitted) → IsFree tag (submitted ∷ uses) → IsFree tag uses
free_behind tag submitted uses free = rw (free_here tag submitted uses free) at free

pub free_both : (tag : ℕ) (submitted : Submitted) (uses : List Submitted) → has_tag tag submitted ≡ false → IsFree tag uses → IsFree tag (submitted ∷ uses)
free_both tag submitted uses differs free = rw differs free

-- a tag that isn't in use isn't taken away
pub without_free : (tag : ℕ) (uses : List Submitted) → IsFree tag uses → without_tag tag uses ≡ uses
without_free tag [] free = refl
without_free tag (submitted ∷ uses) free =
    rw (free_here tag submitted uses free) (ap (λ us. submitted ∷ us) (without_free tag uses (free_behind tag submitted uses free)))

pub free_without : (tag gone : ℕ) (uses : List Submitted) → IsFree tag uses → IsFree tag (without_tag gone uses)
free_without tag gone [] free = free
free_without tag gone (submitted ∷ uses) free =
    let rest = free_without tag gone uses (free_behind tag submitted uses free) in
    elim (cases_Bool (has_tag gone submitted)) [
      | inl is ↦ rw is rest
      | inr stays ↦ rw stays (free_both tag submitted (without_tag gone uses) (free_here tag submitted uses free) rest)
    ]

pub free_push : (tag : ℕ) (uses : List Submitted) (last : Submitted) → IsFree tag uses → last.asked.tag ≢ tag → IsFree tag (uses ++ last ∷ [])
free_push tag [] last free differ = rw (other last.asked.tag tag differ)
free_push tag (submitted ∷ uses) last free differ =
    free_both tag submitted (uses ++ last ∷ []) (free_here tag submitted uses free) (free_push tag uses last (free_behind tag submitted uses free) differ)

-- ---- uses that are apart

messages-without : (message tag : ℕ) (uses : List Submitted) → ¬ IsAmong message (messages uses) → ¬ IsAmong message (messages (without_tag tag uses))
messages-without message tag [] none = none
messages-without message tag (submitted ∷ uses) none =
    let rest = messages-without message tag uses (λ among. none (among_tail message submitted.message (messages uses) among)) in
    elim (cases_Bool (has_tag tag submitted)) [
      | inl is ↦ rw is rest
      | inr stays ↦ rw stays (λ among. elim (among_cases message submitted.message (messages (without_tag tag uses)) among) [
        | inl is ↦ none (subst (λ (m : ℕ). IsAmong m (submitted.message ∷ messages uses)) is (among_head submitted.message (messages uses)))
        | inr behind ↦ rest behind
      ])
    ]

pub apart-without : (tag : ℕ) (uses : List Submitted) → AreApart uses → AreApart (without_tag tag uses)
apart-without tag [] apart = apart
apart-without tag (submitted ∷ uses) apart =
    let rest = apart-without tag uses apart.2 in
    elim (cases_Bool (has_tag tag submitted)) [
      | inl is ↦ rw is rest
      | inr stays ↦ rw stays (free_without submitted.asked.tag tag uses apart.0, messages-without submitted.message tag uses apart.1, rest)
    ]

messages-push : (message : ℕ) (uses : List Submitted) (last : Submitted) → ¬ IsAmong message (messages uses) → last.message ≢ message → ¬ IsAmong message (messages (uses ++ last ∷ []))
messages-push message [] last none differ = λ among. elim (among_cases message last.message [] among) [
  | inl is ↦ differ is
  | inr behind ↦ none behind
]
messages-push message (submitted ∷ uses) last none differ =
    let rest = messages-push message uses last (λ among. none (among_tail message submitted.message (messages uses) among)) differ in
    λ among. elim (among_cases message submitted.message (messages (uses ++ last ∷ [])) among) [
      | inl is ↦ none (subst (λ (m : ℕ). IsAmong m (submitted.message ∷ messages uses)) is (among_head submitted.message (messages uses)))
      | inr behind ↦ rest behind
    ]

pub apart-push : (uses : List Submitted) (last : Submitted) → AreApart uses → IsFree last.asked.tag uses → ¬ IsAmong last.message (messages uses) → AreApart (uses ++ last ∷ [])
apart-push [] last apart free none = (refl, (λ among. none_is_some last.message among), tt)
apart-push (submitted ∷ uses) last apart free none =
    let tags : last.asked.tag ≢ submitted.asked.tag =
    λ e. false≢true (sym (free_here last.asked.tag submitted uses free) ∙ eq-eqb submitted.asked.tag last.asked.tag (sym e)) in
    let differ : last.message ≢ submitted.message =
    λ e. none (subst (λ (m : ℕ). IsAmong m (submitted.message ∷ messages uses)) (sym e) (among_head submitted.message (messages uses))) in (
      free_push submitted.asked.tag uses last apart.0 tags,
      messages-push submitted.message uses last apart.1 differ,
      apart-push uses last apart.2 (free_behind last.asked.tag submitted uses free) (λ among. none (among_tail last.message submitted.message (messages uses) among)),
    )

-- the message under a tag goes with the tag, and was there
pub apart_found : (tag message : ℕ) (uses : List Submitted) → AreApart uses → message_under tag uses ≡ Some message
    → (without_message message (messages uses) ≡ messages (without_tag tag uses)) × IsAmong message (messages uses)
apart_found tag message [] apart found = absurd (none_is_some message found)
apart_found tag message (submitted ∷ uses) apart found =
    elim (cases_Bool (has_tag tag submitted)) [
      | inl is ↦
          let here : Some submitted.message ≡ Some message = sym (rw is) ∙ found in
          let e : submitted.message ≡ message = cc in
          let t : submitted.asked.tag ≡ tag = eqb-true submitted.asked.tag tag is in
          let free : IsFree tag uses = subst (λ (g : ℕ). IsFree g uses) t apart.0 in
          let all : without_message submitted.message (submitted.message ∷ messages uses) ≡ messages uses = without_head submitted.message (messages uses) apart.1 in (
            rw is (subst (λ (m : ℕ). without_message m (submitted.message ∷ messages uses) ≡ messages (without_tag tag uses)) e
                (all ∙ ap messages (sym (without_free tag uses free)))),
            subst (λ (m : ℕ). IsAmong m (submitted.message ∷ messages uses)) e (among_head submitted.message (messages uses)),
          )
      | inr stays ↦
          let rest = apart_found tag message uses apart.2 (rw stays at found) in
          let differ : submitted.message ≢ message = λ e. apart.1 (subst (λ (m : ℕ). IsAmong m (messages uses)) (sym e) rest.1) in (
            rw (stays, other submitted.message message differ) (ap (λ ms. submitted.message ∷ ms) rest.0),
            among_tail message submitted.message (messages uses) rest.1,
          )
    ]

-- no message is under a tag: it is free
pub free_found : (tag : ℕ) (uses : List Submitted) → message_under tag uses ≡ None → IsFree tag uses
free_found tag [] none = refl
free_found tag (submitted ∷ uses) none =
    elim (cases_Bool (has_tag tag submitted)) [
      | inl is ↦ absurd (none_is_some submitted.message (sym none ∙ rw is))
      | inr stays ↦ rw stays (free_found tag uses (rw stays at none))
    ]
