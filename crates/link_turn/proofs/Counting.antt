-- What a turn counts at its peer.
use Rattle.std.proofs.Common.{◌≡◌, ◌∙◌, refl, sym, ap, subst, ℕ, ◌<◌, ◌≤◌, Bool, true, false, inl, inr, length, arith}
use Rattle.std.specs.Prelude.{Option, Some, None, IfSome}
use Rattle.std.proofs.lemmas.Bool.{false≢true}
use Rattle.kn_base.specs.Count.{Counts, Rose}
use Rattle.kn_base.specs.Course.{Course}
use Rattle.link_turn.specs.Session.{IsFresh, heard_by}
use Rattle.link_turn.specs.Turn.{CountsTurn}
use Rattle.link_turn.specs.TurnSteps.{BeginsWith, HearsSo, CountsEnd, CountsCause, IsToStop}
use Rattle.link_turn.specs.Weight.{cause_in, IsOwn, EndsBy}
use Rattle.link_turn.specs.declared.end_cause.EndCause.{EndCause}
use Rattle.link_turn.specs.declared.end_cause.EndCause.TheVariants as end_is
use Rattle.link_turn.specs.declared.given.Given.{Given}
use Rattle.link_turn.specs.declared.given.Given.TheVariants as given_is
use Rattle.link_turn.specs.declared.session.Session.{Session}
use Rattle.link_turn.specs.declared.turned.Turned.{Turned}
use Rattle.link_turn.specs.declared.turned.Turned.TheVariants.{On, Ended}
use Rattle.link_turn.specs.declared.wish.Wish.{Wish}
use Rattle.link_turn.proofs.Causing.{fault_rose}
use Rattle.link_turn.proofs.Turns.{IsTurned}

same_counts : (old new : Counts) → new ≡ old → new ≡ record old { quiets = new.quiets }
same_counts old new same = subst (λ (n : Counts). n ≡ record old { quiets = n.quiets }) (sym same) refl

quiet_counts : (old mid new : Counts) → new ≡ mid → mid ≡ record old { quiets = mid.quiets } → new ≡ record old { quiets = new.quiets }
quiet_counts old mid new same quiet = subst (λ (n : Counts). n ≡ record old { quiets = n.quiets }) (sym same) quiet

rose_earlier : (old mid new : ℕ) → old ≤ mid → Rose mid new → Rose old new
rose_earlier old mid new kept rose = omega (arith, kept, rose)

own_turn : (fresh : Type 0) (stop : Bool) (cause : EndCause) (old new : Counts) → IsOwn cause → CountsTurn fresh stop (Ended cause) old new
own_turn fresh stop end_is.PeerEnd old new own = absurd own
own_turn fresh stop end_is.PeerFault old new own = absurd own
own_turn fresh stop (end_is.LoginRefused code) old new own = tt
own_turn fresh stop (end_is.BadFrame at code) old new own = tt
own_turn fresh stop (end_is.NoReply tag sent now) old new own = tt
own_turn fresh stop end_is.Disk old new own = tt
own_turn fresh stop end_is.Full old new own = tt
own_turn fresh stop end_is.Memory old new own = tt
own_turn fresh stop end_is.Bye old new own = tt
own_turn fresh stop end_is.Closed old new own = absurd own
own_turn fresh stop (end_is.Budget taken) old new own = tt
own_turn fresh stop (end_is.QuietLimit turns) old new own = tt

end_turn : (fresh : Type 0) (stop : Bool) (cause : EndCause) (old mid new : Counts) → old.faults ≤ mid.faults → CountsEnd stop cause mid new → CountsTurn fresh stop (Ended cause) old new
end_turn fresh stop end_is.PeerEnd old mid new kept counts = absurd counts
end_turn fresh stop end_is.PeerFault old mid new kept counts = rose_earlier old.faults mid.faults new.faults kept counts
end_turn fresh stop (end_is.LoginRefused code) old mid new kept counts = tt
end_turn fresh stop (end_is.BadFrame at code) old mid new kept counts = tt
end_turn fresh stop (end_is.NoReply tag sent now) old mid new kept counts = tt
end_turn fresh stop end_is.Disk old mid new kept counts = tt
end_turn fresh stop end_is.Full old mid new kept counts = tt
end_turn fresh stop end_is.Memory old mid new kept counts = tt
end_turn fresh stop end_is.Bye old mid new kept counts = tt
end_turn fresh stop end_is.Closed old mid new kept counts = counts
end_turn fresh stop (end_is.Budget taken) old mid new kept counts = tt
end_turn fresh stop (end_is.QuietLimit turns) old mid new kept counts = tt

module _ {C : Type 0} (s amid : Session C) (next : Wish) where
  abbrev There : Option EndCause
  There = cause_in next amid.phase

  none_there : {T : Type 0} (cause : EndCause) → There ≡ Some cause → There ≡ None → T
  none_there cause is none = absurd (let e : Some cause ≡ None = sym is ∙ none in cc)

  -- it goes on behind what it heard
  on_heard : (heard : ℕ) (stop : Bool) (given : Given) (old mid : Course) (new : Counts) → HearsSo old given mid → EndsBy s given next amid → There ≡ None → new ≡ mid.counts → stop ≡ false
      → heard ≡ length (heard_by given) → CountsTurn (IsFresh s) stop (On heard) old.counts new
  on_heard heard stop (given_is.Heard octets) old mid new h ends none same go many =
      (go, same_counts old.counts new (same ∙ h.1), inr (inl (subst (λ (n : ℕ). 0 < n) (sym many) h.0)))
  on_heard heard stop given_is.Quiet old mid new h ends none same go many =
      (go, quiet_counts old.counts mid.counts new same h.counts.same, inr (inr (subst (λ (c : Counts). Rose old.counts.quiets c.quiets) (sym same) h.counts.quiets)))
  on_heard heard stop given_is.End old mid new h ends none same go many = none_there end_is.PeerEnd ends none
  on_heard heard stop given_is.Fault old mid new h ends none same go many = none_there end_is.PeerFault ends none
  on_heard heard stop given_is.Starved old mid new h ends none same go many = none_there end_is.Memory ends none
  on_heard heard stop given_is.Begin old mid new h ends none same go many = absurd h
  on_heard heard stop given_is.Said old mid new h ends none same go many = absurd h
  on_heard heard stop given_is.SayFault old mid new h ends none same go many = absurd h
  on_heard heard stop (given_is.Answered outcome) old mid new h ends none same go many = absurd h
  on_heard heard stop given_is.Passed old mid new h ends none same go many = absurd h
  on_heard heard stop (given_is.Taken outcome) old mid new h ends none same go many = absurd h
  on_heard heard stop given_is.Stop old mid new h ends none same go many = absurd h

  on_first : (heard : ℕ) (fresh stop : Bool) (given : Given) (old mid : Course) (new : Counts) → (fresh ≡ true → IsFresh s) → BeginsWith fresh stop given old mid → EndsBy s given next amid → There ≡ None
      → new ≡ mid.counts → stop ≡ false → heard ≡ length (heard_by given) → CountsTurn (IsFresh s) stop (On heard) old.counts new
  on_first heard true stop given old mid new is b ends none same go many = (go, same_counts old.counts new (same ∙ ap (λ (c : Course). c.counts) b.1), inl (is refl))
  on_first heard false true given old mid new is b ends none same go many = absurd (false≢true (sym go))
  on_first heard false false given old mid new is b ends none same go many = on_heard heard false given old mid new b ends none same go many

  -- what it heard ended it
  own_of : (cause : EndCause) → There ≡ Some cause → IfSome There IsOwn → IsOwn cause
  own_of cause is own = subst (λ (o : Option EndCause). IfSome o IsOwn) is own

  this_cause : (cause why : EndCause) → There ≡ Some cause → There ≡ Some why → why ≡ cause
  this_cause cause why is there = let e : Some why ≡ Some cause = sym there ∙ is in cc

  ended_heard : (cause : EndCause) (given : Given) (old mid : Course) (new : Counts) → HearsSo old given mid → EndsBy s given next amid → There ≡ Some cause → new ≡ mid.counts
      → CountsTurn (IsFresh s) false (Ended cause) old.counts new
  ended_heard cause (given_is.Heard octets) old mid new h ends is same = own_turn (IsFresh s) false cause old.counts new (own_of cause is ends)
  ended_heard cause given_is.Quiet old mid new h ends is same = own_turn (IsFresh s) false cause old.counts new (own_of cause is ends)
  ended_heard cause given_is.End old mid new h ends is same =
      subst (λ (c : EndCause). CountsTurn (IsFresh s) false (Ended c) old.counts new) (this_cause cause end_is.PeerEnd is ends)
      (ap (λ (c : Counts). c.ended) same ∙ ap (λ (c : Course). c.counts.ended) h.same)
  ended_heard cause given_is.Fault old mid new h ends is same =
      subst (λ (c : EndCause). CountsTurn (IsFresh s) false (Ended c) old.counts new) (this_cause cause end_is.PeerFault is ends)
      (subst (λ (c : Counts). Rose old.counts.faults c.faults) (sym same) (fault_rose old mid h.0 h.1))
  ended_heard cause given_is.Starved old mid new h ends is same =
      subst (λ (c : EndCause). CountsTurn (IsFresh s) false (Ended c) old.counts new) (this_cause cause end_is.Memory is ends) tt
  ended_heard cause given_is.Begin old mid new h ends is same = absurd h
  ended_heard cause given_is.Said old mid new h ends is same = absurd h
  ended_heard cause given_is.SayFault old mid new h ends is same = absurd h
  ended_heard cause (given_is.Answered outcome) old mid new h ends is same = absurd h
  ended_heard cause given_is.Passed old mid new h ends is same = absurd h
  ended_heard cause (given_is.Taken outcome) old mid new h ends is same = absurd h
  ended_heard cause given_is.Stop old mid new h ends is same = absurd h

  ended_first : (cause : EndCause) (fresh stop : Bool) (given : Given) (old mid : Course) (new : Counts) → BeginsWith fresh stop given old mid → EndsBy s given next amid → There ≡ Some cause → new ≡ mid.counts
      → CountsTurn (IsFresh s) stop (Ended cause) old.counts new
  ended_first cause true stop given old mid new b ends is same =
      own_turn (IsFresh s) stop cause old.counts new (own_of cause is (subst (λ (g : Given). EndsBy s g next amid) b.0 ends))
  ended_first cause false true given old mid new b ends is same =
      subst (λ (c : EndCause). CountsTurn (IsFresh s) true (Ended c) old.counts new) (this_cause cause end_is.Closed is (subst (λ (g : Given). EndsBy s g next amid) b.0 ends)) refl
  ended_first cause false false given old mid new b ends is same = ended_heard cause given old mid new b ends is same

  pub counts_turn : (fresh stop : Bool) (given : Given) (end : Option EndCause) (turned : Turned) (old mid : Course) (new : Counts) → (fresh ≡ true → IsFresh s) → BeginsWith fresh stop given old mid
      → old.counts.faults ≤ mid.counts.faults → EndsBy s given next amid → CountsCause stop There end mid.counts new → IsToStop stop end → IsTurned given end turned
      → CountsTurn (IsFresh s) stop turned old.counts new
  counts_turn fresh stop given None (On heard) old mid new is b kept ends counts go turned = on_first heard fresh stop given old mid new is b ends counts.0 counts.1 go turned
  counts_turn fresh stop given None (Ended cause) old mid new is b kept ends counts go turned = absurd turned
  counts_turn fresh stop given (Some cause) (On heard) old mid new is b kept ends counts go turned = absurd turned
  counts_turn fresh stop given (Some cause) (Ended why) old mid new is b kept ends counts go turned =
      subst (λ (c : EndCause). CountsTurn (IsFresh s) stop (Ended c) old.counts new) (sym turned)
      (elim counts [
        | inl there ↦ ended_first cause fresh stop given old mid new b ends there.0 there.1
        | inr later ↦ end_turn (IsFresh s) stop cause old.counts mid.counts new kept later.1
      ])
