use Rattle.std.proofs.Common.{sym, ap, ◌∙◌, subst}
use Rattle.std.specs.Prelude.{IsSome, option_copied}
use Rattle.std.proofs.lemmas.Bool.{false≢true}
use Rattle.gate_model.proofs.TakeLemmas.{next_arrival_is_held, next_arrival_may_be_taken}
use Rattle.gate_store.specs.Store.{rules_in, state_in}
use Rattle.gate_store.proofs.store.Store.hand_on.Goals as goal

pub unreachable-requires : goal.unreachable-requires
unreachable-requires g c =
    let old = c.args.self.now in
    let some = next_arrival_is_held (state_in old) c.args.arrival c.requires.kept.2.whole.order c.requires.next in
    false≢true (subst (λ o. IsSome o) (sym c.arrival.ensures ∙ ap option_copied c.in_default.is) some)

pub pass-requires-clause-lawful : goal.pass-requires-clause-lawful
pass-requires-clause-lawful g c =
    let old = c.args.self.now in
    next_arrival_may_be_taken (rules_in old) (state_in old) c.args.arrival c.requires.kept.2.whole.order c.requires.next
