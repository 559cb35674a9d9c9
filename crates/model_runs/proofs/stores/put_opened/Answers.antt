use Rattle.std.proofs.Common.{◌≡◌, ◌∙◌, ap, arith, length}
use Rattle.gate_store.proofs.Keeping.{may_come_up}
use Rattle.gate_store.specs.Store.{rules_in, state_in}
use Rattle.route_rules.specs.declared.rules.Rules.{Rules}
use Rattle.model_runs.proofs.stores.put_opened.Goals as goal

pub come_up-requires-clause-may : goal.come_up-requires-clause-may
come_up-requires-clause-may g c =
    let store = c.args.store in
    let links : c.len.result ≡ length (rules_in store).links = c.len.ensures ∙ ap (λ (r : Rules). length r.links) c.rules.ensures in
    may_come_up (rules_in store) (state_in store) 0 c.requires.down (omega (arith, c.if-len-lt1.false, links, c.requires.kept.2.whole.ups))
