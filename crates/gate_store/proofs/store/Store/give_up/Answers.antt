use Rattle.std.proofs.Common.{List, ℕ, Result, Ok, refl, ◌∙◌, subst}
use Rattle.gate_entries.specs.declared.cause.Cause.TheVariants.{Expired}
use Rattle.gate_entries.specs.declared.recorded.Recorded.TheVariants as entry
use Rattle.gate_model.specs.declared.reply.Refusal.{Refusal}
use Rattle.gate_model.specs.declared.reply.Reply.{Reply}
use Rattle.gate_store.specs.Deeds.{Performs}
use Rattle.gate_store.proofs.store.Store.give_up.Goals as goal

pub returns : goal.returns
returns g c =
    let new = c.perform.new.self in
    let P : List ℕ → Result Reply Refusal → Type 0 = λ id outcome.
    Performs g.D.Disk.meaning c.args.self.now
    (entry.Rejected (record { message = c.args.message; smsc = id; cause = Expired; time = c.args.now })) outcome new in (
      c.requires.late,
      refl,
      c.in_ok-perform.field-0,
      subst (λ id. P id (Ok c.in_ok-perform.field-0)) (c.in-Ok.ensures ∙ c.link_id.ensures) (subst (λ outcome. P c.in-Ok.smsc outcome) c.in_ok-perform.was c.perform.ensures),
    )
