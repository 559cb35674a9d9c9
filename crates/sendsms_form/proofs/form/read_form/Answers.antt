use Rattle.std.proofs.lemmas.Result.{IfOk-weaker}
use Rattle.sendsms_form.specs.declared.form.Form.{Form}
use Rattle.sendsms_form.proofs.Ranges.{form_is}
use Rattle.sendsms_form.proofs.form.read_form.Goals as goal

pub returns-clause-within : goal.returns-clause-within
returns-clause-within c =
    λ user common. IfOk-weaker _ _ _ (λ (form : Form) e. form_is c.args.user.now c.args.common.now c.args.pairs.now form user common e) c.form_as_defined.ensures.form
