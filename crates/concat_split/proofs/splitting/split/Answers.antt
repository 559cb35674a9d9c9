use Rattle.std.proofs.Common.{Vec, Global}
use Rattle.std.proofs.lemmas.Result.{IfOk-weaker}
use Rattle.concat_split.specs.declared.part.Part.{Part}
use Rattle.concat_split.proofs.Shares.{parts_shared}
use Rattle.concat_split.proofs.Fitting.{parts_fit}
use Rattle.concat_split.proofs.splitting.split.Goals as goal

pub returns-clause-each : goal.returns-clause-each
returns-clause-each c =
    IfOk-weaker _ _ _ (λ (parts : Vec Part Global) e. parts_fit c.args.coding c.args.body.now c.args.udh c.args.limits.now c.requires.udh c.requires.body c.requires.limits parts.items e) c.split_as_defined.ensures.parts

pub returns-clause-kept : goal.returns-clause-kept
returns-clause-kept c =
    IfOk-weaker _ _ _ (λ (parts : Vec Part Global) e. parts_shared c.args.coding c.args.body.now c.args.udh c.args.limits.now c.requires.limits.some parts.items e) c.split_as_defined.ensures.parts
