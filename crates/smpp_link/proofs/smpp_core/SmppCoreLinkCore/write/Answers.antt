use Rattle.std.proofs.Common.{sym, subst}
use Rattle.smpp_wire.specs.Command.{fields_of}
use Rattle.smpp_wire.specs.Grammar.{IsOf, row_of}
use Rattle.smpp_link.proofs.Frames.{frame_written}
use Rattle.smpp_link.proofs.smpp_core.SmppCoreLinkCore.write.Goals as goal

pub returns-clause-frame : goal.returns-clause-frame
returns-clause-frame c =
    frame_written (fields_of c.bind.result) c.args.out.now c.write_out.result (subst (IsOf (row_of 9)) (sym c.bind.ensures.fields) c.bind.ensures.good)
    c.requires.may c.requires.tag c.write_out.ensures
