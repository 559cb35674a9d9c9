use Rattle.std.proofs.Common.{sym, subst}
use Rattle.std.proofs.lemmas.Result.{on_ok_weaker}
use Rattle.smpp_wire.specs.Command.{fields_of}
use Rattle.fake_centre.specs.Saying.{AreFrames, command_with}
use Rattle.fake_centre.proofs.Commands.{frames_more}
use Rattle.fake_centre.proofs.saying.put_command.Goals as goal

pub returns-clause-frames : goal.returns-clause-frames
returns-clause-frames c =
    let command = command_with c.args.id c.args.status c.args.sequence (fields_of c.args.body.now) in
    on_ok_weaker c.write_pdu.result (λ said. subst AreFrames (sym said) (frames_more c.args.into.now command c.requires.frames c.requires.good)) c.write_pdu.ensures.ok
