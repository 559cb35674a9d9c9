use Rattle.gate_model.specs.Gate.{model_of, birth_of, entry_of}
use Rattle.gate_model.proofs.RecordingLemmas.{applied, fewer_jobs, still_room}
use Rattle.gate_model.proofs.gate.Gate.apply.Goals as goal

pub call-requires : goal.call-requires
call-requires c =
    let moved = c.move_by-reply.ensures.state in
    record {
      room = still_room c.args.ready.url _ _ moved.places c.requires.room.job;
      counted = fewer_jobs (entry_of c.args.ready) (model_of c.args.self.now) _ moved.holds c.args.self.now.whole.bounded.last_job;
    }

pub returns-clause-state : goal.returns-clause-state
returns-clause-state c =
    applied (birth_of c.args.ready) (entry_of c.args.ready) c.args.ready.url (model_of c.args.self.now) _ _ c.move_by-reply.ensures.state.holds c.requires.room.url c.call.ensures.state
