use Rattle.std.proofs.Common.{◌∙◌, arith, length}
use Rattle.std.proofs.lemmas.List.{length-reverse}
use Rattle.std.proofs.lemmas.Result.{IfOk-weaker}
use Rattle.store_disk.specs.MemDisk.{mem_areas, mem_calls, mem_log, mem_story}
use Rattle.store_disk.specs.Stop.{moment_at, stop_choice, stop_moment, stopped_octets}
use Rattle.store_disk.specs.Story.{past_of, up_to}
use Rattle.store_disk.proofs.Stops.{moment_of-told, stopped_image, stopped_reads, unmade}
use Rattle.store_disk.proofs.mem_disk.MemDisk.stopped.Goals as goal

pub returns-clause-octets : goal.returns-clause-octets
returns-clause-octets c =
    IfOk-weaker c.stopped_at.result _ _
    (λ stopped is area. is area ∙ (λ i. stopped_octets (past_of (up_to (c.stop-moment.ensures.moment i) (mem_story c.args.self.now)) area) (c.stop-moment.ensures.choice i)))
    c.stopped_at.ensures.octets

pub returns-clause-image : goal.returns-clause-image
returns-clause-image c =
    IfOk-weaker c.stopped_at.result _ _
    (λ stopped is. stopped_image (mem_story c.args.self.now) (stop_moment c.args.call c.args.self.now) (stop_choice c.args.call c.args.choice c.args.self.now) (mem_areas stopped) is)
    (returns-clause-octets c)

pub returns-clause-since : goal.returns-clause-since
returns-clause-since c =
    IfOk-weaker c.stopped_at.result _ _
    (λ stopped is since le. record {
      moment = stop_moment c.args.call c.args.self.now;
      later = le;
      reached = omega (arith, c.stop-moment.ensures.reached, c.stop-moment.ensures.moment, moment_of-told (mem_log c.args.self.now) (mem_areas c.args.self.now), length-reverse c.args.self.now.log.items);
      image_then = is;
    })
    (returns-clause-image c)

pub returns-clause-unmade : goal.returns-clause-unmade
returns-clause-unmade c = λ le.
    let disk = c.args.self.now in
    IfOk-weaker c.stopped_at.result _ _
    (λ stopped is. stopped_reads (mem_log disk) (mem_areas disk) (mem_areas stopped) (stop_moment c.args.call disk) (stop_choice c.args.call c.args.choice disk) is
    (unmade (mem_calls disk).made c.args.call (moment_at c.args.call (mem_log disk)) (length (mem_log disk)) le)
    (unmade (mem_calls disk).made c.args.call c.args.choice 1 le))
    (returns-clause-octets c)
