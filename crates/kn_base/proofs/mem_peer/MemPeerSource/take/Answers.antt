use Rattle.std.proofs.Common.{◌≡◌, ◌+◌, ◌∙◌, ap, sym, arith, drop, length, min, length-drop, inr}
use Rattle.kn_base.specs.Calls.{one_more}
use Rattle.kn_base.specs.Count.{Counts, next_count}
use Rattle.kn_base.specs.Course.{Course}
use Rattle.kn_base.specs.Script.{Script, some_answers}
use Rattle.kn_base.specs.MemCourse.{mem_course, mem_counts}
use Rattle.kn_base.specs.MemPeer.{answers_left}
use Rattle.kn_base.specs.declared.mem_take.MemTake.TheVariants.{Bytes}
use Rattle.kn_base.proofs.MemPeers.{next_octets, octets_next, takes_now}
use Rattle.kn_base.proofs.mem_peer.MemPeerSource.take.Goals as goal

pub returns-in-Ok : goal.returns-in-Ok
returns-in-Ok c =
    let p = c.leave_used_up.new.self in
    let rest = some_answers (drop 1 p.answers.items) in
    let octets = c.as_slice.result.now in
    let into = c.hear.new.into in
    let n = c.in-Ok.count in
    let heard = c.in-Ok.ensures in
    let script = c.leave_used_up.ensures.script in
    let next = next_octets p.at n p.answers.items c.in-Some.field-0.now octets c.in-Some.ensures.item.3.0 c.in-Some.ensures.lookup
    (c.in-Some-Bytes.field-0-is ∙ ap Bytes (sym (c.as_slice.ensures ∙ c.in-Some-Bytes.octets-is))) c.leave_used_up.ensures.ready in
    let count : n ≡ min (length into) (length (drop p.at octets)) = omega (arith, heard.count, c.hear.auto.into) in
    let calls : p.calls ≡ one_more c.args.self.now.calls = ap (λ (s : Script). s.calls) script ∙ c.next_fails-fails.ensures.counted in
    record {
      takes = takes_now (mem_counts p) n (drop p.at octets) (answers_left p.at p.answers.items) (answers_left (p.at + n) p.answers.items) rest
          p.pieces.items c.hear.new.pieces.items into (mem_course c.args.self.now) c.leave_used_up.ensures.course p.ends_empty next.1 next.2
          (omega (arith, length-drop p.at octets, next.0)) (omega (arith, c.hear.auto.into)) count heard.octets heard.ok;
      script = record {
        goes = λ fails. let so = c.if-fails.ensures.fails.1 fails in cc;
        octets = drop p.at octets;
        rest = rest;
        next = sym (ap (λ (s : Script). s.answers) script) ∙ next.1;
        count = heard.count;
        script = cc (next.2, calls);
      };
    }

pub returns-in-Err-clause-script : goal.returns-in-Err-clause-script
returns-in-Err-clause-script c =
    let p = c.leave_used_up.new.self in
    let octets = c.as_slice.result.now in
    let script = c.leave_used_up.ensures.script in
    let next = next_octets p.at 0 p.answers.items c.in-Some.field-0.now octets c.in-Some.ensures.item.3.0 c.in-Some.ensures.lookup
    (c.in-Some-Bytes.field-0-is ∙ ap Bytes (sym (c.as_slice.ensures ∙ c.in-Some-Bytes.octets-is))) c.leave_used_up.ensures.ready in
    let counts : mem_counts p ≡ mem_counts c.args.self.now = ap (λ (k : Course). k.counts) c.leave_used_up.ensures.course in
    let answers = ap (λ (s : Script). s.answers) script in
    let calls : p.calls ≡ one_more c.args.self.now.calls = ap (λ (s : Script). s.calls) script ∙ c.next_fails-fails.ensures.counted in
    inr (
      octets_next (drop p.at octets) _ _ (sym answers ∙ next.1),
      record {
        goes = λ fails. let so = c.if-fails.ensures.fails.1 fails in cc;
        script = cc (answers, calls);
        counts = ap (λ n. record (mem_counts p) { starved = n }) c.raised-self-in-Err.ensures.value ∙ ap (λ (k : Counts). record k { starved = next_count k.starved }) counts;
      },
    )
