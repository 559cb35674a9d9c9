use Rattle.std.proofs.Common.{◌≡◌, ◌∙◌, refl, rules, sym, ap, subst, Some}
use Rattle.std.specs.Str.Lines.{lines}
use Rattle.config_lines.specs.FilesSteps.{PutsLine}
use Rattle.std.proofs.lemmas.Result.{on_ok_weaker}
use Rattle.config_lines.proofs.Reading.{one_name, included_none, included_some, line_some, line_none, one_line, no_line, lines_none}
use Rattle.config_lines.proofs.read.+reading.Goals as goal

pub add_included-returns-then-levels-eq0-clause-read : goal.add_included-returns-then-levels-eq0-clause-read
add_included-returns-then-levels-eq0-clause-read g t c =
    included_none (g.S.Shelf.files c.args.shelf.now) c.args.levels c.args.name.now c.args.read.now c.if-levels-eq0.true

pub add_included-returns-clause-read : goal.add_included-returns-clause-read
add_included-returns-clause-read g t c = on_ok_weaker c.add_file.result
    (included_some (g.S.Shelf.files c.args.shelf.now) c.args.levels c.args.name.now c.args.read.now c.add_file.new.read c.if-levels-eq0.false)
    c.add_file.ensures.read

pub add_line-returns-in-None-clause-read : goal.add_line-returns-in-None-clause-read
add_line-returns-in-None-clause-read g t c =
    line_none (g.S.Shelf.files c.args.shelf.now) c.args.levels c.args.file c.args.number c.args.octets.now c.args.read.now c.put_line.new.read
    (λ include. subst (PutsLine include c.args.file c.args.number c.args.octets.now c.args.read.now c.put_line.new.read) c.in-None.is (c.in_ok-name.ensures.puts include))

pub add_line-returns-in-Some-clause-read : goal.add_line-returns-in-Some-clause-read
add_line-returns-in-Some-clause-read g t c = on_ok_weaker c.add_included.result
    (line_some (g.S.Shelf.files c.args.shelf.now) c.args.levels c.args.file c.args.number c.args.octets.now c.args.read.now
    c.as_slice.result.now c.put_line.new.read c.add_included.new.read
    (λ include. subst (PutsLine include c.args.file c.args.number c.args.octets.now c.args.read.now c.put_line.new.read) (c.in-Some.is ∙ ap Some (sym c.as_slice.ensures)) (c.in_ok-name.ensures.puts include)))
    c.add_included.ensures.read

pub add_text-returns-then-is_empty-clause-read : goal.add_text-returns-then-is_empty-clause-read
add_text-returns-then-is_empty-clause-read g t c =
    no_line (g.S.Shelf.files c.args.shelf.now) c.args.levels c.args.file c.loop.number (lines c.args.text.now) c.args.read.now c.loop.read
    (lines c.loop.rest.now) (lines_none c.loop.rest.now (search rules)) c.loop.invariant.read

pub add_text-returns-clause-read : goal.add_text-returns-clause-read
add_text-returns-clause-read g t c =
    no_line (g.S.Shelf.files c.args.shelf.now) c.args.levels c.args.file c.loop.number (lines c.args.text.now) c.args.read.now c.loop.read
    (lines c.loop.rest.now) (lines_none c.loop.rest.now (search rules)) c.loop.invariant.read

pub add_text-loop-preserved : goal.add_text-loop-preserved
add_text-loop-preserved g t c = record {
  files = search rules;
  kept = search rules;
  missed = search rules;
  not_fewer = search rules;
  asks = search rules;
  spared = search rules;
  left = search rules;
  number = search rules;
  read = one_line (g.S.Shelf.files c.args.shelf.now) c.args.levels c.args.file c.loop.number (lines c.args.text.now) c.args.read.now c.loop.read
      (lines c.loop.rest.now) (lines c.cut_line.result.1.now) c.cut_line.result.0.now c.add_line.new.read c.cut_line.ensures.lines
      (search rules) (search rules) (search rules) c.loop.invariant.read;
}

pub add_file-returns-in-Ok-clause-went : goal.add_file-returns-in-Ok-clause-went
add_file-returns-in-Ok-clause-went g t c =
    let asked = one_name (g.S.Shelf.asked c.args.shelf.now) (g.S.Shelf.asked c.file.new.self) c.args.read.now c.push.new.self c.args.name.now (search rules) c.file.ensures.asked in
    let same : g.S.Shelf.faults c.file.new.self ≡ g.S.Shelf.faults c.args.shelf.now = search rules in
    let went = c.add_text.ensures.went in
    record {
      kept = went.kept ∙ c.file.ensures.files;
      asks = on_ok_weaker c.add_text.result (λ asks before tells. asks before (asked before tells)) went.asks;
      spared = on_ok_weaker c.add_text.result (λ spared none. spared none ∙ same) went.spared;
      not_fewer = search rules;
      missed = search rules;
      files = search rules;
    }

pub add_file-returns-in-Err-Failed-clause-went : goal.add_file-returns-in-Err-Failed-clause-went
add_file-returns-in-Err-Failed-clause-went g t c = record {
  kept = c.file.ensures.files;
  asks = one_name (g.S.Shelf.asked c.args.shelf.now) (g.S.Shelf.asked c.file.new.self) c.args.read.now c.push.new.self c.args.name.now (search rules) c.file.ensures.asked;
  spared = λ none. absurd (none refl);
  not_fewer = search rules;
  missed = search rules;
  files = search rules;
}
