use Rattle.std.proofs.Common.{◌≡◌, true, false, get_or, sym, ap, ◌∙◌}
use Rattle.httparse.specs.Spans.{header_bytes}
use Rattle.httparse.specs.declared.spans.HeaderSpan.{HeaderSpan}
use Rattle.http_text.specs.HeadSteps.{is_in}
use Rattle.http_text.proofs.Fields.{list_any-found, list_any-passed, list_any-whole, same_field}
use Rattle.http_text.proofs.head.fields.is_announced.Goals as goal

abbrev no_span : HeaderSpan
no_span = record { name = record { start = 0; end = 0 }; value = record { start = 0; end = 0 } }

pub returns-then-is_in : goal.returns-then-is_in
returns-then-is_in c =
    let test = is_in c.args.sign in
    let here : test (header_bytes c.args.octets.now (get_or c.args.fields.now c.loop-field.field-index no_span)) ≡ true =
    sym (c.if-is_in.ensures ∙ ap test (same_field _ _ c.of.ensures c.of-in-loop-field.ensures)) in
    sym (list_any-found test (header_bytes c.args.octets.now) c.args.fields.now c.loop-field.field-index no_span c.loop-field-test.true here)

pub loop-field-preserved : goal.loop-field-preserved
loop-field-preserved c =
    let test = is_in c.args.sign in
    let here : test (header_bytes c.args.octets.now (get_or c.args.fields.now c.loop-field.field-index no_span)) ≡ false =
    sym (c.if-is_in.ensures ∙ ap test (same_field _ _ c.of.ensures c.of-in-loop-field.ensures)) in
    list_any-passed test (header_bytes c.args.octets.now) c.args.fields.now c.loop-field.field-index no_span c.loop-field-test.true c.loop-field.invariant here

pub returns : goal.returns
returns c =
    sym (list_any-whole (is_in c.args.sign) (header_bytes c.args.octets.now) c.args.fields.now c.loop-field.field-index c.loop-field-test.false c.loop-field.invariant)
