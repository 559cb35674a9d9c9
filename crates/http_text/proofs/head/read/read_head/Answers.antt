use Rattle.std.proofs.Common.{◌≡◌, ◌≤◌, true, false, length, arith, subst, refl, sym, ◌∙◌, take_all}
use Rattle.httparse.specs.Grammar.{HasNoRequest, MayBecomeRequest}
use Rattle.httparse.specs.Spans.{IsRequestOf}
use Rattle.http_text.specs.Head as spec
use Rattle.http_text.specs.HeadSteps.{has_too_many_lines}
use Rattle.http_text.proofs.HeadLemmas.{whole_from, complete_from, partial_from}
use Rattle.http_text.proofs.LineCounts.{never_of_many, open_of_few}
use Rattle.http_text.proofs.head.read.read_head.Goals as goal

pub returns-in_ok-head-in-Ok-Complete : goal.returns-in_ok-head-in-Ok-Complete
returns-in_ok-head-in-Ok-Complete c =
    let octets = c.front-looked_at.result.now in
    let spans = c.parse_request.new.headers in
    let complete = complete_from c.in-Ok-Complete.field-0 c.in-Ok-Complete.request (IsRequestOf octets spans) c.in-Ok-Complete.field-0-is c.in-Ok-Complete.ensures.complete in
    let room : length spans ≤ spec.line_limit = omega arith in
    subst (λ octets. spec.IsWhole octets c.in_ok-head-in-Ok-Complete.head c.in-Ok-Complete.request.len) c.front-looked_at.ensures
    (whole_from octets spans c.in-Ok-Complete.request complete.0 c.in_ok-head-in-Ok-Complete.head complete.1 room c.in_ok-head-in-Ok-Complete.ensures)

pub returns-in-Ok-Partial : goal.returns-in-Ok-Partial
returns-in-Ok-Partial c =
    let octets = c.front-looked_at.result.now in
    let none = partial_from c.in-Ok-Partial.field-0 (HasNoRequest octets) c.in-Ok-Partial.field-0-is c.in-Ok-Partial.ensures.partial in
    let many : has_too_many_lines octets ≡ true = sym c.has_too_many_lines.ensures ∙ c.if-has_too_many_lines.true in
    subst spec.NeverHas c.front-looked_at.ensures (never_of_many octets many none)

pub returns-in-Ok-Partial-2 : goal.returns-in-Ok-Partial-2
returns-in-Ok-Partial-2 c =
    let octets = c.front-looked_at.result.now in
    let none = partial_from c.in-Ok-Partial.field-0 (HasNoRequest octets) c.in-Ok-Partial.field-0-is c.in-Ok-Partial.ensures.partial in
    let may = partial_from c.in-Ok-Partial.field-0 (MayBecomeRequest octets) c.in-Ok-Partial.field-0-is c.in-Ok-Partial.ensures.unfinished in
    let few : has_too_many_lines octets ≡ false = sym c.has_too_many_lines.ensures ∙ c.if-has_too_many_lines.false in
    let short : length c.args.octets.now ≤ spec.head_limit = omega arith in
    record {
      few = c.if-octets-lt-HEAD_LIMIT.true;
      open_yet = subst spec.IsOpen (c.front-looked_at.ensures ∙ take_all spec.head_limit c.args.octets.now short) (open_of_few octets few none may);
    }

pub returns-in-Ok-Partial-3 : goal.returns-in-Ok-Partial-3
returns-in-Ok-Partial-3 c =
    let octets = c.front-looked_at.result.now in
    let none = partial_from c.in-Ok-Partial.field-0 (HasNoRequest octets) c.in-Ok-Partial.field-0-is c.in-Ok-Partial.ensures.partial in
    let may = partial_from c.in-Ok-Partial.field-0 (MayBecomeRequest octets) c.in-Ok-Partial.field-0-is c.in-Ok-Partial.ensures.unfinished in
    let few : has_too_many_lines octets ≡ false = sym c.has_too_many_lines.ensures ∙ c.if-has_too_many_lines.false in (
      refl,
      record { many = c.if-octets-lt-HEAD_LIMIT.false; open_yet = subst spec.IsOpen c.front-looked_at.ensures (open_of_few octets few none may) },
    )
