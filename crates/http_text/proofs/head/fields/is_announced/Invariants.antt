use Rattle.std.proofs.Common.{◌≡◌, false, map, take}
use Rattle.std.specs.List.{list_any}
use Rattle.httparse.specs.Spans.{header_bytes}
use Rattle.http_text.specs.HeadSteps.{is_in}
use Rattle.http_text.proofs.head.fields.is_announced.Given as goal

-- none so far
abbrev pub invariant-loop-field : goal.invariant-loop-field
invariant-loop-field l = list_any (is_in l.sign) (map (header_bytes l.octets) (take l.field-index l.fields)) ≡ false
