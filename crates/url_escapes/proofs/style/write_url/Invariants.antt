use Rattle.std.proofs.Common.{◌≡◌, ◌++◌, drop}
use Rattle.std.specs.List.{flat_map}
use Rattle.url_escapes.specs.Style.{url_octet}
use Rattle.url_escapes.proofs.style.write_url.Given as goal

-- what is written and what is left are the whole
abbrev pub invariant-loop-octet : goal.invariant-loop-octet
invariant-loop-octet l = l.out ++ flat_map url_octet (drop l.octet-index l.value) ≡ l.fn.out ++ flat_map url_octet l.value
