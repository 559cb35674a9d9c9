use Rattle.std.proofs.Common.{◌≡◌, ◌++◌, map, drop}
use Rattle.url_escapes.specs.Value.{tilde_octet}
use Rattle.url_escapes.proofs.words.write_tilded.Given as goal

-- what is written and what is left are the whole
abbrev pub invariant-loop-octet : goal.invariant-loop-octet
invariant-loop-octet l = l.out ++ map tilde_octet (drop l.octet-index l.word) ≡ l.fn.out ++ map tilde_octet l.word
