use Rattle.std.proofs.Common.{◌≡◌, drop}
use Rattle.kn_base.specs.Shelf.{text_of}
use Rattle.kn_base.proofs.mem_shelf.text_under.Given as goal

-- the name is not among the files so far
abbrev pub invariant-loop-named : goal.invariant-loop-named
invariant-loop-named l = text_of l.name (drop l.named-index l.files) ≡ text_of l.name l.files
