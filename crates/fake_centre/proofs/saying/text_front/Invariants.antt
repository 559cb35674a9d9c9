use Rattle.std.proofs.Common.{◌≡◌, ◌≢◌, ◌≤◌, All, take}
use Rattle.fake_centre.proofs.saying.text_front.Given as goal

-- the octets so far are none of them 00, and not too many
abbrev pub invariant-loop-octet : goal.invariant-loop-octet
invariant-loop-octet l = (l.end ≡ l.octet-index) × (l.end ≤ l.most) × All (λ octet. octet ≢ 0) (take l.end l.octets)
