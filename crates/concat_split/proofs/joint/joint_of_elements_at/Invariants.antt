use Rattle.std.proofs.Common.{◌≡◌, List}
use Rattle.exact_octets.proofs.Loops.{Filling}
use Rattle.sms_record.specs.Header.{Element, element}
use Rattle.sms_record.specs.HeaderReading.{element_at, elements_at}
use Rattle.concat_split.specs.Joint.{first_joint}
use Rattle.concat_split.proofs.joint.joint_of_elements_at.Given as goal

abbrev pub invariant-loop-left : goal.invariant-loop-left
invariant-loop-left l = (front : List Element) × Filling element_at element (elements_at l.fn.left l.fn.octets) front l.left l.rest × (l.joint ≡ first_joint front)

abbrev pub decreases-loop-left : goal.decreases-loop-left
decreases-loop-left l = l.left
