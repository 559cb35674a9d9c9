use Rattle.std.proofs.Common.{List}
use Rattle.sms_record.specs.Header.{Element, element}
use Rattle.sms_record.specs.HeaderReading.{element_at, elements_at}
use Rattle.exact_octets.proofs.Loops.{Filling}
use Rattle.sms_record.proofs.header.behind_elements.Given as goal

abbrev pub invariant-loop-left : goal.invariant-loop-left
invariant-loop-left l = (front : List Element) × Filling element_at element (elements_at l.fn.left l.fn.octets) front l.left l.rest

abbrev pub decreases-loop-left : goal.decreases-loop-left
decreases-loop-left l = l.left
