-- No record begins another.
use Rattle.std.proofs.Common.{◌≡◌, ℕ, List, ◌++◌}
use Rattle.exact_octets.proofs.Fronts.{one_first}
use Rattle.sms_record.specs.declared.sms.Sms.{Sms}
use Rattle.sms_record.specs.Record.{IsSms, sms_octets}
use Rattle.sms_record.proofs.Messages.{sms_reads}

-- octets that begin with two records begin with one
pub one_record : (a b : Sms) (x y : List ℕ) → IsSms a → IsSms b → sms_octets a ++ x ≡ sms_octets b ++ y → (a ≡ b) × (x ≡ y)
one_record = one_first sms_reads
