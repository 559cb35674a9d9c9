use Rattle.std.proofs.Common.{◌≡◌, ◌∙◌, ℕ, List, sym, Some, None, ap}
use Rattle.std.specs.Prelude.{Option, option_copied}
use Rattle.std.specs.Borrow.{Bor}
use Rattle.smpp_wire.specs.Tlvs.{IsValue}
use Rattle.smpp_link.proofs.Receipts.{value_is}
use Rattle.smpp_link.proofs.receipt.value_of.Goals as goal

-- what is borrowed is the value
borrowed : (value : Option (List ℕ)) (result : Option (Bor (List ℕ))) → IsValue value result → option_copied result ≡ value
borrowed value None is = sym is
borrowed value (Some octets) is = sym is

pub returns : goal.returns
returns c =
    let are = c.requires in
    borrowed _ c.tlv_value.result (c.tlv_value.ensures are.0 are.1 are.2) ∙ value_is c.args.tag c.args.tlvs.now are.0 are.1 are.2
