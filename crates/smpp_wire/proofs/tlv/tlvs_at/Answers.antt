use Rattle.std.proofs.Common.{arith}
use Rattle.std.proofs.lemmas.Result.{err_from_is_err_and}
use Rattle.smpp_wire.specs.declared.room.Room.TheVariants.{Tlvs}
use Rattle.smpp_wire.proofs.Rooms.{fits_means}
use Rattle.smpp_wire.proofs.Tlvs.{tlvs_whole, tlvs_failed}
use Rattle.smpp_wire.proofs.tlv.tlvs_at.Goals as goal

pub returns-in_err-behind_tlvs-clause-gives : goal.returns-in_err-behind_tlvs-clause-gives
returns-in_err-behind_tlvs-clause-gives c =
    let p = err_from_is_err_and c.from_residual.result c.from_residual.ensures.1 in
    rw (p.1, p.2) (tlvs_failed c.in_err-behind_tlvs.field-0.0 c.args.left c.args.octets.now c.in_err-behind_tlvs.ensures.gives)

pub split_at-requires : goal.split_at-requires
split_at-requires c = (tlvs_whole c.args.left c.args.octets.now _ (fits_means Tlvs c.args.left c.requires) (λ i. omega (arith, c.type_inv.octets i)) c.in_ok-behind_tlvs.ensures.gives).0

pub returns-clause-gives : goal.returns-clause-gives
returns-clause-gives c = rw (c.split_at.ensures.front, c.split_at.ensures.back) (tlvs_whole c.args.left c.args.octets.now _ (fits_means Tlvs c.args.left c.requires) (λ i. omega (arith, c.type_inv.octets i)) c.in_ok-behind_tlvs.ensures.gives).1
