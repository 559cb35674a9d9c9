use Rattle.std.proofs.Common.{◌≡◌, ◌++◌, sym, subst, arith}
use Rattle.std.proofs.lemmas.Result.{on_ok_weaker}
use Rattle.smpp_wire.specs.Grammar.{tlv_of, tlv, AreTlvs}
use Rattle.smpp_wire.proofs.Tlvs.{tlvs_more}
use Rattle.smpp_wire.proofs.tlv.write_tlv.Goals as goal

pub returns-else-is_err-clause-whole : goal.returns-else-is_err-clause-whole
returns-else-is_err-clause-whole c =
    let t = tlv_of c.args.tag c.args.value.now in
    on_ok_weaker c.put_tlv-put.result (λ (e : c.put_tlv-put.new.into ≡ c.args.into.now ++ tlv t) are. subst AreTlvs (sym e) (tlvs_more c.args.into.now t (omega (arith, c.ranges.tag.fits), omega (arith, c.requires)) are)) c.put_tlv-put.ensures.ok
