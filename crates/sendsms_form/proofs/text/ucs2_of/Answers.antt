use Rattle.std.proofs.Common.{◌∙◌, subst}
use Rattle.gsm_alphabet.specs.Charsets.{IsFaultIn}
use Rattle.sendsms_form.proofs.Texts.{ucs2_is, no_ucs2_utf8, no_ucs2_odd}
use Rattle.sendsms_form.proofs.text.ucs2_of.Goals as goal

pub returns-in_ok-to_ucs2-in-Ok : goal.returns-in_ok-to_ucs2-in-Ok
returns-in_ok-to_ucs2-in-Ok c =
    ucs2_is c.args.charset c.args.text.now c.as_str.result.now c.in_ok-to_ucs2-in-Ok.field-0 c.requires c.in-Ok.ensures.is_text
    (c.as_str.ensures.value ∙ c.in-Ok.ensures.text) c.in_ok-to_ucs2-in-Ok.ensures

pub returns-in-Err-BadUtf8 : goal.returns-in-Err-BadUtf8
returns-in-Err-BadUtf8 c =
    no_ucs2_utf8 c.args.charset c.args.text.now c.in-Err-BadUtf8.field-0-0
    (subst (IsFaultIn c.args.charset c.args.text.now) c.in-Err-BadUtf8.field-0-is c.in-Err-BadUtf8.ensures.fault)

pub returns-in-Err-Odd : goal.returns-in-Err-Odd
returns-in-Err-Odd c =
    no_ucs2_odd c.args.charset c.args.text.now c.in-Err-Odd.field-0-0
    (subst (IsFaultIn c.args.charset c.args.text.now) c.in-Err-Odd.field-0-is c.in-Err-Odd.ensures.fault)
