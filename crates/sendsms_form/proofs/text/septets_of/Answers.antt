use Rattle.std.proofs.Common.{◌∙◌, subst}
use Rattle.gsm_alphabet.specs.Charsets.{IsFaultIn}
use Rattle.sendsms_form.proofs.Texts.{septets_are, no_septets_utf8, no_septets_odd}
use Rattle.sendsms_form.proofs.text.septets_of.Goals as goal

pub returns-in_ok-to_gsm-in-Ok : goal.returns-in_ok-to_gsm-in-Ok
returns-in_ok-to_gsm-in-Ok c =
    septets_are c.args.charset c.args.text.now c.as_str.result.now c.in_ok-to_gsm-in-Ok.field-0 c.in-Ok.ensures.is_text
    (c.as_str.ensures.value ∙ c.in-Ok.ensures.text) c.in_ok-to_gsm-in-Ok.ensures.septets

pub returns-in-Err-BadUtf8 : goal.returns-in-Err-BadUtf8
returns-in-Err-BadUtf8 c =
    no_septets_utf8 c.args.charset c.args.text.now c.in-Err-BadUtf8.field-0-0
    (subst (IsFaultIn c.args.charset c.args.text.now) c.in-Err-BadUtf8.field-0-is c.in-Err-BadUtf8.ensures.fault)

pub returns-in-Err-Odd : goal.returns-in-Err-Odd
returns-in-Err-Odd c =
    no_septets_odd c.args.charset c.args.text.now c.in-Err-Odd.field-0-0
    (subst (IsFaultIn c.args.charset c.args.text.now) c.in-Err-Odd.field-0-is c.in-Err-Odd.ensures.fault)
