use Rattle.std.proofs.Common.{◌++◌, [], ◌∷◌, take, get_or, encode_utf8, encode_utf8_all, sym, ap, ◌∙◌, append-nil, arith}
use Rattle.std.proofs.lemmas.List.{take_more}
use Rattle.std.proofs.lemmas.Str.{encodes-append}
use Rattle.gsm_alphabet.proofs.charset_text.latin1_text.Goals as goal

pub loop-octet-preserved : goal.loop-octet-preserved
loop-octet-preserved c =
    let xs = c.args.octets.now in
    let i = c.loop-octet.octet-index in
    let x = get_or xs i 0 in
    let before = encode_utf8_all (take i xs) in
    c.in_ok-push.ensures.bytes
    ∙ ap (λ l. l ++ encode_utf8 c.from.result) c.loop-octet.invariant
    ∙ ap (λ y. before ++ encode_utf8 y) c.from.ensures
    ∙ ap (λ l. before ++ l) (sym (append-nil (encode_utf8 x)))
    ∙ sym (encodes-append (take i xs) (x ∷ []))
    ∙ ap encode_utf8_all (sym (take_more xs i 0 (omega arith)))
