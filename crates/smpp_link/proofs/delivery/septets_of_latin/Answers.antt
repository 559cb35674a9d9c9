use Rattle.std.proofs.Common.{◌≡◌, ℕ, List, IfOk, flat_map, chars, encode_utf8_all, ap, ◌∙◌, subst, arith}
use Rattle.gsm_alphabet.specs.Alphabet.{septets_of}
use Rattle.smpp_link.proofs.Latin.{latin_characters}
use Rattle.smpp_link.proofs.delivery.septets_of_latin.Goals as goal

pub returns-in-Ok : goal.returns-in-Ok
returns-in-Ok c =
    let octets = c.args.octets.now in
    let bytes : c.as_str.result.now ≡ encode_utf8_all octets = cc (c.as_str.ensures.value, c.in-Ok.ensures.text) in
    let characters : chars c.as_str.result.now ≡ octets = ap chars bytes ∙ latin_characters octets (λ i. omega (arith, c.type_inv.octets i)) in
    subst (λ (xs : List ℕ). IfOk c.to_gsm.result (λ s. s ≡ flat_map septets_of xs)) characters c.to_gsm.ensures.septets
