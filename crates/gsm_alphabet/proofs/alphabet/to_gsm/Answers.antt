use Rattle.std.proofs.Common.{◌<◌, flat_map, chars, encode_utf8_all, All, sym, ap, ◌∙◌, map-id, subst}
use Rattle.std.proofs.lemmas.Iterator.{YieldsList-from_chars}
use Rattle.std.proofs.lemmas.Iterator.Consumers.{YieldsList-end}
use Rattle.std.proofs.lemmas.Str.{encodes-chars}
use Rattle.gsm_alphabet.specs.Alphabet.{septets_of, text_of}
use Rattle.gsm_alphabet.proofs.AlphabetLemmas.{septets_small, text_of-septets}
use Rattle.gsm_alphabet.proofs.alphabet.to_gsm.Goals as goal

whole : goal.returns-clause-septets
whole c =
    let end = YieldsList-end (YieldsList-from_chars c.args.text.now c.utf8.text cc) c.loop-c.yielded _ c.loop-c.yielded_by _ _ c.in-None.is c.next.ensures.steps in
    c.loop-c.invariant ∙ ap (flat_map septets_of) (sym (map-id c.loop-c.yielded) ∙ end.0)

pub returns-clause-septets : goal.returns-clause-septets
returns-clause-septets c = whole c

pub returns-clause-small : goal.returns-clause-small
returns-clause-small c = subst (All (λ s. s < 128)) (sym (whole c)) (septets_small (chars c.args.text.now))

pub returns-clause-back : goal.returns-clause-back
returns-clause-back c = λ all.
    ap (λ l. encode_utf8_all (text_of l)) (whole c)
    ∙ ap encode_utf8_all (text_of-septets (chars c.args.text.now) all)
    ∙ encodes-chars c.args.text.now c.utf8.text
