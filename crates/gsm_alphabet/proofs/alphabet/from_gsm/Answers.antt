use Rattle.std.proofs.Common.{◌≡◌, false, ◌+◌, ◌++◌, drop, get_or, chars, flat_map, string_bytes, encode_utf8_all, sym, ap, ◌∙◌, arith, append_assoc}
use Rattle.std.proofs.lemmas.List.{drop_all, drop_more}
use Rattle.std.proofs.lemmas.Str.{encodes-append, encodes-chars, encodes_same, IsUtf8-string_bytes}
use Rattle.gsm_alphabet.specs.Alphabet.{text_of, septets_of}
use Rattle.gsm_alphabet.specs.AlphabetSteps.{shown}
use Rattle.gsm_alphabet.proofs.AlphabetLemmas.{text_behind, text_behind-start, text_behind-step, text_behind-end, septets-text_of}
use Rattle.gsm_alphabet.proofs.alphabet.from_gsm.Goals as goal

pub loop-septet-init : goal.loop-septet-init
loop-septet-init c =
    let xs = c.args.septets.now in
    ap (λ l. l ++ encode_utf8_all (text_behind false xs)) c.new-text.ensures.bytes ∙ ap encode_utf8_all (text_behind-start xs)

pub loop-septet-preserved : goal.loop-septet-preserved
loop-septet-preserved c =
    let xs = c.args.septets.now in
    let i = c.loop-septet.septet-index in
    let s = get_or xs i 0 in
    let rest = drop (i + 1) xs in
    let before = string_bytes c.loop-septet.text in
    let behind = c.loop-septet.behind in
    let after = c.in_ok-behind.behind in
    let told = c.in_ok-behind.ensures in
    ap (λ l. l ++ encode_utf8_all (text_behind after rest)) told.text
    ∙ append_assoc before (encode_utf8_all (shown behind s)) (encode_utf8_all (text_behind after rest))
    ∙ ap (λ l. before ++ l) (sym (encodes-append (shown behind s) (text_behind after rest)))
    ∙ ap (λ b. before ++ encode_utf8_all (shown behind s ++ text_behind b rest)) told.escape
    ∙ ap (λ l. before ++ encode_utf8_all l) (sym (text_behind-step behind s rest))
    ∙ ap (λ l. before ++ encode_utf8_all (text_behind behind l)) (sym (drop_more xs i 0 (omega arith)))
    ∙ c.loop-septet.invariant

whole : goal.returns-clause-text
whole c =
    let xs = c.args.septets.now in
    let i = c.loop-septet.septet-index in
    let before = string_bytes c.loop-septet.text in
    let behind = c.loop-septet.behind in
    c.in_ok-push_end.ensures
    ∙ ap (λ l. before ++ encode_utf8_all l) (sym (text_behind-end behind))
    ∙ ap (λ l. before ++ encode_utf8_all (text_behind behind l)) (sym (drop_all i xs (omega arith)))
    ∙ c.loop-septet.invariant

pub returns-clause-text : goal.returns-clause-text
returns-clause-text c = whole c

pub returns-clause-back : goal.returns-clause-back
returns-clause-back c = λ plain.
    let xs = c.args.septets.now in
    let text = c.push_end.new.text in
    let spelled : chars (string_bytes text) ≡ text_of xs = encodes_same _ _ (encodes-chars (string_bytes text) (IsUtf8-string_bytes text) ∙ whole c) in
    ap (flat_map septets_of) spelled ∙ septets-text_of xs c.requires plain
