use Rattle.std.proofs.Common.{◌≡◌, [], ◌+◌, ◌/◌, length, drop, arith, ap, sym, ◌∙◌}
use Rattle.std.proofs.lemmas.List.{drop_all}
use Rattle.gsm_alphabet.specs.Packing.{number_of, octets_for}
use Rattle.gsm_alphabet.specs.Bits.{bits_then, completed}
use Rattle.gsm_alphabet.proofs.PackLemmas.{packed_start, unpacked-packed, packed-lt}
use Rattle.gsm_alphabet.proofs.packing.pack.Goals as goal

whole : goal.returns-clause-octets
whole c =
    let xs = c.args.septets.now in
    let i = c.loop-septet.septet-index in
    let octets = c.loop-septet.octets in
    let waiting = c.loop-septet.waiting in
    let done : drop i xs ≡ [] = drop_all i xs (omega arith) in
    let total : length octets + (waiting.count + 7) / 8 ≡ octets_for (length xs) = omega arith in
    c.in_ok-put_last.ensures
    ∙ ap (λ k. completed 256 k octets (bits_then waiting 0)) total
    ∙ ap (λ l. completed 256 (octets_for (length xs)) octets (bits_then waiting (number_of 128 l))) (sym done)
    ∙ c.loop-septet.invariant.parts

pub loop-septet-init : goal.loop-septet-init
loop-septet-init c = record {
  parts = packed_start _ _ _ _ c.new-octets.ensures c.none-waiting.ensures.bits c.none-waiting.ensures.count;
  count = omega (arith, ap length c.new-octets.ensures);
}

pub returns-clause-octets : goal.returns-clause-octets
returns-clause-octets c = whole c

pub returns-clause-left_over : goal.returns-clause-left_over
returns-clause-left_over c = rw (whole c) (packed-lt c.args.septets.now c.requires)

pub returns-clause-back : goal.returns-clause-back
returns-clause-back c = rw (whole c) (unpacked-packed c.args.septets.now c.requires)
