use Rattle.std.proofs.Common.{◌≡◌, ◌+◌, ◌<◌, [], ◌∷◌, ◌++◌, length, drop, All, append-nil, arith, ap, sym, subst, ◌∙◌}
use Rattle.std.proofs.lemmas.List.{length_push}
use Rattle.gsm_alphabet.specs.Packing.{number_of}
use Rattle.gsm_alphabet.specs.Bits.{bits_then, completed}
use Rattle.gsm_alphabet.proofs.DigitLemmas.{completed_push, completed_full}
use Rattle.gsm_alphabet.proofs.PackLemmas.{unpacked_start, unpacked-small}
use Rattle.gsm_alphabet.proofs.packing.unpack.Goals as goal

whole : goal.returns-clause-septets
whole c =
    sym (append-nil c.loop-waiting.septets)
    ∙ completed_full 128 c.args.count c.loop-waiting.septets (bits_then c.loop-waiting.waiting (number_of 256 (drop c.loop-waiting.next c.args.packed.now))) (omega arith)
    ∙ c.loop-waiting.invariant.parts

pub loop-waiting-init : goal.loop-waiting-init
loop-waiting-init c = record {
  parts = unpacked_start _ _ _ _ _ c.new-septets.ensures c.none-waiting.ensures.bits c.none-waiting.ensures.count;
  bits = omega (arith, ap length c.new-septets.ensures);
  within = omega (arith, ap length c.new-septets.ensures);
}

pub take_septet-taken-requires : goal.take_septet-taken-requires
take_septet-taken-requires c = λ few. omega arith

pub loop-waiting-preserved : goal.loop-waiting-preserved
loop-waiting-preserved c =
    let old = c.loop-waiting.septets in
    let taken = c.take_septet-taken.result in
    let told = c.take_septet-taken.ensures in
    let rest = bits_then taken.waiting (number_of 256 (drop taken.next c.args.packed.now)) in
    let grown : c.push.new.self ≡ old ++ taken.septet ∷ [] = c.in_ok-push.ensures.ok in
    let longer : length c.push.new.self ≡ length old + 1 = ap length grown ∙ length_push old taken.septet in
    record {
      parts = ap (λ l. completed 128 c.args.count l rest) grown
          ∙ completed_push 128 c.args.count old taken.septet rest told.septet (omega arith)
          ∙ ap (completed 128 c.args.count old) told.bits
          ∙ c.loop-waiting.invariant.parts;
      bits = omega arith;
      within = omega arith;
    }

pub returns-clause-septets : goal.returns-clause-septets
returns-clause-septets c = whole c

pub returns-clause-small : goal.returns-clause-small
returns-clause-small c = subst (All (λ x. x < 128)) (sym (whole c)) (unpacked-small c.args.packed.now c.args.count)
