-- What is read of octets is what their command is heard as.
use Rattle.std.proofs.Common.{◌≡◌, ℕ, ◌≤◌, List, ◌++◌, length, Result, Ok, Err, IfOk, refl, sym, ap, subst, ◌∙◌, arith}
use Rattle.std.proofs.lemmas.List.{length-take}
use Rattle.kn_base.specs.declared.memory.Memory.{Memory}
use Rattle.exact_octets.specs.Fronts.{IsProperFront, BreaksOffAt}
use Rattle.smpp_wire.specs.declared.frame.Frame.TheVariants as answer
use Rattle.smpp_wire.specs.declared.pdu.Pdu.{Pdu}
use Rattle.smpp_wire.specs.Command.{command_of}
use Rattle.smpp_wire.specs.Grammar.{IsFrame as IsWireFrame}
use Rattle.smpp_wire.specs.Answers.{IsReadAs as IsFramedAs}
use Rattle.link_core.specs.declared.heard.Heard.{Heard}
use Rattle.link_core.specs.declared.framed.Framed.{Framed}
use Rattle.link_core.specs.declared.framed.Framed.TheVariants as framed
use Rattle.link_core.specs.Grammar.{IsFrame, IsReadAs}
use Rattle.link_core.proofs.Streams.{none_comes}
use Rattle.smpp_link.specs.Hearing.{heard_of, Hears, Refuses}
use Rattle.smpp_link.proofs.Commands.{smpp_grammar}

-- ---- frames of SMPP are what is heard

to_wire : (octets : List ℕ) → IsFrame Hears octets → IsWireFrame octets
to_wire octets is = (is.1.command, is.1.good, is.1.frame_is)

from_wire : (octets : List ℕ) → IsWireFrame octets → IsFrame Hears octets
from_wire octets is = (heard_of is.0, record { command = is.0; good = is.1; frame_is = is.2; heard_is = refl })

front_to : (octets : List ℕ) → IsProperFront (IsFrame Hears) octets → IsProperFront IsWireFrame octets
front_to octets front = record { more = front.more; some = front.some; whole = to_wire (octets ++ front.more) front.whole }

front_from : (octets : List ℕ) → IsProperFront IsWireFrame octets → IsProperFront (IsFrame Hears) octets
front_from octets front = record { more = front.more; some = front.some; whole = from_wire (octets ++ front.more) front.whole }

breaks_from : (octets : List ℕ) (at : ℕ) → BreaksOffAt IsWireFrame octets at → BreaksOffAt (IsFrame Hears) octets at
breaks_from octets at off = record {
  there = off.there;
  begins = front_from _ off.begins;
  ends = λ begun. off.ends (record { more = begun.more; whole = to_wire _ begun.whole });
}

-- ---- answers

pub whole_read : (octets : List ℕ) (pdu : Pdu) (len : ℕ) (said : Heard) → IsFramedAs octets (answer.Whole pdu len) → said ≡ heard_of (command_of pdu) → IsReadAs Hears Refuses octets (framed.Whole said len)
whole_read octets pdu len said r e =
    let there : len ≤ length octets = omega (arith, ap length r.told.2, r.told.1, length-take len octets) in
    record {
      told = (record { command = command_of pdu; good = r.told.0; frame_is = r.told.2; heard_is = e }, there);
      whole = λ x rest said' h parts.
          let same = r.whole h.command rest h.good (parts ∙ ap (λ (t : List ℕ). t ++ rest) h.frame_is) in
          let saying : said ≡ said' = e ∙ ap heard_of same.0 ∙ sym h.heard_is in
          let size : len ≡ length x = same.1 ∙ sym (ap length h.frame_is) in
          ap (λ (s : Heard). framed.Whole s len) saying ∙ ap (λ (n : ℕ). framed.Whole said' n) size;
      need_more = λ front. let other = r.need_more (front_to octets front) in absurd cc;
      bad = λ at code refuses. let other = r.bad refuses.seen refuses.off in let place = refuses.place in absurd cc;
    }

-- the same of what a function answers that may lack memory
pub whole_answered : (octets : List ℕ) (pdu : Pdu) (len : ℕ) (r : Result Framed Memory) → IsFramedAs octets (answer.Whole pdu len) → IfOk r (λ x. x ≡ framed.Whole (heard_of (command_of pdu)) len) → IfOk r (IsReadAs Hears Refuses octets)
whole_answered octets pdu len (Ok x) is told = subst (IsReadAs Hears Refuses octets) (sym told) (whole_read octets pdu len (heard_of (command_of pdu)) is refl)
whole_answered octets pdu len (Err failed) is told = tt

pub more_read : (octets : List ℕ) → IsFramedAs octets answer.NeedMore → IsReadAs Hears Refuses octets framed.NeedMore
more_read octets r = record {
  told = front_from octets r.told;
  whole = λ x rest said h parts. absurd (r.whole h.command rest h.good (parts ∙ ap (λ (t : List ℕ). t ++ rest) h.frame_is));
  need_more = λ front. refl;
  bad = λ at code refuses. let other = r.bad refuses.seen refuses.off in let place = refuses.place in absurd cc;
}

pub bad_read : (octets : List ℕ) (at code : ℕ) → IsFramedAs octets (answer.Bad at code) → IsReadAs Hears Refuses octets (framed.Bad at code)
bad_read octets at code r = record {
  told = (
    none_comes (IsFrame Hears) (λ x y behind behind' is is' e. (smpp_grammar.one x y behind behind' is.0 is'.0 is.1 is'.1 e).0) octets r.told.0 (breaks_from octets r.told.0 r.told.1),
    record { seen = r.told.0; off = r.told.1; place = r.told.2 },
  );
  whole = λ x rest said h parts. absurd (r.whole h.command rest h.good (parts ∙ ap (λ (t : List ℕ). t ++ rest) h.frame_is));
  need_more = λ front. let other = r.need_more (front_to octets front) in absurd cc;
  bad = λ at' code' refuses.
      let other = r.bad refuses.seen refuses.off in
      let place = refuses.place in
      let same : answer.Bad at code ≡ answer.Bad at' code' = other ∙ sym place in
      let a : at ≡ at' = cc in
      let b : code ≡ code' = cc in
      ap (λ (n : ℕ). framed.Bad n code) a ∙ ap (λ (n : ℕ). framed.Bad at' n) b;
}
