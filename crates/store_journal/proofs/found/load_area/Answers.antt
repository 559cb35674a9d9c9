use Rattle.std.proofs.Common.{List, ℕ, refl, arith, ap, ◌∙◌, ◌≡◌, subst, drop, length}
use Rattle.store_journal.specs.Area.{gate_place, payloads_in, IsText}
use Rattle.store_journal.proofs.Texts.{place_within}
use Rattle.store_journal.proofs.Bearing.{kept_read, stood_read}
use Rattle.store_journal.proofs.found.load_area.Goals as goal

pub returns-in-Ok-clause-found : goal.returns-in-Ok-clause-found
returns-in-Ok-clause-found g c = λ birth.
    let octets = c.in_ok-octets.octets.items in
    let meaning = g.D.Disk.meaning in
    let before = g.D.Disk.meaning.story c.args.disk.now in
    let payloads = payloads_in (drop 16 octets) in
    let text : IsText octets c.in-Ok.birth payloads = subst (λ (l : List ℕ). IsText l c.in-Ok.birth (payloads_in (drop 16 l))) c.deref.ensures.value c.in-Ok.ensures.text in
    let end : c.in-Ok.end ≡ gate_place payloads = c.in-Ok.ensures.end ∙ ap (λ (l : List ℕ). gate_place (payloads_in (drop 16 l))) c.deref.ensures.value in
    record {
      small = text.small;
      sizes = text.sizes;
      left = refl;
      first = refl;
      place = omega (arith, place_within octets c.in-Ok.birth payloads text);
      end = end;
      bounded = omega (arith, end, place_within octets c.in-Ok.birth payloads text, c.deref.ensures.len, ap length c.deref.ensures.value, c.in_ok-octets.octets.small);
      kept = kept_read meaning.tells before (g.D.Disk.meaning.story c.read_whole.new.disk) c.args.area octets c.in-Ok.birth payloads c.in_ok-octets.ensures.kept text c.requires.picks c.requires.rest c.in_ok-octets.ensures.octets;
      stood = stood_read meaning.tells before c.args.area octets birth c.in-Ok.birth payloads text c.requires.picks c.in_ok-octets.ensures.octets;
    }
