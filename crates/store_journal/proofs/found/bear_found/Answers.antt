use Rattle.std.proofs.Common.{List, ℕ, refl, arith, ap, sym, ◌∙◌, ◌≡◌, [], ◌++◌, drop, length, subst, None}
use Rattle.std.specs.Bool.{OnTrue}
use Rattle.store_journal.specs.Area.{payloads_in, stands, gate_place, area_text}
use Rattle.store_journal.specs.Journal.{OpensAs}
use Rattle.store_journal.specs.Keeping.{IsKeptBy}
use Rattle.store_disk.specs.Story.{reads}
use Rattle.store_disk.specs.declared.area.Area.TheVariants.{A}
use Rattle.store_journal.proofs.Units.{closed_alone}
use Rattle.store_journal.proofs.Texts.{opens_unborn, stored_none}
use Rattle.store_journal.proofs.Bearing.{told_same}
use Rattle.store_journal.proofs.found.bear_found.Goals as goal

pub returns-in_err-extend_from_slice-clause-stops : goal.returns-in_err-extend_from_slice-clause-stops
returns-in_err-extend_from_slice-clause-stops g c = told_same g.D.Disk.meaning.tells c.args.birth _ _ refl

pub returns-clause-found : goal.returns-clause-found
returns-clause-found g c =
    let octets = c.extend_from_slice.new.self.items in
    let are : octets ≡ area_text c.args.birth [] 0 = c.in_ok-extend_from_slice.ensures.items ∙ ap (λ (l : List ℕ). l ++ c.fresh_area.result) c.new-octets.ensures.items ∙ c.fresh_area.ensures in
    let none : payloads_in (drop 16 octets) ≡ [] = ap (λ (l : List ℕ). payloads_in (drop 16 l)) are ∙ closed_alone in
    let before = g.D.Disk.meaning.story c.args.disk.now in
    let now = g.D.Disk.meaning.story c.bear.new.disk in
    record {
      small = c.ranges.birth.fits;
      sizes = stored_none (payloads_in (drop 16 octets)) none;
      left = refl;
      first = refl;
      place = omega (arith, ap length are);
      end = sym (ap gate_place none);
      bounded = omega arith;
      kept = subst (λ (ps : List (List ℕ)). OnTrue g.D.Disk.meaning.tells (IsKeptBy now A c.args.birth ps None)) (sym none) c.in_ok-bear.ensures.kept;
      stood = subst (λ (ps : List (List ℕ)). OnTrue g.D.Disk.meaning.tells (OpensAs (stands (reads before)) c.args.birth c.args.birth A ps)) (sym none) (opens_unborn g.D.Disk.meaning.tells (reads before) c.args.birth c.in_ok-bear.ensures.unborn);
    }
