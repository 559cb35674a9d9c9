use Rattle.std.proofs.Common.{◌≡◌, ◌≢◌, List, ◌≤◌, ◌+◌, ◌*◌, ℕ, Option, Some, length, IfSome}
use Rattle.std.specs.Str.Lines.{lines}
use Rattle.kn_base.specs.Count.{Rose}
use Rattle.config_lines.specs.Files.{going_on, lines_into, include_at, texts_but}
use Rattle.config_lines.specs.FilesSteps.{Agrees, TellsOf}
use Rattle.config_lines.specs.declared.read.LinesFault.TheVariants.{NoFile}
use Rattle.config_lines.proofs.read.+reading.Given as goal

abbrev pub decreases-add_file : goal.decreases-add_file
decreases-add_file g l = 4 * l.levels + 4

abbrev pub decreases-add_text : goal.decreases-add_text
decreases-add_text g l = 4 * l.levels + 3

abbrev pub decreases-add_line : goal.decreases-add_line
decreases-add_line g l = 4 * l.levels + 2

abbrev pub decreases-add_included : goal.decreases-add_included
decreases-add_included g l = 4 * l.levels + 1

-- what is read of the text in all is what is read further of what is left of it, unless the reading ended
abbrev pub invariant-add_text-loop : goal.invariant-add_text-loop
invariant-add_text-loop g l = record {
  files : l.fn.read.files ≤ l.read.files;
  kept : g.S.Shelf.files l.shelf ≡ g.S.Shelf.files l.fn.shelf;
  missed : (l.read.fault ≡ Some NoFile) → Rose (g.S.Shelf.faults l.fn.shelf) (g.S.Shelf.faults l.shelf);
  not_fewer : g.S.Shelf.faults l.fn.shelf ≤ g.S.Shelf.faults l.shelf;
  asks : (before : List (List ℕ)) → TellsOf l.fn.read before (g.S.Shelf.asked l.fn.shelf) → TellsOf l.read before (g.S.Shelf.asked l.shelf);
  spared : (l.read.fault ≢ Some NoFile) → g.S.Shelf.faults l.shelf ≡ g.S.Shelf.faults l.fn.shelf;
  left : length l.rest + l.counter ≤ l.end;
  number : l.number ≤ l.counter + 1;
  read : IfSome (g.S.Shelf.files l.fn.shelf) (λ all. (missing : Option ℕ) → Agrees l.read missing →
      lines_into (include_at (texts_but all missing) l.levels) l.file 1 (lines l.text) l.fn.read
      ≡ going_on l.read.fault (lines_into (include_at (texts_but all missing) l.levels) l.file l.number (lines l.rest)) l.read);
}
