-- Reading files: what was read earlier agrees with the same missing file as what is read later, and each step of reading.
use Rattle.std.proofs.Common.{◌≡◌, ◌∙◌, refl, sym, ap, subst, ℕ, zero, suc, ◌+◌, ◌-◌, ◌≤◌, arith, List, [], ◌∷◌, ◌++◌, append_assoc, length, Option, Some, None, IfSome}
use Rattle.std.proofs.lemmas.List.{append-nil}
use Rattle.std.specs.Str.Lines.{lines}
use Rattle.kn_base.specs.Shelf.{AsksFor}
use Rattle.config_lines.specs.Files.{ended, going_on, lines_into, include_at, files_into, lines_of, missing_by, most_levels, none_read, texts_but}
use Rattle.config_lines.specs.FilesSteps.{IsBehind, AgreesBy, Agrees, PutsLine, ReadsFile, ReadsIncluded, ReadsLine, ReadsText, TellsOf}
use Rattle.config_lines.specs.declared.read.Read.{Read}
use Rattle.config_lines.specs.declared.read.LinesFault.{LinesFault}
use Rattle.config_lines.specs.declared.read.LinesFault.TheVariants as faults

behind_fewer : (files more : ℕ) (missing : Option ℕ) → files ≤ more → IsBehind more missing → IsBehind files missing
behind_fewer files more None within behind = tt
behind_fewer files more (Some number) within behind = omega arith

behind_agreeing : (fault : Option LinesFault) (files : ℕ) (missing : Option ℕ) → AgreesBy fault files missing → IsBehind files missing
behind_agreeing None files missing agrees = agrees
behind_agreeing (Some faults.NoFile) files missing agrees = subst (IsBehind files) (sym agrees) (omega arith)
behind_agreeing (Some (faults.NoLine file line)) files missing agrees = agrees
behind_agreeing (Some faults.TooDeep) files missing agrees = agrees

pub agrees_before : (old new : Read) (missing : Option ℕ) → old.fault ≡ None → old.files ≤ new.files → Agrees new missing → Agrees old missing
agrees_before old new missing going fewer agrees =
    subst (λ fault. AgreesBy fault old.files missing) (sym going) (behind_fewer old.files new.files missing fewer (behind_agreeing new.fault new.files missing agrees))

-- what holds of all holds of what there is, and what follows from one or two facts of it
IfSome-all : {X : Type 0} (x : Option X) (P : X → Type 0) → ((y : X) → P y) → IfSome x P
IfSome-all None P f = tt
IfSome-all (Some y) P f = f y

IfSome-weaker : {X : Type 0} (x : Option X) (P Q : X → Type 0) → ((y : X) → P y → Q y) → IfSome x P → IfSome x Q
IfSome-weaker None P Q f p = tt
IfSome-weaker (Some y) P Q f p = f y p

IfSome-both : {X : Type 0} (x : Option X) (P Q R : X → Type 0) → ((y : X) → P y → Q y → R y) → IfSome x P → IfSome x Q → IfSome x R
IfSome-both None P Q R f p q = tt
IfSome-both (Some y) P Q R f p q = f y p q

-- no octets are no lines
pub lines_none : (text : List ℕ) → length text ≡ 0 → lines text ≡ []
lines_none [] none = refl
lines_none (first ∷ rest) none = absurd (omega arith)

-- where the reading goes nowhere, it stays
going_nowhere : (fault : Option LinesFault) (read : Read) → going_on fault (λ r. r) read ≡ read
going_nowhere None read = refl
going_nowhere (Some fault) read = refl

-- an include at no level is too deep
pub included_none : (files : Option (List (List ℕ × List ℕ))) (levels : ℕ) (name : List ℕ) (read : Read) → levels ≡ 0 → IfSome files (λ all. ReadsIncluded all levels name read (ended faults.TooDeep read))
unfolding include_at
included_none None levels name read none = tt
included_none (Some all) zero name read none = λ missing agrees. refl
included_none (Some all) (suc levels) name read none = absurd (omega arith)

-- and at others a file
pub included_some : (files : Option (List (List ℕ × List ℕ))) (levels : ℕ) (name : List ℕ) (old new : Read) → (levels ≡ 0 → ⊥) → IfSome files (λ all. ReadsFile all (levels - 1) name old new) → IfSome files (λ all. ReadsIncluded all levels name old new)
unfolding include_at
included_some None levels name old new some reads = tt
included_some (Some all) zero name old new some reads = absurd (some refl)
included_some (Some all) (suc levels) name old new some reads =
    let e : suc levels - 1 ≡ levels = omega arith in
    λ missing agrees. reads missing agrees ∙ ap (λ (n : ℕ). files_into (texts_but all missing) n name old) e

module _ (files : Option (List (List ℕ × List ℕ))) (levels file number : ℕ) (octets : List ℕ) (old : Read) where
  -- a line that includes a file
  pub line_some : (name : List ℕ) (mid new : Read) → ((include : List ℕ → Read → Read) → PutsLine include file number octets old mid (Some name)) →
      IfSome files (λ all. ReadsIncluded all levels name mid new) → IfSome files (λ all. ReadsLine all levels file number octets old new)
  line_some name mid new puts reads = IfSome-weaker files _ _ (λ all included missing agrees.
      let include = include_at (texts_but all missing) levels in
      included missing agrees ∙ ap (include name) (puts include).0 ∙ sym (puts include).1) reads

  -- and one that doesn't
  pub line_none : (new : Read) → ((include : List ℕ → Read → Read) → PutsLine include file number octets old new None) → IfSome files (λ all. ReadsLine all levels file number octets old new)
  line_none new puts = IfSome-all files _ (λ all missing agrees. puts (include_at (texts_but all missing) levels))

-- what stands for the whole text is the same for what is left of it
abbrev pub IsSoFar : List (List ℕ × List ℕ) → (levels file number : ℕ) → (whole : List (List ℕ)) (old : Read) (rest : List (List ℕ)) (read : Read) → Type 0
IsSoFar all levels file number whole old rest read = (missing : Option ℕ) → Agrees read missing →
    lines_into (include_at (texts_but all missing) levels) file 1 whole old
    ≡ going_on read.fault (lines_into (include_at (texts_but all missing) levels) file number rest) read

module _ (files : Option (List (List ℕ × List ℕ))) (levels file number : ℕ) (whole : List (List ℕ)) (old read : Read) where
  -- a line more was read
  pub one_line : (lines_left rest : List (List ℕ)) (line : List ℕ) (new : Read) → lines_left ≡ line ∷ rest → read.fault ≡ None → read.files ≤ new.files →
      IfSome files (λ all. ReadsLine all levels file number line read new) →
      IfSome files (λ all. IsSoFar all levels file number whole old lines_left read) → IfSome files (λ all. IsSoFar all levels file (number + 1) whole old rest new)
  unfolding lines_into
  one_line lines_left rest line new cut going fewer reads so_far = IfSome-both files _ _ _ (λ all line_read before missing agrees.
      let include = include_at (texts_but all missing) levels in
      before missing (agrees_before read new missing going fewer agrees)
      ∙ (ap (λ fault. going_on fault (lines_into include file number lines_left) read) going
      ∙ (ap (λ ls. lines_into include file number ls read) cut
      ∙ ap (λ (r : Read). going_on r.fault (lines_into include file (number + 1) rest) r) (sym (line_read missing agrees))))) reads so_far

  -- the text ended
  pub no_line : (lines_left : List (List ℕ)) → lines_left ≡ [] → IfSome files (λ all. IsSoFar all levels file number whole old lines_left read) → IfSome files (λ all. ReadsText all levels file 1 whole old read)
  unfolding lines_into
  no_line lines_left none so_far = IfSome-weaker files _ _ (λ all before missing agrees.
      let include = include_at (texts_but all missing) levels in
      sym (before missing agrees ∙ (ap (λ ls. going_on read.fault (lines_into include file number ls) read) none ∙ going_nowhere read.fault read))) so_far

  -- or the reading did
  pub no_more : (lines_left : List (List ℕ)) (fault : LinesFault) → read.fault ≡ Some fault → IfSome files (λ all. IsSoFar all levels file number whole old lines_left read) → IfSome files (λ all. ReadsText all levels file 1 whole old read)
  no_more lines_left fault is so_far = IfSome-weaker files _ _ (λ all before missing agrees.
      let include = include_at (texts_but all missing) levels in
      sym (before missing agrees ∙ ap (λ f. going_on f (lines_into include file number lines_left) read) is)) so_far

agrees_by_missing : (fault : Option LinesFault) (files : ℕ) → AgreesBy fault files (missing_by fault files)
agrees_by_missing None files = tt
agrees_by_missing (Some faults.NoFile) files = refl
agrees_by_missing (Some (faults.NoLine file line)) files = tt
agrees_by_missing (Some faults.TooDeep) files = tt

-- what was read from nothing are the lines
pub read_from_none : (files : Option (List (List ℕ × List ℕ))) (name : List ℕ) (read : Read) → IfSome files (λ all. ReadsFile all most_levels name none_read read) →
    IfSome files (λ all. read ≡ lines_of all (missing_by read.fault read.files) name)
read_from_none files name read reads = IfSome-weaker files _ _ (λ all of_file. of_file (missing_by read.fault read.files) (agrees_by_missing read.fault read.files)) reads

-- one more name was asked for
pub one_name : (asked asked_now : Option (List (List ℕ))) (old : Read) (names : List (List ℕ)) (name : List ℕ) → names ≡ old.names ++ name ∷ []
    → AsksFor (name ∷ []) asked asked_now → (before : List (List ℕ)) → TellsOf old before asked → IfSome asked_now (λ all. all ≡ before ++ names)
one_name asked asked_now old names name more asks before tells =
    IfSome-weaker asked_now _ _ (λ all is. is ∙ (append_assoc before old.names (name ∷ []) ∙ ap (λ ns. before ++ ns) (sym more))) (asks (before ++ old.names) tells)

-- behind no names the names that were asked for are those that were read
pub asked_from_none : (asked asked_now : Option (List (List ℕ))) (read : Read) → ((before : List (List ℕ)) → TellsOf none_read before asked → TellsOf read before asked_now)
    → AsksFor read.names asked asked_now
asked_from_none asked asked_now read asks before told =
    asks before (IfSome-weaker asked _ _ (λ all is. is ∙ sym (append-nil before)) told)
