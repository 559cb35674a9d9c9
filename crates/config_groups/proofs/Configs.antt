-- A configuration that was read from its lines.
use Rattle.std.proofs.Common.{◌≡◌, ◌≢◌, ◌∙◌, ◌⊎◌, inl, inr, refl, sym, ap, subst, ℕ, List, Option, Some, None, Result, Ok, Err, IfOk, IfErr, IfSome}
use Rattle.std.specs.Prelude.{IsErrOf}
use Rattle.kn_base.specs.Count.{Rose}
use Rattle.kn_base.specs.Shelf.{AsksFor}
use Rattle.config_lines.specs.Files.{lines_of, missing_by}
use Rattle.config_lines.specs.declared.read.LinesFault.{LinesFault}
use Rattle.config_lines.specs.declared.read.LinesFault.TheVariants as lines
use Rattle.config_lines.specs.declared.read.Read.{Read}
use Rattle.config_groups.specs.declared.fault.Place.{Place}
use Rattle.config_groups.specs.declared.group.Set.{Set}
use Rattle.config_groups.specs.declared.read.ConfigFault.{ConfigFault}
use Rattle.config_groups.specs.declared.read.ConfigFault.TheVariants as faults
use Rattle.config_groups.specs.declared.settings.Settings.{Settings}
use Rattle.config_groups.specs.Faults.{first_fault}
use Rattle.config_groups.specs.Groups.{groups_of}
use Rattle.config_groups.specs.Missing.{first_missing}
use Rattle.config_groups.specs.Config as spec

abbrev IsRefused : Result Settings ConfigFault → Type 0
IsRefused (Ok settings) = ⊥
IsRefused (Err fault) = Unit {0}

-- another fault than want of memory
abbrev IsOther : ConfigFault → Type 0
IsOther faults.Memory = ⊥
IsOther fault = Unit {0}

abbrev IsNoFile : ConfigFault → Type 0
IsNoFile faults.NoFile = Unit {0}
IsNoFile fault = ⊥

-- the reading of lines ended with the file that could not be had
abbrev IsNoFileEnd : Option LinesFault → Type 0
IsNoFileEnd (Some lines.NoFile) = Unit {0}
IsNoFileEnd fault = ⊥

abbrev IsNoFileFault : Result Settings ConfigFault → Type 0
IsNoFileFault (Err fault) = IsNoFile fault
IsNoFileFault (Ok settings) = ⊥

-- where the reading of lines ended, there are no settings
refused_by : (place : Option Place) (fault : LinesFault) (groups : List (List Set)) → IsRefused (spec.config_by (spec.fault_by place (Some fault) groups) groups)
refused_by (Some place) fault groups = tt
refused_by None fault groups = tt

settings_by : (fault : Option LinesFault) (groups : List (List Set)) (settings : Settings) → spec.config_in fault groups ≡ Ok settings → fault ≡ None
unfolding spec.config_in spec.fault_of
settings_by None groups settings e = refl
settings_by (Some fault) groups settings e = absurd (subst IsRefused e (refused_by (first_fault groups) fault groups))

-- the reading of lines ended with the file that could not be had, where that is the fault
no_missing : (missing : Option (ℕ × List ℕ)) (groups : List (List Set)) → IsNoFileFault (spec.config_by (spec.missing_by missing) groups) → ⊥
no_missing (Some missing) groups is = is
no_missing None groups is = is

no_file_by : (place : Option Place) (fault : Option LinesFault) (groups : List (List Set)) →
    IsNoFileFault (spec.config_by (spec.fault_by place fault groups) groups) → fault ≡ Some lines.NoFile
no_file_by (Some place) fault groups is = absurd is
no_file_by None (Some lines.NoFile) groups is = refl
no_file_by None (Some lines.TooDeep) groups is = absurd is
no_file_by None (Some (lines.NoLine file line)) groups is = absurd is
no_file_by None None groups is = absurd (no_missing (first_missing groups) groups is)

no_file : (fault : Option LinesFault) (groups : List (List Set)) → spec.config_in fault groups ≡ Err faults.NoFile → fault ≡ Some lines.NoFile
unfolding spec.config_in spec.fault_of
no_file fault groups e = no_file_by (first_fault groups) fault groups (subst IsNoFileFault (sym e) tt)

-- a file is missing only where the shelf failed
missing_rose : (fault : Option LinesFault) (files : ℕ) (before after : ℕ) → ((fault ≡ Some lines.NoFile) → Rose before after) →
    IfSome (missing_by fault files) (λ number. Rose before after)
missing_rose None files before after rose = tt
missing_rose (Some lines.NoFile) files before after rose = rose refl
missing_rose (Some lines.TooDeep) files before after rose = tt
missing_rose (Some (lines.NoLine file line)) files before after rose = tt

-- and its count stands still where none is
counts_missing : (fault : Option LinesFault) (files : ℕ) (before after : ℕ) → ((fault ≡ Some lines.NoFile) → Rose before after) →
    ((fault ≢ Some lines.NoFile) → after ≡ before) → spec.CountsMissing (missing_by fault files) before after
counts_missing None files before after rose spared = spared (λ e. subst IsNoFileEnd (sym e) tt)
counts_missing (Some lines.NoFile) files before after rose spared = rose refl
counts_missing (Some lines.TooDeep) files before after rose spared = spared (λ e. subst IsNoFileEnd (sym e) tt)
counts_missing (Some (lines.NoLine file line)) files before after rose spared = spared (λ e. subst IsNoFileEnd (sym e) tt)

module _ (name : List ℕ) (before after : ℕ) (read : Read) (rose : (read.fault ≡ Some lines.NoFile) → Rose before after) where
  -- a fault is that of the lines, of which a file may be missing
  refused : (all : List (List ℕ × List ℕ)) (fault : ConfigFault) → read ≡ lines_of all (missing_by read.fault read.files) name →
      spec.config_of read ≡ Err fault →
      (missing : Option ℕ) × (spec.config_at all missing name ≡ Err fault) × IfSome missing (λ number. Rose before after)
  unfolding spec.config_at
  refused all fault is e =
      (missing_by read.fault read.files, ap spec.config_of (sym is) ∙ e, missing_rose read.fault read.files before after rose)

  not_memory : (all : List (List ℕ × List ℕ)) (fault : ConfigFault) → ((fault ≡ faults.Memory) → ⊥) →
      read ≡ lines_of all (missing_by read.fault read.files) name → (fault ≡ faults.Memory) ⊎ (spec.config_of read ≡ Err fault) →
      (missing : Option ℕ) × (spec.config_at all missing name ≡ Err fault) × IfSome missing (λ number. Rose before after)
  not_memory all fault other is (inl e) = absurd (other e)
  not_memory all fault other is (inr e) = refused all fault is e

  of_all : (all : List (List ℕ × List ℕ)) (result : Result Settings ConfigFault) → read ≡ lines_of all (missing_by read.fault read.files) name →
      IfOk result (λ settings. spec.config_of read ≡ Ok settings) →
      IfErr result (λ fault. (fault ≡ faults.Memory) ⊎ (spec.config_of read ≡ Err fault)) →
      spec.IsConfig all name before after result
  unfolding spec.config_at spec.config_of
  of_all all (Ok settings) is ok err =
      let none : read.fault ≡ None = settings_by read.fault (groups_of read.lines) settings ok in
      ap spec.config_of (sym (subst (λ fault. read ≡ lines_of all (missing_by fault read.files) name) none is)) ∙ ok
  of_all all (Err faults.Memory) is ok err = tt
  of_all all (Err faults.TooDeep) is ok err = not_memory all faults.TooDeep (λ e. subst IsOther e tt) is err
  of_all all (Err faults.NoFile) is ok err = not_memory all faults.NoFile (λ e. subst IsOther e tt) is err
  of_all all (Err (faults.Line file line)) is ok err = not_memory all (faults.Line file line) (λ e. subst IsOther e tt) is err
  of_all all (Err (faults.Value file line)) is ok err = not_memory all (faults.Value file line) (λ e. subst IsOther e tt) is err
  of_all all (Err (faults.Missing group variable)) is ok err = not_memory all (faults.Missing group variable) (λ e. subst IsOther e tt) is err

  -- what is answered is what the definition gives
  pub config_read : (files : Option (List (List ℕ × List ℕ))) (result : Result Settings ConfigFault) →
      IfSome files (λ all. read ≡ lines_of all (missing_by read.fault read.files) name) →
      IfOk result (λ settings. spec.config_of read ≡ Ok settings) →
      IfErr result (λ fault. (fault ≡ faults.Memory) ⊎ (spec.config_of read ≡ Err fault)) →
      IfSome files (λ all. spec.IsConfig all name before after result)
  config_read None result is ok err = tt
  config_read (Some all) result is ok err = of_all all result is ok err

  -- the shelf was asked for the files that were read
  module _ (asked asked_now : Option (List (List ℕ))) (asks : AsksFor read.names asked asked_now) (spared : (read.fault ≢ Some lines.NoFile) → after ≡ before) where
    asks_refused : (all : List (List ℕ × List ℕ)) (fault : ConfigFault) → read ≡ lines_of all (missing_by read.fault read.files) name →
        ((fault ≡ faults.Memory) → ⊥) → (fault ≡ faults.Memory) ⊎ (spec.config_of read ≡ Err fault) →
        (missing : Option ℕ) × (spec.config_at all missing name ≡ Err fault) × spec.CountsMissing missing before after
        × AsksFor (spec.names_of all missing name) asked asked_now
    unfolding spec.config_at
    asks_refused all fault is other (inl e) = absurd (other e)
    asks_refused all fault is other (inr e) = (
      missing_by read.fault read.files,
      ap spec.config_of (sym is) ∙ e,
      counts_missing read.fault read.files before after rose spared,
      subst (λ names. AsksFor names asked asked_now) (ap (λ (r : Read). r.names) is) asks,
    )

    asks_of_all : (all : List (List ℕ × List ℕ)) (result : Result Settings ConfigFault) → read ≡ lines_of all (missing_by read.fault read.files) name →
        IfOk result (λ settings. spec.config_of read ≡ Ok settings) →
        IfErr result (λ fault. (fault ≡ faults.Memory) ⊎ (spec.config_of read ≡ Err fault)) →
        spec.AsksFiles all name before after asked asked_now result
    unfolding spec.config_of
    asks_of_all all (Ok settings) is ok err =
        let none : read.fault ≡ None = settings_by read.fault (groups_of read.lines) settings ok in (
          spared (λ e. subst IsNoFileEnd (sym (sym none ∙ e)) tt),
          subst (λ names. AsksFor names asked asked_now) (ap (λ (r : Read). r.names) (subst (λ fault. read ≡ lines_of all (missing_by fault read.files) name) none is)) asks,
        )
    asks_of_all all (Err faults.Memory) is ok err = tt
    asks_of_all all (Err faults.TooDeep) is ok err = asks_refused all faults.TooDeep is (λ e. subst IsOther e tt) err
    asks_of_all all (Err faults.NoFile) is ok err = asks_refused all faults.NoFile is (λ e. subst IsOther e tt) err
    asks_of_all all (Err (faults.Line file line)) is ok err = asks_refused all (faults.Line file line) is (λ e. subst IsOther e tt) err
    asks_of_all all (Err (faults.Value file line)) is ok err = asks_refused all (faults.Value file line) is (λ e. subst IsOther e tt) err
    asks_of_all all (Err (faults.Missing group variable)) is ok err = asks_refused all (faults.Missing group variable) is (λ e. subst IsOther e tt) err

    pub config_asks : (files : Option (List (List ℕ × List ℕ))) (result : Result Settings ConfigFault) →
        IfSome files (λ all. read ≡ lines_of all (missing_by read.fault read.files) name) →
        IfOk result (λ settings. spec.config_of read ≡ Ok settings) →
        IfErr result (λ fault. (fault ≡ faults.Memory) ⊎ (spec.config_of read ≡ Err fault)) →
        IfSome files (λ all. spec.AsksFiles all name before after asked asked_now result)
    config_asks None result is ok err = tt
    config_asks (Some all) result is ok err = asks_of_all all result is ok err

    -- settings come only where the shelf never failed
    pub config_spared : (result : Result Settings ConfigFault) → IfOk result (λ settings. spec.config_of read ≡ Ok settings) →
        IfOk result (λ settings. after ≡ before)
    unfolding spec.config_of
    config_spared (Ok settings) ok =
        spared (λ e. subst IsNoFileEnd (sym (sym (settings_by read.fault (groups_of read.lines) settings ok) ∙ e)) tt)
    config_spared (Err fault) ok = tt

  of_fault : (fault : ConfigFault) → (fault ≡ faults.Memory) ⊎ (spec.config_of read ≡ Err fault) → IsNoFile fault → Rose before after
  unfolding spec.config_of
  of_fault fault (inl e) is = absurd (subst IsNoFile e is)
  of_fault faults.NoFile (inr e) is = rose (no_file read.fault (groups_of read.lines) e)
  of_fault faults.Memory (inr e) is = absurd is
  of_fault faults.TooDeep (inr e) is = absurd is
  of_fault (faults.Line file line) (inr e) is = absurd is
  of_fault (faults.Value file line) (inr e) is = absurd is
  of_fault (faults.Missing group variable) (inr e) is = absurd is

  -- a file could not be had only where the shelf failed
  pub config_missed : (result : Result Settings ConfigFault) →
      IfErr result (λ fault. (fault ≡ faults.Memory) ⊎ (spec.config_of read ≡ Err fault)) → IsErrOf result faults.NoFile → Rose before after
  config_missed (Ok settings) err is = absurd (subst IsRefused (sym is) tt)
  config_missed (Err fault) err is = of_fault fault err (subst IsNoFileFault (sym is) tt)
