use Rattle.std.proofs.Common.{◌≡◌, ℕ, List, [], ◌∷◌, ◌++◌, ◌∙◌, ap, sym, rules}
use Rattle.std.proofs.lemmas.Result.{on_ok_weaker}
use Rattle.exact_octets.proofs.Growing.{grown2}
use Rattle.gate_entries.specs.declared.recorded.Recorded.{Recorded}
use Rattle.gate_entries.specs.Entry.{entry_octets}
use Rattle.gate_entries.specs.EntryReading.{entry_code, kind_of_entry, fields_of}
use Rattle.gate_entries.proofs.Entries.{octets_by_kind}
use Rattle.gate_entries.proofs.recorded.put_entry.Goals as goal

-- its kind and its fields, one after the other
grown_entry : (e : Recorded) (code : ℕ) (a b d : List ℕ) → code ≡ entry_code (kind_of_entry e) → b ≡ a ++ code ∷ [] → d ≡ b ++ fields_of e → d ≡ a ++ entry_octets e
grown_entry e code a b d is p q = grown2 a b d (code ∷ []) (fields_of e) p q ∙ ap (λ (k : ℕ). a ++ k ∷ fields_of e) is ∙ ap (λ (t : List ℕ). a ++ t) (sym (octets_by_kind e))

pub returns-clause-ok : goal.returns-clause-ok
returns-clause-ok c = on_ok_weaker c.put_fields.result (grown_entry c.args.entry.now c.code_of_entry.result c.args.into.now c.push.new.self c.put_fields.new.into c.code_of_entry.ensures (search rules)) (search rules)
