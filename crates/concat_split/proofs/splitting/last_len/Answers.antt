use Rattle.std.proofs.Common.{◌≡◌, ◌-◌, ℕ, false, List, [], refl, ap, ◌∙◌, rules}
use Rattle.std.specs.List.{concat}
use Rattle.concat_split.specs.Characters.{characters}
use Rattle.concat_split.specs.Parts.{front, broken, round, last_text}
use Rattle.concat_split.proofs.Cuts.{characters_none}
use Rattle.concat_split.proofs.Fronts.{broken_none}
use Rattle.concat_split.proofs.Texts.{last_test}
use Rattle.concat_split.proofs.splitting.last_len.Goals as goal

pub returns-else-is_last-clause-taken : goal.returns-else-is_last-clause-taken
returns-else-is_last-clause-taken c =
    let coding = c.args.coding in
    let room = c.args.room in
    let limits = c.args.limits.now in
    let text = c.args.text.now in
    let over : last_test coding room limits text ≡ false = search rules in
    let space : c.saturating_sub.result ≡ room - round coding limits = c.saturating_sub.ensures ∙ ap (λ (n : ℕ). room - n) c.round.ensures.value in
    let plain : broken (characters coding []) (front coding c.saturating_sub.result (characters coding text)) ≡ front coding (room - round coding limits) (characters coding text) =
    ap (λ (s : List (List ℕ)). broken s (front coding c.saturating_sub.result (characters coding text))) (characters_none coding) ∙ broken_none _ ∙ ap (λ (n : ℕ). front coding n (characters coding text)) space in
    let chosen : concat (front coding (room - round coding limits) (characters coding text)) ≡ last_text coding room limits text = rw over refl in
    c.broken_len.ensures.front ∙ ap concat plain ∙ chosen
