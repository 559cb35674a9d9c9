use Rattle.std.proofs.Common.{List, ℕ, [], ◌∷◌, ◌++◌, ◌∙◌, codes, decimal, subst}
use Rattle.std.proofs.lemmas.List.{append-nil}
use Rattle.boxes_main.specs.Giving.{GivesText}
use Rattle.boxes_main.proofs.line.give_line.Goals as goal

pub returns-in-Place : goal.returns-in-Place
returns-in-Place g c =
    let course = g.S.Meter.course in
    let P : List ℕ → List ℕ → Type 0 = λ file number. GivesText (codes "boxes: configuration: file " ++ file ++ codes " line " ++ number ++ 10 ∷ [])
    c.give_parts.result (course c.args.errors.now) (course c.give_parts.new.errors) in
    rw c.in-Place.is
    (subst (λ file. P file (decimal c.in-Place.line)) (c.as_bytes.ensures.value ∙ c.format.ensures.text)
    (subst (λ number. P c.as_bytes.result.now number) (c.as_bytes-in-Place.ensures.value ∙ c.format-in-Place.ensures.text) c.give_parts.ensures))

pub returns-in-Lack : goal.returns-in-Lack
returns-in-Lack g c =
    let course = g.S.Meter.course in
    let P : List ℕ → List ℕ → Type 0 = λ group variable. GivesText (codes "boxes: configuration: group " ++ group ++ codes " lacks " ++ variable ++ 10 ∷ [])
    c.give_parts-in-Lack.result (course c.args.errors.now) (course c.give_parts-in-Lack.new.errors) in
    rw c.in-Lack.is
    (subst (λ group. P group c.in-Lack.variable.now) (c.as_bytes-in-Lack.ensures.value ∙ c.format-in-Lack.ensures.text)
    (subst (λ variable. P c.as_bytes-in-Lack.result.now variable) c.as_slice.ensures c.give_parts-in-Lack.ensures))

pub returns-in-Misfit : goal.returns-in-Misfit
returns-in-Misfit g c =
    let course = g.S.Meter.course in
    let P : List ℕ → List ℕ → Type 0 = λ area place. GivesText (codes "boxes: store: area " ++ area ++ codes " at " ++ place ++ 10 ∷ [])
    c.give_parts-in-Misfit.result (course c.args.errors.now) (course c.give_parts-in-Misfit.new.errors) in
    rw c.in-Misfit.is
    (subst (λ area. P area (decimal c.in-Misfit.at)) c.word_of.ensures
    (subst (λ place. P c.word_of.result.now place) (c.as_bytes-in-Misfit.ensures.value ∙ c.format-in-Misfit.ensures.text) c.give_parts-in-Misfit.ensures))

pub returns-in-Counted : goal.returns-in-Counted
returns-in-Counted g c =
    let course = g.S.Meter.course in
    let words = c.in-Counted.words.now in
    let P : List ℕ → Type 0 = λ text. GivesText (text ++ 10 ∷ []) c.give_parts-in-Counted.result (course c.args.errors.now) (course c.give_parts-in-Counted.new.errors) in
    rw c.in-Counted.is
    (subst (λ number. P (words ++ number)) (c.as_bytes-in-Counted.ensures.value ∙ c.format-in-Counted.ensures.text)
    (subst P (append-nil (words ++ c.as_bytes-in-Counted.result.now))
    (subst P (append-nil ((words ++ c.as_bytes-in-Counted.result.now) ++ [])) c.give_parts-in-Counted.ensures)))
