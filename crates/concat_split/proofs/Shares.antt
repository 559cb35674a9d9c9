-- The characters of a text are shared out among its parts.
use Rattle.std.proofs.Common.{◌≡◌, ◌⊎◌, ℕ, zero, suc, ◌+◌, ◌-◌, ◌<◌, ◌≤◌, Bool, true, false, cond, eqb, ltb, List, [], ◌∷◌, ◌++◌, length, drop, map, Result, Ok, Err, refl, sym, ap, subst, ◌∙◌, arith, inl, inr, append_assoc}
use Rattle.std.proofs.lemmas.Bool.{cases_Bool, eqb-true, eqb-false}
use Rattle.std.proofs.lemmas.List.{append-nil}
use Rattle.std.specs.List.{concat, flat_map}
use Rattle.sms_record.specs.declared.coding.Coding.{Coding}
use Rattle.sms_record.specs.Room.{cap}
use Rattle.concat_split.specs.declared.limits.Limits.{Limits}
use Rattle.concat_split.specs.declared.part.Part.{Part}
use Rattle.concat_split.specs.declared.split_fault.SplitFault.{SplitFault}
use Rattle.concat_split.specs.Characters.{characters, units}
use Rattle.concat_split.specs.Parts.{front, broken, round, wrapped, texts, alone, numbered, room_of, around_of, parts_of}
use Rattle.concat_split.specs.Kept.{bodies_of, IsSharedOut}
use Rattle.concat_split.proofs.Cuts.{IsFront, concat-characters}
use Rattle.concat_split.proofs.Fronts.{front_first, broken_first, first_first}
use Rattle.concat_split.proofs.Texts.{last_test, length-alone, bodies-alone, length-numbered}

-- the texts of parts, with the characters that each has
pub record Shared (limits : Limits) (left : ℕ) (cs : List (List ℕ)) (ts : List (List ℕ)) : Type 0 where
  pub first : List (List ℕ)
  pub rest : List (List (List ℕ))
  pub cut_off : List (List ℕ)
  pub bodies : ts ≡ bodies_of limits (first ∷ rest)
  pub in_order : first ++ flat_map (λ share. share) rest ++ cut_off ≡ cs
  pub all : length ts < left → cut_off ≡ []

-- the part that takes all
shared_whole : (limits : Limits) (left : ℕ) (cs : List (List ℕ)) → Shared limits left cs (wrapped limits (concat cs) ∷ [])
shared_whole limits left cs = record {
  first = cs;
  rest = [];
  cut_off = [];
  bodies = refl;
  in_order = append-nil (cs ++ []) ∙ append-nil cs;
  all = λ lt. refl;
}

-- the last part, which takes a front
shared_last : (limits : Limits) (cs ps : List (List ℕ)) → IsFront ps cs → Shared limits 1 cs (wrapped limits (concat ps) ∷ [])
shared_last limits cs ps f = record {
  first = ps;
  rest = [];
  cut_off = drop (length ps) cs;
  bodies = refl;
  in_order = ap (λ (w : List (List ℕ)). w ++ drop (length ps) cs) (append-nil ps) ∙ sym f.parts;
  all = λ lt. absurd (omega arith);
}

-- a part before others
shared_more : (limits : Limits) (left : ℕ) (cs ps : List (List ℕ)) (ts : List (List ℕ)) → IsFront ps cs → Shared limits left (drop (length ps) cs) ts → Shared limits (suc left) cs (wrapped limits (concat ps ++ limits.suffix) ∷ ts)
shared_more limits left cs ps ts f s =
    let inner : List (List ℕ) = s.first ++ flat_map (λ (share : List (List ℕ)). share) s.rest in
    record {
      first = ps;
      rest = s.first ∷ s.rest;
      cut_off = s.cut_off;
      bodies = ap (λ (w : List (List ℕ)). wrapped limits (concat ps ++ limits.suffix) ∷ w) s.bodies;
      in_order = append_assoc ps inner s.cut_off ∙ ap (λ (w : List (List ℕ)). ps ++ w) s.in_order ∙ sym f.parts;
      all = λ lt. s.all (omega arith);
    }

pub shared : (coding : Coding) (room : ℕ) (limits : Limits) (left : ℕ) (cs : List (List ℕ)) → 0 < left → Shared limits left cs (texts coding room limits left cs)
shared coding room limits zero cs some = absurd (omega arith)
shared coding room limits (suc n) cs some =
    elim (cases_Bool (last_test coding room limits (concat cs))) [
      | inl t ↦ rw t (shared_whole limits (suc n) cs)
      | inr t ↦ elim (cases_Bool (eqb n 0)) [
        | inl e ↦
            let none : n ≡ 0 = eqb-true n 0 e in
            let ps : List (List ℕ) = front coding (room - round coding limits) cs in
            let s = subst (λ (m : ℕ). Shared limits (suc m) cs (wrapped limits (concat ps) ∷ [])) (sym none) (shared_last limits cs ps (front_first coding (room - round coding limits) cs)) in
            rw (t, e) s
        | inr e ↦
            let more : 0 < n = elim (zero_or n) [ inl z ↦ absurd (eqb-false n 0 e z) | inr lt ↦ lt ] in
            let fs : List (List ℕ) = front coding (room - (round coding limits + units coding limits.suffix)) cs in
            let ps : List (List ℕ) = broken (characters coding limits.split_chars) fs in
            let f : IsFront ps cs = first_first ps fs cs (broken_first (characters coding limits.split_chars) fs) (front_first coding (room - (round coding limits + units coding limits.suffix)) cs) in
            let s = shared_more limits n cs ps (texts coding room limits n (drop (length ps) cs)) f (shared coding room limits n (drop (length ps) cs) more) in
            rw (t, e) s
      ]
    ]
  where
    zero_or : (m : ℕ) → (m ≡ 0) ⊎ (0 < m)
    zero_or zero = inl refl
    zero_or (suc m) = inr (omega arith)

-- ---- the parts

pub concat-append : (xs ys : List (List ℕ)) → concat (xs ++ ys) ≡ concat xs ++ concat ys
concat-append [] ys = refl
concat-append (x ∷ xs) ys = ap (λ (w : List ℕ). x ++ w) (concat-append xs ys) ∙ sym (append_assoc x (concat xs) (concat ys))

concat-flat : (gs : List (List (List ℕ))) → concat (flat_map (λ (share : List (List ℕ)). share) gs) ≡ flat_map concat gs
concat-flat [] = refl
concat-flat (g ∷ gs) = concat-append g (flat_map (λ (share : List (List ℕ)). share) gs) ∙ ap (λ (w : List ℕ). concat g ++ w) (concat-flat gs)

bodies-numbered : (total k : ℕ) (ts : List (List ℕ)) → map (λ (p : Part). p.body) (numbered total k ts) ≡ ts
bodies-numbered total k [] = refl
bodies-numbered total k (t ∷ ts) = ap (λ (w : List (List ℕ)). t ∷ w) (bodies-numbered total (k + 1) ts)

-- parts with these texts share the text out
shared_parts : (coding : Coding) (text : List ℕ) (limits : Limits) (left : ℕ) (ts : List (List ℕ)) (parts : List Part) → left ≡ limits.parts → Shared limits left (characters coding text) ts → map (λ (p : Part). p.body) parts ≡ ts → length parts ≡ length ts → IsSharedOut coding text limits parts
shared_parts coding text limits left ts parts is s bodies len =
    let shares : List (List (List ℕ)) = s.first ∷ s.rest in
    let flat : List (List ℕ) = flat_map (λ (share : List (List ℕ)). share) shares in
    record {
      shares = shares;
      cut_off = s.cut_off;
      bodies = bodies ∙ s.bodies;
      in_order = s.in_order;
      front = ap (λ (w : List ℕ). w ++ concat s.cut_off) (sym (concat-flat shares)) ∙ sym (concat-append flat s.cut_off) ∙ ap concat s.in_order ∙ concat-characters coding (length text) text (omega arith);
      all = λ lt. s.all (omega arith);
    }

abbrev done : List Part → Result (List Part) SplitFault
done ps = Ok ps

-- what a definition by two tests gives
pub split_cases : (coding : Coding) (body : List ℕ) (udh : ℕ) (limits : Limits) (ps : List Part) → parts_of coding body udh limits ≡ Ok ps →
    ((last_test coding (cap coding udh) limits body ≡ true) × (ps ≡ alone (wrapped limits body ∷ [])))
    ⊎ ((ltb (room_of coding udh limits) (around_of coding limits + 2) ≡ false) × (ps ≡ cond limits.concatenate (numbered (length (texts coding (room_of coding udh limits) limits limits.parts (characters coding body))) 1 (texts coding (room_of coding udh limits) limits limits.parts (characters coding body))) (alone (texts coding (room_of coding udh limits) limits limits.parts (characters coding body)))))
split_cases coding body udh limits ps e =
    pick (last_test coding (cap coding udh) limits body) (ltb (room_of coding udh limits) (around_of coding limits + 2)) _ _ _ ps refl refl e
  where
    pick : (a b : Bool) (x y : List Part) (f : SplitFault) (ps : List Part) → last_test coding (cap coding udh) limits body ≡ a → ltb (room_of coding udh limits) (around_of coding limits + 2) ≡ b → cond a (done x) (cond b (Err f) (done y)) ≡ done ps →
        ((last_test coding (cap coding udh) limits body ≡ true) × (ps ≡ x)) ⊎ ((ltb (room_of coding udh limits) (around_of coding limits + 2) ≡ false) × (ps ≡ y))
    pick true b x y f ps p q e = inl (p, cc)
    pick false true x y f ps p q e = absurd cc
    pick false false x y f ps p q e = inr (q, cc)

pub parts_shared : (coding : Coding) (body : List ℕ) (udh : ℕ) (limits : Limits) → 1 ≤ limits.parts → (ps : List Part) → parts_of coding body udh limits ≡ Ok ps → IsSharedOut coding body limits ps
parts_shared coding body udh limits some ps e =
    let room : ℕ = room_of coding udh limits in
    let cs : List (List ℕ) = characters coding body in
    let ts : List (List ℕ) = texts coding room limits limits.parts cs in
    let s = shared coding room limits limits.parts cs some in
    elim (split_cases coding body udh limits ps e) [
      | inl w ↦
          let one : wrapped limits (concat cs) ∷ [] ≡ wrapped limits body ∷ [] = ap (λ (t : List ℕ). wrapped limits t ∷ []) (concat-characters coding (length body) body (omega arith)) in
          let all = subst (λ (us : List (List ℕ)). Shared limits limits.parts cs us) one (shared_whole limits limits.parts cs) in
          shared_parts coding body limits limits.parts (wrapped limits body ∷ []) ps refl all (ap (λ (qs : List Part). map (λ (p : Part). p.body) qs) w.1) (ap length w.1)
      | inr w ↦ elim (cases_Bool limits.concatenate) [
        | inl c ↦
            let is : ps ≡ numbered (length ts) 1 ts = w.1 ∙ rw c refl in
            shared_parts coding body limits limits.parts ts ps refl s (ap (λ (qs : List Part). map (λ (p : Part). p.body) qs) is ∙ bodies-numbered (length ts) 1 ts) (ap length is ∙ length-numbered (length ts) 1 ts)
        | inr c ↦
            let is : ps ≡ alone ts = w.1 ∙ rw c refl in
            shared_parts coding body limits limits.parts ts ps refl s (ap (λ (qs : List Part). map (λ (p : Part). p.body) qs) is ∙ bodies-alone ts) (ap length is ∙ length-alone ts)
      ]
    ]
