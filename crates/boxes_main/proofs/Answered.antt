-- What was done on a store is what was answered 202.
use Rattle.std.proofs.Common.{◌≡◌, ℕ, Bool, true, false, List, [], ◌∷◌, ◌++◌, All, Option, Some, None, Result, Ok, Err, inl, inr, ⊎_elim, map, refl, ap, sym, ◌∙◌, append_assoc, subst}
use Rattle.std.specs.Prelude.{IfSome, IfOk, if◌then◌else◌}
use Rattle.std.proofs.lemmas.List.Elements.{All-head, All-tail}
use Rattle.config_groups.specs.declared.settings.Settings.{Settings}
use Rattle.gate_entries.specs.declared.recorded.Recorded.{Recorded}
use Rattle.gate_model.specs.Acceptor.{Deed}
use Rattle.gate_model.specs.Reply.{IsAccepted}
use Rattle.gate_model.specs.declared.reply.Refusal.{Refusal}
use Rattle.gate_model.specs.declared.reply.Refusal.TheVariants.{NoRoute, Full, Disk, Memory}
use Rattle.gate_model.specs.declared.reply.Reply.{Reply}
use Rattle.gate_model.specs.declared.reply.Reply.TheVariants.{Accepted, Noted}
use Rattle.gate_store.specs.Deeds.{done_of, entries_of, entry_of}
use Rattle.http_text.specs.declared.answer.Answer.{Answer}
use Rattle.sendsms_http.specs.Reply.{answer_of}
use Rattle.sendsms_http.specs.Session.{Exchange, ComesTo, IsExchange, IsKept, deeds_in, with_last}
use Rattle.sms_record.specs.declared.sms.Sms.{Sms}
use Rattle.boxes_main.specs.Moment.{is_202, accepts_of, accepts_in}

-- what was done by some deeds, and then by others
pub done_of-append : (xs ys : List Deed) → done_of (xs ++ ys) ≡ done_of xs ++ done_of ys
done_of-append [] ys = refl
done_of-append (deed ∷ xs) ys = ap (λ es. entries_of deed ++ es) (done_of-append xs ys) ∙ sym (append_assoc (entries_of deed) (done_of xs) (done_of ys))

-- the entries that deeds ask for, where they were accepted
abbrev accepted : Bool → List Deed → List Recorded
accepted is_so deeds = if is_so then map entry_of deeds else []

none_accepted : (is_so : Bool) → [] ≡ accepted is_so []
none_accepted true = refl
none_accepted false = refl

-- an outcome is answered 202 where it was done, and else otherwise
one_accepted : (outcome : Result Reply Refusal) → IfOk outcome IsAccepted → (parts : List Sms) (time : ℕ)
    → done_of (record { parts = parts; time = time; outcome = outcome } ∷ []) ≡ accepted (is_202 (answer_of outcome)) (record { parts = parts; time = time; outcome = outcome } ∷ [])
one_accepted (Ok (Accepted first count true)) is parts time = refl
one_accepted (Ok (Accepted first count false)) is parts time = refl
one_accepted (Ok (Noted matched)) is parts time = absurd is
one_accepted (Err (NoRoute part)) is parts time = refl
one_accepted (Err (Full held limit)) is parts time = refl
one_accepted (Err Disk) is parts time = refl
one_accepted (Err Memory) is parts time = refl

-- where nothing was handed in, nothing was done, whatever was answered
none_done : (deeds : List Deed) (answer : Answer) → deeds ≡ [] → done_of deeds ≡ accepted (is_202 answer) deeds
none_done deeds answer none = subst (λ ds. done_of ds ≡ accepted (is_202 answer) ds) (sym none) (none_accepted (is_202 answer))

by_request : (wanted : Result (List Sms) Answer) (now : ℕ) (deeds : List Deed) (answer : Answer) → ComesTo wanted now deeds answer
    → done_of deeds ≡ accepted (is_202 answer) deeds
by_request (Err refusal) now deeds answer comes = none_done deeds answer comes.0
by_request (Ok parts) now deeds answer comes =
    subst (λ a. done_of deeds ≡ accepted (is_202 a) deeds) (sym comes.3)
    (subst (λ ds. done_of ds ≡ accepted (is_202 (answer_of comes.0)) ds) (sym comes.2) (one_accepted comes.0 comes.1 parts now))

-- an exchange of any kind
pub exchange_done : (settings : Settings) (ended : Bool) (exchange : Exchange) → IsExchange settings ended exchange → done_of exchange.deeds ≡ accepts_of exchange
exchange_done settings ended exchange (inl request) =
    ⊎_elim (by_request _ request.now exchange.deeds exchange.answer) (λ none. none_done exchange.deeds exchange.answer none.0) request.comes_to
exchange_done settings ended exchange (inr octets) = none_done exchange.deeds exchange.answer octets.no_deed

-- one exchange, and the others
exchanges_done : (exchange : Exchange) (rest : List Exchange) → done_of exchange.deeds ≡ accepts_of exchange → done_of (deeds_in rest) ≡ accepts_in rest
    → done_of (deeds_in (exchange ∷ rest)) ≡ accepts_in (exchange ∷ rest)
exchanges_done exchange rest one others =
    done_of-append exchange.deeds (deeds_in rest) ∙ ap (λ x. x ++ done_of (deeds_in rest)) one ∙ ap (λ y. accepts_of exchange ++ y) others

-- what was done for all exchanges of a talk is what was answered 202
pub talk_done : (settings : Settings) (ended : Bool) (kept : List Exchange) (last : Option Exchange) → All (IsKept settings) kept → IfSome last (IsExchange settings ended)
    → done_of (deeds_in (with_last kept last)) ≡ accepts_in (with_last kept last)
talk_done settings ended [] None each is = refl
talk_done settings ended [] (Some last) each is = exchanges_done last [] (exchange_done settings ended last is) refl
talk_done settings ended (exchange ∷ kept) None each is =
    exchanges_done exchange kept (exchange_done settings ended exchange (inl (All-head (IsKept settings) exchange kept each).0))
    (talk_done settings ended kept None (All-tail (IsKept settings) exchange kept each) is)
talk_done settings ended (exchange ∷ kept) (Some last) each is =
    exchanges_done exchange (kept ++ last ∷ []) (exchange_done settings ended exchange (inl (All-head (IsKept settings) exchange kept each).0))
    (talk_done settings ended kept (Some last) (All-tail (IsKept settings) exchange kept each) is)
