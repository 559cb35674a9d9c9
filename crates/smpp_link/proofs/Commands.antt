-- What commands are heard as keeps to the laws of a protocol.
use Rattle.std.proofs.Common.{◌≡◌, ℕ, ◌/◌, ◌%◌, ◌<◌, ◌≤◌, ◌^◌, Bool, true, false, cond, List, [], ◌∷◌, ◌++◌, length, Option, Some, None, IfSome, refl, sym, ap, subst, ◌∙◌, arith, inl, inr}
use Rattle.std.specs.Prelude.{nat_lt, ◌==◌, ◌||◌, bytes_eq, codes}
use Rattle.std.proofs.lemmas.List.{length-take}
use Rattle.std.proofs.lemmas.Bool.{cases_Bool, eqb-true}
use Rattle.sms_record.specs.Limits.{most_body, most_header}
use Rattle.sms_record.specs.Header.{IsHeaderOrNone}
use Rattle.smpp_wire.specs.Ids.{generic_nack, submit_sm_resp, deliver_sm, deliver_sm_resp, unbind, unbind_resp, bind_transceiver_resp, enquire_link, enquire_link_resp}
use Rattle.smpp_wire.specs.Command.{MessageFields, Fields, Bind, BindReply, Message, SubmitReply, DeliverReply, Nothing, Any, Command}
use Rattle.smpp_wire.specs.Grammar.{IsOf, frame, frame_length, row_of}
use Rattle.smpp_wire.proofs.Streams.{one_frame}
use Rattle.link_core.specs.declared.heard.Heard.{Heard}
use Rattle.link_core.specs.Heard.{heard_tag, IsSoundVerdict, IsReported, IsSound, IsArrival}
use Rattle.link_core.specs.Arrivals.{address_of, body_of}
use Rattle.link_core.specs.Dcs.{class_in}
use Rattle.link_core.specs.Grammar.{IsGrammar}
use Rattle.link_core.proofs.Arrivals.{address_kept, body_coded, body_kept, arrives}
use Rattle.smpp_link.specs.Delivery.{is_report, says_header, header_and_text, coding_of, text_of, is_international, sms_of, delivered}
use Rattle.smpp_link.specs.Hearing.{is_temporary, verdict_of, foreign_in, told, heard_of, Hears}
use Rattle.smpp_link.specs.Receipts.{value_in, word_behind, id_of, kind_of_number, kind_of_state, kind_of_word, kind_of, reported}
use Rattle.smpp_link.specs.TlvTags.{receipted_message_id, message_state, most_id}
use Rattle.smpp_link.proofs.Headers.{header_good}

-- what is true of both is true of the one that is chosen
chosen : {X : Type 0} (P : X → Type 0) (b : Bool) (x y : X) → P x → P y → P (cond b x y)
chosen P true x y p q = p
chosen P false x y p q = q

-- ---- tags

abbrev Has : ℕ → Heard → Type 0
Has tag heard = heard_tag heard ≡ tag

told_tag : (id tag status : ℕ) → Has tag (told id tag status)
told_tag id tag status =
    chosen (Has tag) (id == bind_transceiver_resp) _ _ refl (chosen (Has tag) (id == unbind) _ _ refl (chosen (Has tag) (id == unbind_resp) _ _ refl
    (chosen (Has tag) (id == enquire_link) _ _ refl (chosen (Has tag) (id == enquire_link_resp || id == deliver_sm_resp) _ _ refl
    (chosen (Has tag) (id == generic_nack) _ _ refl refl)))))

delivered_tag : (tag : ℕ) (fields : Fields) → Has tag (delivered tag fields)
delivered_tag tag (Message m) = chosen (Has tag) (is_report m.esm_class) _ _ refl refl
delivered_tag tag (Bind b) = refl
delivered_tag tag (BindReply system_id tlvs) = refl
delivered_tag tag (SubmitReply message_id) = refl
delivered_tag tag DeliverReply = refl
delivered_tag tag Nothing = refl
delivered_tag tag (Any octets) = refl

pub tag_of : (c : Command) → heard_tag (heard_of c) ≡ c.sequence
tag_of c =
    chosen (Has c.sequence) (c.id == submit_sm_resp) _ _ refl
    (chosen (Has c.sequence) (c.id == deliver_sm) _ _ (delivered_tag c.sequence c.fields) (told_tag c.id c.sequence c.status))

-- ---- what is heard is sound

told_sound : (id tag status : ℕ) → IsSound (told id tag status)
told_sound id tag status =
    chosen IsSound (id == bind_transceiver_resp) _ _ tt (chosen IsSound (id == unbind) _ _ tt (chosen IsSound (id == unbind_resp) _ _ tt
    (chosen IsSound (id == enquire_link) _ _ tt (chosen IsSound (id == enquire_link_resp || id == deliver_sm_resp) _ _ tt
    (chosen IsSound (id == generic_nack) _ _ tt tt)))))

foreign_short : (fields : Fields) → IsOf (row_of submit_sm_resp) fields → length (foreign_in fields) ≤ most_body
foreign_short (SubmitReply message_id) is = omega (arith, is.1)
foreign_short (Bind b) is = omega arith
foreign_short (BindReply system_id tlvs) is = omega arith
foreign_short (Message m) is = omega arith
foreign_short DeliverReply is = omega arith
foreign_short Nothing is = omega arith
foreign_short (Any octets) is = omega arith

verdict_sound : (status : ℕ) (foreign : List ℕ) → length foreign ≤ most_body → IsSoundVerdict (verdict_of status foreign)
verdict_sound status foreign short =
    chosen IsSoundVerdict (status == 0) _ _ short (chosen IsSoundVerdict (is_temporary status) _ _ tt tt)

classed : (dcs : ℕ) → IfSome (class_in dcs) (λ class. class ≤ 3)
classed dcs =
    let small : dcs % 4 ≤ 3 = omega arith in
    chosen (λ class. IfSome class (λ class. class ≤ 3)) (nat_lt dcs 192) _ _ (chosen (λ class. IfSome class (λ class. class ≤ 3)) (dcs / 16 % 2 == 1) _ _ small tt)
    (chosen (λ class. IfSome class (λ class. class ≤ 3)) (nat_lt dcs 240) _ _ tt small)

abbrev IsParted : List ℕ × List ℕ → Type 0
IsParted parts = (length parts.0 ≤ most_header) × IsHeaderOrNone parts.0

parted : (esm_class : ℕ) (octets : List ℕ) → IsParted (header_and_text esm_class octets)
parted esm_class octets = chosen IsParted (says_header esm_class) _ _ (header_good octets) (omega arith, inl refl)

message_arrives : (m : MessageFields) → IsArrival (sms_of m)
message_arrives m =
    let parts = parted m.esm_class m.short_message in
    let coding = coding_of m.data_coding in
    let text = text_of m.data_coding (header_and_text m.esm_class m.short_message).1 in
    arrives (address_of (is_international m.source_ton) m.source) (address_of (is_international m.destination_ton) m.destination) coding (class_in m.data_coding)
    (header_and_text m.esm_class m.short_message).0 (body_of coding text) (address_kept (is_international m.source_ton) m.source)
    (address_kept (is_international m.destination_ton) m.destination) (classed m.data_coding) parts.0 parts.1 (body_kept coding text) (body_coded coding text)

number_reported : (state : ℕ) → IsReported (kind_of_number state)
number_reported state = chosen IsReported (state == 2) _ _ tt (chosen IsReported (state == 1 || state == 6 || state == 7) _ _ tt tt)

state_reported : (state : List ℕ) → IsReported (kind_of_state state)
state_reported [] = tt
state_reported (state ∷ []) = number_reported state
state_reported (first ∷ second ∷ rest) = tt

word_reported : (word : List ℕ) → IsReported (kind_of_word word)
word_reported word =
    chosen IsReported (bytes_eq word (codes "DELIVRD")) _ _ tt
    (chosen IsReported (bytes_eq word (codes "ACCEPTD") || bytes_eq word (codes "UNKNOWN")) _ _ tt tt)

kind_reported : (parameter word : Option (List ℕ)) → IsReported (kind_of parameter word)
kind_reported (Some state) word = state_reported state
kind_reported None (Some word) = word_reported word
kind_reported None None = tt

report_sound : (tag : ℕ) (text tlvs : List ℕ) → length text ≤ 254 → IsSound (reported tag text tlvs)
report_sound tag text tlvs short = (
  omega (arith, length-take most_id (id_of (value_in receipted_message_id tlvs) (word_behind (codes "id:") text))),
  kind_reported (value_in message_state tlvs) (word_behind (codes "stat:") text),
  omega (arith, short),
)

delivered_sound : (tag : ℕ) (fields : Fields) → IsOf (row_of deliver_sm) fields → IsSound (delivered tag fields)
delivered_sound tag (Message m) is =
    chosen IsSound (is_report m.esm_class) _ _ (report_sound tag m.short_message m.tlvs is.short_message) (message_arrives m)
delivered_sound tag (Bind b) is = tt
delivered_sound tag (BindReply system_id tlvs) is = tt
delivered_sound tag (SubmitReply message_id) is = tt
delivered_sound tag DeliverReply is = tt
delivered_sound tag Nothing is = tt
delivered_sound tag (Any octets) is = tt

sound_of : (c : Command) → IsOf (row_of c.id) c.fields → IsSound (heard_of c)
sound_of c is =
    elim (cases_Bool (c.id == submit_sm_resp)) [
      | inl reply ↦
          let id : c.id ≡ submit_sm_resp = eqb-true c.id submit_sm_resp reply in
          let short = foreign_short c.fields (subst (λ (n : ℕ). IsOf (row_of n) c.fields) id is) in
          rw reply (verdict_sound c.status (foreign_in c.fields) short)
      | inr other ↦
          rw other (elim (cases_Bool (c.id == deliver_sm)) [
            | inl delivery ↦
                let id : c.id ≡ deliver_sm = eqb-true c.id deliver_sm delivery in
                rw delivery (delivered_sound c.sequence c.fields (subst (λ (n : ℕ). IsOf (row_of n) c.fields) id is))
            | inr none ↦ rw none (told_sound c.id c.sequence c.status)
          ])
    ]

-- ---- the grammar

length-frame : (c : Command) → length (frame c) ≡ frame_length c
length-frame c = omega arith

one_said : (x y behind behind' : List ℕ) (said said' : Heard) → Hears x said → Hears y said' → x ++ behind ≡ y ++ behind' → (x ≡ y) × (said ≡ said')
one_said x y behind behind' said said' h h' e =
    let joined : frame h.command ++ behind ≡ frame h'.command ++ behind' = ap (λ (t : List ℕ). t ++ behind) (sym h.frame_is) ∙ e ∙ ap (λ (t : List ℕ). t ++ behind') h'.frame_is in
    let same = one_frame h.command h'.command behind behind' h.good h'.good joined in
    (h.frame_is ∙ ap frame same.0 ∙ sym h'.frame_is, h.heard_is ∙ ap heard_of same.0 ∙ sym h'.heard_is)

pub smpp_grammar : IsGrammar Hears (λ tag. tag < 2 ^ 32) 65536
smpp_grammar = record {
  one = one_said;
  some = λ x said h. let e : length x ≡ frame_length h.command = ap length h.frame_is ∙ length-frame h.command in omega (arith, e);
  within = λ x said h. let e : length x ≡ frame_length h.command = ap length h.frame_is ∙ length-frame h.command in omega (arith, e, h.good.len);
  held = λ x said h. subst (λ (tag : ℕ). tag < 2 ^ 32) (sym (ap heard_tag h.heard_is ∙ tag_of h.command)) h.good.sequence;
  sound = λ x said h. subst IsSound (sym h.heard_is) (sound_of h.command h.good.fields);
}
