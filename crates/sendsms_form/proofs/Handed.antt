-- The messages of a form may be handed to a store.
use Rattle.std.proofs.Common.{◌≡◌, ℕ, suc, ◌+◌, ◌*◌, ◌<◌, ◌≤◌, ◌^◌, List, [], ◌∷◌, ◌++◌, length, map, All, refl, ap, arith, length-append}
use Rattle.std.specs.Prelude.{sum_by}
use Rattle.std.specs.List.{AllByRecursion}
use Rattle.std.proofs.lemmas.List.Elements.{All-nil, All-cons, All-head, All-tail, All-append, All-weaker}
use Rattle.std.proofs.lemmas.List.Sums.{sum_by-cons}
use Rattle.concat_split.specs.declared.part.Part.{Part}
use Rattle.concat_split.specs.Kept.{IsPart, AreParts, message_octets}
use Rattle.config_groups.specs.Ranges.{IsUser}
use Rattle.config_groups.specs.declared.settings.user.User.{User}
use Rattle.config_values.specs.Forms.{IsWithin}
use Rattle.gate_model.specs.Acceptor.{MayBeHanded}
use Rattle.sendsms_form.proofs.Ranges.{sent_is}
use Rattle.sendsms_form.specs.declared.form.Form.{Form}
use Rattle.sendsms_form.specs.Ranges.{IsForm, IsReceiver}
use Rattle.sendsms_form.specs.Messages.{limits_of, message, to_each}
use Rattle.sms_record.specs.declared.address.Address.{Address}
use Rattle.sms_record.specs.declared.address.Address.TheVariants.{Number, Text}
use Rattle.sms_record.specs.declared.coding.Coding.{Coding}
use Rattle.sms_record.specs.declared.coding.Coding.TheVariants.{Seven, Eight, Ucs2}
use Rattle.sms_record.specs.declared.sms.Sms.{Sms}
use Rattle.sms_record.specs.Record.{IsAddress, IsSms, address, short, long, marks, times, heading, names, contents, sms_octets}
use Rattle.gate_entries.specs.Entry.{accept_size}

-- ---- how long a record of one part is

length-address : (a : Address) → IsAddress a → length (address a) ≤ 66
length-address (Number plus digits) h = let few : length digits ≤ 15 = h.1 in omega arith
length-address (Text octets) h = let few : length octets ≤ 64 = h in omega arith

length-marks : (sms : Sms) → length (marks sms) ≡ 6
length-marks sms = refl

length-times : (sms : Sms) → length (times sms) ≡ 16
length-times sms = refl

length-long : (octets : List ℕ) → length (long octets) ≡ 2 + length octets
length-long octets = omega arith

length-heading : (sms : Sms) → IsSms sms → length (heading sms) ≤ 154
length-heading sms h =
    let from = length-address sms.sender h.sender in
    let to = length-address sms.receiver h.receiver in
    omega (
      arith,
      length-append (address sms.sender) (address sms.receiver ++ (marks sms ++ times sms)),
      length-append (address sms.receiver) (marks sms ++ times sms),
      length-append (marks sms) (times sms),
      length-marks sms,
      length-times sms,
    )

length-names : (sms : Sms) → IsSms sms → length (names sms) ≤ 2250
length-names sms h =
    let smsc : length sms.smsc ≤ 64 = h.smsc in
    let url : length sms.url ≤ 2048 = h.url in
    let account : length sms.account ≤ 64 = h.account in
    let service : length sms.service ≤ 64 = h.service in
    omega (
      arith,
      length-append (short sms.smsc) (long sms.url ++ (short sms.account ++ short sms.service)),
      length-append (long sms.url) (short sms.account ++ short sms.service),
      length-append (short sms.account) (short sms.service),
      length-long sms.url,
    )

-- a message whose body and header fit in one part
record IsSmall (sms : Sms) : Type 0 where
  is : IsSms sms
  udh : length sms.udh ≤ 60
  body : length sms.body ≤ 160

length-contents : (sms : Sms) → IsSmall sms → length (contents sms) ≤ 2473
length-contents sms h =
    let udh : length sms.udh ≤ 60 = h.udh in
    let body : length sms.body ≤ 160 = h.body in
    let rest = length-names sms h.is in
    omega (arith, length-append (short sms.udh) (long sms.body ++ names sms), length-append (long sms.body) (names sms), length-long sms.body)

length-record : (sms : Sms) → IsSmall sms → length (sms_octets sms) ≤ 2627
length-record sms h =
    omega (arith, length-append (heading sms) (contents sms), length-heading sms h.is, length-contents sms h)

records_size : (messages : List Sms) → All IsSmall messages → sum_by (λ sms. length (sms_octets sms)) messages ≤ 2627 * length messages
records_size [] h = omega arith
records_size (sms ∷ messages) h =
    let first = length-record sms (All-head IsSmall sms messages h) in
    let rest = records_size messages (All-tail IsSmall sms messages h) in
    omega (arith, first, rest, sum_by-cons (λ (m : Sms). length (sms_octets m)) sms messages)

-- ---- one message

receiver_is : (a : Address) → IsReceiver a → IsAddress a
receiver_is (Number plus digits) h = h
receiver_is (Text octets) h = absurd h

body_small : (coding : Coding) (body : List ℕ) → message_octets coding body ≤ 140 → length body ≤ 160
body_small Seven body fits = omega (arith, fits)
body_small Eight body fits = omega (arith, fits)
body_small Ucs2 body fits = omega (arith, fits)

-- a part of a model to a receiver
small_message : (user : User) (form : Form) (now : ℕ) (receiver : Address) (part : Part) → IsUser user → IsForm form → now < 2 ^ 37 → IsReceiver receiver
    → IsPart form.model.coding (length form.model.udh) (limits_of user form.model.coding) part → IsSmall (message form now receiver part)
small_message user form now receiver part u f below r p =
    let fits = p.fits in
    let octets : message_octets form.model.coding part.body ≤ 140 = omega (arith, fits) in
    let small = body_small form.model.coding part.body octets in
    let most : user.max_messages ≤ 100 = u.max_messages.1 in
    let few : part.total ≤ user.max_messages = p.few in
    record {
      is = sent_is form.model receiver part.body part.total part.part now f.model.sms (receiver_is receiver r) (omega (arith, most, few)) p.among below
          (omega (arith, small)) p.coded;
      udh = f.model.udh_len;
      body = small;
    }

-- ---- all of them

module _ (user : User) (form : Form) (now : ℕ) (u : IsUser user) (f : IsForm form) (below : now < 2 ^ 37) where
  abbrev IsOnePart : Part → Type 0
  IsOnePart part = IsPart form.model.coding (length form.model.udh) (limits_of user form.model.coding) part

  small_parts : (receiver : Address) (parts : List Part) → IsReceiver receiver → AllByRecursion IsOnePart parts → All IsSmall (map (message form now receiver) parts)
  small_parts receiver [] r h = All-nil IsSmall
  small_parts receiver (part ∷ parts) r h =
      All-cons IsSmall (message form now receiver part) (map (message form now receiver) parts)
      (small_message user form now receiver part u f below r h.0) (small_parts receiver parts r h.1)

  small_all : (receivers : List Address) (parts : List Part) → All IsReceiver receivers → AllByRecursion IsOnePart parts → All IsSmall (to_each form now receivers parts)
  small_all [] parts r h = All-nil IsSmall
  small_all (receiver ∷ receivers) parts r h =
      All-append IsSmall (map (message form now receiver) parts) (to_each form now receivers parts)
      (small_parts receiver parts (All-head IsReceiver receiver receivers r) h) (small_all receivers parts (All-tail IsReceiver receiver receivers r) h)

  count_parts : (receiver : Address) (parts : List Part) → length (map (message form now receiver) parts) ≡ length parts
  count_parts receiver [] = refl
  count_parts receiver (part ∷ parts) = ap suc (count_parts receiver parts)

  -- as many as receivers times parts
  few_all : (receivers : List Address) (parts : List Part) → length parts ≤ 100 → length (to_each form now receivers parts) ≤ 100 * length receivers
  few_all [] parts few = omega arith
  few_all (receiver ∷ receivers) parts few =
      omega (arith, length-append (map (message form now receiver) parts) (to_each form now receivers parts), count_parts receiver parts, few_all receivers parts few, few)

  some_all : (receivers : List Address) (parts : List Part) → 1 ≤ length receivers → 1 ≤ length parts → 1 ≤ length (to_each form now receivers parts)
  some_all [] parts r p = absurd (omega arith)
  some_all (receiver ∷ receivers) parts r p =
      omega (arith, length-append (map (message form now receiver) parts) (to_each form now receivers parts), count_parts receiver parts, p)

  handed : (messages : List Sms) → 1 ≤ length messages → length messages ≤ 5000 → All IsSmall messages → MayBeHanded messages now
  handed messages some few small =
      let size = records_size messages small in
      let e : accept_size (record { time = now; parts = messages }) ≡ 11 + sum_by (λ sms. length (sms_octets sms)) messages = refl in
      record {
        accept = record { in_time = omega (arith, below); some = some; few = few; each = All-weaker IsSmall IsSms (λ sms h. h.is) messages small };
        time_below = below;
        small = omega (arith, size, e, few);
      }

  -- what a form's parts make may be handed in
  pub parts_handed : (parts : List Part) → AreParts form.model.coding (length form.model.udh) (limits_of user form.model.coding) parts
      → MayBeHanded (to_each form now form.receivers parts) now
  parts_handed parts h =
      let most : user.max_messages ≤ 100 = u.max_messages.1 in
      let within : length parts ≤ user.max_messages = h.few in
      let many : IsWithin 1 50 (length form.receivers) = f.many in
      let few = few_all form.receivers parts (omega (arith, most, within)) in
      handed (to_each form now form.receivers parts)
      (some_all form.receivers parts many.0 h.some)
      (omega (arith, few, many.1))
      (small_all form.receivers parts f.receivers h.each)

-- each is of the reading's time
abbrev IsTimed : ℕ → Sms → Type 0
IsTimed now sms = sms.time ≡ now

timed_parts : (form : Form) (now : ℕ) (receiver : Address) (parts : List Part) → All (IsTimed now) (map (message form now receiver) parts)
timed_parts form now receiver [] = All-nil (IsTimed now)
timed_parts form now receiver (part ∷ parts) =
    All-cons (IsTimed now) (message form now receiver part) (map (message form now receiver) parts) refl (timed_parts form now receiver parts)

pub parts_timed : (form : Form) (now : ℕ) (receivers : List Address) (parts : List Part) → All (IsTimed now) (to_each form now receivers parts)
parts_timed form now [] parts = All-nil (IsTimed now)
parts_timed form now (receiver ∷ receivers) parts =
    All-append (IsTimed now) (map (message form now receiver) parts) (to_each form now receivers parts) (timed_parts form now receiver parts) (parts_timed form now receivers parts)
