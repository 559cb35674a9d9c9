-- What a form that was read lies within.
use Rattle.std.proofs.Common.{◌≡◌, ℕ, zero, suc, ◌*◌, ◌%◌, ◌^◌, ◌<◌, ◌≤◌, Bool, true, false, cond, leb, List, [], ◌∷◌, ◌++◌, length, take, drop, map, chars, All, Option, Some, None, IfSome, IfOk, Result, Ok, Err, refl, sym, ap, subst, ◌∙◌, arith, inl, inr, length-append}
use Rattle.std.specs.Prelude.{⊤}
use Rattle.std.proofs.lemmas.Bool.{and_parts, cases_Bool, leb-true, eqb-true, false≢true}
use Rattle.std.proofs.lemmas.List.{take-append-drop, length-take-le}
use Rattle.std.proofs.lemmas.List.Elements.{All-nil, All-cons, All-append}
use Rattle.std.specs.List.{list_all, flat_map}
use Rattle.std.specs.Option.{option_or}
use Rattle.std.specs.Int.{w16, to_be_bytes}
use Rattle.std.specs.Char.Escape.{encode_utf16}
use Rattle.kn_base.specs.declared.charset.Charset.{Charset}
use Rattle.kn_base.specs.declared.charset.Charset.TheVariants.{Utf8, Latin1, Utf16Be}
use Rattle.gsm_alphabet.specs.Alphabet.{septets_of}
use Rattle.gsm_alphabet.specs.Charsets.{text_in}
use Rattle.gsm_alphabet.specs.Ucs2.{ucs2_of}
use Rattle.gsm_alphabet.proofs.AlphabetLemmas.{septets_of-small}
use Rattle.sms_record.specs.declared.address.Address.{Address}
use Rattle.sms_record.specs.declared.coding.Coding.{Coding}
use Rattle.sms_record.specs.declared.coding.Coding.TheVariants.{Seven, Eight, Ucs2}
use Rattle.sms_record.specs.Limits.{most_digits}
use Rattle.sms_record.specs.Header.{Element, element, elements, IsHeaderOrNone}
use Rattle.sms_record.specs.Record.{IsOfCoding}
use Rattle.config_groups.specs.declared.settings.user.User.{User}
use Rattle.config_groups.specs.Ranges.{IsUser}
use Rattle.config_values.specs.Values.{is_number_within, number_of, behind_plus}
use Rattle.config_values.specs.Forms.{IsWithin, IsSender}
use Rattle.config_values.proofs.Forms as forms
use Rattle.http_text.specs.declared.answer.Answer.{Answer}
use Rattle.sms_record.specs.Limits.{last_class, most_body, most_mask, most_minutes, most_name, most_url}
use Rattle.sms_record.specs.Record.{IsAddress, IsSms}
use Rattle.sms_record.specs.declared.sms.Sms.{Sms}
use Rattle.http_text.specs.declared.answer.spot.Spot.{Spot}
use Rattle.http_text.specs.declared.answer.spot.Spot.TheVariants.{To, From, Mclass, Udh, Smsc, Validity, Deferred, DlrMask, DlrUrl, Account}
use Rattle.http_text.specs.declared.answer.spot.Spot.TheVariants as spots
use Rattle.sendsms_form.specs.declared.form.Form.{Form}
use Rattle.sendsms_form.specs.declared.pairs.Pair.{Pair}
use Rattle.sendsms_form.specs.Variables.{value_of, right, behind, number_in, number_given, number, or_zero, octets_in, octets, words, is_number, address_of, are_receivers, addresses_in, sender_by, coding_by, fill, is_header, is_udh, header_in, first_of, mask_by, is_body_in, body_in, body_of}
use Rattle.sendsms_form.specs.Form.{receivers_of, sender_of, coding_of, class_of, charset_for, udh_of, manner_of, smsc_by, smsc_of, delivery_of, reports_of, blank, model_of, text_of, form_of}
use Rattle.sendsms_form.specs.Ranges.{IsReceiver, IsModel, IsForm}

-- what a test lets through is what the test tells
tested : {X : Type 0} (passed : Bool) (x : X) (P : X → Type 0) → (passed ≡ true → P x) → IfSome (cond passed (Some x) None) P
tested true x P tells = tells refl
tested false x P tells = tt

-- what is there is what the option tells
there : {X : Type 0} (o : Option X) (x : X) (P : X → Type 0) → IfSome o P → o ≡ Some x → P x
there o x P tells is = subst (λ p. IfSome p P) is tells

-- ---- a variable, and what follows

-- what is right is what the form of its variable tells
right_is : {X : Type 0} (spot : Spot) (o : Option X) (P : X → Type 0) → IfSome o P → IfOk (right spot o) P
right_is spot None P h = tt
right_is spot (Some x) P h = h

-- what is read behind something that is so is so
behind_is : {X Y : Type 0} (r : Result X Answer) (next : X → Result Y Answer) (P : X → Type 0) (Q : Y → Type 0)
    → IfOk r P → ((x : X) → P x → IfOk (next x) Q) → IfOk (behind r next) Q
behind_is (Err answer) next P Q h step = tt
behind_is (Ok x) next P Q h step = step x h

-- nothing is known of it
any : {X : Type 0} (r : Result X Answer) → IfOk r (λ x. ⊤)
any (Err answer) = tt
any (Ok x) = tt

number_in_is : (least most : ℕ) (given : List ℕ) → IfSome (number_in least most given) (λ number. IfSome number (λ n. n ≤ most))
number_in_is least most [] = tt
number_in_is least most (octet ∷ octets) =
    tested (is_number_within least most (octet ∷ octets)) (Some (number_of (octet ∷ octets))) (λ number. IfSome number (λ n. n ≤ most))
    (λ is. (forms.number least most (octet ∷ octets) is).1)

-- a row of numbers
number_given_is : (spot : Spot) (least most : ℕ) (given : List Pair)
    → IfOk (number_given spot least most given) (λ number. IfSome number (λ n. n ≤ most))
number_given_is spot least most given =
    right_is spot (number_in least most (value_of spot given)) (λ number. IfSome number (λ n. n ≤ most)) (number_in_is least most (value_of spot given))

or_zero_is : (most : ℕ) (number : Option ℕ) → IfSome number (λ n. n ≤ most) → or_zero number ≤ most
or_zero_is most None h = omega arith
or_zero_is most (Some number) h = h

number_is : (spot : Spot) (least most : ℕ) (given : List Pair) → IfOk (number spot least most given) (λ n. n ≤ most)
number_is spot least most given =
    behind_is (number_given spot least most given) (λ number. Ok (or_zero number)) (λ number. IfSome number (λ n. n ≤ most)) (λ n. n ≤ most)
    (number_given_is spot least most given) (or_zero_is most)

abbrev IsShort : (most : ℕ) → List ℕ → Type 0
IsShort most octets = length octets ≤ most

-- a row of octets
octets_is : (spot : Spot) (most : ℕ) (given : List Pair) → IfOk (octets spot most given) (IsShort most)
octets_is spot most given =
    right_is spot (octets_in most (value_of spot given)) (IsShort most)
    (tested (leb (length (value_of spot given)) most) (value_of spot given) (IsShort most) (λ is. leb-true (length (value_of spot given)) most is))

-- ---- to, from

receiver : (word : List ℕ) → is_number word ≡ true → IsReceiver (address_of word)
receiver word is =
    let form = forms.digits most_digits (behind_plus word) is in
    (form.0.0, form.0.1, form.1)

each_receiver : (all : List (List ℕ)) → list_all is_number all ≡ true → All IsReceiver (map address_of all)
each_receiver [] is = All-nil IsReceiver
each_receiver (word ∷ rest) is =
    let parts = and_parts (is_number word) (list_all is_number rest) is in
    All-cons IsReceiver (address_of word) (map address_of rest) (receiver word parts.0) (each_receiver rest parts.1)

length-addresses : (all : List (List ℕ)) → length (map address_of all) ≡ length all
length-addresses [] = refl
length-addresses (word ∷ rest) = ap suc (length-addresses rest)

abbrev AreReceivers : List Address → Type 0
AreReceivers receivers = IsWithin 1 50 (length receivers) × All IsReceiver receivers

addresses_are : (given : List ℕ) → IfSome (addresses_in given) AreReceivers
addresses_are given =
    tested (are_receivers given) (map address_of (words given)) AreReceivers
    (λ is.
    let parts = and_parts _ _ is in
    let bounds = forms.within 1 50 (length (words given)) parts.0 in
    (subst (IsWithin 1 50) (sym (length-addresses (words given))) bounds, each_receiver (words given) parts.1))

unless_own : (own common : Option Address) → IfSome own IsSender → IfSome common IsSender → IfSome (option_or own common) IsSender
unless_own (Some own) common o c = o
unless_own None common o c = c

sender_is : (faked : Option Address) (given : List ℕ) (own common : Option Address) → IfSome faked IsSender → IfSome own IsSender → IfSome common IsSender
    → IfSome (sender_by faked given own common) IsSender
sender_is (Some faked) given own common f o c = f
sender_is None [] own common f o c = unless_own own common o c
sender_is None (octet ∷ octets) own common f o c = forms.sender (octet ∷ octets)

-- elements that fill octets are elements
pub elements_in : (most : ℕ) (octets : List ℕ) → fill most octets ≡ true → (es : List Element) × (octets ≡ elements es)
elements_in most [] is = ([], refl)
elements_in zero (octet ∷ octets) is = absurd (false≢true is)
elements_in (suc most) (id ∷ []) is = absurd (false≢true is)
elements_in (suc most) (id ∷ len ∷ rest) is =
    elim (cases_Bool (leb len (length rest))) [
      | inl fits ↦
          let within : len ≤ length rest = leb-true len (length rest) fits in
          let step : fill (suc most) (id ∷ len ∷ rest) ≡ fill most (drop len rest) = rw fits refl in
          let goes : fill most (drop len rest) ≡ true = sym step ∙ is in
          let behind = elements_in most (drop len rest) goes in
          let e : Element = record { id = id; value = take len rest } in
          let long : length (take len rest) ≡ len = length-take-le len rest within in
          let whole : rest ≡ take len rest ++ drop len rest = sym (take-append-drop len rest) in
          let shown : id ∷ len ∷ rest ≡ element e ++ drop len rest =
          ap (λ n. id ∷ n ∷ rest) (sym long) ∙ ap (λ xs. id ∷ length (take len rest) ∷ xs) whole in
          (e ∷ behind.0, shown ∙ ap (λ xs. element e ++ xs) behind.1)
      | inr short ↦
          let gone : fill (suc most) (id ∷ len ∷ rest) ≡ false = rw short refl in
          absurd (false≢true (sym gone ∙ is))
    ]

header_is : (octets : List ℕ) → is_header octets ≡ true → IsHeaderOrNone octets
header_is [] is = inl refl
header_is (count ∷ rest) is =
    let parts = and_parts _ _ is in
    let counted : count ≡ length rest = eqb-true count (length rest) parts.0 in
    let es = elements_in (length rest) rest parts.1 in
    inr (es.0, ap (λ n. n ∷ rest) counted ∙ ap (λ xs. length xs ∷ xs) es.1)

abbrev IsUdh : List ℕ → Type 0
IsUdh octets = (length octets ≤ 60) × IsHeaderOrNone octets

udh_is : (given : List ℕ) → IfSome (header_in given) IsUdh
udh_is given =
    tested (is_udh given) given IsUdh
    (λ is. let parts = and_parts _ _ is in (leb-true (length given) 60 parts.0, header_is given parts.1))

-- ---- text

each_small : (cs : List ℕ) → All (λ septet. septet < 128) (flat_map septets_of cs)
each_small [] = All-nil (λ septet. septet < 128)
each_small (c ∷ cs) = All-append (λ septet. septet < 128) (septets_of c) (flat_map septets_of cs) (septets_of-small c) (each_small cs)

length-units : (units : List ℕ) → length (flat_map (to_be_bytes w16) units) ≡ 2 * length units
length-units [] = refl
length-units (unit ∷ units) = omega (arith, length-append (to_be_bytes w16 unit) (flat_map (to_be_bytes w16) units), length-units units)

even_character : (c : ℕ) → length (ucs2_of c) % 2 ≡ 0
unfolding ucs2_of
even_character c = omega (arith, length-units (encode_utf16 c))

even_text : (cs : List ℕ) → length (flat_map ucs2_of cs) % 2 ≡ 0
even_text [] = refl
even_text (c ∷ cs) = omega (arith, length-append (ucs2_of c) (flat_map ucs2_of cs), even_character c, even_text cs)

-- a text in a coding is of it
pub coded : (coding : Coding) (charset : Charset) (text : List ℕ) → is_body_in coding charset text ≡ true → IsOfCoding coding (body_in coding charset text)
coded Seven charset text is = each_small (chars (text_in charset text))
coded Eight charset text is = tt
coded Ucs2 Utf16Be text is = eqb-true (length text % 2) 0 is
coded Ucs2 Utf8 text is = even_text (chars (text_in Utf8 text))
coded Ucs2 Latin1 text is = even_text (chars (text_in Latin1 text))

body_is : (coding : Coding) (charset : Charset) (text : List ℕ) → IfSome (body_of coding charset text) (IsOfCoding coding)
body_is coding charset text = tested (is_body_in coding charset text) (body_in coding charset text) (IsOfCoding coding) (coded coding charset text)

-- ---- the fields of a message

empty_coded : (coding : Coding) → IsOfCoding coding []
empty_coded Seven = All-nil (λ septet. septet < 128)
empty_coded Eight = tt
empty_coded Ucs2 = refl

-- a message of which its sender and its manner are known
blank_is : (sender : Address) (service : List ℕ) (coding : Coding) (class : Option ℕ) (charset : Charset) (udh : List ℕ)
    → IsSender sender → IsShort 64 service → IfSome class (λ n. n ≤ last_class) → IsUdh udh
    → IsModel (record (blank sender service) { coding = coding; class = class; charset = charset; udh = udh })
blank_is sender service coding class charset udh s few c u =
    let short : length udh ≤ 60 = u.0 in
    record {
      sms = record {
        sender = s.1;
        receiver = omega arith;
        class = c;
        total = omega arith;
        part = (omega arith, omega arith);
        mask = omega arith;
        validity = omega arith;
        deferred = omega arith;
        time = omega arith;
        udh_len = omega (arith, short);
        udh = u.1;
        body_len = omega arith;
        body = empty_coded coding;
        smsc = omega arith;
        url = omega arith;
        account = omega arith;
        service = few;
      };
      sender = s;
      udh_len = u.0;
    }

manner_is : (given : List Pair) (sender : Address) (service : List ℕ) → IsSender sender → IsShort 64 service → IfOk (manner_of given (blank sender service)) IsModel
unfolding manner_of
manner_is given sender service s few =
    behind_is (coding_of given) _ (λ n. ⊤) IsModel (any (coding_of given)) (λ number _.
    behind_is (class_of given) _ (λ class. IfSome class (λ n. n ≤ last_class)) IsModel (number_given_is Mclass 0 last_class given) (λ class c.
    behind_is (charset_for (coding_by number (value_of Udh given)) given) _ (λ n. ⊤) IsModel (any (charset_for (coding_by number (value_of Udh given)) given)) (λ charset _.
    behind_is (udh_of given) _ IsUdh IsModel (right_is Udh (header_in (value_of Udh given)) IsUdh (udh_is (value_of Udh given))) (λ udh u.
    blank_is sender service (coding_by number (value_of Udh given)) class charset udh s few c u))))

smsc_is : (user : User) (given : List Pair) → IsUser user → IfOk (smsc_of user given) (IsShort most_name)
smsc_is user given u = by_forced user.forced_smsc u.forced_smsc
  where
    first_is : (smsc : List ℕ) → IsShort most_name smsc → IsShort most_name (first_of smsc user.default_smsc)
    first_is [] s = u.default_smsc
    first_is (octet ∷ octets) s = s

    by_forced : (forced : List ℕ) → IsShort 64 forced → IfOk (smsc_by forced user given) (IsShort most_name)
    by_forced (octet ∷ octets) f = f
    by_forced [] f =
        behind_is (octets Smsc most_name given) (λ smsc. Ok (first_of smsc user.default_smsc)) (IsShort most_name) (IsShort most_name) (octets_is Smsc most_name given) (λ smsc s. first_is smsc s)

delivery_is : (user : User) (given : List Pair) (sms : Sms) → IsUser user → IsModel sms → IfOk (delivery_of user given sms) IsModel
unfolding delivery_of
delivery_is user given sms u h =
    behind_is (smsc_of user given) _ (IsShort most_name) IsModel (smsc_is user given u) (λ smsc s.
    behind_is (number Validity 1 most_minutes given) _ (λ n. n ≤ most_minutes) IsModel (number_is Validity 1 most_minutes given) (λ validity v.
    behind_is (number Deferred 0 most_minutes given) _ (λ n. n ≤ most_minutes) IsModel (number_is Deferred 0 most_minutes given) (λ deferred d.
    let i = h.sms in
    record {
      sms = record {
        sender = i.sender;
        receiver = i.receiver;
        class = i.class;
        total = i.total;
        part = i.part;
        mask = i.mask;
        validity = v;
        deferred = d;
        time = i.time;
        udh_len = i.udh_len;
        udh = i.udh;
        body_len = i.body_len;
        body = i.body;
        smsc = s;
        url = i.url;
        account = i.account;
        service = i.service;
      };
      sender = h.sender;
      udh_len = h.udh_len;
    })))

mask_is : (mask : ℕ) (url : List ℕ) → mask ≤ most_mask → mask_by mask url ≤ most_mask
mask_is mask [] small = omega arith
mask_is mask (octet ∷ octets) small = small

reports_is : (given : List Pair) (sms : Sms) → IsModel sms → IfOk (reports_of given sms) IsModel
unfolding reports_of
reports_is given sms h =
    behind_is (number DlrMask 0 most_mask given) _ (λ n. n ≤ most_mask) IsModel (number_is DlrMask 0 most_mask given) (λ mask m.
    behind_is (octets DlrUrl most_url given) _ (IsShort most_url) IsModel (octets_is DlrUrl most_url given) (λ url l.
    behind_is (octets Account most_name given) _ (IsShort most_name) IsModel (octets_is Account most_name given) (λ account a.
    let i = h.sms in
    record {
      sms = record {
        sender = i.sender;
        receiver = i.receiver;
        class = i.class;
        total = i.total;
        part = i.part;
        mask = mask_is mask url m;
        validity = i.validity;
        deferred = i.deferred;
        time = i.time;
        udh_len = i.udh_len;
        udh = i.udh;
        body_len = i.body_len;
        body = i.body;
        smsc = i.smsc;
        url = l;
        account = a;
        service = i.service;
      };
      sender = h.sender;
      udh_len = h.udh_len;
    })))

-- a message is one that a record keeps, whatever its receiver, body and time, where these are
pub sent_is : (model : Sms) (receiver : Address) (body : List ℕ) (total part time : ℕ) → IsSms model → IsAddress receiver → total ≤ 100
    → (1 ≤ part) × (part ≤ total) → time < 2 ^ 37 → length body ≤ most_body → IsOfCoding model.coding body
    → IsSms (record model { receiver = receiver; body = body; total = total; part = part; time = time })
sent_is model receiver body total part time i r many among below few coded = record {
  sender = i.sender;
  receiver = r;
  class = i.class;
  total = many;
  part = among;
  mask = i.mask;
  validity = i.validity;
  deferred = i.deferred;
  time = below;
  udh_len = i.udh_len;
  udh = i.udh;
  body_len = few;
  body = coded;
  smsc = i.smsc;
  url = i.url;
  account = i.account;
  service = i.service;
}

-- ---- all together

model_is : (user : User) (common : Option Address) (given : List Pair) → IsUser user → IfSome common IsSender → IfOk (model_of user common given) IsModel
unfolding model_of
model_is user common given u c =
    behind_is (sender_of user common given) _ IsSender IsModel
    (right_is From (sender_by user.faked_sender (value_of From given) user.default_sender common) IsSender
    (sender_is user.faked_sender (value_of From given) user.default_sender common u.faked_sender u.default_sender c)) (λ sender s.
    behind_is (manner_of given (blank sender user.name)) _ IsModel IsModel (manner_is given sender user.name s u.name.1) (λ sms m.
    behind_is (delivery_of user given sms) _ IsModel IsModel (delivery_is user given sms u m) (λ sms d.
    reports_is given sms d)))

text_is : (model : Sms) (given : List Pair) → IfOk (text_of model given) (IsOfCoding model.coding)
text_is model given =
    right_is spots.Text (body_of model.coding model.charset (value_of spots.Text given)) (IsOfCoding model.coding)
    (body_is model.coding model.charset (value_of spots.Text given))

-- the form of a user's request lies within the ranges of its table
form_within : (user : User) (common : Option Address) (given : List Pair) → IsUser user → IfSome common IsSender
    → IfOk (form_of user common given) IsForm
unfolding form_of
form_within user common given u c =
    behind_is (receivers_of given) _ AreReceivers IsForm
    (right_is To (addresses_in (value_of To given)) AreReceivers (addresses_are (value_of To given))) (λ receivers r.
    behind_is (model_of user common given) _ IsModel IsForm (model_is user common given u c) (λ model m.
    behind_is (text_of model given) _ (IsOfCoding model.coding) IsForm (text_is model given) (λ body b.
    record { many = r.0; receivers = r.1; model = m; body = b })))

pub form_is : (user : User) (common : Option Address) (given : List Pair) (form : Form) → IsUser user → IfSome common IsSender
    → form_of user common given ≡ Ok form → IsForm form
form_is user common given form u c is = subst (λ r. IfOk r IsForm) is (form_within user common given u c)
