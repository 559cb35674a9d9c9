-- A message that is heard has a record, once it has a time and an SMSC id.
use Rattle.std.proofs.Common.{◌≡◌, ℕ, ◌-◌, ◌%◌, ◌<◌, ◌≤◌, Bool, List, [], ◌∷◌, length, take, map, Option, IfSome, All, refl, arith, inl, inr}
use Rattle.std.proofs.lemmas.Bool.{cases_Bool}
use Rattle.std.proofs.lemmas.List.{length-take, length-take-le, length-map}
use Rattle.std.proofs.lemmas.List.Elements.{All-nil, All-cons}
use Rattle.sms_record.specs.declared.address.Address.{Address}
use Rattle.sms_record.specs.declared.coding.Coding.{Coding}
use Rattle.sms_record.specs.declared.coding.Coding.TheVariants.{Seven, Eight, Ucs2}
use Rattle.sms_record.specs.Limits.{most_body, most_digits, most_address_text, most_header}
use Rattle.sms_record.specs.Header.{IsHeaderOrNone}
use Rattle.sms_record.specs.Record.{IsAddress, IsOfCoding}
use Rattle.config_values.specs.Values.{is_digits, behind_plus}
use Rattle.config_values.proofs.Forms.{digits}
use Rattle.link_core.specs.Arrivals.{arrival_of, address_of, body_of}
use Rattle.link_core.specs.Heard.{IsArrival}

pub address_kept : (international : Bool) (text : List ℕ) → IsAddress (address_of international text)
address_kept international text =
    elim (cases_Bool (is_digits most_digits (behind_plus text))) [
      | inl is ↦
          let form = digits most_digits (behind_plus text) is in
          rw is (form.0.0, form.0.1, form.1)
      | inr other ↦ rw other (omega (arith, length-take most_address_text text))
    ]

small : (xs : List ℕ) → All (λ octet. octet < 128) (map (λ octet. octet % 128) xs)
small [] = All-nil (λ octet. octet < 128)
small (x ∷ xs) = All-cons (λ octet. octet < 128) (x % 128) (map (λ octet. octet % 128) xs) (omega arith) (small xs)

pub body_coded : (coding : Coding) (octets : List ℕ) → IsOfCoding coding (body_of coding octets)
body_coded Seven octets = small (take most_body octets)
body_coded Eight octets = tt
body_coded Ucs2 octets =
    let kept = take most_body octets in
    let len : length (take (length kept - length kept % 2) kept) ≡ length kept - length kept % 2 = length-take-le (length kept - length kept % 2) kept (omega arith) in
    omega (arith, len)

pub body_kept : (coding : Coding) (octets : List ℕ) → length (body_of coding octets) ≤ most_body
body_kept Seven octets = omega (arith, length-map (take most_body octets) (λ (octet : ℕ). octet % 128), length-take most_body octets)
body_kept Eight octets = omega (arith, length-take most_body octets)
body_kept Ucs2 octets =
    let kept = take most_body octets in
    omega (arith, length-take most_body octets, length-take (length kept - length kept % 2) kept)

-- what is made of good parts arrives
pub arrives : (sender receiver : Address) (coding : Coding) (class : Option ℕ) (udh body : List ℕ) → IsAddress sender → IsAddress receiver → IfSome class (λ class. class ≤ 3) → length udh ≤ most_header → IsHeaderOrNone udh → length body ≤ most_body → IsOfCoding coding body → IsArrival (arrival_of sender receiver coding class udh body)
arrives sender receiver coding class udh body from to classed udh_len formed len coded = record {
  bare = refl;
  recorded = λ time smsc early short. record {
    sender = from;
    receiver = to;
    class = classed;
    total = omega arith;
    part = (omega arith, omega arith);
    mask = omega arith;
    validity = omega arith;
    deferred = omega arith;
    time = early;
    udh_len = udh_len;
    udh = formed;
    body_len = len;
    body = coded;
    smsc = short;
    url = omega arith;
    account = omega arith;
    service = omega arith;
  };
}
