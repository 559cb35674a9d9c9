-- A head that was read is cut off the front of what it was read of.
use Rattle.std.proofs.Common.{◌≡◌, ◌≢◌, ℕ, ◌+◌, ◌≤◌, List, [], ◌∷◌, ◌++◌, length, refl, take, ap, sym, ◌∙◌, arith, length-append, length-take, take-take}
use Rattle.std.proofs.Math.Seq.{take-append_seam}
use Rattle.std.proofs.lemmas.List.{append-nil}
use Rattle.httparse.specs.Grammar.{print_request}
use Rattle.http_text.specs.Head.{head_limit, looked_at, IsWhole}
use Rattle.http_text.specs.OneHead.{IsHead}
use Rattle.http_text.specs.declared.head.Head.{Head}
use Rattle.http_text.proofs.FirstHead.{more_at_first}

-- its octets are the first ones, so many of them
pub whole_head : (octets : List ℕ) (head : Head) (len : ℕ) → IsWhole (looked_at octets) head len → IsHead (take len octets) head × (len ≤ length octets)
whole_head octets head len whole =
    let h = whole.0 in
    let rest = whole.1 in
    let stands = whole.2 in
    let len_is : len ≡ length (print_request h) = whole.4 in
    let all : length (looked_at octets) ≡ length (print_request h) + length rest = ap length stands.reads.1 ∙ length-append (print_request h) rest in
    let most = length-take head_limit octets in
    let within : len ≤ head_limit = omega (arith, all, most, len_is) in
    let inside : len ≤ length octets = omega (arith, all, most, len_is) in
    let front : take len octets ≡ print_request h =
    sym (take-take len head_limit octets within) ∙ ap (take len) stands.reads.1 ∙ ap (λ n. take n (print_request h ++ rest)) len_is ∙ take-append_seam (print_request h) rest in (
      record {
        request = h;
        form = stands.reads.0;
        few = stands.few;
        printed = front;
        short = omega (arith, ap length front, len_is, within);
        says = whole.3;
      },
      inside,
    )

some_octets : (octets : List ℕ) → octets ≢ [] → 1 ≤ length octets
some_octets [] some = absurd (some refl)
some_octets (octet ∷ octets) some = omega arith

-- a head has some octets
pub some_head : (octets : List ℕ) (head : Head) → IsHead octets head → 1 ≤ length octets
some_head octets head is = some_octets octets λ none.
    let empty : [] ≡ print_request is.request ++ [] = sym none ∙ is.printed ∙ sym (append-nil (print_request is.request)) in
    more_at_first.open_yet.none is.request [] (record { reads = (is.form, empty); few = is.few })
