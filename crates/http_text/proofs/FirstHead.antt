-- Before any octet a head can come: the shortest there is.
use Rattle.std.proofs.Common.{◌≡◌, inl, ℕ, zero, suc, List, [], ◌∷◌, ◌++◌, length, refl, ap, sym, ◌∙◌, arith, length-append}
use Rattle.std.specs.Prelude.{codes, IsAscii}
use Rattle.std.proofs.lemmas.List.{append-nil}
use Rattle.std.proofs.lemmas.List.Sums.{AllPass-from_list_all}
use Rattle.std.proofs.lemmas.List.Elements.{All-nil}
use Rattle.std.proofs.lemmas.Str.{IsUtf8-from_ascii}
use Rattle.httparse.specs.Grammar.{RequestHead, IsRequestHead, is_token_byte, is_uri_byte, IsField, lf, print_request, print_blank, print_version, print_end, print_section}
use Rattle.httparse.proofs.GrammarLemmas.{print_request-append}
use Rattle.http_text.specs.Head.{HasNone, NeedsMore}

-- no head is empty
none_of_nothing : HasNone []
none_of_nothing h rest s =
    let back : List ℕ = h.target ++ 32 ∷ (print_version h.minor ++ (print_end h.line_end ++ (print_section h.fields h.last ++ rest))) in
    let e : 0 ≡ length (print_blank h.blank ++ (h.method ++ 32 ∷ back)) = ap length (s.reads.1 ∙ print_request-append h rest) in
    absurd (omega (arith, length-append (print_blank h.blank) (h.method ++ 32 ∷ back), length-append h.method (32 ∷ back)))

-- a head of two lines
abbrev pub shortest : RequestHead
shortest = record {
  blank = [];
  method = codes "GET";
  target = codes "/";
  minor = 0;
  line_end = lf;
  fields = [];
  last = lf;
}

slash_is_ascii : IsAscii (codes "/")
slash_is_ascii zero = omega arith
slash_is_ascii (suc i) = omega arith

pub is_shortest : IsRequestHead shortest
unfolding is_token_byte
is_shortest = record {
  method = (omega arith, AllPass-from_list_all is_token_byte (codes "GET") refl);
  target = (omega arith, AllPass-from_list_all is_uri_byte (codes "/") refl);
  target_text = IsUtf8-from_ascii (codes "/") slash_is_ascii;
  minor = omega arith;
  fields = All-nil IsField;
}

-- before anything is heard, a head can come
pub more_at_first : NeedsMore []
more_at_first = record {
  few = omega arith;
  open_yet = record {
    none = none_of_nothing;
    may_come = inl (print_request shortest, shortest, [], record { reads = (is_shortest, sym (append-nil (print_request shortest))); few = omega arith });
  };
}
