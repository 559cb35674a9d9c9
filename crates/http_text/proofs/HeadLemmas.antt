-- What the parser's answers say of a head.
use Rattle.std.proofs.Common.{◌≡◌, Ok, ℕ, ◌<◌, ◌≤◌, List, length, map, take, drop, ap, sym, ◌∙◌, arith, subst}
use Rattle.std.proofs.lemmas.List.{length-map, length-take}
use Rattle.httparse.specs.Spans.{IsRequestAt, RequestOverflows, header_bytes, span_bytes, name_and_value}
use Rattle.httparse.specs.Grammar.{RequestHead}
use Rattle.httparse.specs.Outcome.{IfComplete, OnPartial}
use Rattle.httparse.specs.declared.Error.{Error}
use Rattle.httparse.specs.declared.Status.{Status}
use Rattle.httparse.specs.declared.Status.TheVariants.{Complete, Partial}
use Rattle.httparse.specs.declared.spans.HeaderSpan.{HeaderSpan}
use Rattle.httparse.specs.declared.spans.RequestSpans.{RequestSpans}
use Rattle.http_text.specs.declared.head.Head.{Head}
use Rattle.http_text.specs.Head.{line_limit, head_from, IsWhole, NeverHas}

-- a complete answer, as a match names it
pub complete_from : {A : Type 0} (read : Status A) (a : A) (P : A → Type 0) → read ≡ Complete a → IfComplete {E = Error} (Ok read) P → P a
complete_from Partial a P e h = absurd cc
complete_from (Complete b) a P e h = let same : b ≡ a = cc in subst P same h

-- a partial answer, as a match names it
pub partial_from : {A : Type 0} (read : Status A) (P : Type 0) → read ≡ Partial → OnPartial {A = A} {E = Error} (Ok read) P → P
partial_from (Complete b) P e h = absurd cc
partial_from Partial P e h = h

-- the spans of a head have room for its lines
few_lines : (octets : List ℕ) (spans : List HeaderSpan) (r : RequestSpans) (h : RequestHead) → IsRequestAt octets spans r h
    → length spans ≤ line_limit → length h.fields ≤ line_limit
few_lines octets spans r h at room =
    let e : length (take r.headers spans) ≡ length h.fields = sym (length-map (take r.headers spans) (header_bytes octets)) ∙ ap length at.fields ∙ length-map h.fields name_and_value in
    omega (arith, length-take r.headers spans)

-- a head that was found, and what is made of its spans
pub whole_from : (octets : List ℕ) (spans : List HeaderSpan) (r : RequestSpans) (h : RequestHead) (head : Head)
    → IsRequestAt octets spans r h → length spans ≤ line_limit
    → head ≡ head_from (span_bytes octets r.method) r.version (span_bytes octets r.path) (map (header_bytes octets) (take r.headers spans))
    → IsWhole octets head r.len
whole_from octets spans r h head at room e = (
  h,
  drop r.len octets,
  record { reads = at.reads; few = few_lines octets spans r h at room },
  e
      ∙ ap (λ m. head_from m r.version (span_bytes octets r.path) (map (header_bytes octets) (take r.headers spans))) at.method
      ∙ ap (λ v. head_from h.method v (span_bytes octets r.path) (map (header_bytes octets) (take r.headers spans))) at.version
      ∙ ap (λ t. head_from h.method h.minor t (map (header_bytes octets) (take r.headers spans))) at.path
      ∙ ap (head_from h.method h.minor h.target) at.fields,
  at.len,
)

-- none can come
pub never_from : (octets : List ℕ) → RequestOverflows line_limit octets → NeverHas octets
never_from octets over more h rest s =
    let many : line_limit < length h.fields = over more h rest s.reads in
    let few : length h.fields ≤ line_limit = s.few in
    absurd (omega arith)
