-- Octets that are the head of a request and no more.
use Rattle.std.specs.Prelude.{◌≡◌, ℕ, ◌≤◌, List, length}
use Rattle.httparse.specs.Grammar.{RequestHead, IsRequestHead, print_request}
use Rattle.http_text.specs.Head.{head_limit, line_limit, head_of}
use Rattle.http_text.specs.declared.head.Head.{Head}

-- The octets are one head of no more header lines, within those that are looked at, and it says this.
pub record IsHead (octets : List ℕ) (head : Head) : Type 0 where
  pub request : RequestHead
  pub form : IsRequestHead request
  pub few : length request.fields ≤ line_limit
  pub printed : octets ≡ print_request request
  pub short : length octets ≤ head_limit
  pub says : head ≡ head_of request
