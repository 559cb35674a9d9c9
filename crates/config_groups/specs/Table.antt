-- The table of all variables (docs/FORMATS.md, 'Configuration'): which groups have each, what it may hold, and whether it is needed.
use Rattle.std.specs.Prelude.{ℕ, ◌-◌, ◌^◌, Bool, true, List, [], ◌∷◌, codes, bytes_eq, Option, Some, None, is_some, if◌then◌else◌}
use Rattle.route_rules.specs.declared.link_kind.LinkKind.{LinkKind}
use Rattle.route_rules.specs.declared.link_kind.LinkKind.TheVariants as protocols
use Rattle.config_values.specs.declared.grammar.Grammar.TheVariants.{Octets, Number, Truth, Sender, Printable, Digits, Path, Word, Utf8, Characters}
use Rattle.config_values.specs.declared.grammar.Grammar.TheVariants as grammars
use Rattle.config_values.specs.Values.{holds}
use Rattle.config_groups.specs.declared.table.Section.{Section}
use Rattle.config_groups.specs.declared.table.Section.TheVariants.{Every, Core, Link, Smpp, Ucp, Cimd2, Smsbox, User, Service, Split}
use Rattle.config_groups.specs.declared.table.Range.{Range}
use Rattle.config_groups.specs.declared.table.Range.TheVariants.{Any, Of, Protocol, Text}
use Rattle.config_groups.specs.declared.table.Need.{Need as NeedInCode}
use Rattle.config_groups.specs.declared.table.Need.TheVariants as needs
use Rattle.config_groups.specs.declared.table.Row.{Row as RowInCode}

-- whether a variable has to stand in its groups: it may be left out, it always has to, or unless the variable of this name does
pub data Need : Type 0 where
  Free : Need
  Always : Need
  Without : List ℕ → Need

-- a variable: which groups have it, its name, what it may hold, and whether it has to stand
pub record Row : Type 0 where
  pub of : Section
  pub name : List ℕ
  pub range : Range
  pub need : Need

abbrev pub row : Section → List ℕ → Range → Need → Row
row of name range need = record { of = of; name = name; range = range; need = need }

-- the rows of the code, without what a borrow is
abbrev pub plain_need : NeedInCode → Need
plain_need needs.Free = Free
plain_need needs.Always = Always
plain_need (needs.Without name) = Without name.now

abbrev pub plain : RowInCode → Row
plain r = row r.0 r.1.now r.2 (plain_need r.3)

-- from so many to so many octets
abbrev pub octets : (least most : ℕ) → Range
octets least most = Of (Octets least most)

-- a number in this range
abbrev pub number : (least most : ℕ) → Range
number least most = Of (Number least most)

-- from one to so many octets of printable ASCII, or digits
abbrev pub printable : (most : ℕ) → Range
printable most = Of (Printable most)

abbrev pub digits : (most : ℕ) → Range
digits most = Of (Digits most)

abbrev pub list : Range
list = Of grammars.List

abbrev pub sender : Range
sender = Of Sender

abbrev pub truth : Range
truth = Of Truth

unfoldable pub rows : List Row
rows =
    row Every (codes "group") Any Always ∷
    row Core (codes "store-file") (octets 1 255) Free ∷
    row Core (codes "smsbox-port") (number 1 65535) Free ∷
    row Core (codes "sms-outgoing-queue-limit") (number 1 4000000) Free ∷
    row Core (codes "sms-incoming-queue-limit") (number 1 4000000) Free ∷
    row Core (codes "http-workers") (number 1 32) Free ∷
    row Core (codes "box-workers") (number 1 32) Free ∷
    row Link (codes "smsc") Protocol Always ∷
    row Link (codes "smsc-id") (octets 0 64) Free ∷
    row Link (codes "host") (octets 1 255) Always ∷
    row Link (codes "port") (number 1 65535) Always ∷
    row Smpp (codes "smsc-username") (printable 15) Always ∷
    row Smpp (codes "smsc-password") (printable 8) Always ∷
    row Ucp (codes "smsc-username") (digits 16) Always ∷
    row Ucp (codes "smsc-password") (printable 16) Always ∷
    row Cimd2 (codes "smsc-username") (printable 32) Always ∷
    row Cimd2 (codes "smsc-password") (printable 32) Always ∷
    row Link (codes "system-type") (octets 0 12) Free ∷
    row Link (codes "denied-smsc-id") list Free ∷
    row Link (codes "allowed-smsc-id") list Free ∷
    row Link (codes "preferred-smsc-id") list Free ∷
    row Link (codes "denied-prefix") list Free ∷
    row Link (codes "allowed-prefix") list Free ∷
    row Link (codes "preferred-prefix") list Free ∷
    row Link (codes "max-pending-submits") (number 1 50) Free ∷
    row Link (codes "window") (number 1 50) Free ∷
    row Link (codes "wait-ack") (number 1 3600) Free ∷
    row Link (codes "keepalive") (number 0 3600) Free ∷
    row Link (codes "enquire-link-interval") (number 0 3600) Free ∷
    row Link (codes "reconnect-delay") (number 1 3600) Free ∷
    row Smsbox (codes "bearerbox-host") (octets 1 255) Free ∷
    row Smsbox (codes "sendsms-port") (number 1 65535) Free ∷
    row Smsbox (codes "sendsms-url") (Of Path) Free ∷
    row Smsbox (codes "global-sender") sender Free ∷
    row Smsbox (codes "reply-couldnotfetch") (Of (Utf8 160)) Free ∷
    row Smsbox (codes "reply-requestfailed") (Of (Utf8 160)) Free ∷
    row Smsbox (codes "reply-emptymessage") (Of (Utf8 160)) Free ∷
    row User (codes "username") (octets 1 64) Always ∷
    row User (codes "password") (octets 1 64) Always ∷
    row User (codes "name") (octets 1 64) Free ∷
    row User (codes "default-smsc") (octets 0 64) Free ∷
    row User (codes "forced-smsc") (octets 0 64) Free ∷
    row User (codes "default-sender") sender Free ∷
    row User (codes "faked-sender") sender Free ∷
    row Service (codes "keyword") (Of (Word 64)) Always ∷
    row Service (codes "aliases") list Free ∷
    row Service (codes "name") (octets 1 64) Free ∷
    row Service (codes "text") (octets 0 2048) (Without (codes "get-url")) ∷
    row Service (codes "get-url") (octets 0 2048) Free ∷
    row Service (codes "omit-empty") truth Free ∷
    row Split (codes "max-messages") (number 1 100) Free ∷
    row Split (codes "concatenation") truth Free ∷
    row Split (codes "split-chars") (Of (Characters 64)) Free ∷
    row Split (codes "split-suffix") Text Free ∷
    row Split (codes "header") Text Free ∷
    row Split (codes "footer") Text Free ∷ []

-- the protocol of a name
abbrev pub protocol_of : List ℕ → Option LinkKind
protocol_of value =
    if bytes_eq value (codes "smpp") then Some protocols.Smpp else
    if bytes_eq value (codes "emi") then Some protocols.Ucp else
    if bytes_eq value (codes "cimd2") then Some protocols.Cimd2 else None

-- a variable of this range may hold these octets
abbrev pub is_in : Range → List ℕ → Bool
is_in Any value = true
is_in (Of grammar) value = holds grammar value
is_in Protocol value = is_some (protocol_of value)
is_in Text value = holds (Utf8 (2 ^ 64 - 1)) value
