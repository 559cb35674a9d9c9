-- What each group sets lies within its ranges.
use Rattle.std.proofs.Common.{◌≡◌, refl, ℕ, ◌≤◌, true, List, [], length, Some, None, IfSome, arith}
use Rattle.std.specs.Prelude.{codes}
use Rattle.std.specs.Str.{is_utf8, chars}
use Rattle.std.proofs.lemmas.List.Elements.{All-weaker}
use Rattle.route_rules.specs.declared.link_kind.LinkKind.{LinkKind}
use Rattle.route_rules.specs.declared.link_kind.LinkKind.TheVariants as protocols
use Rattle.config_values.specs.declared.grammar.Grammar.TheVariants as grammars
use Rattle.sms_record.specs.Record.{IsDigit}
use Rattle.config_values.specs.Forms.{IsWithin, AreEntries, IsPrintable, IsDigits, IsWord, IsPath, IsText}
use Rattle.config_values.proofs.Forms as forms
use Rattle.config_groups.specs.declared.group.Set.{Set}
use Rattle.config_groups.specs.declared.role.Kind.TheVariants as kinds
use Rattle.config_groups.specs.declared.role.Role.{Role}
use Rattle.config_groups.specs.declared.role.Role.TheVariants.{Taken}
use Rattle.config_groups.specs.declared.table.Range.{Range}
use Rattle.config_groups.specs.declared.table.Range.TheVariants.{Of, Text}
use Rattle.config_groups.specs.Table.{rows, Always, is_in}
use Rattle.config_groups.specs.Fields.{value, octets, optional, small, list}
use Rattle.config_groups.specs.Faults.{range_of, group_fault}
use Rattle.config_groups.specs.Missing.{lacking}
use Rattle.config_groups.specs.Settings.{core_of, outgoing_of, incoming_of, window_of, keepalive_of, link_of, rule_of, replies_of, smsbox_of, texts_of, ways_of, identity_of, user_of, names_of, answers_of, service_of}
use Rattle.config_groups.specs.Ranges.{IsCore, IsLinkRule, IsLink, IsLogin, IsPair, IsReply, IsSmsbox, AreTexts, IsUser, IsService}
use Rattle.config_groups.proofs.Tried.{need_of}
use Rattle.config_groups.proofs.Together.{together}
use Rattle.config_groups.proofs.Held.{value_or, optional_of, number_or, small_or, port_or, octets_or, list_of, text_of, value_always, octets_always, port_always, one_of_two, sender_of_group}

-- at most so many octets
short : (most : ℕ) (v : List ℕ) → is_in (Of (grammars.Octets 0 most)) v ≡ true → length v ≤ most
short most v is = (forms.within 0 most (length v) is).1

-- ---- core

abbrev core : Role
core = Taken kinds.Core

module _ (group : List Set) (right : group_fault core group ≡ None) where
  pub core_within : IsCore (core_of group)
  unfolding core_of range_of rows
  core_within = record {
    store_file =
        value_or core group right (codes "store-file") [] (Of (grammars.Octets 1 255)) (λ v. length v ≤ 255) refl
        (λ v is. (forms.within 1 255 (length v) is).1) (omega arith);
    smsbox_port = port_or core group right (codes "smsbox-port") 13001 refl (omega arith, omega arith);
    http_workers = small_or core group right (codes "http-workers") 4 1 32 refl (omega arith, omega arith) (omega arith);
    box_workers = small_or core group right (codes "box-workers") 4 1 32 refl (omega arith, omega arith) (omega arith);
  }

  pub outgoing_within : IsWithin 1 4000000 (outgoing_of group)
  unfolding outgoing_of range_of rows
  outgoing_within = number_or core group right (codes "sms-outgoing-queue-limit") 1000000 1 4000000 refl (omega arith, omega arith)

  pub incoming_within : IsWithin 1 4000000 (incoming_of group)
  unfolding incoming_of range_of rows
  incoming_within = number_or core group right (codes "sms-incoming-queue-limit") 1000000 1 4000000 refl (omega arith, omega arith)

-- ---- smsbox

abbrev smsbox : Role
smsbox = Taken kinds.Smsbox

module _ (group : List Set) (right : group_fault smsbox group ≡ None) where
  reply_within : (name unset : List ℕ) → range_of smsbox name ≡ Some (Of (grammars.Utf8 160)) → is_in (Of (grammars.Utf8 160)) unset ≡ true →
      IsReply (value name unset group)
  reply_within name unset row default = value_or smsbox group right name unset (Of (grammars.Utf8 160)) IsReply row (forms.utf8 160) (forms.utf8 160 unset default)

  pub smsbox_within : IsSmsbox (smsbox_of group)
  unfolding smsbox_of replies_of range_of rows is_utf8 chars lib.Utf8.encode
  smsbox_within = record {
    bearerbox_host = octets_or smsbox group right (codes "bearerbox-host") (codes "localhost") 1 255 refl (omega arith, omega arith);
    sendsms_port = port_or smsbox group right (codes "sendsms-port") 13013 refl (omega arith, omega arith);
    sendsms_url = value_or smsbox group right (codes "sendsms-url") (codes "/cgi-bin/sendsms") (Of grammars.Path) IsPath refl forms.path refl;
    global_sender = sender_of_group (codes "global-sender") group;
    reply_couldnotfetch = reply_within (codes "reply-couldnotfetch") (codes "Could not fetch content, sorry.") refl refl;
    reply_requestfailed = reply_within (codes "reply-requestfailed") (codes "Request Failed") refl refl;
    reply_emptymessage = reply_within (codes "reply-emptymessage") (codes "<Empty reply from service provider>") refl refl;
  }

-- ---- smsc

abbrev link : LinkKind → Role
link kind = Taken (kinds.Link (Some kind))

-- what holds of links of each protocol
each_link : (P : LinkKind → Type 0) → P protocols.Smpp → P protocols.Ucp → P protocols.Cimd2 → (kind : LinkKind) → P kind
each_link P smpp ucp cimd2 protocols.Smpp = smpp
each_link P smpp ucp cimd2 protocols.Ucp = ucp
each_link P smpp ucp cimd2 protocols.Cimd2 = cimd2

-- a variable has the same row in links of each protocol
abbrev IsRow : (name : List ℕ) → Range → Type 0
IsRow name range =
    (range_of (link protocols.Smpp) name ≡ Some range) × (range_of (link protocols.Ucp) name ≡ Some range) × (range_of (link protocols.Cimd2) name ≡ Some range)

row_of : (kind : LinkKind) (name : List ℕ) (range : Range) → IsRow name range → range_of (link kind) name ≡ Some range
row_of kind name range row = each_link (λ k. range_of (link k) name ≡ Some range) row.0 row.1 row.2 kind

-- a variable has to stand in links of each protocol
abbrev HasToStand : (name : List ℕ) → Type 0
HasToStand name = (need_of (link protocols.Smpp) name ≡ Always) × (need_of (link protocols.Ucp) name ≡ Always) × (need_of (link protocols.Cimd2) name ≡ Always)

stands_in : (kind : LinkKind) (name : List ℕ) → HasToStand name → need_of (link kind) name ≡ Always
stands_in kind name stands = each_link (λ k. need_of (link k) name ≡ Always) stands.0 stands.1 stands.2 kind

login_within : (kind : LinkKind) (group : List Set) → group_fault (link kind) group ≡ None → lacking (link kind) group ≡ None →
    IsLogin kind (octets (codes "smsc-username") group) (octets (codes "smsc-password") group)
unfolding range_of need_of rows
login_within protocols.Smpp group right whole = (
  value_always (link protocols.Smpp) group right whole (codes "smsc-username") (Of (grammars.Printable 15)) (IsPrintable 15) refl refl (forms.printable 15),
  value_always (link protocols.Smpp) group right whole (codes "smsc-password") (Of (grammars.Printable 8)) (IsPrintable 8) refl refl (forms.printable 8),
)
login_within protocols.Ucp group right whole = (
  value_always (link protocols.Ucp) group right whole (codes "smsc-username") (Of (grammars.Digits 16)) (IsDigits 16) refl refl (forms.digits 16),
  value_always (link protocols.Ucp) group right whole (codes "smsc-password") (Of (grammars.Printable 16)) (IsPrintable 16) refl refl (forms.printable 16),
)
login_within protocols.Cimd2 group right whole = (
  value_always (link protocols.Cimd2) group right whole (codes "smsc-username") (Of (grammars.Printable 32)) (IsPrintable 32) refl refl (forms.printable 32),
  value_always (link protocols.Cimd2) group right whole (codes "smsc-password") (Of (grammars.Printable 32)) (IsPrintable 32) refl refl (forms.printable 32),
)

wider : (less most : ℕ) (v : List ℕ) → less ≤ most → IsPrintable less v → IsPrintable most v
wider less most v low is = ((is.0.0, omega (arith, is.0.1)), is.1)

digits_printable : (v : List ℕ) → IsDigits 16 v → IsPrintable 32 v
digits_printable v is = ((is.0.0, omega (arith, is.0.1)), All-weaker IsDigit (IsWithin 32 126) (λ octet digit. (omega (arith, digit.0), omega (arith, digit.1))) v is.1)

login_printable : (kind : LinkKind) (username password : List ℕ) → IsLogin kind username password → IsPrintable 32 username × IsPrintable 32 password
login_printable protocols.Smpp username password is = (wider 15 32 username (omega arith) is.0, wider 8 32 password (omega arith) is.1)
login_printable protocols.Ucp username password is = (digits_printable username is.0, wider 16 32 password (omega arith) is.1)
login_printable protocols.Cimd2 username password is = is

module _ (kind : LinkKind) (group : List Set) (right : group_fault (link kind) group ≡ None) (whole : lacking (link kind) group ≡ None) where
  up_to : (name : List ℕ) (most : ℕ) → IsRow name (Of (grammars.Octets 0 most)) → length (octets name group) ≤ most
  up_to name most row = (octets_or (link kind) group right name [] 0 most (row_of kind name _ row) (omega arith, omega arith)).1

  entries_of : (name : List ℕ) → IsRow name (Of grammars.List) → AreEntries (list name group)
  entries_of name row = list_of (link kind) group right name (row_of kind name _ row)

  number_in : (name : List ℕ) (unset least most : ℕ) → IsRow name (Of (grammars.Number least most)) → IsWithin least most unset → most ≤ 4294967295
      → IsWithin least most (small name unset group)
  number_in name unset least most row default low = small_or (link kind) group right name unset least most (row_of kind name _ row) default low

  pub rule_within : IsLinkRule (rule_of kind group)
  unfolding rule_of range_of need_of rows
  rule_within = record {
    id = up_to (codes "smsc-id") 64 (refl, refl, refl);
    denied_ids = entries_of (codes "denied-smsc-id") (refl, refl, refl);
    allowed_ids = entries_of (codes "allowed-smsc-id") (refl, refl, refl);
    preferred_ids = entries_of (codes "preferred-smsc-id") (refl, refl, refl);
    denied_prefixes = entries_of (codes "denied-prefix") (refl, refl, refl);
    allowed_prefixes = entries_of (codes "allowed-prefix") (refl, refl, refl);
    preferred_prefixes = entries_of (codes "preferred-prefix") (refl, refl, refl);
  }

  window_within : IsWithin 1 50 (window_of group)
  unfolding window_of range_of need_of rows
  window_within =
      number_in (codes "max-pending-submits") _ 1 50 (refl, refl, refl)
      (number_in (codes "window") 10 1 50 (refl, refl, refl) (omega arith, omega arith) (omega arith)) (omega arith)

  keepalive_within : IsWithin 0 3600 (keepalive_of group)
  unfolding keepalive_of range_of need_of rows
  keepalive_within =
      number_in (codes "keepalive") _ 0 3600 (refl, refl, refl)
      (number_in (codes "enquire-link-interval") 30 0 3600 (refl, refl, refl) (omega arith, omega arith) (omega arith)) (omega arith)

  pub link_within : IsLink (link_of group)
  unfolding link_of range_of need_of rows
  link_within = let login = login_printable kind _ _ (login_within kind group right whole) in record {
    smsc_id = up_to (codes "smsc-id") 64 (refl, refl, refl);
    host = octets_always (link kind) group right whole (codes "host") 1 255 (row_of kind (codes "host") _ (refl, refl, refl)) (stands_in kind (codes "host") (refl, refl, refl));
    port = port_always (link kind) group right whole (codes "port") (row_of kind (codes "port") _ (refl, refl, refl)) (stands_in kind (codes "port") (refl, refl, refl));
    smsc_username = login.0;
    smsc_password = login.1;
    system_type = up_to (codes "system-type") 12 (refl, refl, refl);
    max_pending_submits = window_within;
    wait_ack = number_in (codes "wait-ack") 60 1 3600 (refl, refl, refl) (omega arith, omega arith) (omega arith);
    keepalive = keepalive_within.1;
    reconnect_delay = number_in (codes "reconnect-delay") 10 1 3600 (refl, refl, refl) (omega arith, omega arith) (omega arith);
  }

  pub pair_within : IsPair (rule_of kind group) (link_of group)
  unfolding rule_of link_of
  pair_within = record { id = refl; login = login_within kind group right whole }

-- ---- sendsms-user and sms-service

module _ (role : Role) (group : List Set) (right : group_fault role group ≡ None)
    (chars : range_of role (codes "split-chars") ≡ Some (Of (grammars.Characters 64)))
    (suffix : range_of role (codes "split-suffix") ≡ Some Text)
    (header : range_of role (codes "header") ≡ Some Text)
    (footer : range_of role (codes "footer") ≡ Some Text) where
  texts_within : AreTexts (texts_of group).0.0 (texts_of group).0.1 (texts_of group).1.0 (texts_of group).1.1
  unfolding texts_of is_utf8 chars
  texts_within = record {
    split_chars = value_or role group right (codes "split-chars") [] (Of (grammars.Characters 64)) (IsText 64) chars (forms.text 64) (forms.text 64 [] refl);
    split_suffix = text_of role group right (codes "split-suffix") suffix;
    header = text_of role group right (codes "header") header;
    footer = text_of role group right (codes "footer") footer;
    together = together role (codes "split-suffix") (codes "header") (codes "footer") suffix header footer refl refl refl group right;
  }

abbrev user : Role
user = Taken kinds.User

module _ (group : List Set) (right : group_fault user group ≡ None) (whole : lacking user group ≡ None) where
  pub user_within : IsUser (user_of group)
  unfolding user_of identity_of ways_of range_of need_of rows
  user_within =
      let username = octets_always user group right whole (codes "username") 1 64 refl refl in
      record {
        username = username;
        password = octets_always user group right whole (codes "password") 1 64 refl refl;
        name = octets_or user group right (codes "name") (octets (codes "username") group) 1 64 refl username;
        default_smsc = (octets_or user group right (codes "default-smsc") [] 0 64 refl (omega arith, omega arith)).1;
        forced_smsc = (octets_or user group right (codes "forced-smsc") [] 0 64 refl (omega arith, omega arith)).1;
        default_sender = sender_of_group (codes "default-sender") group;
        faked_sender = sender_of_group (codes "faked-sender") group;
        max_messages = small_or user group right (codes "max-messages") 10 1 100 refl (omega arith, omega arith) (omega arith);
        texts = texts_within user group right refl refl refl refl;
      }

abbrev service : Role
service = Taken kinds.Service

module _ (group : List Set) (right : group_fault service group ≡ None) (whole : lacking service group ≡ None) where
  up_to_2048 : (name : List ℕ) → range_of service name ≡ Some (Of (grammars.Octets 0 2048)) → IfSome (optional name group) (λ v. length v ≤ 2048)
  up_to_2048 name row = optional_of service group right name (Of (grammars.Octets 0 2048)) (λ v. length v ≤ 2048) row (short 2048)

  pub service_within : IsService (service_of group)
  unfolding service_of names_of answers_of range_of need_of rows
  service_within =
      let keyword = value_always service group right whole (codes "keyword") (Of (grammars.Word 64)) (IsWord 64) refl refl (forms.word 64) in
      record {
        keyword = keyword;
        aliases = list_of service group right (codes "aliases") refl;
        name = octets_or service group right (codes "name") (octets (codes "keyword") group) 1 64 refl keyword.0;
        text = up_to_2048 (codes "text") refl;
        get_url = up_to_2048 (codes "get-url") refl;
        answers = one_of_two service group (codes "text") (codes "get-url") refl whole;
        max_messages = small_or service group right (codes "max-messages") 1 1 100 refl (omega arith, omega arith) (omega arith);
        texts = texts_within service group right refl refl refl refl;
      }
