-- The settings, field by field: the first value of its name in its group, else its default (docs/FORMATS.md, 'Configuration').
use Rattle.std.specs.Prelude.{ℕ, true, false, List, [], ◌∷◌, ◌++◌, codes, Option, Some}
use Rattle.route_rules.specs.declared.link_kind.LinkKind.{LinkKind}
use Rattle.route_rules.specs.declared.link_rule.LinkRule.{LinkRule}
use Rattle.config_groups.specs.declared.group.Set.{Set}
use Rattle.config_groups.specs.declared.role.Kind.TheVariants as kinds
use Rattle.config_groups.specs.declared.role.Role.{Role}
use Rattle.config_groups.specs.declared.role.Role.TheVariants.{Taken}
use Rattle.config_groups.specs.declared.role.Room.{Room}
use Rattle.config_groups.specs.declared.settings.Settings.{Settings}
use Rattle.config_groups.specs.declared.settings.core_settings.Core.{Core}
use Rattle.config_groups.specs.declared.settings.link_settings.LinkSettings.{LinkSettings}
use Rattle.config_groups.specs.declared.settings.service.Service.{Service}
use Rattle.config_groups.specs.declared.settings.smsbox.Replies.{Replies}
use Rattle.config_groups.specs.declared.settings.smsbox.Smsbox.{Smsbox}
use Rattle.config_groups.specs.declared.settings.user.User.{User}
use Rattle.config_groups.specs.declared.settings.user.Ways.{Ways}
use Rattle.config_groups.specs.Fields.{value, octets, optional, number, small, port, truth, list, sender}
use Rattle.config_groups.specs.Passed.{passed_of}
use Rattle.config_groups.specs.Roles.{role_of, room_behind, whole_room}

-- ---- core

unfoldable pub core_of : List Set → Core
core_of group = record {
  store_file = octets (codes "store-file") group;
  smsbox_port = port (codes "smsbox-port") 13001 group;
  http_workers = small (codes "http-workers") 4 group;
  box_workers = small (codes "box-workers") 4 group;
}

unfoldable pub outgoing_of : List Set → ℕ
outgoing_of group = number (codes "sms-outgoing-queue-limit") 1000000 group

unfoldable pub incoming_of : List Set → ℕ
incoming_of group = number (codes "sms-incoming-queue-limit") 1000000 group

-- ---- smsc

-- the variables that have a second name
unfoldable pub window_of : List Set → ℕ
window_of group = small (codes "max-pending-submits") (small (codes "window") 10 group) group

unfoldable pub keepalive_of : List Set → ℕ
keepalive_of group = small (codes "keepalive") (small (codes "enquire-link-interval") 30 group) group

unfoldable pub link_of : List Set → LinkSettings
link_of group = record {
  smsc_id = octets (codes "smsc-id") group;
  host = octets (codes "host") group;
  port = port (codes "port") 0 group;
  smsc_username = octets (codes "smsc-username") group;
  smsc_password = octets (codes "smsc-password") group;
  system_type = octets (codes "system-type") group;
  max_pending_submits = window_of group;
  wait_ack = small (codes "wait-ack") 60 group;
  keepalive = keepalive_of group;
  reconnect_delay = small (codes "reconnect-delay") 10 group;
}

unfoldable pub rule_of : LinkKind → List Set → LinkRule
rule_of kind group = record {
  id = octets (codes "smsc-id") group;
  kind = kind;
  denied_ids = list (codes "denied-smsc-id") group;
  allowed_ids = list (codes "allowed-smsc-id") group;
  preferred_ids = list (codes "preferred-smsc-id") group;
  denied_prefixes = list (codes "denied-prefix") group;
  allowed_prefixes = list (codes "allowed-prefix") group;
  preferred_prefixes = list (codes "preferred-prefix") group;
}

-- ---- smsbox

unfoldable pub replies_of : List Set → Replies
replies_of group = record {
  couldnotfetch = value (codes "reply-couldnotfetch") (codes "Could not fetch content, sorry.") group;
  requestfailed = value (codes "reply-requestfailed") (codes "Request Failed") group;
  emptymessage = value (codes "reply-emptymessage") (codes "<Empty reply from service provider>") group;
}

unfoldable pub smsbox_of : List Set → Smsbox
smsbox_of group = record {
  bearerbox_host = value (codes "bearerbox-host") (codes "localhost") group;
  sendsms_port = port (codes "sendsms-port") 13013 group;
  sendsms_url = value (codes "sendsms-url") (codes "/cgi-bin/sendsms") group;
  global_sender = sender (codes "global-sender") group;
  reply_couldnotfetch = (replies_of group).couldnotfetch;
  reply_requestfailed = (replies_of group).requestfailed;
  reply_emptymessage = (replies_of group).emptymessage;
}

-- ---- sendsms-user and sms-service

unfoldable pub texts_of : List Set → (List ℕ × List ℕ) × (List ℕ × List ℕ)
texts_of group =
    ((octets (codes "split-chars") group, octets (codes "split-suffix") group), (octets (codes "header") group, octets (codes "footer") group))

unfoldable pub ways_of : List Set → Ways
ways_of group = record {
  default_smsc = octets (codes "default-smsc") group;
  forced_smsc = octets (codes "forced-smsc") group;
  default_sender = sender (codes "default-sender") group;
  faked_sender = sender (codes "faked-sender") group;
}

unfoldable pub identity_of : List Set → (List ℕ × List ℕ) × List ℕ
identity_of group =
    ((octets (codes "username") group, octets (codes "password") group), value (codes "name") (octets (codes "username") group) group)

unfoldable pub user_of : List Set → User
user_of group = record {
  username = (identity_of group).0.0;
  password = (identity_of group).0.1;
  name = (identity_of group).1;
  default_smsc = (ways_of group).default_smsc;
  forced_smsc = (ways_of group).forced_smsc;
  default_sender = (ways_of group).default_sender;
  faked_sender = (ways_of group).faked_sender;
  max_messages = small (codes "max-messages") 10 group;
  concatenation = truth (codes "concatenation") true group;
  split_chars = (texts_of group).0.0;
  split_suffix = (texts_of group).0.1;
  header = (texts_of group).1.0;
  footer = (texts_of group).1.1;
}

unfoldable pub names_of : List Set → List ℕ × List (List ℕ) × List ℕ
names_of group =
    (octets (codes "keyword") group, list (codes "aliases") group, value (codes "name") (octets (codes "keyword") group) group)

unfoldable pub answers_of : List Set → Option (List ℕ) × Option (List ℕ)
answers_of group = (optional (codes "text") group, optional (codes "get-url") group)

unfoldable pub service_of : List Set → Service
service_of group = record {
  keyword = (names_of group).0;
  aliases = (names_of group).1;
  name = (names_of group).2;
  text = (answers_of group).0;
  get_url = (answers_of group).1;
  omit_empty = truth (codes "omit-empty") false group;
  max_messages = small (codes "max-messages") 1 group;
  concatenation = truth (codes "concatenation") false group;
  split_chars = (texts_of group).0.0;
  split_suffix = (texts_of group).0.1;
  header = (texts_of group).1.0;
  footer = (texts_of group).1.1;
}

-- ---- all groups

-- the settings of a configuration without groups
unfoldable pub no_settings : (passed : ℕ) → Settings
no_settings passed = record {
  core = core_of [];
  rules = record { links = []; outgoing = outgoing_of []; incoming = incoming_of [] };
  links = [];
  smsbox = smsbox_of [];
  users = [];
  services = [];
  passed = passed;
}

-- what the group of core sets
unfoldable pub with_core : Settings → List Set → Settings
with_core settings group = record settings {
  core = core_of group;
  rules = record (settings.rules) { outgoing = outgoing_of group; incoming = incoming_of group };
}

-- a link more
unfoldable pub with_link : Settings → LinkKind → List Set → Settings
with_link settings kind group = record settings {
  rules = record (settings.rules) { links = settings.rules.links ++ rule_of kind group ∷ [] };
  links = settings.links ++ link_of group ∷ [];
}

-- what a group sets, by what becomes of it
abbrev pub with_group : Settings → Role → List Set → Settings
with_group settings (Taken kinds.Core) group = with_core settings group
with_group settings (Taken (kinds.Link (Some kind))) group = with_link settings kind group
with_group settings (Taken kinds.Smsbox) group = record settings { smsbox = smsbox_of group }
with_group settings (Taken kinds.User) group = record settings { users = settings.users ++ user_of group ∷ [] }
with_group settings (Taken kinds.Service) group = record settings { services = settings.services ++ service_of group ∷ [] }
with_group settings role group = settings

-- what groups set, one after the other, where there is so much room in front of them
abbrev pub settings_in : Room → Settings → List (List Set) → Settings
settings_in room settings [] = settings
settings_in room settings (group ∷ rest) =
    let role = role_of room group in settings_in (room_behind room role) (with_group settings role group) rest

-- what groups set
unfoldable pub settings_of : List (List Set) → Settings
settings_of groups = settings_in whole_room (no_settings (passed_of groups)) groups
