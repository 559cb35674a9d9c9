-- What the settings of a configuration lie within, to be read beside the table of docs/FORMATS.md: a record a kind of group, a line a
-- field. Bounds are counted in.
use Rattle.std.specs.Prelude.{◌≡◌, ◌⊎◌, ℕ, ◌+◌, ◌≤◌, List, length, All, IfSome, IsSome, IsUtf8}
use Rattle.std.specs.List.{AllZip}
use Rattle.route_rules.specs.declared.link_kind.LinkKind.{LinkKind}
use Rattle.route_rules.specs.declared.link_kind.LinkKind.TheVariants.{Smpp, Ucp, Cimd2}
use Rattle.route_rules.specs.declared.link_rule.LinkRule.{LinkRule}
use Rattle.config_values.specs.Values.{characters}
use Rattle.config_values.specs.Forms.{IsWithin, IsPrintable, IsDigits, IsWord, IsPath, AreEntries, IsSender, IsText}
use Rattle.config_groups.specs.declared.settings.Settings.{Settings}
use Rattle.config_groups.specs.declared.settings.core_settings.Core.{Core}
use Rattle.config_groups.specs.declared.settings.link_settings.LinkSettings.{LinkSettings}
use Rattle.config_groups.specs.declared.settings.service.Service.{Service}
use Rattle.config_groups.specs.declared.settings.smsbox.Smsbox.{Smsbox}
use Rattle.config_groups.specs.declared.settings.user.User.{User}

-- ---- core

pub record IsCore (core : Core) : Type 0 where
  pub store_file : length core.store_file ≤ 255
  pub smsbox_port : IsWithin 1 65535 core.smsbox_port
  pub http_workers : IsWithin 1 32 core.http_workers
  pub box_workers : IsWithin 1 32 core.box_workers

-- ---- smsc

pub record IsLinkRule (rule : LinkRule) : Type 0 where
  pub id : length rule.id ≤ 64
  pub denied_ids : AreEntries rule.denied_ids
  pub allowed_ids : AreEntries rule.allowed_ids
  pub preferred_ids : AreEntries rule.preferred_ids
  pub denied_prefixes : AreEntries rule.denied_prefixes
  pub allowed_prefixes : AreEntries rule.allowed_prefixes
  pub preferred_prefixes : AreEntries rule.preferred_prefixes

pub record IsLink (link : LinkSettings) : Type 0 where
  pub smsc_id : length link.smsc_id ≤ 64
  pub host : IsWithin 1 255 (length link.host)
  pub port : IsWithin 1 65535 link.port
  pub smsc_username : IsPrintable 32 link.smsc_username
  pub smsc_password : IsPrintable 32 link.smsc_password
  pub system_type : length link.system_type ≤ 12
  pub max_pending_submits : IsWithin 1 50 link.max_pending_submits
  pub wait_ack : IsWithin 1 3600 link.wait_ack
  pub keepalive : link.keepalive ≤ 3600
  pub reconnect_delay : IsWithin 1 3600 link.reconnect_delay

-- the username and the password that centres of a protocol take
abbrev pub IsLogin : LinkKind → (username password : List ℕ) → Type 0
IsLogin Smpp username password = IsPrintable 15 username × IsPrintable 8 password
IsLogin Ucp username password = IsDigits 16 username × IsPrintable 16 password
IsLogin Cimd2 username password = IsPrintable 32 username × IsPrintable 32 password

-- a rule and a link that come of one group
pub record IsPair (rule : LinkRule) (link : LinkSettings) : Type 0 where
  pub id : link.smsc_id ≡ rule.id
  pub login : IsLogin rule.kind link.smsc_username link.smsc_password

-- ---- smsbox

abbrev pub IsReply : List ℕ → Type 0
IsReply reply = IsUtf8 reply × (length reply ≤ 160)

pub record IsSmsbox (smsbox : Smsbox) : Type 0 where
  pub bearerbox_host : IsWithin 1 255 (length smsbox.bearerbox_host)
  pub sendsms_port : IsWithin 1 65535 smsbox.sendsms_port
  pub sendsms_url : IsPath smsbox.sendsms_url
  pub global_sender : IfSome smsbox.global_sender IsSender
  pub reply_couldnotfetch : IsReply smsbox.reply_couldnotfetch
  pub reply_requestfailed : IsReply smsbox.reply_requestfailed
  pub reply_emptymessage : IsReply smsbox.reply_emptymessage

-- ---- sendsms-user and sms-service

-- the split characters, and the texts that go into each part: suffix, header and footer
pub record AreTexts (marks suffix front behind : List ℕ) : Type 0 where
  pub split_chars : IsText 64 marks
  pub split_suffix : IsUtf8 suffix
  pub header : IsUtf8 front
  pub footer : IsUtf8 behind
  pub together : characters suffix + characters front + characters behind ≤ 30

pub record IsUser (user : User) : Type 0 where
  pub username : IsWithin 1 64 (length user.username)
  pub password : IsWithin 1 64 (length user.password)
  pub name : IsWithin 1 64 (length user.name)
  pub default_smsc : length user.default_smsc ≤ 64
  pub forced_smsc : length user.forced_smsc ≤ 64
  pub default_sender : IfSome user.default_sender IsSender
  pub faked_sender : IfSome user.faked_sender IsSender
  pub max_messages : IsWithin 1 100 user.max_messages
  pub texts : AreTexts user.split_chars user.split_suffix user.header user.footer

pub record IsService (service : Service) : Type 0 where
  pub keyword : IsWord 64 service.keyword
  pub aliases : AreEntries service.aliases
  pub name : IsWithin 1 64 (length service.name)
  pub text : IfSome service.text (λ text. length text ≤ 2048)
  pub get_url : IfSome service.get_url (λ url. length url ≤ 2048)
  pub answers : IsSome service.text ⊎ IsSome service.get_url
  pub max_messages : IsWithin 1 100 service.max_messages
  pub texts : AreTexts service.split_chars service.split_suffix service.header service.footer

-- ---- all groups

pub record AreSettings (settings : Settings) : Type 0 where
  pub core : IsCore settings.core
  pub outgoing : IsWithin 1 4000000 settings.rules.outgoing
  pub incoming : IsWithin 1 4000000 settings.rules.incoming
  pub rules : All IsLinkRule settings.rules.links
  pub links : All IsLink settings.links
  pub same_links : length settings.links ≡ length settings.rules.links
  pub pairs : AllZip IsPair settings.rules.links settings.links
  pub smsbox : IsSmsbox settings.smsbox
  pub users : All IsUser settings.users
  pub services : All IsService settings.services
  pub few_links : length settings.links ≤ 1000
  pub few_users : length settings.users ≤ 1000
  pub few_services : length settings.services ≤ 1000
