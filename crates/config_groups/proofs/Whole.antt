-- The settings of a configuration without a fault lie within the ranges of the table.
use Rattle.std.proofs.Common.{◌≡◌, refl, sym, ap, subst, ℕ, suc, ◌+◌, ◌-◌, ◌≤◌, ◌==◌, List, [], ◌∷◌, ◌++◌, length, Option, Some, None, Result, Ok, Err, IfOk, All, arith, length-append}
use Rattle.std.specs.Prelude.{codes}
use Rattle.std.specs.List.{AllZip}
use Rattle.std.proofs.lemmas.Bool.{cond_both, eqb-false}
use Rattle.std.proofs.lemmas.List.Elements.{All-nil, All-push}
use Rattle.kn_base.specs.Count.{next_count}
use Rattle.config_lines.specs.declared.read.LinesFault.{LinesFault}
use Rattle.config_lines.specs.declared.read.Read.{Read}
use Rattle.route_rules.specs.declared.link_kind.LinkKind.{LinkKind}
use Rattle.config_values.specs.Forms.{IsWithin}
use Rattle.config_groups.specs.declared.fault.Place.{Place}
use Rattle.config_groups.specs.declared.group.Set.{Set}
use Rattle.config_groups.specs.declared.read.ConfigFault.{ConfigFault}
use Rattle.config_groups.specs.declared.role.Family.{Family}
use Rattle.config_groups.specs.declared.role.Family.TheVariants as families
use Rattle.config_groups.specs.declared.role.Kind.{Kind}
use Rattle.config_groups.specs.declared.role.Kind.TheVariants.{Core, Link, Smsbox, User, Service}
use Rattle.config_groups.specs.declared.role.Role.{Role}
use Rattle.config_groups.specs.declared.role.Role.TheVariants.{Passed, Taken, Excess}
use Rattle.config_groups.specs.declared.role.Room.{Room}
use Rattle.config_groups.specs.declared.settings.Settings.{Settings}
use Rattle.config_groups.specs.Roles.{first, protocol_in, bounded, only_first, family_of, role_in, role_by, role_of, room_behind, whole_room}
use Rattle.config_groups.specs.Faults.{group_fault, first_of, fault_in, first_fault}
use Rattle.config_groups.specs.Groups.{groups_of}
use Rattle.config_groups.specs.Missing.{lacking, missing_by, missing_in, first_missing}
use Rattle.config_groups.specs.Passed.{passed_of}
use Rattle.config_groups.specs.Settings.{link_of, rule_of, user_of, service_of, no_settings, with_core, with_link, with_group, settings_in, settings_of}
use Rattle.config_groups.specs.Config as spec
use Rattle.config_groups.specs.Ranges.{IsCore, IsLinkRule, IsLink, IsPair, IsSmsbox, IsUser, IsService, AreSettings}
use Rattle.config_groups.proofs.Within.{core_within, outgoing_within, incoming_within, smsbox_within, rule_within, link_within, pair_within, user_within, service_within}

-- Settings within their ranges, of which no more stand than there is room for.
record AreSoFar (room : Room) (settings : Settings) : Type 0 where
  core : IsCore settings.core
  outgoing : IsWithin 1 4000000 settings.rules.outgoing
  incoming : IsWithin 1 4000000 settings.rules.incoming
  rules : All IsLinkRule settings.rules.links
  links : All IsLink settings.links
  pairs : AllZip IsPair settings.rules.links settings.links
  smsbox : IsSmsbox settings.smsbox
  users : All IsUser settings.users
  services : All IsService settings.services
  few_links : length settings.links + room.links ≤ 1000
  few_users : length settings.users + room.users ≤ 1000
  few_services : length settings.services + room.services ≤ 1000

length_pairs : {A B : Type 0} (P : A → B → Type 0) (xs : List A) (ys : List B) → AllZip P xs ys → length xs ≡ length ys
length_pairs P [] [] all = refl
length_pairs P [] (y ∷ ys) all = absurd all
length_pairs P (x ∷ xs) [] all = absurd all
length_pairs P (x ∷ xs) (y ∷ ys) all = ap suc (length_pairs P xs ys all.1)

all_of : (room : Room) (settings : Settings) → AreSoFar room settings → AreSettings settings
all_of room settings far = record {
  core = far.core;
  outgoing = far.outgoing;
  incoming = far.incoming;
  rules = far.rules;
  links = far.links;
  same_links = sym (length_pairs IsPair settings.rules.links settings.links far.pairs);
  pairs = far.pairs;
  smsbox = far.smsbox;
  users = far.users;
  services = far.services;
  few_links = omega (arith, far.few_links);
  few_users = omega (arith, far.few_users);
  few_services = omega (arith, far.few_services);
}

-- ---- one group more

pair_last : {A B : Type 0} (P : A → B → Type 0) (xs : List A) (ys : List B) (x : A) (y : B) → AllZip P xs ys → P x y → AllZip P (xs ++ x ∷ []) (ys ++ y ∷ [])
pair_last P [] [] x y all is = (is, tt)
pair_last P [] (z ∷ ys) x y all is = absurd all
pair_last P (z ∷ xs) [] x y all is = absurd all
pair_last P (v ∷ xs) (w ∷ ys) x y all is = (all.0, pair_last P xs ys x y all.1 is)

-- what a group of a role leaves, where it has no fault and lacks nothing
abbrev IsKept : Room → Settings → List Set → Role → Type 0
IsKept room settings group role = group_fault role group ≡ None → lacking role group ≡ None → AreSoFar (room_behind room role) (with_group settings role group)

-- a list one longer, and the room one less
one_more : {A : Type 0} (xs : List A) (x : A) (left : ℕ) → (left ≡ 0 → ⊥) → length xs + left ≤ 1000 → length (xs ++ x ∷ []) + (left - 1) ≤ 1000
one_more xs x left some few = omega (arith, some, few, length-append xs (x ∷ []))

module _ (room : Room) (settings : Settings) (group : List Set) (far : AreSoFar room settings) where
  kept_core : IsKept room settings group (Taken Core)
  unfolding with_core
  kept_core right whole = record {
    core = core_within group right;
    outgoing = outgoing_within group right;
    incoming = incoming_within group right;
    rules = far.rules;
    links = far.links;
    pairs = far.pairs;
    smsbox = far.smsbox;
    users = far.users;
    services = far.services;
    few_links = far.few_links;
    few_users = far.few_users;
    few_services = far.few_services;
  }

  kept_link : (kind : LinkKind) → (room.links ≡ 0 → ⊥) → IsKept room settings group (Taken (Link (Some kind)))
  unfolding with_link
  kept_link kind some right whole = record {
    core = far.core;
    outgoing = far.outgoing;
    incoming = far.incoming;
    rules = All-push IsLinkRule settings.rules.links (rule_of kind group) far.rules (rule_within kind group right whole);
    links = All-push IsLink settings.links (link_of group) far.links (link_within kind group right whole);
    pairs = pair_last IsPair settings.rules.links settings.links (rule_of kind group) (link_of group) far.pairs (pair_within kind group right whole);
    smsbox = far.smsbox;
    users = far.users;
    services = far.services;
    few_links = one_more settings.links (link_of group) room.links some far.few_links;
    few_users = far.few_users;
    few_services = far.few_services;
  }

  -- a link without a protocol sets nothing
  kept_none : IsKept room settings group (Taken (Link None))
  kept_none right whole = record {
    core = far.core;
    outgoing = far.outgoing;
    incoming = far.incoming;
    rules = far.rules;
    links = far.links;
    pairs = far.pairs;
    smsbox = far.smsbox;
    users = far.users;
    services = far.services;
    few_links = omega (arith, far.few_links);
    few_users = far.few_users;
    few_services = far.few_services;
  }

  kept_smsbox : IsKept room settings group (Taken Smsbox)
  kept_smsbox right whole = record {
    core = far.core;
    outgoing = far.outgoing;
    incoming = far.incoming;
    rules = far.rules;
    links = far.links;
    pairs = far.pairs;
    smsbox = smsbox_within group right;
    users = far.users;
    services = far.services;
    few_links = far.few_links;
    few_users = far.few_users;
    few_services = far.few_services;
  }

  kept_user : (room.users ≡ 0 → ⊥) → IsKept room settings group (Taken User)
  kept_user some right whole = record {
    core = far.core;
    outgoing = far.outgoing;
    incoming = far.incoming;
    rules = far.rules;
    links = far.links;
    pairs = far.pairs;
    smsbox = far.smsbox;
    users = All-push IsUser settings.users (user_of group) far.users (user_within group right whole);
    services = far.services;
    few_links = far.few_links;
    few_users = one_more settings.users (user_of group) room.users some far.few_users;
    few_services = far.few_services;
  }

  kept_service : (room.services ≡ 0 → ⊥) → IsKept room settings group (Taken Service)
  kept_service some right whole = record {
    core = far.core;
    outgoing = far.outgoing;
    incoming = far.incoming;
    rules = far.rules;
    links = far.links;
    pairs = far.pairs;
    smsbox = far.smsbox;
    users = far.users;
    services = All-push IsService settings.services (service_of group) far.services (service_within group right whole);
    few_links = far.few_links;
    few_users = far.few_users;
    few_services = one_more settings.services (service_of group) room.services some far.few_services;
  }

  kept_of_protocol : (protocol : Option LinkKind) → (room.links ≡ 0 → ⊥) → IsKept room settings group (Taken (Link protocol))
  kept_of_protocol (Some kind) some = kept_link kind some
  kept_of_protocol None some = kept_none

  -- a group of a kind of which only so many may stand
  kept_bounded : (left : ℕ) (kind : Kind) → ((left ≡ 0 → ⊥) → IsKept room settings group (Taken kind)) → IsKept room settings group (bounded left kind)
  kept_bounded left kind kept =
      cond_both (left == 0) (Excess kind) (Taken kind) (IsKept room settings group) (λ none right whole. far) (λ some. kept (eqb-false left 0 some))

  kept_first : (left : ℕ) (kind : Kind) → IsKept room settings group (Taken kind) → IsKept room settings group (only_first left kind)
  kept_first left kind kept = cond_both (left == 0) Passed (Taken kind) (IsKept room settings group) (λ none right whole. far) (λ some. kept)

  kept_in : (family : Option Family) → IsKept room settings group (role_in room family group)
  kept_in None = λ right whole. far
  kept_in (Some families.Core) = kept_first room.core Core kept_core
  kept_in (Some families.Link) = kept_bounded room.links (Link (protocol_in group)) (kept_of_protocol (protocol_in group))
  kept_in (Some families.Smsbox) = kept_first room.smsbox Smsbox kept_smsbox
  kept_in (Some families.User) = kept_bounded room.users User kept_user
  kept_in (Some families.Service) = kept_bounded room.services Service kept_service

  kept_by : (found : Option Set) → IsKept room settings group (role_by room found group)
  kept_by None = λ right whole. far
  kept_by (Some set) = kept_in (family_of set.value)

  kept : IsKept room settings group (role_of room group)
  kept = kept_by (first (codes "group") group)

-- ---- all groups

first_none : (place later : Option Place) → first_of place later ≡ None → (place ≡ None) × (later ≡ None)
first_none (Some place) later none = absurd cc
first_none None later none = (refl, none)

none_missing : (number : ℕ) (name : Option (List ℕ)) (later : Option (ℕ × List ℕ)) → missing_by number name later ≡ None → (name ≡ None) × (later ≡ None)
none_missing number (Some name) later none = absurd cc
none_missing number None later none = (refl, none)

groups_within : (room : Room) (number : ℕ) (settings : Settings) (groups : List (List Set)) → AreSoFar room settings →
    fault_in room groups ≡ None → missing_in room number groups ≡ None → AreSettings (settings_in room settings groups)
groups_within room number settings [] far right whole = all_of room settings far
groups_within room number settings (group ∷ rest) far right whole =
    let role = role_of room group in
    let faults = first_none (group_fault role group) (fault_in (room_behind room role) rest) right in
    let lacks = none_missing number (lacking role group) (missing_in (room_behind room role) (next_count number) rest) whole in
    groups_within (room_behind room role) (next_count number) (with_group settings role group) rest (kept room settings group far faults.0 lacks.0) faults.1 lacks.1

-- without groups the defaults stand
none_within : (passed : ℕ) → AreSoFar whole_room (no_settings passed)
unfolding no_settings
none_within passed = record {
  core = core_within [] refl;
  outgoing = outgoing_within [] refl;
  incoming = incoming_within [] refl;
  rules = All-nil IsLinkRule;
  links = All-nil IsLink;
  pairs = tt;
  smsbox = smsbox_within [] refl;
  users = All-nil IsUser;
  services = All-nil IsService;
  few_links = omega arith;
  few_users = omega arith;
  few_services = omega arith;
}

settings_within : (groups : List (List Set)) → first_fault groups ≡ None → first_missing groups ≡ None → AreSettings (settings_of groups)
unfolding settings_of first_fault first_missing
settings_within groups right whole = groups_within whole_room 0 (no_settings (passed_of groups)) groups (none_within (passed_of groups)) right whole

-- ---- the configuration

module _ (groups : List (List Set)) where
  by_missing : (missing : Option (ℕ × List ℕ)) → first_fault groups ≡ None → first_missing groups ≡ missing →
      IfOk (spec.config_by (spec.missing_by missing) groups) AreSettings
  by_missing (Some missing) right whole = tt
  by_missing None right whole = settings_within groups right whole

  by_ending : (ended : Option LinesFault) → first_fault groups ≡ None → IfOk (spec.config_by (spec.ending_or_missing ended groups) groups) AreSettings
  by_ending (Some fault) right = tt
  by_ending None right = by_missing (first_missing groups) right refl

  by_place : (place : Option Place) (ended : Option LinesFault) → first_fault groups ≡ place →
      IfOk (spec.config_by (spec.fault_by place ended groups) groups) AreSettings
  by_place (Some place) ended right = tt
  by_place None ended right = by_ending ended right

config_within : (read : Read) → IfOk (spec.config_of read) AreSettings
unfolding spec.config_of spec.config_in spec.fault_of
config_within read = by_place (groups_of read.lines) (first_fault (groups_of read.lines)) read.fault refl

-- settings that were read lie within their ranges
pub within_ranges : (read : Read) (result : Result Settings ConfigFault) → IfOk result (λ settings. spec.config_of read ≡ Ok settings) → IfOk result AreSettings
within_ranges read (Ok settings) is = subst (λ r. IfOk r AreSettings) is (config_within read)
within_ranges read (Err fault) is = tt
