-- Which links may send a message, and which one does.
use Rattle.std.specs.Prelude.{ℕ, ◌+◌, Bool, true, false, ◌&&◌, ◌||◌, ◌==◌, not, nat_eq, nat_le, List, [], ◌∷◌, length, bytes_eq, slice_index, Option, if◌then◌else◌}
use Rattle.std.specs.List.{list_all, list_any, find, starts_with}
use Rattle.sms_record.specs.declared.address.Address.{Address}
use Rattle.sms_record.specs.declared.address.Address.TheVariants.{Number, Text}
use Rattle.sms_record.specs.declared.sms.Sms.{Sms}
use Rattle.route_rules.specs.declared.fit.Fit.{Fit}
use Rattle.route_rules.specs.declared.fit.Fit.TheVariants.{No, Plain, Preferred}
use Rattle.route_rules.specs.declared.link_rule.LinkRule.{LinkRule}
use Rattle.route_rules.specs.declared.rules.Rules.{Rules}
use Rattle.route_rules.specs.Carriage.{carries}

-- ---- the lists of a rule

-- this SMSC id is in a list
abbrev pub has_id : List (List ℕ) → List ℕ → Bool
has_id ids id = list_any (λ listed. bytes_eq listed id) ids

-- an address as it is written: a number with its plus
abbrev pub written : Address → List ℕ
written (Number true digits) = 43 ∷ digits
written (Number false digits) = digits
written (Text text) = text

-- an address begins with a prefix of a list
abbrev pub has_prefix : List (List ℕ) → Address → Bool
has_prefix prefixes address = list_any (λ prefix. starts_with nat_eq (written address) prefix) prefixes

-- ---- one link

-- with allowed ids an id must be among them; without, it must not be denied
abbrev pub takes_id : LinkRule → List ℕ → Bool
takes_id rule id = if length rule.allowed_ids == 0 then not (has_id rule.denied_ids id) else has_id rule.allowed_ids id

-- by denied and by allowed prefixes: with allowed ones alone a receiver must have one, with denied ones alone it must have none,
-- and with both it must have no denied one unless it has an allowed one
abbrev pub takes_by : (denied allowed : List (List ℕ)) → Address → Bool
takes_by [] [] receiver = true
takes_by [] (first ∷ rest) receiver = has_prefix (first ∷ rest) receiver
takes_by (first ∷ rest) [] receiver = not (has_prefix (first ∷ rest) receiver)
takes_by (first ∷ rest) (other ∷ others) receiver = not (has_prefix (first ∷ rest) receiver) || has_prefix (other ∷ others) receiver

abbrev pub takes_receiver : LinkRule → Address → Bool
takes_receiver rule receiver = takes_by rule.denied_prefixes rule.allowed_prefixes receiver

-- a link is preferred for the message's id or for its receiver
abbrev pub prefers : LinkRule → Sms → Bool
prefers rule sms = has_id rule.preferred_ids sms.smsc || has_prefix rule.preferred_prefixes sms.receiver

-- how well a link suits a message; the first rule that says so counts
abbrev pub fit : LinkRule → Sms → Fit
fit rule sms =
    if not (carries rule.kind sms) then No
    else if not (takes_id rule sms.smsc) then No
    else if not (takes_receiver rule sms.receiver) then No
    else if prefers rule sms then Preferred
    else Plain

abbrev pub is_usable : Fit → Bool
is_usable No = false
is_usable Plain = true
is_usable Preferred = true

abbrev pub is_preferred : Fit → Bool
is_preferred No = false
is_preferred Plain = false
is_preferred Preferred = true

-- a link suits a message at least so well
abbrev pub is_at_least : (least : Fit) → Fit → Bool
is_at_least No suits = true
is_at_least Plain suits = is_usable suits
is_at_least Preferred suits = is_preferred suits

-- ---- all links

-- some link is usable, up or not
abbrev pub routable : Rules → Sms → Bool
routable rules sms = list_any (λ rule. is_usable (fit rule sms)) rules.links

-- a link is up, and suits a message at least so well
abbrev pub is_ready : (least : Fit) → LinkRule → (up : Bool) → Sms → Bool
is_ready least rule up sms = up && is_at_least least (fit rule sms)

-- the numbers of the links that are ready, where the first of these links has this number
abbrev pub numbers_from : (first : ℕ) → (least : Fit) → List LinkRule → (up : List Bool) → Sms → List ℕ
numbers_from first least [] ups sms = []
numbers_from first least (rule ∷ rules) [] sms = []
numbers_from first least (rule ∷ rules) (up ∷ ups) sms =
    if is_ready least rule up sms then first ∷ numbers_from (first + 1) least rules ups sms else numbers_from (first + 1) least rules ups sms

-- the links that a message may go by now: the preferred ones that are up, or where there are none, the usable ones that are up
abbrev pub pool : Rules → (up : List Bool) → Sms → List ℕ
pool rules up sms =
    let preferred = numbers_from 0 Preferred rules.links up sms in
    if length preferred == 0 then numbers_from 0 Plain rules.links up sms else preferred

-- a link has at most as many messages in flight as each of these
abbrev pub has_fewest : (flight : List ℕ) → List ℕ → ℕ → Bool
has_fewest flight links link = list_all (λ other. nat_le (slice_index flight link) (slice_index flight other)) links

-- the first of these links with the fewest in flight
abbrev pub first_of_fewest : (flight : List ℕ) → List ℕ → Option ℕ
first_of_fewest flight links = find (has_fewest flight links) links

-- the link that sends a message
abbrev pub chosen : Rules → (up : List Bool) → (flight : List ℕ) → Sms → Option ℕ
chosen rules up flight sms = first_of_fewest flight (pool rules up sms)
