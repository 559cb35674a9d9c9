-- How the links and the octets of a message are gone over, one by one.
use Rattle.std.specs.Prelude.{ℕ, Bool, ◌&&◌, ◌||◌, ◌==◌, not, nat_le, List, slice_index, Option, Some, None, if◌then◌else◌}
use Rattle.config_values.specs.Values.{is_text_octet}

-- of two links the one with fewer messages in flight, and the first where both have as many
abbrev pub fewer : (flight : List ℕ) → Option ℕ → Option ℕ → Option ℕ
fewer flight None other = other
fewer flight (Some link) None = Some link
fewer flight (Some link) (Some other) = if nat_le (slice_index flight link) (slice_index flight other) then Some link else Some other

-- these septets show something else behind the escape: ( ) / = e
abbrev pub has_another_behind : ℕ → Bool
has_another_behind septet = (septet == 40) || ((septet == 41) || ((septet == 47) || ((septet == 61) || (septet == 101))))

-- what a septet shows, behind an escape or not, is plain; an escape alone shows nothing yet
abbrev pub shows_plain : (behind : Bool) → ℕ → Bool
shows_plain behind septet = if behind then is_text_octet septet && not (has_another_behind septet) else (septet == 27) || is_text_octet septet
