-- How many octets there is room for, where the length of the whole is known.
use Rattle.std.specs.Prelude.{ℕ, suc, ◌+◌, ◌-◌, Bool, max, nat_le, ◌&&◌, ◌||◌, ◌==◌}
use Rattle.smpp_wire.specs.declared.room.Room.{Room}
use Rattle.smpp_wire.specs.declared.room.Room.TheVariants.{From, Between, Tlvs}
use Rattle.smpp_wire.specs.declared.row.Row.{Row}
use Rattle.smpp_wire.specs.declared.row.Row.TheVariants as row
use Rattle.smpp_wire.specs.declared.text.Sizes.{Sizes}

-- whether so many octets can be filled: from a number on, between two numbers, or by whole TLVs, of which one has four at least
abbrev pub fits : Room → ℕ → Bool
fits (From least) left = nat_le least left
fits (Between least most) left = nat_le least left && nat_le left most
fits Tlvs left = left == 0 || nat_le 4 left

-- the rooms of the rows
abbrev pub room_of : Row → Room
room_of row.Bind = Between 7 82
room_of row.BindReply = From 0
room_of row.Message = From 17
room_of row.SubmitReply = Between 0 65
room_of row.DeliverReply = Between 1 1
room_of row.Nothing = Between 0 0
room_of row.Any = From 0

-- texts of up to so many octets, the 00 at their end counted
abbrev pub up_to : ℕ → Sizes
up_to most = record { least = 1; most = most }

-- times: the 00 alone, or 17 octets
abbrev pub times : Sizes
times = record { least = 17; most = 17 }

-- a text may have so many octets, the 00 at its end counted: one, or a number between two bounds
abbrev pub is_size : Sizes → ℕ → Bool
is_size sizes n = n == 1 || (nat_le sizes.least n && nat_le n sizes.most)

-- where so many are left for a text and what stands behind it, for which there is this room: the text may end with so many octets before its 00
abbrev pub may_end : Sizes → Room → ℕ → ℕ → Bool
may_end sizes room left before = is_size sizes (suc before) && (nat_le (suc before) left && fits room (left - suc before))

-- it may end later, if its least size from here on is this
abbrev pub leaves_room : Sizes → Room → ℕ → ℕ → Bool
leaves_room sizes (From least) left size = nat_le (size + least) left
leaves_room sizes (Between least most) left size = nat_le (size + least) left && nat_le left (sizes.most + most)
leaves_room sizes Tlvs left size = (nat_le size left && nat_le left sizes.most) || nat_le (size + 4) left

-- it may go on with one octet more than so many
abbrev pub may_go_on : Sizes → Room → ℕ → ℕ → Bool
may_go_on sizes room left before = nat_le (before + 2) sizes.most && leaves_room sizes room left (max sizes.least (before + 2))
