-- The date and the time of day in UTC, from Unix seconds. A day has 86,400 of them (POSIX.1-2017 4.16).
use Rattle.std.specs.Prelude.{ℕ, zero, suc, ◌+◌, ◌/◌, ◌%◌, nat_lt, List, [], ◌∷◌, ◌++◌, codes, pos, if◌then◌else◌}
use Rattle.jiff_core.specs.Calendar.{days_in_month}

-- a day of the calendar (ISO 8601)
pub record Day : Type 0 where
  pub year : ℕ
  pub month : ℕ
  pub day : ℕ

-- the day behind it
abbrev pub next_day : Day → Day
next_day d =
    if nat_lt d.day (days_in_month (pos d.year) d.month) then record { year = d.year; month = d.month; day = d.day + 1 }
    else if nat_lt d.month 12 then record { year = d.year; month = d.month + 1; day = 1 }
    else record { year = d.year + 1; month = 1; day = 1 }

-- the day that comes so many days after 1 January 1970
unfoldable pub day_at : ℕ → Day
day_at zero = record { year = 1970; month = 1; day = 1 }
day_at (suc days) = next_day (day_at days)

-- a number below 100 in two digits
unfoldable pub two : ℕ → List ℕ
two number = (48 + number / 10) ∷ (48 + number % 10) ∷ []

-- a day as YYYY-MM-DD
unfoldable pub day_text : Day → List ℕ
day_text d = two (d.year / 100) ++ two (d.year % 100) ++ codes "-" ++ two d.month ++ codes "-" ++ two d.day

-- YYYY-MM-DD HH:MM
abbrev pub date_text : (time : ℕ) → List ℕ
date_text time = day_text (day_at (time / 86400)) ++ codes " " ++ two (time / 3600 % 24) ++ codes ":" ++ two (time / 60 % 60)
