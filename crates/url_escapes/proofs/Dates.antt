-- The days of the calendar, one behind the other, are those that their numbers name.
use Rattle.std.proofs.Common.{◌≡◌, ℕ, zero, suc, ◌+◌, ◌<◌, ◌≤◌, inl, inr, refl, sym, ap, ◌∙◌, arith, ℤ, pos, subst, ◌/◌, ◌^◌, ◌*ℤ◌, ◌+ℤ◌, to_z, w64}
use Rattle.std.specs.Int.{IsInRange}
use Rattle.std.proofs.lemmas.Bool.{cases_lt, cond_below, cond_above}
use Rattle.jiff_core.specs.Calendar.{days_in_month, days_from_civil}
use Rattle.jiff_core.specs.Date.{epoch_day}
use Rattle.jiff_core.specs.DateTime.{civil_nanos}
use Rattle.jiff_core.specs.Timestamp.{nanos_of_seconds}
use Rattle.jiff_core.specs.declared.civil.date.Date.{Date}
use Rattle.jiff_core.specs.declared.civil.datetime.DateTime.{DateTime}
use Rattle.jiff_core.proofs.CalendarLemmas.{days_in_month_bounds}
use Rattle.jiff_core.proofs.DateLemmas.{epoch_day_injective, days_from_civil-day, days_from_civil-next_month, days_from_civil-next_year, days_from_civil-max}
use Rattle.jiff_core.proofs.SignedLemmas.{signed_arith, signed_casts}
use Rattle.jiff_core.proofs.DateTimeLemmas.{civil_nanos-parts, time_nanos_bound}
use Rattle.jiff_core.proofs.StandardFacts.{known_days}
use Rattle.url_escapes.specs.Date.{Day, next_day, day_at}

-- the calendar has this day, and it is the one of that number
record IsAt (days : ℕ) (d : Day) : Type 0 where
  first : 1970 ≤ d.year
  last : d.year ≤ 9999
  month : IsInRange 1 12 d.month
  day : IsInRange 1 (days_in_month (pos d.year) d.month) d.day
  number : days_from_civil (pos d.year) d.month d.day ≡ pos days

-- within a month
in_month : (days : ℕ) (d : Day) → IsAt days d → d.day < days_in_month (pos d.year) d.month → IsAt (suc days) (record { year = d.year; month = d.month; day = d.day + 1 })
in_month days d at h = record {
  first = at.first;
  last = at.last;
  month = at.month;
  day = (omega arith, omega arith);
  number = omega (arith, signed_arith, at.number, days_from_civil-day (pos d.year) d.month (d.day + 1) d.day (omega arith) at.day.0);
}

-- from a month to the next
in_year : (days : ℕ) (d : Day) → IsAt days d → days_in_month (pos d.year) d.month ≤ d.day → d.month < 12 → IsAt (suc days) (record { year = d.year; month = d.month + 1; day = 1 })
in_year days d at h m = record {
  first = at.first;
  last = at.last;
  month = (omega arith, omega arith);
  day = (omega arith, omega (arith, days_in_month_bounds (pos d.year) (d.month + 1)));
  number = omega (arith, signed_arith, at.number, days_from_civil-next_month (pos d.year) d.month d.day at.month.0 (omega (arith, at.day.1)));
}

-- 31 December 9999 is the last day that has a number
last_day : (days : ℕ) (d : Day) → suc days ≤ 2932896 → d.year ≤ 9999 → 9999 ≤ d.year → days_from_civil (pos d.year) 12 31 ≡ pos days → ⊥
last_day days d small below above number =
    let top : d.year ≡ 9999 = omega (arith, below, above) in
    let same : pos days ≡ pos 2932896 = sym number ∙ ap (λ (y : ℕ). days_from_civil (pos y) 12 31) top ∙ days_from_civil-max in
    omega (arith, signed_arith, same)

-- from a year to the next
in_next_year : (days : ℕ) (d : Day) → suc days ≤ 2932896 → IsAt days d → days_in_month (pos d.year) d.month ≤ d.day → 12 ≤ d.month → IsAt (suc days) (record { year = d.year + 1; month = 1; day = 1 })
in_next_year days d small at h m =
    let december : d.month ≡ 12 = omega (arith, at.month.1) in
    let long : d.day ≡ 31 = omega (arith, at.day.1, ap (days_in_month (pos d.year)) december) in
    let number : days_from_civil (pos d.year) 12 31 ≡ pos days = subst (λ (n : ℕ). days_from_civil (pos d.year) 12 n ≡ pos days) long (subst (λ (n : ℕ). days_from_civil (pos d.year) n d.day ≡ pos days) december at.number) in
    record {
      first = omega (arith, at.first);
      last = elim (cases_lt d.year 9999) [ inl before ↦ omega (arith, before) | inr after ↦ absurd (last_day days d small at.last after number) ];
      month = (omega arith, omega arith);
      day = (omega arith, omega (arith, days_in_month_bounds (pos (d.year + 1)) 1));
      number = omega (arith, signed_arith, number, days_from_civil-next_year (pos d.year) (pos (d.year + 1)) (omega (arith, signed_arith)) (omega (arith, signed_arith)));
    }

-- 1 January 1970
first_is : IsAt 0 (record { year = 1970; month = 1; day = 1 })
first_is = record { first = omega arith; last = omega arith; month = (omega arith, omega arith); day = (omega arith, omega (arith, days_in_month_bounds (pos 1970) 1)); number = known_days.0 }

-- from any day to the next
next_is : (days : ℕ) (d : Day) → suc days ≤ 2932896 → IsAt days d → IsAt (suc days) (next_day d)
next_is days d small at =
    elim (cases_lt d.day (days_in_month (pos d.year) d.month)) [
      | inl day ↦ subst (IsAt (suc days)) (cond_below _ _ _ _ day) (in_month days d at day)
      | inr day ↦ elim (cases_lt d.month 12) [
        | inl month ↦ subst (IsAt (suc days)) (cond_above _ _ _ _ _ day (cond_below _ _ _ _ month)) (in_year days d at day month)
        | inr month ↦ subst (IsAt (suc days)) (cond_above _ _ _ _ _ day (cond_above _ _ _ _ _ month refl)) (in_next_year days d small at day month)
      ]
    ]

-- and so each day that is counted
at_is : (days : ℕ) → days ≤ 2932896 → IsAt days (day_at days)
unfolding day_at
at_is zero small = first_is
at_is (suc days) small = next_is days (day_at days) small (at_is days (omega arith))

-- a day of the calendar as a date
date_of : (days : ℕ) (d : Day) → IsAt days d → Date
date_of days d at = record { year = pos d.year; month = d.month; day = d.day; year_in = omega (arith, signed_arith, at.first, at.last); month_in = at.month; day_in = at.day }

-- the date of a day number is the one that comes so many days after the first
date_is : (days : ℕ) (date : Date) → days ≤ 2932896 → epoch_day date ≡ pos days → (date.year ≡ pos (day_at days).year) × (date.month ≡ (day_at days).month) × (date.day ≡ (day_at days).day)
unfolding date_of
date_is days date small e =
    let at = at_is days small in
    epoch_day_injective date (date_of days (day_at days) at) (e ∙ sym at.number)

-- its year has four digits
pub year_below : (days : ℕ) → days ≤ 2932896 → (day_at days).year < 10000
year_below days small = omega (arith, (at_is days small).last)

-- the day number of what a clock in UTC shows
day_of_clock : (time : ℕ) (nanos : ℤ) (clock : DateTime) → time < 2 ^ 37 → nanos ≡ to_z w64 time *ℤ pos 1000000000 → civil_nanos clock ≡ nanos +ℤ nanos_of_seconds (pos 0) → epoch_day clock.date ≡ pos (time / 86400)
day_of_clock time nanos clock below told shown = omega (arith, signed_casts, below, told, shown, civil_nanos-parts clock, time_nanos_bound clock.time)

-- and so its date is the one that comes so many days after the first
pub clock_is : (time : ℕ) (nanos : ℤ) (clock : DateTime) → time < 2 ^ 37 → nanos ≡ to_z w64 time *ℤ pos 1000000000 → civil_nanos clock ≡ nanos +ℤ nanos_of_seconds (pos 0) → (clock.date.year ≡ pos (day_at (time / 86400)).year) × (clock.date.month ≡ (day_at (time / 86400)).month) × (clock.date.day ≡ (day_at (time / 86400)).day)
clock_is time nanos clock below told shown = date_is (time / 86400) clock.date (omega (arith, below)) (day_of_clock time nanos clock below told shown)
