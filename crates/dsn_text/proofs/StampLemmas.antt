-- Counting days from 1 January 1970 agrees with the day numbers of jiff's calendar.
use Rattle.std.proofs.Common.{◌≡◌, ℕ, zero, suc, ◌+◌, ◌<◌, ◌≤◌, nat_lt, refl, sym, ap, ◌∙◌, arith, rules, inl, inr, pos, unsigned_abs}
use Rattle.std.specs.Int.{IsInRange}
use Rattle.std.proofs.lemmas.Bool.{cond_both, cases_lt, ltb-true, ltb-false}
use Rattle.jiff_core.specs.Calendar.{days_from_civil, IsCivilDate}
use Rattle.jiff_core.specs.Date.{epoch_day}
use Rattle.jiff_core.specs.declared.civil.date.Date.{Date}
use Rattle.jiff_core.proofs.SignedLemmas.{signed_arith}
use Rattle.jiff_core.proofs.CalendarLemmas.{days_from_civil-day_count, day_count-epoch, day_count-lt_year, days_in_month_bounds}
use Rattle.jiff_core.proofs.DateLemmas.{epoch_day_injective, days_from_civil-day, days_from_civil-next_month, days_from_civil-next_year, days_from_civil-max, epoch_day_range}
use Rattle.dsn_text.specs.Stamp.{CivilDate, days_in_month, next_day, civil_after}

-- the date is in the calendar, and has this day number
record IsDay (days : ℕ) (date : CivilDate) : Type 0 where
  month : IsInRange 1 12 date.month
  day : IsInRange 1 (days_in_month date.year date.month) date.day
  number : days_from_civil (pos date.year) date.month date.day ≡ pos days

first_is : IsDay 0 (record { year = 1970; month = 1; day = 1 })
first_is = record {
  month = omega arith;
  day = (omega arith, omega arith);
  number = omega (arith, signed_arith, days_from_civil-day_count, day_count-epoch);
}

next_day_is : (days year month day : ℕ) → IsDay days (record { year = year; month = month; day = day }) → day < days_in_month year month → IsDay (suc days) (record { year = year; month = month; day = day + 1 })
next_day_is days year month day h more = record {
  month = h.month;
  day = (omega arith, omega arith);
  number = omega (arith, signed_arith, h.number, days_from_civil-day (pos year) month (day + 1) day (omega arith) h.day.0);
}

next_month_is : (days year month day : ℕ) → IsDay days (record { year = year; month = month; day = day }) → days_in_month year month ≤ day → month < 12 → IsDay (suc days) (record { year = year; month = month + 1; day = 1 })
next_month_is days year month day h last more = record {
  month = (omega arith, omega arith);
  day = (omega arith, omega (arith, days_in_month_bounds (pos year) (month + 1)));
  number = omega (arith, signed_arith, h.number, days_from_civil-next_month (pos year) month day h.month.0 (omega (arith, h.day.1)));
}

next_year_is : (days year month day : ℕ) → IsDay days (record { year = year; month = month; day = day }) → days_in_month year month ≤ day → 12 ≤ month → IsDay (suc days) (record { year = year + 1; month = 1; day = 1 })
next_year_is days year month day h last december =
    let twelve : month ≡ 12 = omega (arith, h.month.1) in
    let most : day ≤ 31 = rw twelve at h.day.1 in
    let least : 31 ≤ day = rw twelve at last in
    let thirty_one : day ≡ 31 = omega arith in
    let number = rw (twelve, thirty_one) at h.number in
    record {
      month = (omega arith, omega arith);
      day = (omega arith, omega arith);
      number = omega (arith, signed_arith, number, days_from_civil-next_year (pos year) (pos (year + 1)) (omega (arith, signed_arith)) (omega (arith, signed_arith)));
    }

next_is : (days : ℕ) (date : CivilDate) → IsDay days date → IsDay (suc days) (next_day date)
next_is days date h =
    cond_both (nat_lt date.day (days_in_month date.year date.month)) _ _ (IsDay (suc days))
    (λ e. next_day_is days date.year date.month date.day h (ltb-true _ _ e))
    (λ e. cond_both (nat_lt date.month 12) _ _ (IsDay (suc days))
    (λ f. next_month_is days date.year date.month date.day h (ltb-false _ _ e) (ltb-true _ _ f))
    (λ f. next_year_is days date.year date.month date.day h (ltb-false _ _ e) (ltb-false _ _ f)))

civil_after_is : (days : ℕ) → IsDay days (civil_after days)
unfolding civil_after
civil_after_is zero = first_is
civil_after_is (suc days) = next_is days (civil_after days) (civil_after_is days)

-- years have at most four digits up to 31 December 9999
year_bound : (days : ℕ) → days ≤ 2_932_896 → (civil_after days).year ≤ 9999
year_bound days h =
    let date = civil_after days in
    let is = civil_after_is days in
    elim (cases_lt 9999 date.year) [
      | inl lt ↦ absurd (omega (arith, signed_arith, is.number, days_from_civil-max, days_from_civil-day_count, day_count-lt_year (pos 9999) 12 31 (pos date.year) date.month date.day (search rules) is.day.0 (omega (arith, signed_arith))))
      | inr le ↦ le
    ]

-- jiff's date with this day number is the date that the count reaches
pub civil_after-epoch_day : (days : ℕ) (date : Date) → epoch_day date ≡ pos days → (date.year ≡ pos (civil_after days).year) × (date.month ≡ (civil_after days).month) × (date.day ≡ (civil_after days).day)
civil_after-epoch_day days date e =
    let is = civil_after_is days in
    let counted : Date = record {
      year = pos (civil_after days).year;
      month = (civil_after days).month;
      day = (civil_after days).day;
      year_in = (omega (arith, signed_arith), omega (arith, signed_arith, year_bound days (omega (arith, signed_arith, e, epoch_day_range date))));
      month_in = is.month;
      day_in = is.day;
    } in
    epoch_day_injective date counted (e ∙ sym is.number)

-- conversely, a date with this day number is the date that the count reaches
pub civil_after-from : (days year month day : ℕ) → IsCivilDate (pos year) month day → days_from_civil (pos year) month day ≡ pos days → civil_after days ≡ record { year = year; month = month; day = day }
civil_after-from days year month day h e =
    let wanted : Date = record { year = pos year; month = month; day = day; year_in = h.0; month_in = h.1; day_in = h.2 } in
    let same = civil_after-epoch_day days wanted e in
    let years : year ≡ (civil_after days).year = ap unsigned_abs same.0 in
    rw (years, same.1, same.2) refl
