use Rattle.std.proofs.Common.{◌≡◌, ℕ, ◌≤◌, unsigned_abs, ◌/◌, ◌∙◌, List, [], ◌∷◌, length, get_or, refl, sym, ap, arith, rules, w8, w16}
use Rattle.std.proofs.lemmas.Slice.Eq.{text_from_reads}
use Rattle.std.proofs.lemmas.Int.{to_z_pos}
use Rattle.jiff_core.proofs.SignedLemmas.{signed_arith}
use Rattle.jiff_core.proofs.CalendarLemmas.{days_in_month_bounds}
use Rattle.dsn_text.specs.Stamp.{civil_after, weekday_after, day_name, month_name}
use Rattle.dsn_text.proofs.stamp.Stamp.day.Goals as goal

three_items : (xs : List ℕ) → length xs ≡ 3 → xs ≡ get_or xs 0 0 ∷ get_or xs 1 0 ∷ get_or xs 2 0 ∷ []
three_items xs h = text_from_reads xs _ h (refl, (refl, (refl, tt)))

pub returns : goal.returns
returns c =
    let days = c.args.self / 86400 in
    let date = c.civil_date-date.result in
    let is = c.civil_date-date.ensures.date in
    let long = days_in_month_bounds date.year date.month in
    let weekday : c.name_of_day.result.now ≡ day_name (weekday_after days) =
    c.name_of_day.ensures ∙ ap day_name (c.weekday.ensures ∙ c.civil_date-date.ensures.weekday) in
    let day : c.unsigned_abs.result ≡ (civil_after days).day =
    (rw c.day.ensures at c.unsigned_abs.ensures.value) ∙ ap unsigned_abs (to_z_pos w8 date.day (omega (arith, date.day_in.1))) ∙ is.2 in
    let month : c.unsigned_abs-2.result ≡ (civil_after days).month =
    (rw c.month.ensures at c.unsigned_abs-2.ensures.value) ∙ ap unsigned_abs (to_z_pos w8 date.month (omega (arith, date.month_in.1))) ∙ is.1 in
    let low : (civil_after days).year ≤ 9999 = omega (arith, signed_arith, date.year_in.1, is.0) in
    let year : c.unsigned_abs-year.result ≡ (civil_after days).year =
    (rw (c.year.ensures, is.0) at c.unsigned_abs-year.ensures.value) ∙ ap unsigned_abs (to_z_pos w16 (civil_after days).year (omega (arith, low))) in
    let day_name_is = sym weekday ∙ three_items c.name_of_day.result.now (search rules) in
    let month_name_is = sym (ap month_name month) ∙ sym c.name_of_month.ensures ∙ three_items c.name_of_month.result.now (search rules) in
    rw (c.digits.ensures, c.digits-2.ensures, c.digits-3.ensures, day, year, day_name_is, month_name_is) refl
