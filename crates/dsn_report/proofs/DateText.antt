-- The text of a date is printable.
use Rattle.std.proofs.Common.{◌≡◌, ℕ, zero, suc, ◌+◌, ◌-◌, ◌*◌, ◌/◌, ◌%◌, ◌<◌, ◌≤◌, Bool, true, false, ◌&&◌, List, [], ◌∷◌, ◌++◌, get_or, codes, refl, ◌∙◌, arith, inl, inr, if◌then◌else◌}
use Rattle.std.specs.Prelude.{◌==◌, ◌||◌}
use Rattle.std.specs.List.{list_all}
use Rattle.std.proofs.lemmas.Bool.Decides.{leb_tells}
use Rattle.std.proofs.lemmas.Bool.{le-leb, false≢true}
use Rattle.std.proofs.lemmas.List.Folds.{list_all-append}
use Rattle.dsn_text.specs.Stamp.{CivilDate, civil_after, next_day, days_in_month, is_leap_year, date_text, day_text, day_name, day_names, month_name, month_names, weekday_after, time_text, two_digits, last_moment}
use Rattle.dsn_text.specs.Text.{is_printable}

pub printable-between : (byte : ℕ) → 32 ≤ byte → byte ≤ 126 → is_printable byte ≡ true
printable-between byte low high = rw (le-leb 32 byte low, le-leb byte 126 high) refl

-- whether all bytes of a text are printable
abbrev is_shown : List ℕ → Bool
is_shown = list_all is_printable

pub shown-append : (xs ys : List ℕ) → is_shown xs ≡ true → is_shown ys ≡ true → is_shown (xs ++ ys) ≡ true
shown-append xs ys p q = list_all-append is_printable xs ys ∙ rw (p, q) refl

shown-two_digits : (n : ℕ) → n ≤ 780 → is_shown (two_digits n) ≡ true
shown-two_digits n few =
    rw (printable-between (48 + n / 10) (omega arith) (omega arith), printable-between (48 + n % 10) (omega arith) (omega arith)) refl

and-parts : (a b : Bool) → (a && b) ≡ true → (a ≡ true) × (b ≡ true)
and-parts true b e = (refl, e)
and-parts false b e = absurd (false≢true e)

shown-index : (names : List (List ℕ)) (k : ℕ) → list_all is_shown names ≡ true → is_shown (get_or names k []) ≡ true
shown-index [] k all = refl
shown-index (name ∷ names) zero all = (and-parts (is_shown name) (list_all is_shown names) all).0
shown-index (name ∷ names) (suc k) all = shown-index names k (and-parts (is_shown name) (list_all is_shown names) all).1

-- bounds of the date that is the given number of days after 1 January 1970; a year has at least 336 days
record Bounded (days : ℕ) (date : CivilDate) : Type 0 where
  day_least : 1 ≤ date.day
  day_most : date.day ≤ 31
  month_least : 1 ≤ date.month
  month_most : date.month ≤ 12
  passed : 336 * date.year + 28 * date.month + date.day ≤ 336 * 1970 + 28 + 1 + days

pick-least : (february leap short : Bool) → 28 ≤ (if february then (if leap then 29 else 28) else (if short then 30 else 31))
pick-least true true short = omega arith
pick-least true false short = omega arith
pick-least false leap true = omega arith
pick-least false leap false = omega arith

pick-most : (february leap short : Bool) → (if february then (if leap then 29 else 28) else (if short then 30 else 31)) ≤ 31
pick-most true true short = omega arith
pick-most true false short = omega arith
pick-most false leap true = omega arith
pick-most false leap false = omega arith

next-bounded : (days : ℕ) (date : CivilDate) → Bounded days date → Bounded (suc days) (next_day date)
next-bounded days date b =
    let least = pick-least (date.month == 2) (is_leap_year date.year) ((date.month == 4) || (date.month == 6) || (date.month == 9) || (date.month == 11)) in
    let most = pick-most (date.month == 2) (is_leap_year date.year) ((date.month == 4) || (date.month == 6) || (date.month == 9) || (date.month == 11)) in
    elim (leb_tells (suc date.day) (days_in_month date.year date.month)) [
      | inl inside ↦ rw inside.0 (record {
        day_least = omega arith;
        day_most = omega (arith, most, inside.1);
        month_least = b.month_least;
        month_most = b.month_most;
        passed = omega (arith, b.passed);
      })
      | inr ended ↦ elim (leb_tells (suc date.month) 12) [
        | inl more ↦ rw (ended.0, more.0) (record {
          day_least = omega arith;
          day_most = omega arith;
          month_least = omega arith;
          month_most = omega (arith, more.1);
          passed = omega (arith, b.passed, least, ended.1);
        })
        | inr over ↦ rw (ended.0, over.0) (record {
          day_least = omega arith;
          day_most = omega arith;
          month_least = omega arith;
          month_most = omega arith;
          passed = omega (arith, b.passed, least, ended.1, over.1);
        })
      ]
    ]

bounded : (days : ℕ) → Bounded days (civil_after days)
unfolding civil_after
bounded zero = record { day_least = omega arith; day_most = omega arith; month_least = omega arith; month_most = omega arith; passed = omega arith }
bounded (suc days) = next-bounded days (civil_after days) (bounded days)

shown-day : (days : ℕ) → days ≤ 2932896 → is_shown (day_text days) ≡ true
shown-day days few =
    let date = civil_after days in
    let b = bounded days in
    let year_few : date.year ≤ 20000 = omega (arith, b.passed) in
    let name = shown-append (day_name (weekday_after days)) (codes ", ") (shown-index day_names (weekday_after days) refl) refl in
    let day = shown-append (day_name (weekday_after days) ++ codes ", ") (two_digits date.day) name (shown-two_digits date.day (omega (arith, b.day_most))) in
    let space = shown-append (day_name (weekday_after days) ++ codes ", " ++ two_digits date.day) (codes " ") day refl in
    let month = shown-append (day_name (weekday_after days) ++ codes ", " ++ two_digits date.day ++ codes " ") (month_name date.month) space (shown-index month_names (date.month - 1) refl) in
    let again = shown-append (day_name (weekday_after days) ++ codes ", " ++ two_digits date.day ++ codes " " ++ month_name date.month) (codes " ") month refl in
    let century = shown-append (day_name (weekday_after days) ++ codes ", " ++ two_digits date.day ++ codes " " ++ month_name date.month ++ codes " ") (two_digits (date.year / 100)) again (shown-two_digits (date.year / 100) (omega arith)) in
    shown-append (day_name (weekday_after days) ++ codes ", " ++ two_digits date.day ++ codes " " ++ month_name date.month ++ codes " " ++ two_digits (date.year / 100)) (two_digits (date.year % 100)) century (shown-two_digits (date.year % 100) (omega arith))

shown-time : (second : ℕ) → second < 86400 → is_shown (time_text second) ≡ true
shown-time second early =
    let hour = shown-append (two_digits (second / 3600)) (codes ":") (shown-two_digits (second / 3600) (omega arith)) refl in
    let minute = shown-append (two_digits (second / 3600) ++ codes ":") (two_digits (second / 60 % 60)) hour (shown-two_digits (second / 60 % 60) (omega arith)) in
    let colon = shown-append (two_digits (second / 3600) ++ codes ":" ++ two_digits (second / 60 % 60)) (codes ":") minute refl in
    shown-append (two_digits (second / 3600) ++ codes ":" ++ two_digits (second / 60 % 60) ++ codes ":") (two_digits (second % 60)) colon (shown-two_digits (second % 60) (omega arith))

pub shown-date : (moment : ℕ) → moment ≤ last_moment → is_shown (date_text moment) ≡ true
unfolding date_text
shown-date moment early =
    let day = shown-day (moment / 86400) (omega arith) in
    let space = shown-append (day_text (moment / 86400)) (codes " ") day refl in
    let time = shown-append (day_text (moment / 86400) ++ codes " ") (time_text (moment % 86400)) space (shown-time (moment % 86400) (omega arith)) in
    shown-append (day_text (moment / 86400) ++ codes " " ++ time_text (moment % 86400)) (codes " +0000") time refl
