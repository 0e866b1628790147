-- Dates: the civil date of a day number, and the text of a moment (RFC 5322 section 3.3).
use Rattle.std.specs.Prelude.{ℕ, zero, suc, ◌+◌, ◌-◌, ◌/◌, ◌%◌, Bool, not, ◌&&◌, ◌||◌, ◌==◌, nat_le, nat_lt, if◌then◌else◌, List, [], ◌∷◌, ◌++◌, slice_index_or, codes}

-- the last second of the year 9999; a later year has more than four digits
abbrev pub last_moment : ℕ
last_moment = 253_402_300_799

-- whether a moment has a date with a year of four digits
abbrev pub is_moment : ℕ → Bool
is_moment moment = nat_le moment last_moment

-- a day of the calendar; months and days count from 1
pub record CivilDate : Type 0 where
  pub year : ℕ
  pub month : ℕ
  pub day : ℕ

-- every fourth year, except the centuries that 400 doesn't divide (RFC 3339 appendix C)
abbrev pub is_leap_year : ℕ → Bool
is_leap_year year = (year % 4 == 0) && (not (year % 100 == 0) || (year % 400 == 0))

-- the number of days in a month; September, April, June and November have thirty (RFC 3339 section
-- 5.7)
abbrev pub days_in_month : ℕ → ℕ → ℕ
days_in_month year month =
    if month == 2 then (if is_leap_year year then 29 else 28)
    else (if (month == 4) || (month == 6) || (month == 9) || (month == 11) then 30 else 31)

-- the next day: of the same month, or else the first of the next month, or else of the next year
abbrev pub next_day : CivilDate → CivilDate
next_day date =
    if nat_lt date.day (days_in_month date.year date.month)
    then record { year = date.year; month = date.month; day = date.day + 1 }
    else (if nat_lt date.month 12
    then record { year = date.year; month = date.month + 1; day = 1 }
    else record { year = date.year + 1; month = 1; day = 1 })

-- the day this number of days after 1 January 1970
unfoldable pub civil_after : ℕ → CivilDate
civil_after zero = record { year = 1970; month = 1; day = 1 }
civil_after (suc days) = next_day (civil_after days)

-- the day of the week this number of days after 1 January 1970, a Thursday; 0 is Monday
abbrev pub weekday_after : ℕ → ℕ
weekday_after days = (days + 3) % 7

-- the names of the days from Monday on, which has number 0
abbrev pub day_names : List (List ℕ)
day_names =
    codes "Mon" ∷ codes "Tue" ∷ codes "Wed" ∷ codes "Thu" ∷ codes "Fri" ∷ codes "Sat"
    ∷ codes "Sun" ∷ []

abbrev pub day_name : ℕ → List ℕ
day_name weekday = slice_index_or day_names weekday []

-- the names of the months from January on, which has number 1
abbrev pub month_names : List (List ℕ)
month_names =
    codes "Jan" ∷ codes "Feb" ∷ codes "Mar" ∷ codes "Apr" ∷ codes "May" ∷ codes "Jun"
    ∷ codes "Jul" ∷ codes "Aug" ∷ codes "Sep" ∷ codes "Oct" ∷ codes "Nov" ∷ codes "Dec" ∷ []

abbrev pub month_name : ℕ → List ℕ
month_name month = slice_index_or month_names (month - 1) []

-- a number below 100 in two digits
abbrev pub two_digits : ℕ → List ℕ
two_digits n = (48 + n / 10) ∷ (48 + n % 10) ∷ []

-- the day this number of days after 1 January 1970, as `Thu, 01 Jan 1970`
abbrev pub day_text : ℕ → List ℕ
day_text days =
    let date = civil_after days in
    day_name (weekday_after days) ++ codes ", " ++ two_digits date.day ++ codes " "
    ++ month_name date.month ++ codes " " ++ two_digits (date.year / 100)
    ++ two_digits (date.year % 100)

-- a second of the day, as `23:59:59`
abbrev pub time_text : ℕ → List ℕ
time_text second =
    two_digits (second / 3600) ++ codes ":" ++ two_digits (second / 60 % 60) ++ codes ":"
    ++ two_digits (second % 60)

-- a moment, in seconds since 1 January 1970 UTC, as `Thu, 01 Jan 1970 00:00:00 +0000`
unfoldable pub date_text : ℕ → List ℕ
date_text moment =
    day_text (moment / 86_400) ++ codes " " ++ time_text (moment % 86_400) ++ codes " +0000"
