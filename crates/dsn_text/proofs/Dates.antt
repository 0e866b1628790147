-- Dates that are known independently, so that a wrong calendar rule fails the check.
use Rattle.std.proofs.Common.{◌≡◌, codes, refl, rules}
use Rattle.jiff_core.proofs.DateLemmas.{days_from_civil-max}
use Rattle.dsn_text.specs.Stamp.{last_moment, civil_after, date_text}
use Rattle.dsn_text.proofs.StampLemmas.{civil_after-from}

first_moment : date_text 0 ≡ codes "Thu, 01 Jan 1970 00:00:00 +0000"
unfolding date_text civil_after
first_moment = refl

leap_day : date_text 951_827_696 ≡ codes "Tue, 29 Feb 2000 12:34:56 +0000"
unfolding date_text civil_after
leap_day = refl

autumn_2023 : date_text 1_700_000_000 ≡ codes "Tue, 14 Nov 2023 22:13:20 +0000"
unfolding date_text civil_after
autumn_2023 = refl

-- counting nearly three million days takes too long here, so this date is derived from its day number
last_day : civil_after 2_932_896 ≡ record { year = 9999; month = 12; day = 31 }
last_day = civil_after-from 2_932_896 9999 12 31 (search rules) days_from_civil-max

last_date : date_text last_moment ≡ codes "Fri, 31 Dec 9999 23:59:59 +0000"
unfolding date_text
last_date = rw last_day refl
