-- Notices report each outcome once: what portions contain, and what is reported.
use Rattle.std.proofs.Common.{◌≡◌, ◌<◌, ◌≤◌, ◌∙◌, Bool, true, false, cond, ℕ, zero, suc, List, [], ◌∷◌, ◌++◌, take, drop, length, map, Option, Some, None, Result, Ok, Err, refl, sym, ap, subst, arith}
use Rattle.std.specs.Prelude.{◌==◌, ◌&&◌, ◌||◌, nat_lt, if◌then◌else◌}
use Rattle.std.specs.List.{AllByRecursion, Contains, count_by, filter, flat_map, list_all, list_any}
use Rattle.std.specs.Str.{bytes_eq}
use Rattle.std.proofs.lemmas.Bool.{and_parts, eqb-true, false_from_ne_true}
use Rattle.std.proofs.lemmas.Cmp.{nat_eq_equiv}
use Rattle.std.proofs.lemmas.List.{length-drop, length-take, take-append-drop}
use Rattle.std.proofs.lemmas.List.Folds.{list_any_at}
use Rattle.std.proofs.lemmas.List.Sums.{length-filter}
use Rattle.dsn_text.specs.declared.service.Service.{Service}
use Rattle.dsn_postfix_files.specs.LogRecord.{LoggedFields}
use Rattle.dsn_postfix.specs.NoticePlan.{IsOfWanted, TellEachOnce, TellsOfSome, has_known_action, is_reported_as, is_same_outcome, is_wanted, last_of_each, most_told, notice_about, notice_asked, notices_asked, notices_of, notices_unless, notices_with, option_lost, outcomes_of, portions, portions_within, records_asked, says_same, told_as, told_of, wanted_of}
use Rattle.dsn_postfix.specs.PlannedNotice.{NoticeFacts}
use Rattle.dsn_postfix_files.specs.QueueRecipients.{RecipientFacts}
use Rattle.dsn_postfix.specs.Wanted.{is_no_sender}
use Rattle.dsn_postfix.specs.declared.cant_say.CantSay.{CantSay}
use Rattle.dsn_postfix.specs.declared.cant_say.CantSay.TheVariants.{UnknownAction}
use Rattle.dsn_postfix.specs.declared.postfix_request.NoticeRequest.{NoticeRequest}
use Rattle.dsn_postfix.specs.declared.postfix_request.PostfixRequest.{PostfixRequest}
use Rattle.dsn_postfix.specs.declared.postfix_request.PostfixRequest.TheVariants.{Append, Flush, Warn, Verp, One, Trace}
use Rattle.dsn_postfix.proofs.NumberLemmas.{compared_same, same_bytes}

-- ---- portions

fewer : {X : Type 0} (count most : ℕ) (x : X) (xs : List X) → 0 < most → length (x ∷ xs) ≤ suc count → length (drop most (x ∷ xs)) ≤ count
fewer count most x xs some enough = omega (arith, some, enough, length-drop most (x ∷ xs))

joined : {X : Type 0} (count most : ℕ) (xs : List X) → 0 < most → length xs ≤ count → flat_map (λ (ys : List X). ys) (portions_within count most xs) ≡ xs
joined zero most [] some enough = refl
joined zero most (x ∷ xs) some enough = absurd (omega (arith, enough))
joined (suc count) most [] some enough = refl
joined {X = X} (suc count) most (x ∷ xs) some enough =
    ap (λ (ys : List X). take most (x ∷ xs) ++ ys) (joined count most (drop most (x ∷ xs)) some (fewer count most x xs some enough))
    ∙ take-append-drop most (x ∷ xs)

outcomes_joined : (request : PostfixRequest) (notice : NoticeRequest) (parts : List (List LoggedFields)) → outcomes_of (map (notice_about request notice) parts) ≡ flat_map (λ (part : List LoggedFields). part) parts
outcomes_joined request notice [] = refl
outcomes_joined request notice (part ∷ parts) = ap (λ (later : List LoggedFields). part ++ later) (outcomes_joined request notice parts)

each_of_some : (request : PostfixRequest) (notice : NoticeRequest) (count most : ℕ) (told : List LoggedFields) → 0 < most → AllByRecursion (TellsOfSome most) (map (notice_about request notice) (portions_within count most told))
each_of_some request notice zero most told some = tt
each_of_some request notice (suc count) most [] some = tt
each_of_some request notice (suc count) most (fields ∷ told) some =
    ((omega (arith, some, length-take most (fields ∷ told)), omega (arith, length-take most (fields ∷ told))), each_of_some request notice count most (drop most (fields ∷ told)) some)

may_tell : (request : PostfixRequest) → 0 < most_told request
may_tell (Append append) = omega arith
may_tell (Flush notice) = omega arith
may_tell (Warn notice) = omega arith
may_tell (Verp notice delimiters) = omega arith
may_tell (One notice recipient report) = omega arith
may_tell (Trace notice) = omega arith

-- ---- records that say the same

same_text : (one other : List ℕ) → bytes_eq one other ≡ true → (text : List ℕ) → bytes_eq one text ≡ bytes_eq other text
same_text one other same text = ap (λ (t : List ℕ). bytes_eq t text) (same_bytes one other same)

-- two records that say the same agree on which records say the same
says_alike : (one other told : LoggedFields) → says_same one other ≡ true → says_same one told ≡ says_same other told
says_alike one other told same =
    let place = and_parts (one.offset == other.offset) _ same in
    let address = and_parts (bytes_eq one.recipient other.recipient) _ place.1 in
    let status = and_parts (bytes_eq one.status other.status) _ address.1 in
    let words = and_parts (bytes_eq one.action other.action) _ status.1 in
    λ i. ap (λ (n : ℕ). n == told.offset) (eqb-true one.offset other.offset place.0) i
    && (same_text one.recipient other.recipient address.0 told.recipient i
    && (same_text one.status other.status status.0 told.status i
    && (same_text one.action other.action words.0 told.action i && same_text one.reason other.reason words.1 told.reason i)))

any_alike : (one other : LoggedFields) (told : List LoggedFields) → says_same one other ≡ true → list_any (says_same one) told ≡ list_any (says_same other) told
any_alike one other [] same = refl
any_alike one other (fields ∷ told) same = λ i. says_alike one other fields same i || any_alike one other told same i

says_itself : (fields : LoggedFields) → says_same fields fields ≡ true
says_itself fields =
    rw (
      nat_eq_equiv.refl fields.offset,
      compared_same fields.recipient fields.recipient refl,
      compared_same fields.status fields.status refl,
      compared_same fields.action fields.action refl,
      compared_same fields.reason fields.reason refl,
    ) refl

-- ---- how often an outcome is reported

abbrev times : (LoggedFields → Bool) → List LoggedFields → ℕ
times test records = length (filter test records)

abbrev once_if : Bool → ℕ
once_if some = if some then 1 else 0

-- one more record adds one to both counts, or none
one_more : (said : Bool) (first other : LoggedFields) (firsts others : List LoggedFields) → length firsts ≡ length others → length (cond said (first ∷ firsts) firsts) ≡ length (cond said (other ∷ others) others)
one_more true first other firsts others before = ap suc before
one_more false first other firsts others before = before

-- if a place is known, the records of one outcome are those that say the same
same_any : (fields : LoggedFields) (later : List LoggedFields) → nat_lt 0 fields.offset ≡ true → list_any (is_same_outcome fields) later ≡ list_any (says_same fields) later
same_any fields [] known = refl
same_any fields (other ∷ later) known = λ i. (known i && says_same fields other) || same_any fields later known i

none_same : (fields : LoggedFields) (later : List LoggedFields) → nat_lt 0 fields.offset ≡ false → list_any (is_same_outcome fields) later ≡ false
none_same fields [] unknown = refl
none_same fields (other ∷ later) unknown = λ i. (unknown i && says_same fields other) || none_same fields later unknown i

same_place : (outcome fields : LoggedFields) → says_same outcome fields ≡ true → outcome.offset ≡ fields.offset
same_place outcome fields said = eqb-true outcome.offset fields.offset (and_parts (outcome.offset == fields.offset) _ said).0

-- an outcome of a known place is reported once if a record says it
placed_step : (outcome fields : LoggedFields) (later : List LoggedFields) (again said : Bool) → 0 < outcome.offset → list_any (is_same_outcome fields) later ≡ again → says_same outcome fields ≡ said → times (says_same outcome) (last_of_each later) ≡ once_if (list_any (says_same outcome) later) → times (says_same outcome) (if again then last_of_each later else fields ∷ last_of_each later) ≡ once_if (says_same outcome fields || list_any (says_same outcome) later)
placed_step outcome fields later true false known repeats e before = before ∙ ap (λ (b : Bool). once_if (b || list_any (says_same outcome) later)) (sym e)
placed_step outcome fields later false false known repeats e before =
    ap (λ (b : Bool). length (cond b (fields ∷ filter (says_same outcome) (last_of_each later)) (filter (says_same outcome) (last_of_each later)))) e
    ∙ before ∙ ap (λ (b : Bool). once_if (b || list_any (says_same outcome) later)) (sym e)
placed_step outcome fields later again true known repeats e before = here again repeats
  where
    later_said : list_any (says_same outcome) later ≡ list_any (is_same_outcome fields) later
    later_said = any_alike outcome fields later e ∙ sym (same_any fields later (grind (arith, known, same_place outcome fields e)))

    here : (again : Bool) → list_any (is_same_outcome fields) later ≡ again → times (says_same outcome) (if again then last_of_each later else fields ∷ last_of_each later) ≡ once_if (says_same outcome fields || list_any (says_same outcome) later)
    here true repeats = before ∙ ap once_if (later_said ∙ repeats) ∙ ap (λ (b : Bool). once_if (b || list_any (says_same outcome) later)) (sym e)
    here false repeats =
        ap (λ (b : Bool). length (cond b (fields ∷ filter (says_same outcome) (last_of_each later)) (filter (says_same outcome) (last_of_each later)))) e
        ∙ ap suc (before ∙ ap once_if (later_said ∙ repeats)) ∙ ap (λ (b : Bool). once_if (b || list_any (says_same outcome) later)) (sym e)

placed_times : (outcome : LoggedFields) (wanted : List LoggedFields) → 0 < outcome.offset → times (says_same outcome) (last_of_each wanted) ≡ once_if (list_any (says_same outcome) wanted)
placed_times outcome [] known = refl
placed_times outcome (fields ∷ later) known =
    placed_step outcome fields later (list_any (is_same_outcome fields) later) (says_same outcome fields) known refl refl (placed_times outcome later known)

-- an outcome of an unknown place is reported as often as records say it
unplaced_step : (outcome fields : LoggedFields) (later : List LoggedFields) (known : Bool) → outcome.offset ≡ 0 → nat_lt 0 fields.offset ≡ known → times (says_same outcome) (last_of_each later) ≡ times (says_same outcome) later → times (says_same outcome) (last_of_each (fields ∷ later)) ≡ times (says_same outcome) (fields ∷ later)
unplaced_step outcome fields later false unknown is before =
    ap (λ (again : Bool). times (says_same outcome) (if again then last_of_each later else fields ∷ last_of_each later)) (none_same fields later is)
    ∙ one_more (says_same outcome fields) fields fields (filter (says_same outcome) (last_of_each later)) (filter (says_same outcome) later) before
unplaced_step outcome fields later true unknown is before =
    without (list_any (is_same_outcome fields) later) ∙ before
    ∙ sym (ap (λ (said : Bool). length (cond said (fields ∷ filter (says_same outcome) later) (filter (says_same outcome) later))) other)
  where
    other : says_same outcome fields ≡ false
    other = false_from_ne_true (says_same outcome fields) (λ said. let place = same_place outcome fields said in absurd (grind (arith, unknown, is, place)))

    without : (again : Bool) → times (says_same outcome) (if again then last_of_each later else fields ∷ last_of_each later) ≡ times (says_same outcome) (last_of_each later)
    without true = refl
    without false = ap (λ (said : Bool). length (cond said (fields ∷ filter (says_same outcome) (last_of_each later)) (filter (says_same outcome) (last_of_each later)))) other

unplaced_times : (outcome : LoggedFields) (wanted : List LoggedFields) → outcome.offset ≡ 0 → times (says_same outcome) (last_of_each wanted) ≡ times (says_same outcome) wanted
unplaced_times outcome [] unknown = refl
unplaced_times outcome (fields ∷ later) unknown = unplaced_step outcome fields later (nat_lt 0 fields.offset) unknown refl (unplaced_times outcome later unknown)

-- ---- the wanted records of a log

told_place : (request : PostfixRequest) (fields : LoggedFields) → (told_as request fields).offset ≡ fields.offset
told_place (Append append) fields = refl
told_place (Flush notice) fields = refl
told_place (Warn notice) fields = refl
told_place (Verp notice delimiters) fields = refl
told_place (One notice recipient report) fields = refl
told_place (Trace notice) fields = refl

-- how a record is reported doesn't change whether it is wanted
wanted_as : (service : Service) (request : PostfixRequest) (queued : List RecipientFacts) (fields : LoggedFields) → is_wanted service request queued (told_as request fields) ≡ is_wanted service request queued fields
wanted_as service (Append append) queued fields = refl
wanted_as service (Flush notice) queued fields = refl
wanted_as service (Warn notice) queued fields = refl
wanted_as service (Verp notice delimiters) queued fields = refl
wanted_as service (One notice recipient report) queued fields = refl
wanted_as service (Trace notice) queued fields = refl

any_with : (wanted : Bool) (outcome fields : LoggedFields) (later : List LoggedFields) (others : Bool) → list_any (says_same outcome) later ≡ others → list_any (says_same outcome) (cond wanted (fields ∷ later) later) ≡ (wanted && says_same outcome fields) || others
any_with true outcome fields later others before = ap (λ (b : Bool). says_same outcome fields || b) before
any_with false outcome fields later others before = before

any_wanted : (service : Service) (request : PostfixRequest) (queued : List RecipientFacts) (outcome : LoggedFields) (records : List LoggedFields) → list_any (says_same outcome) (wanted_of service request queued records) ≡ list_any (is_reported_as service request queued outcome) records
any_wanted service request queued outcome [] = refl
any_wanted service request queued outcome (fields ∷ records) =
    let later = wanted_of service request queued records in
    ap (λ (wanted : Bool). list_any (says_same outcome) (cond wanted (told_as request fields ∷ later) later)) (wanted_as service request queued fields)
    ∙ any_with (is_wanted service request queued fields) outcome (told_as request fields) later _ (any_wanted service request queued outcome records)

times_with : (wanted : Bool) (outcome fields told : LoggedFields) (later others : List LoggedFields) → times (says_same outcome) later ≡ length others → times (says_same outcome) (cond wanted (told ∷ later) later) ≡ length (cond (wanted && says_same outcome told) (fields ∷ others) others)
times_with true outcome fields told later others before = one_more (says_same outcome told) told fields (filter (says_same outcome) later) others before
times_with false outcome fields told later others before = before

times_wanted : (service : Service) (request : PostfixRequest) (queued : List RecipientFacts) (outcome : LoggedFields) (records : List LoggedFields) → times (says_same outcome) (wanted_of service request queued records) ≡ times (is_reported_as service request queued outcome) records
times_wanted service request queued outcome [] = refl
times_wanted service request queued outcome (fields ∷ records) =
    let later = wanted_of service request queued records in
    ap (λ (wanted : Bool). times (says_same outcome) (cond wanted (told_as request fields ∷ later) later)) (wanted_as service request queued fields)
    ∙ times_with (is_wanted service request queued fields) outcome fields (told_as request fields) later (filter (is_reported_as service request queued outcome) records) (times_wanted service request queued outcome records)

-- a wanted record of a log is reported
reported_itself : (service : Service) (request : PostfixRequest) (queued : List RecipientFacts) (records : List LoggedFields) (fields : LoggedFields) → Contains records fields → is_wanted service request queued fields ≡ true → list_any (is_reported_as service request queued (told_as request fields)) records ≡ true
reported_itself service request queued records fields among wanted =
    list_any_at (is_reported_as service request queued (told_as request fields)) records among.0 fields among.1
    (ap (is_reported_as service request queued (told_as request fields)) among.2 ∙ rw (wanted, says_itself (told_as request fields)) refl)

told_known : (service : Service) (request : PostfixRequest) (queued : List RecipientFacts) (records : List LoggedFields) (fields : LoggedFields) → Contains records fields → is_wanted service request queued fields ≡ true → 0 < fields.offset → count_by (says_same (told_as request fields)) (told_of service request queued records) ≡ 1
told_known service request queued records fields among wanted known =
    let outcome = told_as request fields in
    sym (length-filter (says_same outcome) (told_of service request queued records))
    ∙ placed_times outcome (wanted_of service request queued records) (omega (arith, known, told_place request fields))
    ∙ ap once_if (any_wanted service request queued outcome records ∙ reported_itself service request queued records fields among wanted)

told_unknown : (service : Service) (request : PostfixRequest) (queued : List RecipientFacts) (records : List LoggedFields) (fields : LoggedFields) → fields.offset ≡ 0 → count_by (says_same (told_as request fields)) (told_of service request queued records) ≡ count_by (is_reported_as service request queued (told_as request fields)) records
told_unknown service request queued records fields unknown =
    let outcome = told_as request fields in
    sym (length-filter (says_same outcome) (told_of service request queued records))
    ∙ unplaced_times outcome (wanted_of service request queued records) (told_place request fields ∙ unknown)
    ∙ times_wanted service request queued outcome records
    ∙ length-filter (is_reported_as service request queued outcome) records

-- ---- each outcome is that of a wanted record

of_more : (service : Service) (request : PostfixRequest) (queued : List RecipientFacts) (first : LoggedFields) (records outcomes : List LoggedFields) → AllByRecursion (IsOfWanted service request queued records) outcomes → AllByRecursion (IsOfWanted service request queued (first ∷ records)) outcomes
of_more service request queued first records [] own = tt
of_more service request queued first records (outcome ∷ outcomes) own =
    let among = own.0 in
    ((suc among.0, among.1, omega (arith, among.2), among.3, among.4), of_more service request queued first records outcomes own.1)

own_with : (service : Service) (request : PostfixRequest) (queued : List RecipientFacts) (fields : LoggedFields) (records later : List LoggedFields) (wanted : Bool) → is_wanted service request queued fields ≡ wanted → AllByRecursion (IsOfWanted service request queued (fields ∷ records)) later → AllByRecursion (IsOfWanted service request queued (fields ∷ records)) (cond wanted (told_as request fields ∷ later) later)
own_with service request queued fields records later true is own = ((zero, fields, omega arith, refl, (is, refl)), own)
own_with service request queued fields records later false is own = own

wanted_own : (service : Service) (request : PostfixRequest) (queued : List RecipientFacts) (records : List LoggedFields) → AllByRecursion (IsOfWanted service request queued records) (wanted_of service request queued records)
wanted_own service request queued [] = tt
wanted_own service request queued (fields ∷ records) =
    let later = wanted_of service request queued records in
    own_with service request queued fields records later (is_wanted service request queued (told_as request fields)) (sym (wanted_as service request queued fields))
    (of_more service request queued fields records later (wanted_own service request queued records))

last_with : (P : LoggedFields → Type 0) (again : Bool) (fields : LoggedFields) (last : List LoggedFields) → P fields → AllByRecursion P last → AllByRecursion P (if again then last else fields ∷ last)
last_with P true fields last first own = own
last_with P false fields last first own = (first, own)

last_own : (P : LoggedFields → Type 0) (wanted : List LoggedFields) → AllByRecursion P wanted → AllByRecursion P (last_of_each wanted)
last_own P [] own = tt
last_own P (fields ∷ later) own = last_with P (list_any (is_same_outcome fields) later) fields (last_of_each later) own.0 (last_own P later own.1)

-- ---- notices

abbrev notices_if : Bool → List NoticeFacts → Result (List NoticeFacts) CantSay
notices_if known found = if known then Ok found else Err UnknownAction

planned_are : (known : Bool) (found notices : List NoticeFacts) → notices_if known found ≡ Ok notices → found ≡ notices
planned_are true found notices is = cc
planned_are false found notices is = absurd cc

pub tell_each_once : (service : Service) (request : PostfixRequest) (notice : NoticeRequest) (queued : List RecipientFacts) (records : List LoggedFields) (notices : List NoticeFacts) → notices_with service request notice queued (Ok records) ≡ Ok notices → TellEachOnce service request queued records notices
tell_each_once service request notice queued records notices is =
    let told = told_of service request queued records in
    let are = planned_are (list_all has_known_action told) (map (notice_about request notice) (portions (most_told request) told)) notices is in
    let all : outcomes_of (map (notice_about request notice) (portions (most_told request) told)) ≡ told = outcomes_joined request notice (portions (most_told request) told) ∙ joined (length told) (most_told request) told (may_tell request) (omega arith) in
    subst (λ (ns : List NoticeFacts). TellEachOnce service request queued records ns) are
    (record {
      told = all;
      each = λ fields among wanted known. ap (count_by (says_same (told_as request fields))) all ∙ told_known service request queued records fields among wanted known;
      unplaced = λ fields unknown. ap (count_by (says_same (told_as request fields))) all ∙ told_unknown service request queued records fields unknown;
      own = subst (λ (told : List LoggedFields). AllByRecursion (IsOfWanted service request queued records) told) (sym all)
          (last_own (IsOfWanted service request queued records) (wanted_of service request queued records) (wanted_own service request queued records));
      some = each_of_some request notice (length told) (most_told request) told (may_tell request);
    })

-- the notices of a request that asks for some, to a sender
planned_if : (nobody : Bool) (planned : Result (List NoticeFacts) CantSay) (notices : List NoticeFacts) → nobody ≡ false → (if nobody then Ok [] else planned) ≡ Ok notices → planned ≡ Ok notices
planned_if true planned notices sent is = absurd cc
planned_if false planned notices sent is = is

planned_unless : (lost : Option CantSay) (planned : Result (List NoticeFacts) CantSay) (notices : List NoticeFacts) → notices_unless lost planned ≡ Ok notices → planned ≡ Ok notices
planned_unless None planned notices is = is
planned_unless (Some reason) planned notices is = absurd cc

pub asked_of : (double_bounce : List ℕ) (service : Service) (request : PostfixRequest) (notice : NoticeRequest) (queued : List RecipientFacts) (log : Option (List ℕ)) (records : List LoggedFields) (notices : List NoticeFacts) → notice_asked request ≡ Some notice → is_no_sender double_bounce notice.sender ≡ false → records_asked service request log ≡ Ok records → notices_of double_bounce service request queued log ≡ Ok notices → notices_with service request notice queued (Ok records) ≡ Ok notices
unfolding notices_of
asked_of double_bounce service request notice queued log records notices asked sent are is =
    let about : notices_asked double_bounce service request queued log (Some notice) ≡ Ok notices = ap (notices_asked double_bounce service request queued log) (sym asked) ∙ is in
    ap (notices_with service request notice queued) (sym are)
    ∙ planned_unless (option_lost notice) (notices_with service request notice queued (records_asked service request log)) notices
    (planned_if (is_no_sender double_bounce notice.sender) _ notices sent about)
