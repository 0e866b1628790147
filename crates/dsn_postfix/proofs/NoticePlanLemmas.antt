-- Records of a log one after another, and portions of a list.
use Rattle.std.proofs.Common.{◌≡◌, ◌<◌, ◌≤◌, ◌∙◌, ℕ, zero, suc, List, [], ◌∷◌, ◌++◌, take, drop, length, map, Result, Ok, Err, refl, sym, ap, subst, append_assoc, arith}
use Rattle.std.proofs.lemmas.List.{drop-map, length-drop, length-map, map-append, take-map}
use Rattle.dsn_postfix_files.specs.LogRecord.{LoggedFields, logged_fields_in}
use Rattle.dsn_postfix.specs.NoticePlan.{onto_records, portions, portions_within}
use Rattle.dsn_postfix.specs.PlannedNotice.{NoticeFacts}
use Rattle.dsn_postfix_files.specs.declared.log_record.LogRecord.{LogRecord}
use Rattle.dsn_postfix.specs.declared.cant_say.CantSay.{CantSay}

-- records, and those that come after them
abbrev pub after_records : List LoggedFields → Result (List LoggedFields) CantSay → Result (List LoggedFields) CantSay
after_records before (Ok records) = Ok (before ++ records)
after_records before (Err reason) = Err reason

pub after_no_records : (found : Result (List LoggedFields) CantSay) → after_records [] found ≡ found
after_no_records (Ok records) = refl
after_no_records (Err reason) = refl

after_one_more : (before : List LoggedFields) (fields : LoggedFields) (found : Result (List LoggedFields) CantSay) → after_records (before ++ fields ∷ []) found ≡ after_records before (onto_records fields found)
after_one_more before fields (Ok records) = ap (λ (xs : List LoggedFields). ok xs) (append_assoc before (fields ∷ []) records)
  where
    ok : List LoggedFields → Result (List LoggedFields) CantSay
    ok xs = Ok xs
after_one_more before fields (Err reason) = refl

pub after_record_more : (before : List LogRecord) (log_record : LogRecord) (found : Result (List LoggedFields) CantSay) → after_records (map logged_fields_in (before ++ log_record ∷ [])) found ≡ after_records (map logged_fields_in before) (onto_records (logged_fields_in log_record) found)
after_record_more before log_record found =
    ap (λ (xs : List LoggedFields). after_records xs found) (map-append logged_fields_in before (log_record ∷ [])) ∙ after_one_more (map logged_fields_in before) (logged_fields_in log_record) found

-- the bound on the number of portions doesn't matter if it is large enough
enough : {X : Type 0} (count other most : ℕ) (xs : List X) → 0 < most → length xs ≤ count → length xs ≤ other → portions_within count most xs ≡ portions_within other most xs
enough zero zero most xs some one two = refl
enough zero (suc other) most [] some one two = refl
enough zero (suc other) most (x ∷ xs) some one two = absurd (omega (arith, one))
enough (suc count) zero most [] some one two = refl
enough (suc count) zero most (x ∷ xs) some one two = absurd (omega (arith, two))
enough (suc count) (suc other) most [] some one two = refl
enough {X = X} (suc count) (suc other) most (x ∷ xs) some one two =
    ap (λ (later : List (List X)). take most (x ∷ xs) ∷ later) (enough count other most (drop most (x ∷ xs)) some (shorter count one) (shorter other two))
  where
    shorter : (n : ℕ) → length (x ∷ xs) ≤ suc n → length (drop most (x ∷ xs)) ≤ n
    shorter n at_most = omega (arith, some, at_most, length-drop most (x ∷ xs))

-- the first portion, and the others
pub first_portion : {X : Type 0} (most : ℕ) (xs : List X) → 0 < most → 0 < length xs → portions most xs ≡ take most xs ∷ portions most (drop most xs)
first_portion most [] some full = absurd (omega (arith, full))
first_portion {X = X} most (x ∷ xs) some full =
    ap (λ (later : List (List X)). take most (x ∷ xs) ∷ later) (enough (length xs) (length (drop most (x ∷ xs))) most (drop most (x ∷ xs)) some shorter (omega arith))
  where
    shorter : length (drop most (x ∷ xs)) ≤ length xs
    shorter = omega (arith, some, length-drop most (x ∷ xs))

-- a notice of the first portion, and those of the others
pub one_notice_more : (about : List LoggedFields → NoticeFacts) (most : ℕ) (notices : List NoticeFacts) (notice : NoticeFacts) (rest : List LogRecord)
    → 0 < most
    → 0 < length rest
    → notice ≡ about (map logged_fields_in (take most rest))
    → (notices ++ notice ∷ []) ++ map about (portions most (map logged_fields_in (drop most rest)))
    ≡ notices ++ map about (portions most (map logged_fields_in rest))
one_notice_more about most notices notice rest some full is =
    append_assoc notices (notice ∷ []) (map about (portions most (map logged_fields_in (drop most rest))))
    ∙ ap (λ (ns : List NoticeFacts). notices ++ ns) (first ∙ sym (ap (map about) (first_portion most (map logged_fields_in rest) some (subst (λ (n : ℕ). 0 < n) (sym (length-map rest logged_fields_in)) full))))
  where
    first : notice ∷ map about (portions most (map logged_fields_in (drop most rest))) ≡ about (take most (map logged_fields_in rest)) ∷ map about (portions most (drop most (map logged_fields_in rest)))
    first = λ i. (is ∙ ap about (sym (take-map logged_fields_in most rest))) i ∷ map about (portions most (sym (drop-map logged_fields_in most rest) i))
