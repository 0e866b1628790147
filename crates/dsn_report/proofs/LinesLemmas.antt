-- Each line of a notice is legal.
use Rattle.std.proofs.Common.{◌≡◌, ℕ, zero, suc, ◌+◌, ◌-◌, ◌/◌, ◌%◌, ◌^◌, ◌<◌, ◌≤◌, Bool, true, false, ◌||◌, ◌&&◌, List, [], ◌∷◌, ◌++◌, Option, Some, None, length, take, drop, map, get_or, codes, refl, sym, ap, subst, ◌∙◌, arith, inl, inr, if◌then◌else◌, length-append}
use Rattle.std.specs.Prelude.{nat_eq, nat_le, nat_lt, not, ◌==◌, All, IfSome, decimal, unwrap_or, option_map}
use Rattle.std.specs.List.{list_all, list_any, flat_map}
use Rattle.std.specs.Str.Lines.{lines}
use lib.Pointwise.{pointwise}
use Rattle.std.proofs.lemmas.Bool.{le-leb, leb-true, false≢true}
use Rattle.std.proofs.lemmas.Bool.Decides.{Decides-eqb, eqb_tells, nat_tests}
use Rattle.std.proofs.Math.Bool.{or-true}
use Rattle.std.proofs.lemmas.List.{length-take}
use Rattle.std.proofs.lemmas.List.Folds.{list_all-append}
use Rattle.std.proofs.lemmas.Fmt.{decimal_is_IsNumeral, length-decimal-le}
use Rattle.std.proofs.lemmas.Str.Parse.{digit_at}
use Rattle.std.proofs.lemmas.List.{get_or_default}
use Rattle.std.proofs.lemmas.List.Sums.{list_all-from_AllPass}
use Rattle.dsn_text.specs.Action.{action_word}
use Rattle.dsn_text.specs.declared.action.Action.{Action}
use Rattle.dsn_text.specs.declared.action.Action.TheVariants.{Failed, Delayed, Delivered, Relayed, Expanded}
use Rattle.dsn_text.specs.declared.service.Service.{Service}
use Rattle.dsn_text.specs.declared.service.Service.TheVariants.{Bounce, Defer, Trace}
use Rattle.dsn_outcome.specs.Draft.{Draft}
use Rattle.dsn_outcome.specs.Letter.{Letter}
use Rattle.dsn_outcome.specs.declared.wording.Wording.{Wording}
use Rattle.dsn_outcome.specs.declared.wording.Wording.TheVariants.{ByService, ByOutcome}
use Rattle.dsn_outcome.specs.Outcome.{Outcome, IsLegalOutcome}
use Rattle.dsn_text.specs.Optional.{is_none_or}
use Rattle.dsn_text.specs.Extension.{lines_ended_by_lf, is_extension_line}
use Rattle.dsn_text.specs.Service.{service_letter}
use Rattle.dsn_text.specs.Stamp.{date_text, civil_after, weekday_after, day_names, month_names, last_moment, is_moment}
use Rattle.dsn_text.specs.Text.{is_printable, is_address, is_queue_id, is_mta_name, is_remark, is_type_name, is_envelope_id}
use Rattle.dsn_report.proofs.DateText.{printable-between, shown-date}
use Rattle.dsn_report.proofs.TemplateLemmas.{charset-plain, template-keeps, template-legal, value-plain}
use Rattle.dsn_report.specs.Site.{Site}
use Rattle.dsn_report.specs.Template.{IsTemplate, Template}
use Rattle.dsn_report.specs.WellFormed.{IsWellFormed}
use Rattle.dsn_report.specs.PlainWords.{is_for, meaning_of, other_words, status_table, status_words, words_for}
use Rattle.dsn_report.specs.Notice.{encoding_lines, explanation, foreign_lines, guidance, is_eight_bit, lines_of_any, notification_type, own_preface, preface_by, preface_of, template_of, words_of, has_text, reply_beside, reply_lines, speaker, notice_header, origin_if_other, origin_told, recipient_told, returned_description, returned_type, words_by, part_header, part_of, outcome_lines, notification, returned_part, lines_with_boundary, notice_lines, notice_of}
use Rattle.dsn_report.specs.DeliveryStatus.{line_if_any, per_message_fields, per_recipient_fields, recipient_group, delivery_status, typed, usual_address_type, usual_diagnostic_type}
use Rattle.dsn_report.proofs.ExtensionLemmas.{extension-laid, extension-name_plain, extension-value_plain, extension_lines-pass}
use Rattle.dsn_report.proofs.BoundaryLaw.{boundary_number-few}
use Rattle.dsn_report.proofs.PlainLemmas.{IsPlain, and-parts, or-parts, address-plain, mta-plain, envelope_id-plain, remark-plain, type_name-plain, id-plain, host-plain, status-plain}
use Rattle.dsn_report.specs.Boundary.{letter_name, boundary_of, boundary_number, boundary_text, four_digits, shown_byte, shown_line, may_be_eight_bit, returned_lines, returns_eight_bit, returns_message, stands_whole, header_lines, is_message}
use Rattle.dsn_report.specs.LegalLines.{HasLegalLines, has_high_byte, is_among, is_eight_bit_byte, is_eight_bit_line, is_line_byte, is_legal_line, is_line_of, is_mail_byte, is_mail_line}

-- a text has at most the given number of bytes, and a line may hold each of them
pub record IsFit (most : ℕ) (text : List ℕ) : Type 0 where
  pub legal : list_all is_line_byte text ≡ true
  pub short : length text ≤ most

printable-legal : (text : List ℕ) → list_all is_printable text ≡ true → list_all is_line_byte text ≡ true
printable-legal [] e = refl
printable-legal (byte ∷ text) e =
    let parts = and-parts (is_printable byte) (list_all is_printable text) e in
    rw (parts.0, printable-legal text parts.1) refl

pub fit-plain : {most : ℕ} {text : List ℕ} → IsPlain most text → IsFit most text
fit-plain {most} {text} p = record { legal = printable-legal text p.printable; short = p.short }

pub fit-append : {m n : ℕ} {xs ys : List ℕ} → IsFit m xs → IsFit n ys → IsFit (m + n) (xs ++ ys)
fit-append {m} {n} {xs} {ys} p q = record {
  legal = list_all-append is_line_byte xs ys ∙ rw (p.legal, q.legal) refl;
  short = rw length-append (omega (arith, p.short, q.short));
}

-- a constant text fits
pub fit-known : (most : ℕ) (text : List ℕ) → list_all is_line_byte text ≡ true → nat_le (length text) most ≡ true → IsFit most text
fit-known most text legal short = record { legal = legal; short = leb-true (length text) most short }

pub line-legal : {most : ℕ} {line : List ℕ} → IsFit most line → most ≤ 998 → is_legal_line line ≡ true
line-legal {most} {line} p few = rw (le-leb (length line) 998 (omega (arith, p.short)), p.legal) refl

-- a shown byte is one that a line may hold
shown-legal : (byte : ℕ) → is_line_byte (shown_byte byte) ≡ true
shown-legal byte = here (is_printable byte || (byte == 9)) refl
  where
    here : (test : Bool) → is_line_byte byte ≡ test → is_line_byte (if test then byte else 63) ≡ true
    here true e = e
    here false e = refl

shown-line-legal : (line : List ℕ) → list_all is_line_byte (map shown_byte line) ≡ true
shown-line-legal [] = refl
shown-line-legal (byte ∷ line) = rw (shown-legal byte, shown-line-legal line) refl

take-legal : (n : ℕ) (text : List ℕ) → list_all is_line_byte text ≡ true → list_all is_line_byte (take n text) ≡ true
take-legal zero text e = refl
take-legal (suc n) [] e = refl
take-legal (suc n) (byte ∷ text) e =
    let parts = and-parts (is_line_byte byte) (list_all is_line_byte text) e in
    rw (parts.0, take-legal n text parts.1) refl

fit-shown : (line : List ℕ) → IsFit 998 (shown_line line)
fit-shown line = record { legal = take-legal 998 (map shown_byte line) (shown-line-legal line); short = omega (arith, length-take 998 (map shown_byte line)) }

shown-legal-lines : (lines : List (List ℕ)) → list_all is_legal_line (map shown_line lines) ≡ true
shown-legal-lines [] = refl
shown-legal-lines (line ∷ lines) = rw (line-legal (fit-shown line) (omega arith), shown-legal-lines lines) refl

-- the returned lines of a header are legal
pub header-returned-legal : (draft : Draft) → returns_message draft ≡ false → list_all is_legal_line (returned_lines draft) ≡ true
unfolding returned_lines
header-returned-legal draft header = rw header (shown-legal-lines (header_lines draft.header))

-- a mail may hold tabs and printable bytes
mail-byte : (byte : ℕ) → is_line_byte byte ≡ true → is_mail_byte byte ≡ true
mail-byte byte legal = elim (or-parts (is_printable byte) (byte == 9) legal) [
  | inl printable ↦
      let parts = and-parts (nat_le 32 byte) (nat_le byte 126) printable in
      let above = leb-true 32 byte parts.0 in
      let below = leb-true byte 126 parts.1 in
      grind (arith, nat_tests, above, below)
  | inr tab ↦ elim (eqb_tells byte 9) [
    | inl same ↦ subst (λ b. is_mail_byte b ≡ true) (sym same.1) refl
    | inr other ↦ absurd (false≢true (sym other.0 ∙ tab))
  ]
]

-- a byte of an 8bit mail is one of a 7bit mail unless it is above 127
mail-or-high : (byte : ℕ) → is_mail_byte byte ≡ (is_eight_bit_byte byte && not (nat_lt 127 byte))
mail-or-high byte = grind (arith, nat_tests)

and-not-or : (a b c d : Bool) → ((a && not b) && (c && not d)) ≡ ((a && c) && not (b || d))
and-not-or true true true d = refl
and-not-or true true false d = refl
and-not-or true false c d = refl
and-not-or false b c d = refl

mail-bytes-or-high : (text : List ℕ) → list_all is_mail_byte text ≡ (list_all is_eight_bit_byte text && not (has_high_byte text))
mail-bytes-or-high [] = refl
mail-bytes-or-high (byte ∷ text) =
    rw (mail-or-high byte, mail-bytes-or-high text) (and-not-or (is_eight_bit_byte byte) (nat_lt 127 byte) (list_all is_eight_bit_byte text) (has_high_byte text))

-- a line of an 8bit mail is one of a 7bit mail unless it has a byte above 127
mail-line-or-high : (line : List ℕ) → is_mail_line line ≡ (is_eight_bit_line line && not (has_high_byte line))
mail-line-or-high line = rw (mail-bytes-or-high line) (here (nat_le (length line) 998))
  where
    here : (short : Bool) → (short && (list_all is_eight_bit_byte line && not (has_high_byte line))) ≡ ((short && list_all is_eight_bit_byte line) && not (has_high_byte line))
    here true = refl
    here false = refl

mail-lines-or-high : (all : List (List ℕ)) → list_all is_mail_line all ≡ (list_all is_eight_bit_line all && not (list_any has_high_byte all))
mail-lines-or-high [] = refl
mail-lines-or-high (line ∷ all) =
    rw (mail-line-or-high line, mail-lines-or-high all) (and-not-or (is_eight_bit_line line) (has_high_byte line) (list_all is_eight_bit_line all) (list_any has_high_byte all))

mail-bytes : (text : List ℕ) → list_all is_line_byte text ≡ true → list_all is_mail_byte text ≡ true
mail-bytes [] legal = refl
mail-bytes (byte ∷ text) legal =
    let parts = and-parts (is_line_byte byte) (list_all is_line_byte text) legal in
    rw (mail-byte byte parts.0, mail-bytes text parts.1) refl

pub fit-eight_bit : {most : ℕ} {text : List ℕ} → IsFit most text → list_all is_eight_bit_byte text ≡ true
fit-eight_bit {most} {text} p = (and-parts (list_all is_eight_bit_byte text) (not (has_high_byte text)) (sym (mail-bytes-or-high text) ∙ mail-bytes text p.legal)).0

mail-line : (line : List ℕ) → is_legal_line line ≡ true → is_mail_line line ≡ true
mail-line line legal =
    let parts = and-parts (nat_le (length line) 998) (list_all is_line_byte line) legal in
    rw (parts.0, mail-bytes line parts.1) refl

-- each line of a 7bit mail can be in an 8bit mail
eight_bit-line : (line : List ℕ) → is_mail_line line ≡ true → is_eight_bit_line line ≡ true
eight_bit-line line legal = (and-parts (is_eight_bit_line line) (not (has_high_byte line)) (sym (mail-line-or-high line) ∙ legal)).0

eight_bit-lines : (lines : List (List ℕ)) → list_all is_mail_line lines ≡ true → list_all is_eight_bit_line lines ≡ true
eight_bit-lines lines legal = (and-parts (list_all is_eight_bit_line lines) (not (list_any has_high_byte lines)) (sym (mail-lines-or-high lines) ∙ legal)).0

mail-lines : (lines : List (List ℕ)) → list_all is_legal_line lines ≡ true → list_all is_mail_line lines ≡ true
mail-lines [] legal = refl
mail-lines (line ∷ lines) legal =
    let parts = and-parts (is_legal_line line) (list_all is_legal_line lines) legal in
    rw (mail-line line parts.0, mail-lines lines parts.1) refl

-- no line of a 7bit mail has a byte above 127
none-high : (lines : List (List ℕ)) → list_all is_mail_line lines ≡ true → list_any has_high_byte lines ≡ false
none-high lines legal =
    not-true (list_any has_high_byte lines) (and-parts (list_all is_eight_bit_line lines) (not (list_any has_high_byte lines)) (sym (mail-lines-or-high lines) ∙ legal)).1
  where
    not-true : (high : Bool) → not high ≡ true → high ≡ false
    not-true true e = sym e
    not-true false e = refl

-- the returned lines of a header or of a message can be in the mail that the notice may be
returned-mail : (draft : Draft) → list_all (is_line_of (may_be_eight_bit draft.returned)) (returned_lines draft) ≡ true
unfolding returned_lines returns_message stands_whole
returned-mail draft = here (returns_message draft) refl
  where
    seven : list_all is_mail_line (map shown_line (header_lines draft.header)) ≡ true
    seven = mail-lines (map shown_line (header_lines draft.header)) (shown-legal-lines (header_lines draft.header))

    header : (eight : Bool) → list_all (is_line_of eight) (map shown_line (header_lines draft.header)) ≡ true
    header true = eight_bit-lines (map shown_line (header_lines draft.header)) seven
    header false = seven

    here : (whole : Bool) → returns_message draft ≡ whole → list_all (is_line_of (may_be_eight_bit draft.returned)) (if whole then lines draft.header else map shown_line (header_lines draft.header)) ≡ true
    here true is = (and-parts (is_message draft.returned) (list_all (is_line_of (may_be_eight_bit draft.returned)) (lines draft.header)) is).1
    here false is = header (may_be_eight_bit draft.returned)

returned-eight_bit : (draft : Draft) → list_all is_eight_bit_line (returned_lines draft) ≡ true
returned-eight_bit draft = here (may_be_eight_bit draft.returned) (returned-mail draft)
  where
    here : (eight : Bool) → list_all (is_line_of eight) (returned_lines draft) ≡ true → list_all is_eight_bit_line (returned_lines draft) ≡ true
    here true legal = legal
    here false legal = eight_bit-lines (returned_lines draft) legal

-- lines of an 8bit mail can be in the mail that they make
own-lines : (ls : List (List ℕ)) → list_all is_eight_bit_line ls ≡ true → list_all (is_line_of (list_any has_high_byte ls)) ls ≡ true
own-lines ls legal = here (list_any has_high_byte ls) refl
  where
    here : (high : Bool) → list_any has_high_byte ls ≡ high → list_all (is_line_of high) ls ≡ true
    here true is = legal
    here false is = mail-lines-or-high ls ∙ rw (is, legal) refl

-- a notice that may not be an 8bit mail returns no 8bit lines
pub seven_bit-only : (draft : Draft) → may_be_eight_bit draft.returned ≡ false → returns_eight_bit draft ≡ false
unfolding returns_eight_bit
seven_bit-only draft only = none-high (returned_lines draft) (subst (λ eight. list_all (is_line_of eight) (returned_lines draft) ≡ true) only (returned-mail draft))

-- a header that is returned has no 8bit lines
header-only : (draft : Draft) → returns_message draft ≡ false → returns_eight_bit draft ≡ false
unfolding returns_eight_bit
header-only draft header = none-high (returned_lines draft) (mail-lines (returned_lines draft) (header-returned-legal draft header))

-- a message that is returned has 8bit lines if it has a byte above 127
message-high : (draft : Draft) → returns_message draft ≡ true → returns_eight_bit draft ≡ list_any has_high_byte (lines draft.header)
unfolding returns_eight_bit returned_lines
message-high draft whole = rw whole refl

pub whole-and-high : (draft : Draft) (whole : Bool) → whole ≡ returns_message draft → (whole && list_any has_high_byte (lines draft.header)) ≡ returns_eight_bit draft
whole-and-high draft true is = sym (message-high draft (sym is))
whole-and-high draft false is = sym (header-only draft (sym is))

-- a line is equal to itself
same-self : (line : List ℕ) → pointwise nat_eq line line ≡ true
same-self [] = refl
same-self (byte ∷ line) = rw ((Decides-eqb byte byte).1 refl, same-self line) refl

among-more : (first : List ℕ) (all some : List (List ℕ)) → list_all (is_among all) some ≡ true → list_all (is_among (first ∷ all)) some ≡ true
among-more first all [] among = refl
among-more first all (line ∷ some) among =
    let parts = and-parts (is_among all line) (list_all (is_among all) some) among in
    rw (parts.0, or-true (pointwise nat_eq line first), among-more first all some parts.1) refl

among-own : (lines : List (List ℕ)) → list_all (is_among lines) lines ≡ true
among-own [] = refl
among-own (line ∷ lines) = rw (same-self line, among-more line lines lines (among-own lines)) refl

among-plain : (all some : List (List ℕ)) → list_all (is_among all) some ≡ true → list_all (λ line. is_legal_line line || is_among all line) some ≡ true
among-plain all [] among = refl
among-plain all (line ∷ some) among =
    let parts = and-parts (is_among all line) (list_all (is_among all) some) among in
    rw (parts.0, or-true (is_legal_line line), among-plain all some parts.1) refl

-- ---- the parts of a line

index-short : (names : List (List ℕ)) (k most : ℕ) → list_all (λ name. nat_le (length name) most) names ≡ true → length (get_or names k []) ≤ most
index-short [] k most e = omega arith
index-short (name ∷ names) zero most e = leb-true (length name) most (and-parts (nat_le (length name) most) _ e).0
index-short (name ∷ names) (suc k) most e = index-short names k most (and-parts (nat_le (length name) most) _ e).1

date-short : (moment : ℕ) → length (date_text moment) ≤ 31
unfolding date_text
date-short moment =
    simp length-append (omega (arith, index-short day_names (weekday_after (moment / 86400)) 3 refl, index-short month_names ((civil_after (moment / 86400)).month - 1) 3 refl))

fit-date : (moment : ℕ) → moment ≤ last_moment → IsFit 31 (date_text moment)
fit-date moment early = record { legal = printable-legal (date_text moment) (shown-date moment early); short = date-short moment }

fit-decimal : (n : ℕ) → n < 2 ^ 64 → IsFit 20 (decimal n)
fit-decimal n few = record {
  legal = printable-legal (decimal n) (list_all-from_AllPass is_printable (decimal n) (λ k d below.
      let digit = digit_at (decimal n) k (decimal_is_IsNumeral n few).0.1 below in
      let same = get_or_default (decimal n) k d 0 below in
      printable-between (get_or (decimal n) k d) (omega (arith, digit.0, same)) (omega (arith, digit.1, same))));
  short = length-decimal-le 20 n (omega arith) (omega arith) few;
}

fit-word : (action : Action) → IsFit 9 (action_word action)
fit-word Failed = fit-known 9 (codes "failed") refl refl
fit-word Delayed = fit-known 9 (codes "delayed") refl refl
fit-word Delivered = fit-known 9 (codes "delivered") refl refl
fit-word Relayed = fit-known 9 (codes "relayed") refl refl
fit-word Expanded = fit-known 9 (codes "expanded") refl refl

fit-subject : (wording : Wording) (service : Service) (arrived : Bool) → IsFit 40 (words_by wording service arrived).subject
fit-subject ByService Bounce arrived = fit-known 40 (words_by ByService Bounce arrived).subject refl refl
fit-subject ByService Defer arrived = fit-known 40 (words_by ByService Defer arrived).subject refl refl
fit-subject ByService Trace arrived = fit-known 40 (words_by ByService Trace arrived).subject refl refl
fit-subject ByOutcome Bounce arrived = fit-known 40 (words_by ByOutcome Bounce arrived).subject refl refl
fit-subject ByOutcome Defer arrived = fit-known 40 (words_by ByOutcome Defer arrived).subject refl refl
fit-subject ByOutcome Trace true = fit-known 40 (words_by ByOutcome Trace true).subject refl refl
fit-subject ByOutcome Trace false = fit-known 40 (words_by ByOutcome Trace false).subject refl refl

fit-opening : (wording : Wording) (service : Service) (arrived : Bool) → IsFit 80 (words_by wording service arrived).opening
fit-opening ByService Bounce arrived = fit-known 80 (words_by ByService Bounce arrived).opening refl refl
fit-opening ByService Defer arrived = fit-known 80 (words_by ByService Defer arrived).opening refl refl
fit-opening ByService Trace arrived = fit-known 80 (words_by ByService Trace arrived).opening refl refl
fit-opening ByOutcome Bounce arrived = fit-known 80 (words_by ByOutcome Bounce arrived).opening refl refl
fit-opening ByOutcome Defer arrived = fit-known 80 (words_by ByOutcome Defer arrived).opening refl refl
fit-opening ByOutcome Trace true = fit-known 80 (words_by ByOutcome Trace true).opening refl refl
fit-opening ByOutcome Trace false = fit-known 80 (words_by ByOutcome Trace false).opening refl refl

fit-consequence : (wording : Wording) (service : Service) (arrived : Bool) → IsFit 80 (words_by wording service arrived).consequence
fit-consequence ByService Bounce arrived = fit-known 80 (words_by ByService Bounce arrived).consequence refl refl
fit-consequence ByService Defer arrived = fit-known 80 (words_by ByService Defer arrived).consequence refl refl
fit-consequence ByService Trace arrived = fit-known 80 (words_by ByService Trace arrived).consequence refl refl
fit-consequence ByOutcome Bounce arrived = fit-known 80 (words_by ByOutcome Bounce arrived).consequence refl refl
fit-consequence ByOutcome Defer arrived = fit-known 80 (words_by ByOutcome Defer arrived).consequence refl refl
fit-consequence ByOutcome Trace true = fit-known 80 (words_by ByOutcome Trace true).consequence refl refl
fit-consequence ByOutcome Trace false = fit-known 80 (words_by ByOutcome Trace false).consequence refl refl

-- each sentence of a table fits if the test of all of them passes
words-fit : (table : List (List ℕ × List ℕ)) (code : List ℕ) → list_all (λ entry. list_all is_line_byte entry.1 && nat_le (length entry.1) 80) table ≡ true → IsFit 80 (words_for table code)
words-fit [] code e = fit-known 80 other_words refl refl
words-fit ((key, words) ∷ rest) code e =
    let parts = and-parts (list_all is_line_byte words && nat_le (length words) 80) _ e in
    let first = and-parts (list_all is_line_byte words) (nat_le (length words) 80) parts.0 in
    here (is_for key code) (fit-known 80 words first.0 first.1) (words-fit rest code parts.1)
  where
    here : (found : Bool) → IsFit 80 words → IsFit 80 (words_for rest code) → IsFit 80 (if found then words else words_for rest code)
    here true first later = first
    here false first later = later

fit-status-words : (status : List ℕ) → IsFit 80 (status_words status)
unfolding status_words
fit-status-words status = words-fit status_table (drop 2 status) refl

fit-meaning : (action : Action) (status : List ℕ) → IsFit 80 (meaning_of action status)
fit-meaning Failed status = fit-status-words status
fit-meaning Delayed status = fit-status-words status
fit-meaning Delivered status = fit-known 80 (meaning_of Delivered status) refl refl
fit-meaning Relayed status = fit-known 80 (meaning_of Relayed status) refl refl
fit-meaning Expanded status = fit-known 80 (meaning_of Expanded status) refl refl

fit-speaker : (mta : Option (List ℕ)) → is_none_or is_mta_name mta ≡ true → IsFit 255 (speaker mta)
fit-speaker None e = fit-known 255 (speaker None) refl refl
fit-speaker (Some mta) e = fit-plain (mta-plain mta e)

beside-clean : (reason reply : Option (List ℕ)) → is_none_or is_remark reply ≡ true → is_none_or is_remark (reply_beside reason reply) ≡ true
beside-clean reason None clean = refl
beside-clean None (Some reply) clean = clean
beside-clean (Some reason) (Some reply) clean = here (has_text reply reason)
  where
    here : (said : Bool) → is_none_or is_remark (if said then None else Some reply) ≡ true
    here true = refl
    here false = clean

fit-description : (wording : Wording) (service : Service) (arrived whole : Bool) → IsFit 50 (returned_description (words_by wording service arrived) whole)
fit-description ByService Bounce arrived true = fit-known 50 (returned_description (words_by ByService Bounce arrived) true) refl refl
fit-description ByService Bounce arrived false = fit-known 50 (returned_description (words_by ByService Bounce arrived) false) refl refl
fit-description ByService Defer arrived true = fit-known 50 (returned_description (words_by ByService Defer arrived) true) refl refl
fit-description ByService Defer arrived false = fit-known 50 (returned_description (words_by ByService Defer arrived) false) refl refl
fit-description ByService Trace arrived true = fit-known 50 (returned_description (words_by ByService Trace arrived) true) refl refl
fit-description ByService Trace arrived false = fit-known 50 (returned_description (words_by ByService Trace arrived) false) refl refl
fit-description ByOutcome Bounce arrived true = fit-known 50 (returned_description (words_by ByOutcome Bounce arrived) true) refl refl
fit-description ByOutcome Bounce arrived false = fit-known 50 (returned_description (words_by ByOutcome Bounce arrived) false) refl refl
fit-description ByOutcome Defer arrived true = fit-known 50 (returned_description (words_by ByOutcome Defer arrived) true) refl refl
fit-description ByOutcome Defer arrived false = fit-known 50 (returned_description (words_by ByOutcome Defer arrived) false) refl refl
fit-description ByOutcome Trace true true = fit-known 50 (returned_description (words_by ByOutcome Trace true) true) refl refl
fit-description ByOutcome Trace true false = fit-known 50 (returned_description (words_by ByOutcome Trace true) false) refl refl
fit-description ByOutcome Trace false true = fit-known 50 (returned_description (words_by ByOutcome Trace false) true) refl refl
fit-description ByOutcome Trace false false = fit-known 50 (returned_description (words_by ByOutcome Trace false) false) refl refl

fit-type : (usual : List ℕ) (kind : Option (List ℕ)) → IsFit 32 usual → is_none_or is_type_name kind ≡ true → IsFit 32 (unwrap_or kind usual)
fit-type usual None fits e = fits
fit-type usual (Some kind) fits e = fit-plain (type_name-plain kind e)

fit-typed : (name usual : List ℕ) (kind : Option (List ℕ)) → IsFit 26 name → IsFit 32 usual → is_none_or is_type_name kind ≡ true → IsFit 60 (typed name usual kind)
fit-typed name usual kind fits usual_fits e = fit-append (fit-append fits (fit-type usual kind usual_fits e)) (fit-known 2 (codes "; ") refl refl)

fit-returned-type : (whole : Bool) → IsFit 60 (returned_type whole)
fit-returned-type true = fit-known 60 (returned_type true) refl refl
fit-returned-type false = fit-known 60 (returned_type false) refl refl

fit-told : (recipient : List ℕ) (origin : Option (List ℕ)) → is_address recipient ≡ true → is_none_or is_address origin ≡ true → IsFit 540 (recipient_told recipient origin)
unfolding recipient_told
fit-told recipient None r o =
    let told = fit-append (fit-append (fit-known 1 (codes "<") refl refl) (fit-plain (address-plain recipient r))) (fit-known 1 (codes ">") refl refl) in
    record { legal = told.legal; short = omega (arith, told.short) }
fit-told recipient (Some original) r o =
    let told =
    fit-append (fit-append (fit-append (fit-append (fit-known 1 (codes "<") refl refl) (fit-plain (address-plain recipient r))) (fit-known 20 (codes "> (expanded from <") refl refl))
    (fit-plain (address-plain original o))) (fit-known 2 (codes ">)") refl refl) in
    record { legal = told.legal; short = omega (arith, told.short) }

other-legal : (recipient : List ℕ) (original : Option (List ℕ)) → is_none_or is_address original ≡ true → is_none_or is_address (origin_if_other recipient original) ≡ true
other-legal recipient None legal = refl
other-legal recipient (Some original) legal = here (pointwise nat_eq original recipient)
  where
    here : (same : Bool) → is_none_or is_address (if same then None else Some original) ≡ true
    here true = refl
    here false = legal

origin-legal : (wording : Wording) (outcome : Outcome) → is_none_or is_address outcome.original ≡ true → is_none_or is_address (origin_told wording outcome) ≡ true
origin-legal ByService outcome legal = refl
origin-legal ByOutcome outcome legal = other-legal outcome.recipient outcome.original legal

fit-letter : (service : Service) → IsFit 1 (service_letter service ∷ [])
fit-letter Bounce = fit-known 1 (66 ∷ []) refl refl
fit-letter Defer = fit-known 1 (68 ∷ []) refl refl
fit-letter Trace = fit-known 1 (84 ∷ []) refl refl

pub fit-path : (path : Option (List ℕ)) → is_none_or is_address path ≡ true → IsFit 256 (unwrap_or path [])
fit-path None e = fit-known 256 [] refl refl
fit-path (Some path) e = fit-plain (address-plain path e)

fit-name : (letter : Letter) → is_queue_id letter.key.id ≡ true → letter.draft.moment ≤ last_moment → IsFit 55 (letter_name letter)
fit-name letter id early =
    fit-append (fit-append (fit-append (fit-append (fit-letter letter.key.service) (fit-known 1 (codes ".") refl refl))
    (fit-plain (id-plain letter.key.id id))) (fit-known 1 (codes ".") refl refl)) (fit-decimal letter.draft.moment (omega arith))

fit-digits : (k : ℕ) → k < 10000 → IsFit 4 (four_digits k)
fit-digits k few = record {
  legal = printable-legal (four_digits k) (rw (
    printable-between (48 + k / 1000) (omega arith) (omega arith),
    printable-between (48 + k / 100 % 10) (omega arith) (omega arith),
    printable-between (48 + k / 10 % 10) (omega arith) (omega arith),
    printable-between (48 + k % 10) (omega arith) (omega arith),
  ) refl);
  short = omega arith;
}

fit-boundary : (letter : Letter) (k : ℕ) → is_queue_id letter.key.id ≡ true → letter.draft.moment ≤ last_moment → k < 10000 → IsFit 60 (boundary_text letter k)
unfolding boundary_text
fit-boundary letter k id early few = fit-append (fit-append (fit-name letter id early) (fit-known 1 (codes ".") refl refl)) (fit-digits k few)

-- ---- the lines

fit-extension : (line : List ℕ) → is_extension_line line ≡ true → IsFit 321 line
fit-extension line is = subst (IsFit 321) (sym (extension-laid line is))
    (fit-append (fit-append (fit-plain (extension-name_plain line is)) (fit-known 2 (codes ": ") refl refl)) (fit-plain (extension-value_plain line is)))

-- each of these lines passes a test
record AreLegal (ok : List ℕ → Bool) (lines : List (List ℕ)) : Type 0 where
  all : list_all ok lines ≡ true

-- each line of a notice passes any test that the returned lines pass and each line of tabs and printable bytes passes
module _ (ok : List ℕ → Bool) (sure : (line : List ℕ) → is_legal_line line ≡ true → ok line ≡ true) (site : Site) (letter : Letter) (formed : IsWellFormed site letter) where
  legal-none : AreLegal ok []
  legal-none = record { all = refl }

  legal-cons : {most : ℕ} {line : List ℕ} {rest : List (List ℕ)} → IsFit most line → most ≤ 998 → AreLegal ok rest → AreLegal ok (line ∷ rest)
  legal-cons {most} {line} {rest} p few later = record { all = rw (sure line (line-legal p few), later.all) refl }

  legal-empty : {rest : List (List ℕ)} → AreLegal ok rest → AreLegal ok ([] ∷ rest)
  legal-empty {rest} later = record { all = rw (sure [] refl, later.all) refl }

  legal-append : {xs ys : List (List ℕ)} → AreLegal ok xs → AreLegal ok ys → AreLegal ok (xs ++ ys)
  legal-append {xs} {ys} p q = record { all = list_all-append ok xs ys ∙ rw (p.all, q.all) refl }

  legal-flat_map : (f : Outcome → List (List ℕ)) (xs : List Outcome) → All IsLegalOutcome xs → ((outcome : Outcome) → IsLegalOutcome outcome → AreLegal ok (f outcome)) → AreLegal ok (flat_map f xs)
  legal-flat_map f [] all each = legal-none
  legal-flat_map f (x ∷ xs) all each =
      legal-append (each x (all 0 x (omega arith))) (legal-flat_map f xs (λ k d below. all (suc k) d (omega arith)) each)

  legal-if-any : (name : List ℕ) (n most : ℕ) (test : List ℕ → Bool) (value : Option (List ℕ)) → IsFit n name → ((text : List ℕ) → test text ≡ true → IsFit most text) → n + most ≤ 998
      → is_none_or test value ≡ true → AreLegal ok (line_if_any name value)
  unfolding line_if_any
  legal-if-any name n most test None fits each few e = legal-none
  legal-if-any name n most test (Some text) fits each few e = legal-cons (fit-append fits (each text e)) few legal-none

  legal-date-if-any : (name : List ℕ) (moment : Option ℕ) → IsFit 40 name → is_none_or is_moment moment ≡ true → AreLegal ok (line_if_any name (option_map date_text moment))
  unfolding line_if_any
  legal-date-if-any name None fits e = legal-none
  legal-date-if-any name (Some moment) fits e =
      legal-cons (fit-append fits (fit-date moment (leb-true moment last_moment e))) (omega arith) legal-none

  legal-extensions : (lines : List (List ℕ)) → list_all is_extension_line lines ≡ true → AreLegal ok lines
  legal-extensions [] pass = legal-none
  legal-extensions (line ∷ lines) pass =
      let parts = and-parts (is_extension_line line) (list_all is_extension_line lines) pass in
      legal-cons (fit-extension line parts.0) (omega arith) (legal-extensions lines parts.1)

  fit-host : IsFit 255 site.host
  fit-host = fit-plain (host-plain site.host formed.site_legal.host_legal)

  legal-template : IfSome (template_of site.templates letter) IsTemplate
  legal-template = template-legal site.templates formed.site_legal.templates_legal letter

  fit-sender : IsFit 989 (preface_of site letter).sender
  unfolding preface_of
  fit-sender = here (template_of site.templates letter) legal-template
    where
      here : (template : Option Template) → IfSome template IsTemplate → IsFit 989 (preface_by site.host (words_of letter) letter.draft.wording template).sender
      here None legal =
          let own = fit-append (fit-append (fit-known 50 (codes "Mail Delivery System <MAILER-DAEMON@") refl refl) fit-host) (fit-known 1 (codes ">") refl refl) in
          record { legal = own.legal; short = omega (arith, own.short) }
      here (Some template) legal = fit-plain (value-plain template.sender (template-keeps template legal).sender)

  fit-preface-subject : IsFit 989 (preface_of site letter).subject
  unfolding preface_of
  fit-preface-subject = here (template_of site.templates letter) legal-template
    where
      here : (template : Option Template) → IfSome template IsTemplate → IsFit 989 (preface_by site.host (words_of letter) letter.draft.wording template).subject
      here None legal =
          let own = fit-subject letter.draft.wording letter.key.service _ in
          record { legal = own.legal; short = omega (arith, own.short) }
      here (Some template) legal = fit-plain (value-plain template.subject (template-keeps template legal).subject)

  fit-charset : IsFit 40 (preface_of site letter).charset
  unfolding preface_of
  fit-charset = here (template_of site.templates letter) legal-template
    where
      here : (template : Option Template) → IfSome template IsTemplate → IsFit 40 (preface_by site.host (words_of letter) letter.draft.wording template).charset
      here None legal = fit-known 40 (codes "us-ascii") refl refl
      here (Some template) legal = fit-plain (charset-plain template.charset (template-keeps template legal).charset)

  fit-own : IsFit 60 (boundary_of letter)
  fit-own = fit-boundary letter (boundary_number letter) formed.id_legal formed.moment_dated (boundary_number-few letter)

  legal-encoding : (eight : Bool) → AreLegal ok (encoding_lines eight)
  legal-encoding true = legal-cons (fit-known 80 (codes "Content-Transfer-Encoding: 8bit") refl refl) (omega arith) legal-none
  legal-encoding false = legal-none

  header-legal : AreLegal ok (notice_header site letter (boundary_of letter))
  unfolding notice_header
  header-legal =
      legal-cons (fit-append (fit-known 6 (codes "From: ") refl refl) fit-sender) (omega arith)
      (legal-cons (fit-append (fit-append (fit-known 5 (codes "To: <") refl refl) (fit-path letter.draft.return_path formed.path_legal)) (fit-known 1 (codes ">") refl refl)) (omega arith)
      (legal-cons (fit-append (fit-known 9 (codes "Subject: ") refl refl) fit-preface-subject) (omega arith)
      (legal-cons (fit-append (fit-known 6 (codes "Date: ") refl refl) (fit-date letter.draft.moment formed.moment_dated)) (omega arith)
      (legal-cons (fit-append (fit-append (fit-append (fit-append (fit-append (fit-append (fit-known 13 (codes "Message-ID: <") refl refl) (fit-name letter formed.id_legal formed.moment_dated)) (fit-known 1 (codes ".") refl refl)) (fit-decimal letter.serial formed.serial_fits)) (fit-known 1 (codes "@") refl refl)) fit-host) (fit-known 1 (codes ">") refl refl)) (omega arith)
      (legal-cons (fit-known 80 (codes "Auto-Submitted: auto-replied") refl refl) (omega arith)
      (legal-cons (fit-known 80 (codes "MIME-Version: 1.0") refl refl) (omega arith)
      (legal-cons (fit-known 80 (codes "Content-Type: multipart/report; report-type=delivery-status;") refl refl) (omega arith)
      (legal-cons (fit-append (fit-append (fit-known 11 (codes " boundary=\"") refl refl) fit-own) (fit-known 1 (codes "\"") refl refl)) (omega arith) (legal-encoding (is_eight_bit site letter))))))))))

  part-legal : (description content_type : List ℕ) (eight : Bool) (body : List (List ℕ)) → IsFit 50 description → IsFit 60 content_type → AreLegal ok body
      → AreLegal ok (part_of (boundary_of letter) description content_type eight body)
  unfolding part_of part_header
  part-legal description content_type eight body d t legal =
      legal-append
      (legal-cons (fit-append (fit-known 2 (codes "--") refl refl) fit-own) (omega arith)
      (legal-cons (fit-append (fit-known 30 (codes "Content-Description: ") refl refl) d) (omega arith)
      (legal-cons (fit-append (fit-known 30 (codes "Content-Type: ") refl refl) t) (omega arith) (legal-append (legal-append (legal-encoding eight) (legal-empty legal-none)) legal))))
      (legal-empty legal-none)

  reason-legal : (outcome : Outcome) → IsLegalOutcome outcome → AreLegal ok (line_if_any (codes "    ") outcome.reason)
  reason-legal outcome legal =
      legal-if-any (codes "    ") 4 800 is_remark outcome.reason (fit-known 4 (codes "    ") refl refl) (λ text e. fit-plain (remark-plain text e)) (omega arith) legal.reason_clean

  reply-legal : (mta reply : Option (List ℕ)) → is_none_or is_mta_name mta ≡ true → is_none_or is_remark reply ≡ true → AreLegal ok (reply_lines mta reply)
  unfolding reply_lines
  reply-legal mta None named clean = legal-none
  reply-legal mta (Some reply) named clean =
      legal-cons (fit-append (fit-append (fit-known 4 (codes "    ") refl refl) (fit-speaker mta named)) (fit-known 6 (codes " said:") refl refl)) (omega arith)
      (legal-cons (fit-append (fit-known 6 (codes "      ") refl refl) (fit-plain (remark-plain reply clean))) (omega arith) legal-none)

  explanation-legal : (wording : Wording) (outcome : Outcome) → IsLegalOutcome outcome → AreLegal ok (explanation wording outcome)
  unfolding explanation
  explanation-legal ByService outcome legal = reason-legal outcome legal
  explanation-legal ByOutcome outcome legal =
      legal-append
      (legal-append
      (legal-cons (fit-append (fit-known 4 (codes "    ") refl refl) (fit-meaning outcome.action outcome.status)) (omega arith) (reason-legal outcome legal))
      (reply-legal outcome.mta (reply_beside outcome.reason outcome.diagnostic) legal.mta_legal (beside-clean outcome.reason outcome.diagnostic legal.diagnostic_clean)))
      (legal-date-if-any (codes "    It will be tried again until ") outcome.retry_until (fit-known 40 (codes "    It will be tried again until ") refl refl) legal.retry_until_dated)

  outcome-legal : (outcome : Outcome) → IsLegalOutcome outcome → AreLegal ok (outcome_lines letter.draft.wording (preface_of site letter).explained outcome)
  unfolding outcome_lines
  outcome-legal outcome legal =
      let told = fit-told outcome.recipient (origin_told letter.draft.wording outcome) legal.recipient_legal (origin-legal letter.draft.wording outcome legal.original_legal) in
      legal-cons (fit-append (fit-append (fit-append (fit-append (fit-append told (fit-known 2 (codes ": ") refl refl)) (fit-word outcome.action)) (fit-known 2 (codes " (") refl refl)) (fit-plain (status-plain outcome.status legal.status_legal))) (fit-known 1 (codes ")") refl refl)) (omega arith)
      (explanation-legal (preface_of site letter).explained outcome legal)

  guidance-legal : (wording : Wording) (arrived : Bool) → AreLegal ok (guidance wording site.host (words_by wording letter.key.service arrived).consequence)
  unfolding guidance
  guidance-legal ByService arrived = legal-none
  guidance-legal ByOutcome arrived =
      legal-cons (fit-consequence ByOutcome letter.key.service arrived) (omega arith)
      (legal-cons (fit-append (fit-append (fit-known 40 (codes "For help, write to <postmaster@") refl refl) fit-host) (fit-known 40 (codes "> and include this notice.") refl refl)) (omega arith) legal-none)

  own-legal : AreLegal ok (own_preface site.host (words_of letter) letter.draft.wording).text
  own-legal =
      legal-cons (fit-append (fit-append (fit-known 40 (codes "This is the mail system at host ") refl refl) fit-host) (fit-known 1 (codes ".") refl refl)) (omega arith)
      (legal-empty (legal-cons (fit-opening letter.draft.wording letter.key.service _) (omega arith) (guidance-legal letter.draft.wording _)))

  preface-legal : list_all ok (lines_of_any (template_of site.templates letter)) ≡ true → AreLegal ok (preface_of site letter).text
  unfolding preface_of
  preface-legal foreign = here (template_of site.templates letter) foreign
    where
      here : (template : Option Template) → list_all ok (lines_of_any template) ≡ true → AreLegal ok (preface_by site.host (words_of letter) letter.draft.wording template).text
      here None pass = own-legal
      here (Some template) pass = record { all = pass }

  notification-legal : list_all ok (lines_of_any (template_of site.templates letter)) ≡ true → AreLegal ok (notification site letter)
  unfolding notification
  notification-legal foreign =
      legal-append (preface-legal foreign)
      (legal-empty (legal-flat_map (outcome_lines letter.draft.wording (preface_of site letter).explained) letter.outcomes formed.outcomes_legal outcome-legal))

  group-legal : (outcome : Outcome) → IsLegalOutcome outcome → AreLegal ok (recipient_group outcome)
  unfolding per_recipient_fields
  group-legal outcome legal =
      legal-empty (
      legal-append
      (legal-append
      (legal-append
      (legal-append
      (legal-append
      (legal-append
      (legal-if-any (typed (codes "Original-Recipient: ") usual_address_type outcome.original_type) 60 256 is_address outcome.original (fit-typed (codes "Original-Recipient: ") usual_address_type outcome.original_type (fit-known 26 (codes "Original-Recipient: ") refl refl) (fit-known 32 usual_address_type refl refl) legal.original_type_legal) (λ text e. fit-plain (address-plain text e)) (omega arith) legal.original_legal)
      (legal-cons (fit-append (fit-typed (codes "Final-Recipient: ") usual_address_type outcome.recipient_type (fit-known 26 (codes "Final-Recipient: ") refl refl) (fit-known 32 usual_address_type refl refl) legal.recipient_type_legal) (fit-plain (address-plain outcome.recipient legal.recipient_legal))) (omega arith)
      (legal-cons (fit-append (fit-known 40 (codes "Action: ") refl refl) (fit-word outcome.action)) (omega arith)
      (legal-cons (fit-append (fit-known 40 (codes "Status: ") refl refl) (fit-plain (status-plain outcome.status legal.status_legal))) (omega arith) legal-none))))
      (legal-if-any (codes "Remote-MTA: dns; ") 40 255 is_mta_name outcome.mta (fit-known 40 (codes "Remote-MTA: dns; ") refl refl) (λ text e. fit-plain (mta-plain text e)) (omega arith) legal.mta_legal))
      (legal-if-any (typed (codes "Diagnostic-Code: ") usual_diagnostic_type outcome.diagnostic_type) 60 800 is_remark outcome.diagnostic (fit-typed (codes "Diagnostic-Code: ") usual_diagnostic_type outcome.diagnostic_type (fit-known 26 (codes "Diagnostic-Code: ") refl refl) (fit-known 32 usual_diagnostic_type refl refl) legal.diagnostic_type_legal) (λ text e. fit-plain (remark-plain text e)) (omega arith) legal.diagnostic_clean))
      (legal-date-if-any (codes "Last-Attempt-Date: ") outcome.last_attempt (fit-known 40 (codes "Last-Attempt-Date: ") refl refl) legal.last_attempt_dated))
      (legal-date-if-any (codes "Will-Retry-Until: ") outcome.retry_until (fit-known 40 (codes "Will-Retry-Until: ") refl refl) legal.retry_until_dated))
      (legal-extensions (lines_ended_by_lf outcome.extensions) (extension_lines-pass outcome.extensions legal.extensions_legal)))

  status-legal : AreLegal ok (delivery_status site.host letter)
  unfolding delivery_status per_message_fields
  status-legal =
      legal-append
      (legal-append
      (legal-if-any (codes "Original-Envelope-Id: ") 40 100 is_envelope_id letter.draft.envelope_id (fit-known 40 (codes "Original-Envelope-Id: ") refl refl) (λ text e. fit-plain (envelope_id-plain text e)) (omega arith) formed.envelope_id_legal)
      (legal-cons (fit-append (fit-known 40 (codes "Reporting-MTA: dns; ") refl refl) fit-host) (omega arith)
      (legal-cons (fit-append (fit-known 40 (codes "Arrival-Date: ") refl refl) (fit-date letter.draft.arrival formed.arrival_dated)) (omega arith)
      (legal-extensions (lines_ended_by_lf letter.draft.extensions) (extension_lines-pass letter.draft.extensions formed.extensions_legal)))))
      (legal-flat_map recipient_group letter.outcomes formed.outcomes_legal group-legal)

  returned-part-legal : (description content_type : List ℕ) (eight : Bool) (lines : List (List ℕ)) → IsFit 50 description → IsFit 60 content_type → AreLegal ok lines
      → AreLegal ok (returned_part (boundary_of letter) description content_type eight lines)
  unfolding returned_part
  returned-part-legal description content_type eight [] d t e = legal-none
  returned-part-legal description content_type eight (line ∷ lines) d t e = part-legal description content_type eight (line ∷ lines) d t e

  notice-legal : list_all ok (foreign_lines site letter) ≡ true → AreLegal ok (notice_lines site letter)
  unfolding notice_lines lines_with_boundary
  notice-legal pass =
      let template = lines_of_any (template_of site.templates letter) in
      let foreign = and-parts (list_all ok template) (list_all ok (returned_lines letter.draft)) (sym (list_all-append ok template (returned_lines letter.draft)) ∙ pass) in
      legal-append
      (legal-append
      (legal-append
      (legal-append
      (legal-append header-legal (legal-empty legal-none))
      (part-legal (codes "Notification") (notification_type site letter) (preface_of site letter).eight_bit (notification site letter) (fit-known 50 (codes "Notification") refl refl) (fit-append (fit-known 20 (codes "text/plain; charset=") refl refl) fit-charset) (notification-legal foreign.0)))
      (part-legal (codes "Delivery report") (codes "message/delivery-status") false (delivery_status site.host letter) (fit-known 50 (codes "Delivery report") refl refl) (fit-known 60 (codes "message/delivery-status") refl refl) status-legal))
      (returned-part-legal _ _ (returns_eight_bit letter.draft) (returned_lines letter.draft) (fit-description letter.draft.wording letter.key.service _ (returns_message letter.draft)) (fit-returned-type (returns_message letter.draft)) (record { all = foreign.1 })))
      (legal-cons (fit-append (fit-append (fit-known 2 (codes "--") refl refl) fit-own) (fit-known 2 (codes "--") refl refl)) (omega arith) legal-none)

-- ---- the lines that come from others

-- those of a template
template-eight_bit : (template : Option Template) → IfSome template IsTemplate → list_all is_eight_bit_line (lines_of_any template) ≡ true
template-eight_bit None legal = refl
template-eight_bit (Some template) legal = (template-keeps template legal).lines

foreign-eight_bit : (site : Site) (letter : Letter) → IsWellFormed site letter → list_all is_eight_bit_line (foreign_lines site letter) ≡ true
foreign-eight_bit site letter formed =
    let template = template_of site.templates letter in
    list_all-append is_eight_bit_line (lines_of_any template) (returned_lines letter.draft)
    ∙ rw (template-eight_bit template (template-legal site.templates formed.site_legal.templates_legal letter), returned-eight_bit letter.draft) refl

any-append : (xs ys : List (List ℕ)) → list_any has_high_byte (xs ++ ys) ≡ (list_any has_high_byte xs || list_any has_high_byte ys)
any-append [] ys = refl
any-append (x ∷ xs) ys = rw (any-append xs ys) (here (has_high_byte x))
  where
    here : (high : Bool) → (high || (list_any has_high_byte xs || list_any has_high_byte ys)) ≡ ((high || list_any has_high_byte xs) || list_any has_high_byte ys)
    here true = refl
    here false = refl

-- the notice is an 8bit mail if one of them has a byte above 127
foreign-high : (site : Site) (letter : Letter) → list_any has_high_byte (foreign_lines site letter) ≡ is_eight_bit site letter
unfolding preface_of returns_eight_bit
foreign-high site letter =
    let template = template_of site.templates letter in
    any-append (lines_of_any template) (returned_lines letter.draft) ∙ ap (λ high. high || list_any has_high_byte (returned_lines letter.draft)) (here template)
  where
    here : (template : Option Template) → list_any has_high_byte (lines_of_any template) ≡ (preface_by site.host (words_of letter) letter.draft.wording template).eight_bit
    here None = refl
    here (Some template) = refl

foreign-own : (site : Site) (letter : Letter) → IsWellFormed site letter → list_all (is_line_of (is_eight_bit site letter)) (foreign_lines site letter) ≡ true
foreign-own site letter formed =
    subst (λ eight. list_all (is_line_of eight) (foreign_lines site letter) ≡ true) (foreign-high site letter) (own-lines (foreign_lines site letter) (foreign-eight_bit site letter formed))

-- a line of a header or for people can be in a mail of either kind
sure-line : (eight : Bool) (line : List ℕ) → is_legal_line line ≡ true → is_line_of eight line ≡ true
sure-line true line legal = eight_bit-line line (mail-line line legal)
sure-line false line legal = mail-line line legal

notice_lines-legal : (site : Site) (letter : Letter) → IsWellFormed site letter → list_all (is_line_of (is_eight_bit site letter)) (notice_lines site letter) ≡ true
notice_lines-legal site letter formed =
    (notice-legal (is_line_of (is_eight_bit site letter)) (sure-line (is_eight_bit site letter)) site letter formed (foreign-own site letter formed)).all

pub notice_lines-eight_bit : (site : Site) (letter : Letter) → IsWellFormed site letter → list_all is_eight_bit_line (notice_lines site letter) ≡ true
notice_lines-eight_bit site letter formed = (notice-legal is_eight_bit_line (sure-line true) site letter formed (foreign-eight_bit site letter formed)).all

pub delivery_status-eight_bit : (site : Site) (letter : Letter) → IsWellFormed site letter → list_all is_eight_bit_line (delivery_status site.host letter) ≡ true
delivery_status-eight_bit site letter formed = (status-legal is_eight_bit_line (sure-line true) site letter formed).all

-- each line is of tabs and printable bytes, or comes from others
legal-or : (line : List ℕ) (other : Bool) → is_legal_line line ≡ true → (is_legal_line line || other) ≡ true
legal-or line other legal = rw legal refl

notice_lines-plain : (site : Site) (letter : Letter) → IsWellFormed site letter → list_all (λ line. is_legal_line line || is_among (foreign_lines site letter) line) (notice_lines site letter) ≡ true
notice_lines-plain site letter formed =
    let foreign = foreign_lines site letter in
    let ok = λ (line : List ℕ). is_legal_line line || is_among foreign line in
    (notice-legal ok (λ line legal. legal-or line (is_among foreign line) legal) site letter formed (among-plain foreign foreign (among-own foreign))).all

pub lines_law : (site : Site) (letter : Letter) → IsWellFormed site letter → HasLegalLines (notice_of site letter) (is_eight_bit site letter) (foreign_lines site letter)
unfolding notice_of
lines_law site letter formed = record {
  lines = notice_lines site letter;
  written = refl;
  legal = notice_lines-legal site letter formed;
  plain = notice_lines-plain site letter formed;
}
