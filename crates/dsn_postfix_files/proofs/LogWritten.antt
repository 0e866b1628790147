-- A written record is read back.
use Rattle.std.proofs.Common.{◌≡◌, ℕ, ◌+◌, ◌-◌, Bool, true, false, List, [], ◌∷◌, ◌++◌, length, length-append, take, drop, map, Option, Some, None, refl, ◌∙◌, ap, arith, append_assoc, if◌then◌else◌}
use Rattle.std.specs.Prelude.{◌==◌, ◌&&◌, ◌||◌, not}
use Rattle.std.specs.Option.{is_some}
use Rattle.std.specs.List.{cons_option, filter_map, flat_map, list_all, position_or_len, prefix_len, suffix_len}
use Rattle.std.proofs.lemmas.Bool.{and_parts}
use Rattle.std.proofs.lemmas.List.Folds.{list_all-append}
use Rattle.std.proofs.Math.Seq.{take-length}
use Rattle.dsn_postfix_files.specs.declared.log_field.LogField.{LogField}
use Rattle.dsn_postfix_files.specs.declared.log_field.LogField.TheVariants.{Recipient, OriginalRecipient, Offset, DsnOriginal, NotifyFlags, Status, Action, DiagnosticType, DiagnosticText, MtaType, MtaName, Reason}
use Rattle.dsn_postfix_files.specs.LogFile.{goes_on, is_blank, is_older, names_recipient}
use Rattle.dsn_postfix_files.specs.LogLine.{is_line_feed, is_nul, is_space, all_lines, before_nul, field_name, old_parts, text_in, value_named, without_outer_spaces, without_trailing_spaces}
use Rattle.dsn_postfix_files.specs.LogRecord.{said_text, said_line, said_bytes, can_stand_in_line, is_loggable}
use Rattle.dsn_postfix_files.proofs.LogPartLemmas.{feed-by}
use Rattle.dsn_postfix_files.specs.inner.LogParts.{more_after, more_ended, more_size}
use Rattle.dsn_postfix_files.specs.LogParts.{with_its_feed}

abbrev Said : Type 0
Said = LogField × List ℕ

-- ---- a written line

no-feed : (byte : ℕ) → can_stand_in_line byte ≡ true → is_line_feed byte ≡ false
no-feed byte stands = grind arith

no-nul : (byte : ℕ) → can_stand_in_line byte ≡ true → is_nul byte ≡ false
no-nul byte stands = grind arith

-- a written line has no line feed
pub split-line : (text rest : List ℕ) → list_all can_stand_in_line text ≡ true → all_lines (text ++ 10 ∷ rest) ≡ text ∷ all_lines rest
split-line [] rest _ = refl
split-line (byte ∷ text) rest stand =
    let parts = and_parts (can_stand_in_line byte) (list_all can_stand_in_line text) stand in
    rw (no-feed byte parts.0, split-line text rest parts.1)

-- a written line has no NUL
nul-place : (text : List ℕ) → list_all can_stand_in_line text ≡ true → position_or_len is_nul text ≡ length text
nul-place [] _ = refl
nul-place (byte ∷ text) stand =
    let parts = and_parts (can_stand_in_line byte) (list_all can_stand_in_line text) stand in
    rw (no-nul byte parts.0, nul-place text parts.1) (omega arith)

pub whole-line : (text : List ℕ) → list_all can_stand_in_line text ≡ true → before_nul text ≡ text
whole-line text stand = ap (λ n. take n text) (nul-place text stand) ∙ take-length text

-- ---- its field

spaces-none : (text : List ℕ) → is_loggable text ≡ true → without_outer_spaces text ≡ text
spaces-none text loggable =
    let parts = and_parts (list_all can_stand_in_line text) ((prefix_len is_space text == 0) && (suffix_len is_space text == 0)) loggable in
    let ends = and_parts (prefix_len is_space text == 0) (suffix_len is_space text == 0) parts.1 in
    let first : prefix_len is_space text ≡ 0 = grind (arith, ends.0) in
    let last : suffix_len is_space text ≡ 0 = grind (arith, ends.1) in
    let none : length text - 0 ≡ length text = omega arith in
    ap (λ n. without_trailing_spaces (drop n text)) first
    ∙ ap (λ n. take (length text - n) text) last
    ∙ ap (λ n. take n text) none
    ∙ take-length text

abbrev pub same_field : LogField → LogField → Bool
same_field Recipient Recipient = true
same_field Recipient OriginalRecipient = false
same_field Recipient Offset = false
same_field Recipient DsnOriginal = false
same_field Recipient NotifyFlags = false
same_field Recipient Status = false
same_field Recipient Action = false
same_field Recipient DiagnosticType = false
same_field Recipient DiagnosticText = false
same_field Recipient MtaType = false
same_field Recipient MtaName = false
same_field Recipient Reason = false
same_field OriginalRecipient Recipient = false
same_field OriginalRecipient OriginalRecipient = true
same_field OriginalRecipient Offset = false
same_field OriginalRecipient DsnOriginal = false
same_field OriginalRecipient NotifyFlags = false
same_field OriginalRecipient Status = false
same_field OriginalRecipient Action = false
same_field OriginalRecipient DiagnosticType = false
same_field OriginalRecipient DiagnosticText = false
same_field OriginalRecipient MtaType = false
same_field OriginalRecipient MtaName = false
same_field OriginalRecipient Reason = false
same_field Offset Recipient = false
same_field Offset OriginalRecipient = false
same_field Offset Offset = true
same_field Offset DsnOriginal = false
same_field Offset NotifyFlags = false
same_field Offset Status = false
same_field Offset Action = false
same_field Offset DiagnosticType = false
same_field Offset DiagnosticText = false
same_field Offset MtaType = false
same_field Offset MtaName = false
same_field Offset Reason = false
same_field DsnOriginal Recipient = false
same_field DsnOriginal OriginalRecipient = false
same_field DsnOriginal Offset = false
same_field DsnOriginal DsnOriginal = true
same_field DsnOriginal NotifyFlags = false
same_field DsnOriginal Status = false
same_field DsnOriginal Action = false
same_field DsnOriginal DiagnosticType = false
same_field DsnOriginal DiagnosticText = false
same_field DsnOriginal MtaType = false
same_field DsnOriginal MtaName = false
same_field DsnOriginal Reason = false
same_field NotifyFlags Recipient = false
same_field NotifyFlags OriginalRecipient = false
same_field NotifyFlags Offset = false
same_field NotifyFlags DsnOriginal = false
same_field NotifyFlags NotifyFlags = true
same_field NotifyFlags Status = false
same_field NotifyFlags Action = false
same_field NotifyFlags DiagnosticType = false
same_field NotifyFlags DiagnosticText = false
same_field NotifyFlags MtaType = false
same_field NotifyFlags MtaName = false
same_field NotifyFlags Reason = false
same_field Status Recipient = false
same_field Status OriginalRecipient = false
same_field Status Offset = false
same_field Status DsnOriginal = false
same_field Status NotifyFlags = false
same_field Status Status = true
same_field Status Action = false
same_field Status DiagnosticType = false
same_field Status DiagnosticText = false
same_field Status MtaType = false
same_field Status MtaName = false
same_field Status Reason = false
same_field Action Recipient = false
same_field Action OriginalRecipient = false
same_field Action Offset = false
same_field Action DsnOriginal = false
same_field Action NotifyFlags = false
same_field Action Status = false
same_field Action Action = true
same_field Action DiagnosticType = false
same_field Action DiagnosticText = false
same_field Action MtaType = false
same_field Action MtaName = false
same_field Action Reason = false
same_field DiagnosticType Recipient = false
same_field DiagnosticType OriginalRecipient = false
same_field DiagnosticType Offset = false
same_field DiagnosticType DsnOriginal = false
same_field DiagnosticType NotifyFlags = false
same_field DiagnosticType Status = false
same_field DiagnosticType Action = false
same_field DiagnosticType DiagnosticType = true
same_field DiagnosticType DiagnosticText = false
same_field DiagnosticType MtaType = false
same_field DiagnosticType MtaName = false
same_field DiagnosticType Reason = false
same_field DiagnosticText Recipient = false
same_field DiagnosticText OriginalRecipient = false
same_field DiagnosticText Offset = false
same_field DiagnosticText DsnOriginal = false
same_field DiagnosticText NotifyFlags = false
same_field DiagnosticText Status = false
same_field DiagnosticText Action = false
same_field DiagnosticText DiagnosticType = false
same_field DiagnosticText DiagnosticText = true
same_field DiagnosticText MtaType = false
same_field DiagnosticText MtaName = false
same_field DiagnosticText Reason = false
same_field MtaType Recipient = false
same_field MtaType OriginalRecipient = false
same_field MtaType Offset = false
same_field MtaType DsnOriginal = false
same_field MtaType NotifyFlags = false
same_field MtaType Status = false
same_field MtaType Action = false
same_field MtaType DiagnosticType = false
same_field MtaType DiagnosticText = false
same_field MtaType MtaType = true
same_field MtaType MtaName = false
same_field MtaType Reason = false
same_field MtaName Recipient = false
same_field MtaName OriginalRecipient = false
same_field MtaName Offset = false
same_field MtaName DsnOriginal = false
same_field MtaName NotifyFlags = false
same_field MtaName Status = false
same_field MtaName Action = false
same_field MtaName DiagnosticType = false
same_field MtaName DiagnosticText = false
same_field MtaName MtaType = false
same_field MtaName MtaName = true
same_field MtaName Reason = false
same_field Reason Recipient = false
same_field Reason OriginalRecipient = false
same_field Reason Offset = false
same_field Reason DsnOriginal = false
same_field Reason NotifyFlags = false
same_field Reason Status = false
same_field Reason Action = false
same_field Reason DiagnosticType = false
same_field Reason DiagnosticText = false
same_field Reason MtaType = false
same_field Reason MtaName = false
same_field Reason Reason = true

-- the text of a field in a line that was written for some field
abbrev pub said_of : LogField → Said → Option (List ℕ)
said_of field said = if same_field field said.0 then Some said.1 else None

pub line-says : (field written : LogField) (text : List ℕ) → is_loggable text ≡ true → text_in field (said_line (written, text)) ≡ said_of field (written, text)
line-says Recipient Recipient text loggable = ap (λ (l : List ℕ). Some l) (spaces-none text loggable)
line-says OriginalRecipient OriginalRecipient text loggable = ap (λ (l : List ℕ). Some l) (spaces-none text loggable)
line-says Offset Offset text loggable = ap (λ (l : List ℕ). Some l) (spaces-none text loggable)
line-says DsnOriginal DsnOriginal text loggable = ap (λ (l : List ℕ). Some l) (spaces-none text loggable)
line-says NotifyFlags NotifyFlags text loggable = ap (λ (l : List ℕ). Some l) (spaces-none text loggable)
line-says Status Status text loggable = ap (λ (l : List ℕ). Some l) (spaces-none text loggable)
line-says Action Action text loggable = ap (λ (l : List ℕ). Some l) (spaces-none text loggable)
line-says DiagnosticType DiagnosticType text loggable = ap (λ (l : List ℕ). Some l) (spaces-none text loggable)
line-says DiagnosticText DiagnosticText text loggable = ap (λ (l : List ℕ). Some l) (spaces-none text loggable)
line-says MtaType MtaType text loggable = ap (λ (l : List ℕ). Some l) (spaces-none text loggable)
line-says MtaName MtaName text loggable = ap (λ (l : List ℕ). Some l) (spaces-none text loggable)
line-says Reason Reason text loggable = ap (λ (l : List ℕ). Some l) (spaces-none text loggable)
line-says field written text loggable = refl

name-stands : (field : LogField) → list_all can_stand_in_line (field_name field) ≡ true
name-stands Recipient = refl
name-stands OriginalRecipient = refl
name-stands Offset = refl
name-stands DsnOriginal = refl
name-stands NotifyFlags = refl
name-stands Status = refl
name-stands Action = refl
name-stands DiagnosticType = refl
name-stands DiagnosticText = refl
name-stands MtaType = refl
name-stands MtaName = refl
name-stands Reason = refl

-- ---- the lines of all fields

abbrev pub are_loggable : List Said → Bool
are_loggable said = list_all (λ one. is_loggable one.1) said

pub said-stands : (one : Said) → is_loggable one.1 ≡ true → list_all can_stand_in_line (said_line one) ≡ true
said-stands one loggable =
    let parts = and_parts (list_all can_stand_in_line one.1) ((prefix_len is_space one.1 == 0) && (suffix_len is_space one.1 == 0)) loggable in
    list_all-append can_stand_in_line (field_name one.0) (61 ∷ one.1) ∙ (λ i. name-stands one.0 i && parts.0 i)

pub lines-split : (said : List Said) (rest : List ℕ) → are_loggable said ≡ true → all_lines (flat_map said_bytes said ++ rest) ≡ map said_line said ++ all_lines rest
lines-split [] rest _ = refl
lines-split (one ∷ said) rest loggable =
    let parts = and_parts (is_loggable one.1) (are_loggable said) loggable in
    ap all_lines (append_assoc (said_bytes one) (flat_map said_bytes said) rest ∙ append_assoc (said_line one) (10 ∷ []) (flat_map said_bytes said ++ rest))
    ∙ split-line (said_line one) (flat_map said_bytes said ++ rest) (said-stands one parts.0)
    ∙ ap (λ (l : List (List ℕ)). said_line one ∷ l) (lines-split said rest parts.1)

-- all bytes of these lines count
pub lines-count : (said : List Said) → are_loggable said ≡ true → map before_nul (map said_line said) ≡ map said_line said
lines-count [] _ = refl
lines-count (one ∷ said) loggable =
    let parts = and_parts (is_loggable one.1) (are_loggable said) loggable in
    λ i. whole-line (said_line one) (said-stands one parts.0) i ∷ lines-count said parts.1 i

pub texts-said : (field : LogField) (said : List Said) → are_loggable said ≡ true → filter_map (text_in field) (map said_line said) ≡ filter_map (said_of field) said
texts-said field [] _ = refl
texts-said field (one ∷ said) loggable =
    let parts = and_parts (is_loggable one.1) (are_loggable said) loggable in
    λ i. cons_option (line-says field one.0 one.1 parts.0 i) (texts-said field said parts.1 i)

-- a written line is never empty
full-line : (field : LogField) (text : List ℕ) → is_blank (said_line (field, text)) ≡ false
full-line Recipient text = refl
full-line OriginalRecipient text = refl
full-line Offset text = refl
full-line DsnOriginal text = refl
full-line NotifyFlags text = refl
full-line Status text = refl
full-line Action text = refl
full-line DiagnosticType text = refl
full-line DiagnosticText text = refl
full-line MtaType text = refl
full-line MtaName text = refl
full-line Reason text = refl

-- a written line is never of the older form
not-old : (field : LogField) (text : List ℕ) → old_parts (said_line (field, text)) ≡ None
not-old Recipient text = refl
not-old OriginalRecipient text = refl
not-old Offset text = refl
not-old DsnOriginal text = refl
not-old NotifyFlags text = refl
not-old Status text = refl
not-old Action text = refl
not-old DiagnosticType text = refl
not-old DiagnosticText text = refl
not-old MtaType text = refl
not-old MtaName text = refl
not-old Reason text = refl

-- so it continues the part of a line of the older form
pub said-after_older : (before : List ℕ) (one : Said) → is_older before ≡ true → is_loggable one.1 ≡ true → goes_on before (said_line one) ≡ true
said-after_older before one older loggable =
    let none = ap old_parts (whole-line (said_line one) (said-stands one loggable)) ∙ not-old one.0 one.1 in
    λ i. not (full-line one.0 one.1 i || (is_some (none i) || (not (older i) && names_recipient (said_line one))))

-- a field other than the recipient, whose line continues the part of any line
abbrev pub is_no_recipient : Said → Bool
is_no_recipient one = not (same_field Recipient one.0)

not-named : (field : LogField) (text : List ℕ) → not (same_field Recipient field) ≡ true → value_named (field_name Recipient) (said_line (field, text)) ≡ None
not-named Recipient text other = grind (arith, other)
not-named OriginalRecipient text other = refl
not-named Offset text other = refl
not-named DsnOriginal text other = refl
not-named NotifyFlags text other = refl
not-named Status text other = refl
not-named Action text other = refl
not-named DiagnosticType text other = refl
not-named DiagnosticText text other = refl
not-named MtaType text other = refl
not-named MtaName text other = refl
not-named Reason text other = refl

never : (test : Bool) → not (test && false) ≡ true
never true = refl
never false = refl

said-goes_on : (before : List ℕ) (one : Said) → is_no_recipient one ≡ true → is_loggable one.1 ≡ true → goes_on before (said_line one) ≡ true
said-goes_on before one other loggable =
    let whole = whole-line (said_line one) (said-stands one loggable) in
    let none = ap old_parts whole ∙ not-old one.0 one.1 in
    let unnamed = ap (value_named (field_name Recipient)) whole ∙ not-named one.0 one.1 other in
    (λ i. not (full-line one.0 one.1 i || (is_some (none i) || (not (is_older before) && is_some (unnamed i))))) ∙ never (not (is_older before))

-- each line continues the part of the line before it
abbrev pub all_go_on : List ℕ → List Said → Bool
all_go_on before [] = true
all_go_on before (one ∷ said) = goes_on before (said_line one) && all_go_on (said_line one) said

pub others-go_on : (before : List ℕ) (said : List Said) → list_all is_no_recipient said ≡ true → are_loggable said ≡ true → all_go_on before said ≡ true
others-go_on before [] _ _ = refl
others-go_on before (one ∷ said) others loggable =
    let other = and_parts (is_no_recipient one) (list_all is_no_recipient said) others in
    let parts = and_parts (is_loggable one.1) (are_loggable said) loggable in
    λ i. said-goes_on before one other.0 parts.0 i && others-go_on (said_line one) said other.1 parts.1 i

pub some-more : (said : List Said) (more : List (List ℕ)) → is_blank (map said_line said ++ [] ∷ more) ≡ false
some-more [] more = refl
some-more (one ∷ said) more = refl

pub said-size : (before : List ℕ) (said : List Said) (more : List (List ℕ)) → all_go_on before said ≡ true → more_size before (map said_line said ++ [] ∷ more) ≡ length (flat_map said_bytes said)
said-size before [] more _ = refl
said-size before (one ∷ said) more on =
    let parts = and_parts (goes_on before (said_line one)) (all_go_on (said_line one) said) on in
    let lines = map said_line said ++ [] ∷ more in
    let feed : with_its_feed (said_line one) lines ≡ length (said_line one) + 1 = feed-by (said_line one) lines (some-more said more) in
    let later : more_size (said_line one) lines ≡ length (flat_map said_bytes said) = said-size (said_line one) said more parts.1 in
    let long = length-append (said_bytes one) (flat_map said_bytes said) in
    let line_long = length-append (said_line one) (10 ∷ []) in
    let sum : with_its_feed (said_line one) lines + more_size (said_line one) lines ≡ length (said_bytes one ++ flat_map said_bytes said) = omega (arith, feed, later, long, line_long) in
    ap (λ (on : Bool). if on then with_its_feed (said_line one) lines + more_size (said_line one) lines else 0) parts.0 ∙ sum

pub said-ended : (before : List ℕ) (said : List Said) (more : List (List ℕ)) → all_go_on before said ≡ true → is_blank more ≡ false → more_ended before (map said_line said ++ [] ∷ more) ≡ true
said-ended before [] more _ full = ap not full
said-ended before (one ∷ said) more on full =
    let parts = and_parts (goes_on before (said_line one)) (all_go_on (said_line one) said) on in
    let lines = map said_line said ++ [] ∷ more in
    ap (λ (on : Bool). if on then more_ended (said_line one) lines else is_blank (said_line one) && not (is_blank lines)) parts.0 ∙ said-ended (said_line one) said more parts.1 full

pub said-after : (before : List ℕ) (said : List Said) (more : List (List ℕ)) → all_go_on before said ≡ true → more_after before (map said_line said ++ [] ∷ more) ≡ [] ∷ more
said-after before [] more _ = refl
said-after before (one ∷ said) more on =
    let parts = and_parts (goes_on before (said_line one)) (all_go_on (said_line one) said) on in
    let lines = map said_line said ++ [] ∷ more in
    ap (λ (on : Bool). if on then more_after (said_line one) lines else said_line one ∷ lines) parts.0 ∙ said-after (said_line one) said more parts.1

-- ---- each field

-- a text, unless it is empty
abbrev pub shown : List ℕ → List (List ℕ)
shown [] = []
shown (byte ∷ text) = (byte ∷ text) ∷ []

pick-none : (test : Bool) → [] ≡ (if test then shown [] else [])
pick-none true = refl
pick-none false = refl

pick-some : (test : Bool) (text : List ℕ) → cons_option (if test then Some text else None) [] ≡ (if test then text ∷ [] else [])
pick-some true text = refl
pick-some false text = refl

pub pick : (field written : LogField) (text : List ℕ) → filter_map (said_of field) (said_text written text) ≡ (if same_field field written then shown text else [])
pick field written [] = pick-none (same_field field written)
pick field written (byte ∷ text) = pick-some (same_field field written) (byte ∷ text)
