-- Each line of a written record has a field.
use Rattle.std.proofs.Common.{◌≡◌, ℕ, ◌<◌, ◌^◌, Bool, true, false, codes, List, [], ◌∷◌, ◌++◌, map, Option, Some, None, refl, ◌∙◌, ap, arith, if◌then◌else◌}
use Rattle.std.specs.Prelude.{◌==◌, ◌&&◌, ◌||◌, decimal}
use Rattle.std.specs.List.{list_all}
use Rattle.std.specs.Option.{is_some}
use Rattle.std.proofs.lemmas.Bool.{and_parts}
use Rattle.dsn_postfix_files.specs.ZeroFree.{is_not_zero, is_zero_free}
use Rattle.dsn_postfix_files.specs.declared.log_field.LogField.{LogField}
use Rattle.dsn_postfix_files.specs.declared.log_field.LogField.TheVariants.{Recipient, OriginalRecipient, Offset, DsnOriginal, NotifyFlags, Status, Action, DiagnosticType, DiagnosticText, MtaType, MtaName, Reason}
use Rattle.dsn_postfix_files.specs.LogFile.{is_older, is_said_line, last_says_reason, says_field, says_of_delivery, says_of_recipient}
use Rattle.dsn_postfix_files.specs.LogLine.{after_front, around_first, cut_here, old_parts, old_recipient, text_in, with_first_before}
use Rattle.dsn_postfix_files.specs.LogRecord.{can_stand_in_line, is_loggable, may_say, number_if_said, number_text, number_written, LoggedFields, old_line, said_line, said_text, says_something}
use Rattle.dsn_postfix_files.proofs.LogPicked.{number-back}
use Rattle.dsn_postfix_files.proofs.LogWritten.{line-says, said-stands, whole-line}

not-zero : (byte : ℕ) → can_stand_in_line byte ≡ true → is_not_zero byte ≡ true
not-zero byte stands = grind arith

zero-free : (text : List ℕ) → list_all can_stand_in_line text ≡ true → is_zero_free text ≡ true
zero-free [] _ = refl
zero-free (byte ∷ text) stand =
    let parts = and_parts (can_stand_in_line byte) (list_all can_stand_in_line text) stand in
    λ i. not-zero byte parts.0 i && zero-free text parts.1 i

or-left : (a b : Bool) → a ≡ true → (a || b) ≡ true
or-left true b says = refl
or-left false b says = grind (arith, says)

or-right : (a b : Bool) → b ≡ true → (a || b) ≡ true
or-right true b says = refl
or-right false b says = says

-- a line with one field has some field
says-any : (field : LogField) (line : List ℕ) → says_field field line ≡ true → (says_of_recipient line || says_of_delivery line) ≡ true
says-any Recipient line says = or-left (says_of_recipient line) (says_of_delivery line) (or-left (says_field Recipient line) (says_field OriginalRecipient line || (says_field Offset line || (says_field DsnOriginal line || says_field NotifyFlags line))) says)
says-any OriginalRecipient line says = or-left (says_of_recipient line) (says_of_delivery line) (or-right (says_field Recipient line) (says_field OriginalRecipient line || (says_field Offset line || (says_field DsnOriginal line || says_field NotifyFlags line))) (or-left (says_field OriginalRecipient line) (says_field Offset line || (says_field DsnOriginal line || says_field NotifyFlags line)) says))
says-any Offset line says = or-left (says_of_recipient line) (says_of_delivery line) (or-right (says_field Recipient line) (says_field OriginalRecipient line || (says_field Offset line || (says_field DsnOriginal line || says_field NotifyFlags line))) (or-right (says_field OriginalRecipient line) (says_field Offset line || (says_field DsnOriginal line || says_field NotifyFlags line)) (or-left (says_field Offset line) (says_field DsnOriginal line || says_field NotifyFlags line) says)))
says-any DsnOriginal line says = or-left (says_of_recipient line) (says_of_delivery line) (or-right (says_field Recipient line) (says_field OriginalRecipient line || (says_field Offset line || (says_field DsnOriginal line || says_field NotifyFlags line))) (or-right (says_field OriginalRecipient line) (says_field Offset line || (says_field DsnOriginal line || says_field NotifyFlags line)) (or-right (says_field Offset line) (says_field DsnOriginal line || says_field NotifyFlags line) (or-left (says_field DsnOriginal line) (says_field NotifyFlags line) says))))
says-any NotifyFlags line says = or-left (says_of_recipient line) (says_of_delivery line) (or-right (says_field Recipient line) (says_field OriginalRecipient line || (says_field Offset line || (says_field DsnOriginal line || says_field NotifyFlags line))) (or-right (says_field OriginalRecipient line) (says_field Offset line || (says_field DsnOriginal line || says_field NotifyFlags line)) (or-right (says_field Offset line) (says_field DsnOriginal line || says_field NotifyFlags line) (or-right (says_field DsnOriginal line) (says_field NotifyFlags line) says))))
says-any Status line says = or-right (says_of_recipient line) (says_of_delivery line) (or-left (says_field Status line) (says_field Action line || (says_field DiagnosticType line || (says_field DiagnosticText line || (says_field MtaType line || (says_field MtaName line || says_field Reason line))))) says)
says-any Action line says = or-right (says_of_recipient line) (says_of_delivery line) (or-right (says_field Status line) (says_field Action line || (says_field DiagnosticType line || (says_field DiagnosticText line || (says_field MtaType line || (says_field MtaName line || says_field Reason line))))) (or-left (says_field Action line) (says_field DiagnosticType line || (says_field DiagnosticText line || (says_field MtaType line || (says_field MtaName line || says_field Reason line)))) says))
says-any DiagnosticType line says = or-right (says_of_recipient line) (says_of_delivery line) (or-right (says_field Status line) (says_field Action line || (says_field DiagnosticType line || (says_field DiagnosticText line || (says_field MtaType line || (says_field MtaName line || says_field Reason line))))) (or-right (says_field Action line) (says_field DiagnosticType line || (says_field DiagnosticText line || (says_field MtaType line || (says_field MtaName line || says_field Reason line)))) (or-left (says_field DiagnosticType line) (says_field DiagnosticText line || (says_field MtaType line || (says_field MtaName line || says_field Reason line))) says)))
says-any DiagnosticText line says = or-right (says_of_recipient line) (says_of_delivery line) (or-right (says_field Status line) (says_field Action line || (says_field DiagnosticType line || (says_field DiagnosticText line || (says_field MtaType line || (says_field MtaName line || says_field Reason line))))) (or-right (says_field Action line) (says_field DiagnosticType line || (says_field DiagnosticText line || (says_field MtaType line || (says_field MtaName line || says_field Reason line)))) (or-right (says_field DiagnosticType line) (says_field DiagnosticText line || (says_field MtaType line || (says_field MtaName line || says_field Reason line))) (or-left (says_field DiagnosticText line) (says_field MtaType line || (says_field MtaName line || says_field Reason line)) says))))
says-any MtaType line says = or-right (says_of_recipient line) (says_of_delivery line) (or-right (says_field Status line) (says_field Action line || (says_field DiagnosticType line || (says_field DiagnosticText line || (says_field MtaType line || (says_field MtaName line || says_field Reason line))))) (or-right (says_field Action line) (says_field DiagnosticType line || (says_field DiagnosticText line || (says_field MtaType line || (says_field MtaName line || says_field Reason line)))) (or-right (says_field DiagnosticType line) (says_field DiagnosticText line || (says_field MtaType line || (says_field MtaName line || says_field Reason line))) (or-right (says_field DiagnosticText line) (says_field MtaType line || (says_field MtaName line || says_field Reason line)) (or-left (says_field MtaType line) (says_field MtaName line || says_field Reason line) says)))))
says-any MtaName line says = or-right (says_of_recipient line) (says_of_delivery line) (or-right (says_field Status line) (says_field Action line || (says_field DiagnosticType line || (says_field DiagnosticText line || (says_field MtaType line || (says_field MtaName line || says_field Reason line))))) (or-right (says_field Action line) (says_field DiagnosticType line || (says_field DiagnosticText line || (says_field MtaType line || (says_field MtaName line || says_field Reason line)))) (or-right (says_field DiagnosticType line) (says_field DiagnosticText line || (says_field MtaType line || (says_field MtaName line || says_field Reason line))) (or-right (says_field DiagnosticText line) (says_field MtaType line || (says_field MtaName line || says_field Reason line)) (or-right (says_field MtaType line) (says_field MtaName line || says_field Reason line) (or-left (says_field MtaName line) (says_field Reason line) says))))))
says-any Reason line says = or-right (says_of_recipient line) (says_of_delivery line) (or-right (says_field Status line) (says_field Action line || (says_field DiagnosticType line || (says_field DiagnosticText line || (says_field MtaType line || (says_field MtaName line || says_field Reason line))))) (or-right (says_field Action line) (says_field DiagnosticType line || (says_field DiagnosticText line || (says_field MtaType line || (says_field MtaName line || says_field Reason line)))) (or-right (says_field DiagnosticType line) (says_field DiagnosticText line || (says_field MtaType line || (says_field MtaName line || says_field Reason line))) (or-right (says_field DiagnosticText line) (says_field MtaType line || (says_field MtaName line || says_field Reason line)) (or-right (says_field MtaType line) (says_field MtaName line || says_field Reason line) (or-right (says_field MtaName line) (says_field Reason line) says))))))

said-if : (field : LogField) (line : List ℕ) → list_all can_stand_in_line line ≡ true → says_field field line ≡ true → is_said_line line ≡ true
unfolding is_said_line
said-if field line stands says = λ i. zero-free line stands i && says-any field line says i

-- the line of a text
pub lines-said : (field : LogField) (text : List ℕ) → is_loggable text ≡ true → says_field field (said_line (field, text)) ≡ true → list_all is_said_line (map said_line (said_text field text)) ≡ true
lines-said field [] loggable says = refl
lines-said field (byte ∷ text) loggable says =
    λ i. said-if field (said_line (field, byte ∷ text)) (said-stands (field, byte ∷ text) loggable) says i && true

-- the line of a number
number-said : (field : LogField) (n : ℕ) → text_in field (said_line (field, decimal n)) ≡ Some (decimal n) → n < 2 ^ 63 → may_say field n ≡ true
    → is_some (number_if_said field (number_written (text_in field (said_line (field, decimal n))))) ≡ true
number-said field n text small may =
    ap (λ (o : Option (List ℕ)). is_some (number_if_said field (number_written o))) text
    ∙ ap (λ (o : Option ℕ). is_some (number_if_said field o)) (number-back n small)
    ∙ ap (λ (b : Bool). is_some (if b then Some n else None)) may

offset-by : (test : Bool) (n : ℕ) → is_loggable (if test then [] else decimal n) ≡ true → n < 2 ^ 63 → (test || may_say Offset n) ≡ true → list_all is_said_line (map said_line (said_text Offset (if test then [] else decimal n))) ≡ true
offset-by true n loggable small may = refl
offset-by false n loggable small may = lines-said Offset (decimal n) loggable (number-said Offset n (line-says Offset Offset (decimal n) loggable) small may)

pub offset-said : (n : ℕ) → is_loggable (number_text n) ≡ true → n < 2 ^ 63 → (n == 0 || may_say Offset n) ≡ true → list_all is_said_line (map said_line (said_text Offset (number_text n))) ≡ true
offset-said n loggable small may = offset-by (n == 0) n loggable small may

notify-by : (test : Bool) (n : ℕ) → is_loggable (if test then [] else decimal n) ≡ true → n < 2 ^ 63 → (test || may_say NotifyFlags n) ≡ true → list_all is_said_line (map said_line (said_text NotifyFlags (if test then [] else decimal n))) ≡ true
notify-by true n loggable small may = refl
notify-by false n loggable small may = lines-said NotifyFlags (decimal n) loggable (number-said NotifyFlags n (line-says NotifyFlags NotifyFlags (decimal n) loggable) small may)

pub notify-said : (n : ℕ) → is_loggable (number_text n) ≡ true → n < 2 ^ 63 → (n == 0 || may_say NotifyFlags n) ≡ true → list_all is_said_line (map said_line (said_text NotifyFlags (number_text n))) ≡ true
notify-said n loggable small may = notify-by (n == 0) n loggable small may

-- the line of the older form
cut-some : (text : List ℕ) (found : Option (List ℕ)) (later : Option (List ℕ × List ℕ)) → is_some later ≡ true → is_some (cut_here text found later) ≡ true
cut-some text (Some after) later some = refl
cut-some text None later some = some

before-some : (byte : ℕ) (found : Option (List ℕ × List ℕ)) → is_some found ≡ true → is_some (with_first_before byte found) ≡ true
before-some byte None some = grind (arith, some)
before-some byte (Some parts) some = refl

around-some : (front rest : List ℕ) → is_some (around_first (codes ">: ") (front ++ (codes ">: " ++ rest))) ≡ true
around-some [] rest = refl
around-some (byte ∷ front) rest =
    let text = front ++ (codes ">: " ++ rest) in
    cut-some (byte ∷ text) (after_front (codes ">: ") (byte ∷ text)) (with_first_before byte (around_first (codes ">: ") text)) (before-some byte (around_first (codes ">: ") text) (around-some front rest))

old-recipient-some : (found : Option (List ℕ × List ℕ)) → is_some found ≡ true → is_some (old_recipient found) ≡ true
old-recipient-some None some = grind (arith, some)
old-recipient-some (Some parts) some = refl

pub old-says_recipient : (f : LoggedFields) → says_field Recipient (old_line f) ≡ true
old-says_recipient f = old-recipient-some (around_first (codes ">: ") (f.recipient ++ (codes ">: " ++ f.reason))) (around-some f.recipient f.reason)

pub old-older : (f : LoggedFields) → list_all can_stand_in_line (old_line f) ≡ true → is_older (old_line f) ≡ true
old-older f stands = ap (λ (l : List ℕ). is_some (old_parts l)) (whole-line (old_line f) stands) ∙ around-some f.recipient f.reason

pub old-said : (f : LoggedFields) → list_all can_stand_in_line (old_line f) ≡ true → is_said_line (old_line f) ≡ true
old-said f stands = said-if Recipient (old_line f) stands (old-says_recipient f)

-- the last line has the reason
pub reason-last : (reason : List ℕ) (before : Bool) → says_something reason ≡ true → is_loggable reason ≡ true → last_says_reason before (map said_line (said_text Reason reason)) ≡ true
reason-last [] before full loggable = grind (arith, full)
reason-last (byte ∷ reason) before full loggable = ap is_some (line-says Reason Reason (byte ∷ reason) loggable)

-- the last line has the reason, whatever precedes it
abbrev EndsWell : List (LogField × List ℕ) → Type 0
EndsWell said = (before : Bool) → last_says_reason before (map said_line said) ≡ true

pub last-after : (some more : List (LogField × List ℕ)) → EndsWell more → EndsWell (some ++ more)
last-after [] more well before = well before
last-after (one ∷ some) more well before = last-after some more well (says_field Reason (said_line one))
