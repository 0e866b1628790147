-- The file of a template: the line of a field, and the values of all fields.
use Rattle.std.proofs.Common.{◌≡◌, ℕ, suc, ◌+◌, ◌<◌, true, false, not, List, [], ◌∷◌, ◌++◌, length, take, drop, get_or, codes, refl, sym, ap, subst, ◌∙◌, ◌≢◌, arith, append_assoc, length-append}
use Rattle.std.specs.Prelude.{◌==◌}
use Rattle.std.proofs.lemmas.Bool.{eqb-true, false≢true}
use Rattle.std.proofs.lemmas.List.{append_cancel_left, take-append-drop}
use Rattle.std.proofs.lemmas.List.Sums.{list_all-from_AllPass}
use Rattle.std.proofs.Math.Seq.{drop-cons}
use Rattle.bstr.specs.Find.{Nowhere, Passes, is_byte}
use Rattle.dsn_report.proofs.HeaderLemmas.{none-before}
use Rattle.dsn_report.proofs.PlainLemmas.{and-parts}
use Rattle.dsn_report.specs.Template.{IsFileOf, Template, is_one_line, template_file}
use Rattle.dsn_report.specs.inner.Template.{IsField}

-- ---- the line of a field

-- a text whose first line ends at its first line feed begins with that line
pub field-found : (name text line : List ℕ) (feed : ℕ) → text ≡ name ++ line → feed < length line → Nowhere (Passes (is_byte 10) line) 0 feed → Passes (is_byte 10) line feed
    → IsField name text (take feed line) (drop (feed + 1) line)
field-found name text line feed begins within before here =
    let value = take feed line in
    let rest = drop (feed + 1) line in
    let next : feed + 1 ≡ suc feed = omega arith in
    let joined : line ≡ value ++ (get_or line feed 0 ∷ rest) = rw (next, ← drop-cons line feed 0 within) (sym (take-append-drop feed line)) in
    let byte : get_or line feed 0 ≡ 10 = eqb-true (get_or line feed 0) 10 here in
    record {
      laid_out =
          begins
          ∙ ap (λ line. name ++ line) (joined ∙ ap (λ (b : ℕ). value ++ (b ∷ rest)) byte)
          ∙ sym (append_assoc name value (10 ∷ rest))
          ∙ sym (append_assoc (name ++ value) (codes "\n") rest);
      one_line = list_all-from_AllPass (λ byte. not (byte == 10)) value (λ k d below. ap not (none-before line feed (omega (arith, within)) before k d below));
    }

-- the text of a field's line, regrouped
field-regrouped : (name text value rest : List ℕ) → IsField name text value rest → text ≡ name ++ (value ++ (10 ∷ rest))
field-regrouped name text value rest field =
    field.laid_out ∙ append_assoc (name ++ value) (codes "\n") rest ∙ append_assoc name value (10 ∷ rest)

-- a text that doesn't begin with the name has no line of it
pub field-unnamed : (name text : List ℕ) → ((rest : List ℕ) → text ≢ name ++ rest) → (value rest : List ℕ) → ¬ IsField name text value rest
field-unnamed name text other value rest field = other (value ++ (10 ∷ rest)) (field-regrouped name text value rest field)

-- nor has a text without a line feed after the name
pub field-unended : (name text line : List ℕ) → text ≡ name ++ line → Nowhere (Passes (is_byte 10) line) 0 (length line) → (value rest : List ℕ) → ¬ IsField name text value rest
field-unended name text line begins nowhere value rest field =
    let split : line ≡ value ++ (10 ∷ rest) = append_cancel_left name line (value ++ (10 ∷ rest)) (sym begins ∙ field-regrouped name text value rest field) in
    let long : length line ≡ length value + suc (length rest) = ap length split ∙ length-append value (10 ∷ rest) in
    nowhere (length value) (omega arith) (omega (arith, long)) (ap (λ line. is_byte 10 (get_or line (length value) 0)) split ∙ ap (is_byte 10) (get-seam value 10 rest))
  where
    get-seam : (xs : List ℕ) (x : ℕ) (ys : List ℕ) → get_or (xs ++ (x ∷ ys)) (length xs) 0 ≡ x
    get-seam [] x ys = refl
    get-seam (y ∷ xs) x ys = get-seam xs x ys

-- two texts that are split at their first line feed are split at the same place
same-split : (value other rest more : List ℕ) → is_one_line value ≡ true → is_one_line other ≡ true → value ++ (10 ∷ rest) ≡ other ++ (10 ∷ more) → (value ≡ other) × (rest ≡ more)
same-split [] [] rest more one two is = (refl, ap (drop 1) is)
same-split [] (byte ∷ other) rest more one two is =
    absurd (false≢true (ap (λ (b : ℕ). not (b == 10)) (ap (λ text. get_or text 0 0) is) ∙ (and-parts (not (byte == 10)) (is_one_line other) two).0))
same-split (byte ∷ value) [] rest more one two is =
    absurd (false≢true (ap (λ (b : ℕ). not (b == 10)) (sym (ap (λ text. get_or text 0 0) is)) ∙ (and-parts (not (byte == 10)) (is_one_line value) one).0))
same-split (byte ∷ value) (other ∷ others) rest more one two is =
    let later = same-split value others rest more (and-parts (not (byte == 10)) (is_one_line value) one).1 (and-parts (not (other == 10)) (is_one_line others) two).1 (ap (drop 1) is) in
    let first : byte ≡ other = ap (λ text. get_or text 0 0) is in
    (rw (first, later.0) refl, later.1)

-- a text has at most one line of a field
field-unique : (name text value other rest more : List ℕ) → IsField name text value rest → IsField name text other more → (value ≡ other) × (rest ≡ more)
field-unique name text value other rest more field again =
    same-split value other rest more field.one_line again.one_line
    (append_cancel_left name (value ++ (10 ∷ rest)) (other ++ (10 ∷ more)) (sym (field-regrouped name text value rest field) ∙ field-regrouped name text other more again))

-- ---- the values of all fields

-- the text after a field's line, in the file of a template
abbrev after_subject : Template → List ℕ
after_subject template = codes "\n" ++ template.text

abbrev after_sender : Template → List ℕ
after_sender template = codes "Subject: " ++ template.subject ++ codes "\n" ++ after_subject template

abbrev after_charset : Template → List ℕ
after_charset template = codes "From: " ++ template.sender ++ codes "\n" ++ after_sender template

-- a field's line after a text and the line feed before it, regrouped
line-regrouped : (front field value rest : List ℕ) → front ++ (10 ∷ field) ++ value ++ codes "\n" ++ rest ≡ front ++ codes "\n" ++ (field ++ value ++ codes "\n" ++ rest)
line-regrouped front field value rest =
    append_assoc (front ++ (10 ∷ field) ++ value) (codes "\n") rest
    ∙ ap (λ text. text ++ (10 ∷ rest)) (append_assoc front (10 ∷ field) value)
    ∙ append_assoc front (10 ∷ (field ++ value)) (10 ∷ rest)
    ∙ sym (append_assoc front (codes "\n") (field ++ value ++ (10 ∷ rest)))
    ∙ ap (λ text. front ++ codes "\n" ++ text) (sym (append_assoc (field ++ value) (codes "\n") rest))

file-regrouped : (template : Template) → template_file template ≡ codes "Charset: " ++ template.charset ++ codes "\n" ++ after_charset template
file-regrouped template =
    let one = codes "Charset: " ++ template.charset in
    let two = one ++ codes "\nFrom: " ++ template.sender in
    let three = two ++ codes "\nSubject: " ++ template.subject in
    append_assoc three (codes "\n\n") template.text
    ∙ sym (append_assoc three (codes "\n") (after_subject template))
    ∙ line-regrouped two (codes "Subject: ") template.subject (after_subject template)
    ∙ line-regrouped one (codes "From: ") template.sender (after_sender template)

charset-field : (file : List ℕ) (template : Template) → IsFileOf file template → IsField (codes "Charset: ") file template.charset (after_charset template)
charset-field file template is = record { laid_out = is.written ∙ file-regrouped template; one_line = is.charset_line }

sender-field : (file : List ℕ) (template : Template) → IsFileOf file template → IsField (codes "From: ") (after_charset template) template.sender (after_sender template)
sender-field file template is = record { laid_out = refl; one_line = is.sender_line }

subject-field : (file : List ℕ) (template : Template) → IsFileOf file template → IsField (codes "Subject: ") (after_sender template) template.subject (after_subject template)
subject-field file template is = record { laid_out = refl; one_line = is.subject_line }

-- the file of these values, if each line is that of its field
pub file-found : (file charset first sender second subject third text : List ℕ) → IsField (codes "Charset: ") file charset first → IsField (codes "From: ") first sender second
    → IsField (codes "Subject: ") second subject third → third ≡ codes "\n" ++ text → IsFileOf file (record { charset = charset; sender = sender; subject = subject; text = text })
file-found file charset first sender second subject third text one two three end = record {
  written =
      one.laid_out
      ∙ ap (λ rest. codes "Charset: " ++ charset ++ codes "\n" ++ rest)
      (two.laid_out ∙ ap (λ rest. codes "From: " ++ sender ++ codes "\n" ++ rest) (three.laid_out ∙ ap (λ rest. codes "Subject: " ++ subject ++ codes "\n" ++ rest) end))
      ∙ sym (file-regrouped (record { charset = charset; sender = sender; subject = subject; text = text }));
  charset_line = one.one_line;
  sender_line = two.one_line;
  subject_line = three.one_line;
}

-- no file of a template lacks the first line, the second one, the third one, or the empty one
pub no-charset : (file : List ℕ) → ((value rest : List ℕ) → ¬ IsField (codes "Charset: ") file value rest) → (template : Template) → ¬ IsFileOf file template
no-charset file none template is = none template.charset (after_charset template) (charset-field file template is)

pub no-sender : (file charset first : List ℕ) → IsField (codes "Charset: ") file charset first → ((value rest : List ℕ) → ¬ IsField (codes "From: ") first value rest)
    → (template : Template) → ¬ IsFileOf file template
no-sender file charset first one none template is =
    let same = field-unique (codes "Charset: ") file charset template.charset first (after_charset template) one (charset-field file template is) in
    none template.sender (after_sender template) (subst (λ text. IsField (codes "From: ") text template.sender (after_sender template)) (sym same.1) (sender-field file template is))

pub no-subject : (file charset first sender second : List ℕ) → IsField (codes "Charset: ") file charset first → IsField (codes "From: ") first sender second
    → ((value rest : List ℕ) → ¬ IsField (codes "Subject: ") second value rest) → (template : Template) → ¬ IsFileOf file template
no-subject file charset first sender second one two none template is =
    let same = field-unique (codes "Charset: ") file charset template.charset first (after_charset template) one (charset-field file template is) in
    let again = field-unique (codes "From: ") first sender template.sender second (after_sender template) two
    (subst (λ text. IsField (codes "From: ") text template.sender (after_sender template)) (sym same.1) (sender-field file template is)) in
    none template.subject (after_subject template) (subst (λ text. IsField (codes "Subject: ") text template.subject (after_subject template)) (sym again.1) (subject-field file template is))

pub no-empty-line : (file charset first sender second subject third : List ℕ) → IsField (codes "Charset: ") file charset first → IsField (codes "From: ") first sender second
    → IsField (codes "Subject: ") second subject third → ((rest : List ℕ) → third ≢ codes "\n" ++ rest) → (template : Template) → ¬ IsFileOf file template
no-empty-line file charset first sender second subject third one two three none template is =
    let same = field-unique (codes "Charset: ") file charset template.charset first (after_charset template) one (charset-field file template is) in
    let again = field-unique (codes "From: ") first sender template.sender second (after_sender template) two
    (subst (λ text. IsField (codes "From: ") text template.sender (after_sender template)) (sym same.1) (sender-field file template is)) in
    let last = field-unique (codes "Subject: ") second subject template.subject third (after_subject template) three
    (subst (λ text. IsField (codes "Subject: ") text template.subject (after_subject template)) (sym again.1) (subject-field file template is)) in
    none template.text last.1
