-- A receiver removes the dots that a sender adds, in one message and in all messages of a session.
use Rattle.std.proofs.Common.{◌≡◌, ℕ, Bool, true, false, List, [], ◌∷◌, ◌++◌, Some, None, map, codes, refl, sym, ap, ◌∙◌, if◌then◌else◌, inl, inr, append_assoc, append-nil}
use Rattle.std.specs.Prelude.{All}
use Rattle.std.specs.List.{list_all, flat_map}
use Rattle.std.proofs.lemmas.Bool.Decides.{eqb_tells}
use Rattle.std.proofs.lemmas.List.Elements.{All-head, All-tail}
use Rattle.std.proofs.lemmas.List.Folds.{list_all-append}
use Rattle.dsn_outcome.specs.Letter.{Letter}
use Rattle.dsn_report.proofs.LineWriterLemmas.{text_of_lines-append}
use Rattle.dsn_report.proofs.LinesLemmas.{fit-append, fit-eight_bit, fit-known, fit-path, fit-plain, notice_lines-eight_bit}
use Rattle.dsn_report.proofs.PieceLemmas.{has_line_bytes, has_line_bytes-legal, pieces-lines}
use Rattle.dsn_report.proofs.PlainLemmas.{and-parts, host-plain}
use Rattle.dsn_report.specs.Data.{ReceivesData, ReceivesNotice, ReceivesNotices, data_after, ends_data, message_lines, message_of, messages_in, messages_of, without_dot}
use Rattle.dsn_report.specs.LegalLines.{is_eight_bit_byte}
use Rattle.dsn_report.specs.Lines.{begins_with_dot, dot_stuffed, pieces_of_text, text_of_lines}
use Rattle.dsn_report.specs.Notice.{is_eight_bit, notice_lines, notice_of}
use Rattle.dsn_report.specs.Outbox.{data_lines, greeting, goodbye, mail_data, mail_parameter, mail_transaction, outbox_of, transaction_lines}
use Rattle.dsn_report.specs.Site.{Site, IsSite}
use Rattle.dsn_report.specs.WellFormed.{IsWellFormed}

-- the receiver gets each line before the one that ends the data
message_lines-dot_stuffed : (lines after : List (List ℕ)) → message_lines (map dot_stuffed lines ++ (codes "." ∷ after)) ≡ lines
unfolding message_lines dot_stuffed
message_lines-dot_stuffed [] after = refl
message_lines-dot_stuffed (line ∷ rest) after =
    here line (message_lines (map dot_stuffed rest ++ (codes "." ∷ after))) ∙ ap (λ more. line ∷ more) (message_lines-dot_stuffed rest after)
  where
    here : (line : List ℕ) (more : List (List ℕ)) → (if ends_data (dot_stuffed line) then [] else without_dot (dot_stuffed line) ∷ more) ≡ line ∷ more
    here [] more = refl
    here (byte ∷ bytes) more = elim (eqb_tells byte 46) [ inl dot ↦ rw dot.0 refl | inr other ↦ simp other.0 refl ]

-- an added dot is a byte that a line may hold
line-bytes-dot_stuffed : (lines : List (List ℕ)) → has_line_bytes lines ≡ true → has_line_bytes (map dot_stuffed lines) ≡ true
unfolding dot_stuffed
line-bytes-dot_stuffed [] legal = refl
line-bytes-dot_stuffed (line ∷ lines) legal =
    let parts = and-parts (list_all is_eight_bit_byte line) (has_line_bytes lines) legal in
    rw (here (begins_with_dot line), line-bytes-dot_stuffed lines parts.1) refl
  where
    here : (test : Bool) → list_all is_eight_bit_byte (if test then 46 ∷ line else line) ≡ true
    here true = (and-parts (list_all is_eight_bit_byte line) (has_line_bytes lines) legal).0
    here false = (and-parts (list_all is_eight_bit_byte line) (has_line_bytes lines) legal).0

data-bytes : (site : Site) (letter : Letter) → IsWellFormed site letter → has_line_bytes (data_lines site letter) ≡ true
data-bytes site letter formed =
    let notice = line-bytes-dot_stuffed (notice_lines site letter) (has_line_bytes-legal (notice_lines site letter) (notice_lines-eight_bit site letter formed)) in
    rw (list_all-append (list_all is_eight_bit_byte) (map dot_stuffed (notice_lines site letter)) (codes "." ∷ []), notice) refl

-- the bytes of the command MAIL
mail-bytes : (eight : Bool) → list_all is_eight_bit_byte (codes "MAIL FROM:<>" ++ mail_parameter eight) ≡ true
mail-bytes true = refl
mail-bytes false = refl

transaction-bytes : (site : Site) (letter : Letter) → IsWellFormed site letter → has_line_bytes (transaction_lines site letter) ≡ true
unfolding transaction_lines
transaction-bytes site letter formed =
    let path = fit-append (fit-append (fit-known 9 (codes "RCPT TO:<") refl refl) (fit-path letter.draft.return_path formed.path_legal)) (fit-known 1 (codes ">") refl refl) in
    rw (mail-bytes (is_eight_bit site letter), fit-eight_bit path, data-bytes site letter formed) refl

-- the receiver gets the lines of the message from those of its data
message_lines-data : (site : Site) (letter : Letter) → text_of_lines (message_lines (data_lines site letter ++ [] ∷ [])) ≡ notice_of site letter
unfolding notice_of
message_lines-data site letter =
    ap (λ lines. text_of_lines (message_lines lines)) (append_assoc (map dot_stuffed (notice_lines site letter)) (codes "." ∷ []) ([] ∷ []))
    ∙ ap text_of_lines (message_lines-dot_stuffed (notice_lines site letter) ([] ∷ []))

pub data_law : (site : Site) (letter : Letter) → IsWellFormed site letter → ReceivesData site letter
unfolding mail_data
data_law site letter formed =
    ap (λ pieces. text_of_lines (message_lines pieces)) (pieces-lines (data_lines site letter) (data-bytes site letter formed))
    ∙ message_lines-data site letter

pub dots_law : (site : Site) (letter : Letter) → IsWellFormed site letter → ReceivesNotice site letter
unfolding message_of mail_transaction data_after transaction_lines
dots_law site letter formed =
    ap (λ pieces. text_of_lines (message_lines (data_after pieces))) (pieces-lines (transaction_lines site letter) (transaction-bytes site letter formed))
    ∙ message_lines-data site letter

-- ---- a whole session

-- an unfinished message gets its end
messages_in-dot_stuffed : (message lines after : List (List ℕ))
    → messages_in (Some message) (map dot_stuffed lines ++ (codes "." ∷ after)) ≡ (message ++ lines) ∷ messages_in None after
unfolding messages_in dot_stuffed
messages_in-dot_stuffed message [] after = ap (λ whole. whole ∷ messages_in None after) (sym (append-nil message))
messages_in-dot_stuffed message (line ∷ rest) after =
    here line
    ∙ messages_in-dot_stuffed (message ++ line ∷ []) rest after
    ∙ ap (λ whole. whole ∷ messages_in None after) (append_assoc message (line ∷ []) rest)
  where
    more : List (List ℕ)
    more = map dot_stuffed rest ++ (codes "." ∷ after)

    here : (line : List ℕ) → messages_in (Some message) (dot_stuffed line ∷ more) ≡ messages_in (Some (message ++ line ∷ [])) more
    here [] = refl
    here (byte ∷ bytes) = elim (eqb_tells byte 46) [
      | inl dot ↦ rw dot.0 refl
      | inr other ↦
          let plain : dot_stuffed (byte ∷ bytes) ≡ byte ∷ bytes = rw other.0 refl in
          ap (λ sent. messages_in (Some message) (sent ∷ more)) plain ∙ rw (other.0, messages_in) (rw other.0 refl)
    ]

messages_in-transaction : (site : Site) (letter : Letter) (after : List (List ℕ))
    → messages_in None (transaction_lines site letter ++ after) ≡ notice_lines site letter ∷ messages_in None after
unfolding messages_in transaction_lines
messages_in-transaction site letter after =
    ap (messages_in (Some [])) (append_assoc (map dot_stuffed (notice_lines site letter)) (codes "." ∷ []) after)
    ∙ messages_in-dot_stuffed [] (notice_lines site letter) after

messages_in-transactions : (site : Site) (letters : List Letter) (after : List (List ℕ))
    → messages_in None (flat_map (transaction_lines site) letters ++ after) ≡ map (notice_lines site) letters ++ messages_in None after
messages_in-transactions site [] after = refl
messages_in-transactions site (letter ∷ letters) after =
    ap (messages_in None) (append_assoc (transaction_lines site letter) (flat_map (transaction_lines site) letters) after)
    ∙ messages_in-transaction site letter (flat_map (transaction_lines site) letters ++ after)
    ∙ ap (λ more. notice_lines site letter ∷ more) (messages_in-transactions site letters after)

-- the lines of the session
abbrev outbox_lines : Site → List Letter → List (List ℕ)
outbox_lines site letters = (codes "EHLO " ++ site.host) ∷ flat_map (transaction_lines site) letters ++ codes "QUIT" ∷ []

transactions-text : (site : Site) (letters : List Letter) → flat_map (mail_transaction site) letters ≡ text_of_lines (flat_map (transaction_lines site) letters)
unfolding mail_transaction text_of_lines
transactions-text site [] = refl
transactions-text site (letter ∷ letters) =
    ap (λ more. text_of_lines (transaction_lines site letter) ++ more) (transactions-text site letters)
    ∙ sym (text_of_lines-append (transaction_lines site letter) (flat_map (transaction_lines site) letters))

outbox-text : (site : Site) (letters : List Letter) → outbox_of site letters ≡ text_of_lines (outbox_lines site letters)
unfolding outbox_of greeting goodbye
outbox-text site letters =
    let hello = (codes "EHLO " ++ site.host) ∷ [] in
    let bye = codes "QUIT" ∷ [] in
    let session = flat_map (transaction_lines site) letters in
    ap (λ more. text_of_lines hello ++ more ++ text_of_lines bye) (transactions-text site letters)
    ∙ ap (λ more. more ++ text_of_lines bye) (sym (text_of_lines-append hello session))
    ∙ sym (text_of_lines-append (hello ++ session) bye)

transactions-bytes : (site : Site) (letters : List Letter) → All (IsWellFormed site) letters → has_line_bytes (flat_map (transaction_lines site) letters) ≡ true
transactions-bytes site [] formed = refl
transactions-bytes site (letter ∷ letters) formed =
    list_all-append (list_all is_eight_bit_byte) (transaction_lines site letter) (flat_map (transaction_lines site) letters)
    ∙ rw (
      transaction-bytes site letter (All-head (IsWellFormed site) letter letters formed),
      transactions-bytes site letters (All-tail (IsWellFormed site) letter letters formed),
    ) refl

outbox-bytes : (site : Site) (letters : List Letter) → IsSite site → All (IsWellFormed site) letters → has_line_bytes (outbox_lines site letters) ≡ true
outbox-bytes site letters legal formed =
    let hello = fit-append (fit-known 5 (codes "EHLO ") refl refl) (fit-plain (host-plain site.host legal.host_legal)) in
    let session = flat_map (transaction_lines site) letters in
    rw (fit-eight_bit hello, list_all-append (list_all is_eight_bit_byte) session (codes "QUIT" ∷ []), transactions-bytes site letters formed) refl

notices-text : (site : Site) (letters : List Letter) → map text_of_lines (map (notice_lines site) letters) ≡ map (notice_of site) letters
unfolding notice_of
notices-text site [] = refl
notices-text site (letter ∷ letters) = ap (λ more. text_of_lines (notice_lines site letter) ∷ more) (notices-text site letters)

pub outbox_law : (site : Site) (letters : List Letter) → IsSite site → All (IsWellFormed site) letters → ReceivesNotices site letters
unfolding messages_of messages_in
outbox_law site letters legal formed =
    let session = flat_map (transaction_lines site) letters in
    ap (λ text. map text_of_lines (messages_in None (pieces_of_text text))) (outbox-text site letters)
    ∙ ap (λ pieces. map text_of_lines (messages_in None pieces)) (pieces-lines (outbox_lines site letters) (outbox-bytes site letters legal formed))
    ∙ ap (λ lines. map text_of_lines (messages_in None lines)) (append_assoc session (codes "QUIT" ∷ []) ([] ∷ []))
    ∙ ap (map text_of_lines) (messages_in-transactions site letters (codes "QUIT" ∷ [] ∷ []) ∙ append-nil (map (notice_lines site) letters))
    ∙ notices-text site letters
