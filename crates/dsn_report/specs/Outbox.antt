-- The outbox: the client's side of an SMTP session that submits each notice (RFC 5321 section 3.3).
use Rattle.std.specs.Prelude.{ℕ, Bool, true, false, List, [], ◌∷◌, ◌++◌, map, codes}
use Rattle.std.specs.List.{flat_map}
use Rattle.dsn_outcome.specs.Letter.{Letter}
use Rattle.dsn_report.specs.Lines.{text_of_lines, dot_stuffed}
use Rattle.dsn_report.specs.Notice.{is_eight_bit, notice_lines, return_path_of}
use Rattle.dsn_report.specs.Site.{Site}

-- the greeting, which opens the session (RFC 5321 section 3.2)
unfoldable pub greeting : Site → List ℕ
greeting site = text_of_lines ((codes "EHLO " ++ site.host) ∷ [])

-- the end of the session (RFC 5321 section 3.8)
unfoldable pub goodbye : List ℕ
goodbye = text_of_lines (codes "QUIT" ∷ [])

-- the lines after the command DATA: those of a notice, with the dots that SMTP adds, and the final
-- dot (RFC 5321 section 4.5.2)
abbrev pub data_lines : Site → Letter → List (List ℕ)
data_lines site letter = map dot_stuffed (notice_lines site letter) ++ codes "." ∷ []

-- the mail data of a notice (RFC 5321 section 4.1.1.4), with the final dot
unfoldable pub mail_data : Site → Letter → List ℕ
mail_data site letter = text_of_lines (data_lines site letter)

-- the parameter of MAIL, if the mail data are 8bit (RFC 6152 section 3)
abbrev pub mail_parameter : Bool → List ℕ
mail_parameter true = codes " BODY=8BITMIME"
mail_parameter false = []

-- the lines of one mail transaction; it has the null path, so that no notice answers a notice (RFC
-- 3464 section 2, RFC 5321 section 4.5.5)
unfoldable pub transaction_lines : Site → Letter → List (List ℕ)
transaction_lines site letter =
    (codes "MAIL FROM:<>" ++ mail_parameter (is_eight_bit site letter))
    ∷ (codes "RCPT TO:<" ++ return_path_of letter ++ codes ">")
    ∷ codes "DATA"
    ∷ data_lines site letter

unfoldable pub mail_transaction : Site → Letter → List ℕ
mail_transaction site letter = text_of_lines (transaction_lines site letter)

-- the whole session
unfoldable pub outbox_of : Site → List Letter → List ℕ
outbox_of site letters = greeting site ++ flat_map (mail_transaction site) letters ++ goodbye
