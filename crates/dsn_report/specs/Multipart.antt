-- How a mail program divides the body of a multipart message (RFC 2046 section 5.1.1). It uses only
-- the boundary and the message's bytes, and doesn't depend on the writer.
use Rattle.std.specs.Prelude.{◌≡◌, ℕ, Bool, false, List, [], ◌∷◌, ◌++◌, map, Option, Some, None, option_map, codes, if◌then◌else◌, nat_eq}
use Rattle.std.specs.List.{starts_with}
use Rattle.dsn_outcome.specs.Letter.{Letter}
use Rattle.dsn_report.specs.Boundary.{boundary_of, is_delimiter, returned_lines, returns_eight_bit, returns_message}
use Rattle.dsn_report.specs.DeliveryStatus.{delivery_status}
use Rattle.dsn_report.specs.Lines.{pieces_of_text, text_of_lines, text_of_pieces}
use Rattle.dsn_report.specs.Notice.{encoding_lines, notice_of, notification, notification_type, preface_of, returned_description, returned_type, words_of}
use Rattle.dsn_report.specs.Site.{Site}

-- the lines before the first delimiter, the parts, and the lines after the last delimiter, if there
-- is one
pub record Division : Type 0 where
  pub before : List (List ℕ)
  pub parts : List (List (List ℕ))
  pub after : Option (List (List ℕ))

-- whether a line is a delimiter that no part follows
abbrev pub is_last_delimiter : List ℕ → List ℕ → Bool
is_last_delimiter boundary line = starts_with nat_eq line (codes "--" ++ boundary ++ codes "--")

-- the division with one more line in front, given the lines after it and their division
unfoldable pub divide_more : List ℕ → List ℕ → List (List ℕ) → Division → Division
divide_more boundary line rest division =
    if is_delimiter boundary line
    then (if is_last_delimiter boundary line
    then record { before = []; parts = []; after = Some rest }
    else record { before = []; parts = division.before ∷ division.parts; after = division.after })
    else record { before = line ∷ division.before; parts = division.parts; after = division.after }

unfoldable pub divide : List ℕ → List (List ℕ) → Division
divide boundary [] = record { before = []; parts = []; after = None }
divide boundary (line ∷ rest) = divide_more boundary line rest (divide boundary rest)

-- the texts of a multipart message's parts; the preamble, if the first delimiter isn't the first
-- line; and the epilogue, if there is a last delimiter; the CRLF before a delimiter belongs to it
pub record Multipart : Type 0 where
  pub preamble : Option (List ℕ)
  pub parts : List (List ℕ)
  pub epilogue : Option (List ℕ)

abbrev pub text_if_any : List (List ℕ) → Option (List ℕ)
text_if_any [] = None
text_if_any (piece ∷ rest) = Some (text_of_pieces (piece ∷ rest))

abbrev pub multipart_of_pieces : Division → Multipart
multipart_of_pieces division = record {
  preamble = text_if_any division.before;
  parts = map text_of_pieces division.parts;
  epilogue = option_map text_of_pieces division.after;
}

-- the body of a message: the lines after the first empty one (RFC 5322 section 2.1)
unfoldable pub message_body : List (List ℕ) → List (List ℕ)
message_body [] = []
message_body ([] ∷ rest) = rest
message_body ((byte ∷ line) ∷ rest) = message_body rest

-- the message's bytes, divided at this boundary
unfoldable pub multipart_of : List ℕ → List ℕ → Multipart
multipart_of boundary text = multipart_of_pieces (divide boundary (message_body (pieces_of_text text)))

-- the lines of a part as it is written
unfoldable pub part_lines : List ℕ → List ℕ → Bool → List (List ℕ) → List (List ℕ)
part_lines description content_type eight_bit body =
    (codes "Content-Description: " ++ description)
    ∷ (codes "Content-Type: " ++ content_type)
    ∷ encoding_lines eight_bit
    ++ [] ∷ body

-- the returned part, if there are returned lines
unfoldable pub returned_parts : List ℕ → List ℕ → Bool → List (List ℕ) → List (List (List ℕ))
returned_parts description content_type eight_bit [] = []
returned_parts description content_type eight_bit (line ∷ rest) =
    part_lines description content_type eight_bit (line ∷ rest) ∷ []

-- the parts of a notice
unfoldable pub notice_parts : Site → Letter → List (List (List ℕ))
notice_parts site letter =
    part_lines (codes "Notification") (notification_type site letter)
    (preface_of site letter).eight_bit (notification site letter)
    ∷ part_lines (codes "Delivery report") (codes "message/delivery-status") false
    (delivery_status site.host letter)
    ∷ returned_parts (returned_description (words_of letter) (returns_message letter.draft))
    (returned_type (returns_message letter.draft)) (returns_eight_bit letter.draft)
    (returned_lines letter.draft)

-- a reader that divides a notice's bytes at its boundary gets its parts, each with the CRLF of its
-- last line, and nothing before and nothing after them
abbrev pub DividesIntoParts : Site → Letter → Type 0
DividesIntoParts site letter =
    multipart_of (boundary_of letter) (notice_of site letter)
    ≡ record {
      preamble = None;
      parts = map text_of_lines (notice_parts site letter);
      epilogue = Some [];
    }
