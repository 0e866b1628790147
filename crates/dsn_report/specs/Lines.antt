-- Lines: a message is a list of them, each ended by CRLF (RFC 5322 section 2.1).
use Rattle.std.specs.Prelude.{ℕ, Bool, false, ◌&&◌, List, [], ◌∷◌, ◌++◌, ◌==◌, drop, if◌then◌else◌}
use Rattle.std.specs.List.{onto_first}

-- the length limit of a mail's line, in bytes without its CRLF (RFC 5322 section 2.1.1)
abbrev pub longest_line : ℕ
longest_line = 998

-- the text of these lines, each with its CRLF
unfoldable pub text_of_lines : List (List ℕ) → List ℕ
text_of_lines [] = []
text_of_lines (line ∷ rest) = line ++ (13 ∷ 10 ∷ text_of_lines rest)

abbrev pub begins_with_line_feed : List ℕ → Bool
begins_with_line_feed [] = false
begins_with_line_feed (byte ∷ rest) = byte == 10

abbrev pub without_first_byte : List (List ℕ) → List (List ℕ)
without_first_byte [] = []
without_first_byte (piece ∷ rest) = drop 1 piece ∷ rest

-- the pieces of a text with one more byte in front, given the text and its pieces
unfoldable pub pieces_more : ℕ → List ℕ → List (List ℕ) → List (List ℕ)
pieces_more byte rest pieces =
    if (byte == 13) && begins_with_line_feed rest then [] ∷ without_first_byte pieces
    else onto_first byte pieces

-- the pieces between the CRLFs of a message's bytes, as a reader takes them; the last piece follows
-- the last CRLF, and is empty if the text ends there; a CR or LF alone is a byte of a piece; this
-- is defined from the bytes alone, independent of the writer, and proofs/ReaderExamples.antt
-- computes it on small examples
unfoldable pub pieces_of_text : List ℕ → List (List ℕ)
pieces_of_text [] = [] ∷ []
pieces_of_text (byte ∷ rest) = pieces_more byte rest (pieces_of_text rest)

-- the text of these pieces, with a CRLF between each and the next
unfoldable pub text_of_pieces : List (List ℕ) → List ℕ
text_of_pieces [] = []
text_of_pieces (piece ∷ []) = piece
text_of_pieces (piece ∷ next ∷ rest) = piece ++ (13 ∷ 10 ∷ text_of_pieces (next ∷ rest))

abbrev pub begins_with_dot : List ℕ → Bool
begins_with_dot [] = false
begins_with_dot (byte ∷ rest) = byte == 46

-- a line as SMTP carries it: a line that begins with a dot gets another dot in front (RFC 5321
-- section 4.5.2)
unfoldable pub dot_stuffed : List ℕ → List ℕ
dot_stuffed line = if begins_with_dot line then 46 ∷ line else line
