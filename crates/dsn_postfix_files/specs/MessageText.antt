-- The text of a queue file's message: its beginning and end, and the text of each record.
use Rattle.std.specs.Prelude.{◌||◌, Bool, true, false, ℕ, List, [], ◌∷◌, ◌++◌, ◌==◌, if◌then◌else◌}
use Rattle.dsn_postfix_files.specs.QueueRecord.{PlacedBytes}

-- whether a type is one of the text: `N` is a line, or the rest of one, with its end; `L` is a part
-- of a line, which the next record continues; `w` fills a place and has no text
abbrev pub is_of_text : ℕ → Bool
is_of_text kind = kind == 78 || (kind == 76 || kind == 119)

abbrev pub text_of_record : PlacedBytes → List ℕ
text_of_record placed =
    if placed.kind == 78 then placed.bytes ++ 10 ∷ []
    else (if placed.kind == 76 then placed.bytes else [])

-- the text begins after the first `M`, and ends before the first later record that isn't of these
-- types
abbrev pub text_from : Bool → List PlacedBytes → List ℕ
text_from within [] = []
text_from false (placed ∷ records) = text_from (placed.kind == 77) records
text_from true (placed ∷ records) =
    if is_of_text placed.kind then text_of_record placed ++ text_from true records else []

abbrev pub message_text : List PlacedBytes → List ℕ
message_text records = text_from false records
