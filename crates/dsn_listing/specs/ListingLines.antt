-- The lines of a listing, each ended by LF alone (this project's profile).
use Rattle.std.specs.Prelude.{ℕ, List, length, ◌++◌, codes, decimal, min, if◌then◌else◌, []}
use Rattle.std.specs.List.{flat_map}
use Rattle.dsn_book.specs.declared.open_line.OpenLine.{OpenLine}
use Rattle.dsn_journal.specs.SettledLetters.{is_settled}
use Rattle.dsn_outcome.specs.Letter.{Letter, most_counted}
use Rattle.dsn_text.specs.declared.key.Key.{Key}
use Rattle.dsn_notes.specs.Notes.{key_words, open_line}

-- the number that a line prints for a count: 18,446,744,073,709,551,615 means that number or more
abbrev pub told : ℕ → ℕ
told count = min count most_counted

-- the line of a closed key
unfoldable pub closed_line : Key → List ℕ
closed_line key = codes "closed " ++ key_words key ++ codes "\n"

-- the first part of the line of a letter that no mark counts: its key
unfoldable pub unmarked_key : Letter → List ℕ
unmarked_key letter = codes "unmarked " ++ key_words letter.key

-- the rest of that line: how many outcomes the letter has, and its serial
unfoldable pub unmarked_counts : Letter → List ℕ
unmarked_counts letter =
    codes " " ++ decimal (told (length letter.outcomes)) ++ codes " " ++ decimal letter.serial
    ++ codes "\n"

-- the line of a letter that isn't settled by these edges; none if it is
unfoldable pub unmarked_line : List ℕ → Letter → List ℕ
unmarked_line edges letter = if is_settled edges letter.serial then [] else unmarked_key letter ++ unmarked_counts letter

-- the line of the mark: how many letters, those with the lowest serials, reached a synced outbox
unfoldable pub marked_line : ℕ → List ℕ
marked_line mark = codes "marked " ++ decimal mark ++ codes "\n"

-- the line of the number of sealed letters
unfoldable pub sealed_line : ℕ → List ℕ
sealed_line sealed = codes "sealed " ++ decimal (told sealed) ++ codes "\n"

-- the line of how many bytes the records take, and how many the file has
unfoldable pub bytes_line : ℕ → ℕ → List ℕ
bytes_line used size = codes "bytes " ++ decimal used ++ codes " " ++ decimal size ++ codes "\n"

unfoldable pub closed_lines : List Key → List ℕ
closed_lines keys = flat_map closed_line keys

unfoldable pub unmarked_lines : List ℕ → List Letter → List ℕ
unmarked_lines edges letters = flat_map (unmarked_line edges) letters

-- the last lines: the mark, how many letters were sealed, and the bytes
unfoldable pub last_lines : ℕ → ℕ → ℕ → ℕ → List ℕ
last_lines mark sealed used size =
    marked_line mark ++ (sealed_line sealed ++ bytes_line used size)

-- all lines: the open logs, the closed keys, those of the letters that aren't settled by these edges, and the last ones
unfoldable pub listing_lines : List OpenLine → List Key → List ℕ → List Letter → List ℕ → List ℕ
listing_lines logs closed edges letters last =
    flat_map open_line logs ++ (closed_lines closed ++ (unmarked_lines edges letters ++ last))
