-- The number of bytes of some lines with a line feed each: for the returned lines it is at most one more than that of
-- the text.
use Rattle.std.proofs.Common.{◌≡◌, ℕ, zero, suc, ◌+◌, ◌-◌, ◌≤◌, Bool, true, false, List, [], ◌∷◌, length, get_or, take, map, cond, not, arith, if◌then◌else◌}
use Rattle.std.specs.Prelude.{◌==◌}
use Rattle.std.specs.List.{onto_first, slice_split, prefix_len}
use Rattle.std.specs.Str.Lines.{lines, lines_of_parts, strip_carriage_return}
use Rattle.std.proofs.lemmas.List.{length-map, length-take}
use Rattle.dsn_outcome.specs.Draft.{Draft}
use Rattle.dsn_report.specs.Boundary.{header_lines, returned_lines, returns_message, shown_byte, shown_line}

unfoldable pub room : List (List ℕ) → ℕ
room [] = 0
room (line ∷ rest) = (length line + 1) + room rest

room-onto_first : (b : ℕ) (parts : List (List ℕ)) (n : ℕ) → room parts ≡ suc n → room (onto_first b parts) ≡ suc (suc n)
unfolding room
room-onto_first b [] n e = absurd (omega arith)
room-onto_first b (part ∷ parts) n e = omega arith

-- the parts of a text take its length plus one
room-slice_split : (p : ℕ → Bool) (text : List ℕ) → room (slice_split p text) ≡ suc (length text)
unfolding room
room-slice_split p [] = omega arith
room-slice_split p (b ∷ text) = here (p b) (slice_split p text) (room-slice_split p text)
  where
    here : (test : Bool) (parts : List (List ℕ)) → room parts ≡ suc (length text) → room (cond test ([] ∷ parts) (onto_first b parts)) ≡ suc (suc (length text))
    here true parts e = omega arith
    here false parts e = room-onto_first b parts (length text) e

length-strip : (line : List ℕ) → length (strip_carriage_return line) ≤ length line
length-strip line = here (get_or line (length line - 1) 0 == 13)
  where
    here : (test : Bool) → length (if test then take (length line - 1) line else line) ≤ length line
    here true = omega (arith, length-take (length line - 1) line)
    here false = omega arith

room-lines_of_parts : (parts : List (List ℕ)) → room (lines_of_parts parts) ≤ room parts
unfolding room
room-lines_of_parts [] = omega arith
room-lines_of_parts (x ∷ []) = here (length x == 0)
  where
    here : (test : Bool) → room (if test then [] else x ∷ []) ≤ (length x + 1) + 0
    here true = omega arith
    here false = omega arith
room-lines_of_parts (x ∷ y ∷ more) = omega (arith, length-strip x, room-lines_of_parts (y ∷ more))

room-take : (n : ℕ) (ls : List (List ℕ)) → room (take n ls) ≤ room ls
unfolding room
room-take zero ls = omega arith
room-take (suc n) [] = omega arith
room-take (suc n) (line ∷ ls) = omega (arith, room-take n ls)

room-shown : (ls : List (List ℕ)) → room (map shown_line ls) ≤ room ls
unfolding room
room-shown [] = omega arith
room-shown (line ∷ ls) = omega (arith, room-shown ls, length-take 998 (map shown_byte line), length-map line shown_byte)

-- the lines of a text, and those of its header
room-lines : (text : List ℕ) → room (lines text) ≤ length text + 1
room-lines text =
    let parts = slice_split {X = ℕ} (λ b. b == 10) text in
    omega (arith, room-lines_of_parts parts, room-slice_split (λ b. b == 10) text)

room-header : (text : List ℕ) → room (map shown_line (header_lines text)) ≤ length text + 1
unfolding header_lines
room-header text =
    let n = prefix_len (λ line. not (length line == 0)) (lines text) in
    omega (arith, room-shown (take n (lines text)), room-take n (lines text), room-lines text)

-- the returned lines
pub room-returned : (draft : Draft) → room (returned_lines draft) ≤ length draft.header + 1
unfolding returned_lines
room-returned draft = here (returns_message draft)
  where
    here : (whole : Bool) → room (if whole then lines draft.header else map shown_line (header_lines draft.header)) ≤ length draft.header + 1
    here true = room-lines draft.header
    here false = room-header draft.header
