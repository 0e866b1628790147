-- The lines of answers, with one more line.
use Rattle.std.proofs.Common.{◌≡◌, ℕ, suc, ◌+◌, List, [], ◌∷◌, ◌++◌, length, append_assoc, arith}
use Rattle.std.proofs.lemmas.List.{append-nil}
use Rattle.dsn_notes.specs.Notes.{answer_line, answer_lines_from}
use Rattle.dsn_frame.specs.declared.bodies.spoken.Spoken.{Spoken}

-- one more answer is one more line, at the end
pub answer_lines_from-more : (position : ℕ) (answers : List Spoken) (answer : Spoken) → answer_lines_from position (answers ++ answer ∷ []) ≡ answer_lines_from position answers ++ answer_line (position + length answers) answer
unfolding answer_lines_from
answer_lines_from-more position [] answer =
    let at : position + 0 ≡ position = omega arith in
    rw at (append-nil (answer_line position answer))
answer_lines_from-more position (first ∷ rest) answer =
    let at : position + suc (length rest) ≡ suc position + length rest = omega arith in
    let more = answer_lines_from-more (suc position) rest answer in
    rw (more, at) (simp append_assoc)
