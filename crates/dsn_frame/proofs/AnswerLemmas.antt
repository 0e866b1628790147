-- Answers: their frames, one answer more, and the answer that each frame gets.
use Rattle.std.proofs.Common.{◌≡◌, ℕ, suc, ◌+◌, List, [], ◌∷◌, ◌++◌, length, refl, ap, append_assoc, arith}
use Rattle.std.proofs.lemmas.List.{append-nil}
use Rattle.dsn_frame.specs.bodies.Spoken.{answer_bytes, answer_frames_from, told_each, told_to}
use Rattle.dsn_frame.specs.declared.bodies.spoken.Spoken.{Spoken}

-- one more answer is one more frame, at the end
pub answer_frames_from-more : (place : ℕ) (answers : List Spoken) (answer : Spoken) → answer_frames_from place (answers ++ answer ∷ []) ≡ answer_frames_from place answers ++ answer_bytes (place + length answers) answer
unfolding answer_frames_from
answer_frames_from-more place [] answer =
    let at : place + 0 ≡ place = omega arith in
    rw at (append-nil (answer_bytes place answer))
answer_frames_from-more place (first ∷ rest) answer =
    let at : place + suc (length rest) ≡ suc place + length rest = omega arith in
    let more = answer_frames_from-more (suc place) rest answer in
    rw (more, at) (simp append_assoc)

-- ---- the answer that a frame gets

-- one more frame that is answered gets its own answer
pub told-more : (frames : List (List ℕ)) (answers : List Spoken) (bytes : List ℕ) (answer : Spoken) → length frames ≡ length answers → told_each (frames ++ bytes ∷ []) (answers ++ answer ∷ []) ≡ told_each frames answers ++ told_to bytes answer ∷ []
told-more [] [] bytes answer as_many = refl
told-more [] (first ∷ answers) bytes answer as_many = absurd (omega (arith, as_many))
told-more (frame ∷ frames) [] bytes answer as_many = absurd (omega (arith, as_many))
told-more (frame ∷ frames) (first ∷ answers) bytes answer as_many =
    ap (λ (said : List Spoken). told_to frame first ∷ said) (told-more frames answers bytes answer (omega (arith, as_many)))

-- one more frame that isn't answered gets no answer
pub told-unanswered : (frames : List (List ℕ)) (answers : List Spoken) (bytes : List ℕ) → length frames ≡ length answers → told_each (frames ++ bytes ∷ []) answers ≡ told_each frames answers
told-unanswered [] [] bytes as_many = refl
told-unanswered [] (first ∷ answers) bytes as_many = absurd (omega (arith, as_many))
told-unanswered (frame ∷ frames) [] bytes as_many = absurd (omega (arith, as_many))
told-unanswered (frame ∷ frames) (first ∷ answers) bytes as_many =
    ap (λ (said : List Spoken). told_to frame first ∷ said) (told-unanswered frames answers bytes (omega (arith, as_many)))

-- if all frames are answered, the number of answers stays the same
pub told-length : (frames : List (List ℕ)) (answers : List Spoken) → length frames ≡ length answers → length (told_each frames answers) ≡ length answers
told-length [] [] as_many = refl
told-length [] (first ∷ answers) as_many = absurd (omega (arith, as_many))
told-length (frame ∷ frames) [] as_many = refl
told-length (frame ∷ frames) (first ∷ answers) as_many = ap suc (told-length frames answers (omega (arith, as_many)))
