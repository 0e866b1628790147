-- Sent answers: the texts of answers, written one after another, of which the last may be lost. A
-- text is a line of notes, or an answer's frame.
use Rattle.std.specs.Prelude.{◌≡◌, ℕ, ◌<◌, Bool, true, false, List, [], ◌∷◌, ◌++◌, length, Option}
use Rattle.std.specs.Io.KnownBytes.{Appends}
use Rattle.dsn_frame.specs.declared.bodies.spoken.Spoken.{Spoken}

-- `text` is the text of the answer to the frame at a place, and `texts` those of the answers from a
-- place on
module _ (text : ℕ → Spoken → List ℕ) (texts : ℕ → List Spoken → List ℕ) where
  -- all texts were written except a part of the last one, which isn't empty
  pub record LosesLast (old new : Option (List ℕ)) (answers : List Spoken) : Type 0 where
    pub before : List Spoken
    pub last : Spoken
    pub answers_are : answers ≡ before ++ last ∷ []
    pub part : List ℕ
    pub lost : List ℕ
    pub some : 0 < length lost
    pub text_is : text (length before) last ≡ part ++ lost
    pub appended : Appends old new (texts 0 before ++ part)

  -- the texts that were written, given whether the last one was lost
  abbrev pub AnswersSent : Bool → Option (List ℕ) → Option (List ℕ) → List Spoken → Type 0
  AnswersSent false old new answers = Appends old new (texts 0 answers)
  AnswersSent true old new answers = LosesLast old new answers
