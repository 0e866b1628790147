-- Sent answers: one answer more, which was written or lost.
use Rattle.std.proofs.Common.{◌≡◌, ℕ, ◌+◌, true, false, List, [], ◌∷◌, ◌++◌, length, length-append, refl, arith}
use Rattle.std.specs.Prelude.{Option, Result, Ok, Err, OnOk, OnErr, is_err}
use Rattle.std.specs.Io.KnownBytes.{Appends}
use Rattle.std.proofs.KnownBytes.{Appends-trans}
use Rattle.dsn_device.specs.Transfer.{AppendsPart}
use Rattle.dsn_frame.specs.declared.bodies.spoken.Spoken.{Spoken}
use Rattle.dsn_frame.specs.SentAnswers.{AnswersSent}

-- laws of a result that is an error, and of one that isn't
pub OnErr-is_err : {T E : Type 0} (result : Result T E) (P : Type 0) → is_err result ≡ true → OnErr result P → P
OnErr-is_err (Ok value) P is holds = absurd (let never : false ≡ true = is in cc)
OnErr-is_err (Err fault) P is holds = holds

pub OnOk-is_err : {T E : Type 0} (result : Result T E) (P : Type 0) → is_err result ≡ false → OnOk result P → P
OnOk-is_err (Ok value) P is holds = holds
OnOk-is_err (Err fault) P is holds = absurd (let never : true ≡ false = is in cc)

pub length-more : {A : Type 0} (xs : List A) (x : A) (count : ℕ) → length xs ≡ count → length (xs ++ x ∷ []) ≡ count + 1
length-more xs x count e = omega (arith, e, length-append xs (x ∷ []))

module _ (text : ℕ → Spoken → List ℕ) (texts : ℕ → List Spoken → List ℕ) (a b c : Option (List ℕ)) (answers : List Spoken) (answer : Spoken) (count : ℕ) (counted_so : length answers ≡ count) (before : Appends a b (texts 0 answers)) where
  -- one answer more was written
  pub sent-more : texts 0 (answers ++ answer ∷ []) ≡ texts 0 answers ++ text (0 + length answers) answer → Appends b c (text count answer) → AnswersSent text texts false a c (answers ++ answer ∷ [])
  sent-more more one =
      let place : 0 + length answers ≡ count = omega (arith, counted_so) in
      rw (more, place) (Appends-trans a b c (texts 0 answers) (text count answer) before one)

  -- one answer more could not be written
  pub sent-lost : AppendsPart b c (text count answer) → AnswersSent text texts true a c (answers ++ answer ∷ [])
  sent-lost part = record {
    before = answers;
    last = answer;
    answers_are = refl;
    part = part.front;
    lost = part.unsent;
    some = part.some;
    text_is = rw counted_so part.split;
    appended = Appends-trans a b c (texts 0 answers) part.front before part.appended;
  }
