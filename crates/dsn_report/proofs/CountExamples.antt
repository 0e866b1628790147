-- Worked examples of the marks of an outbox that a crash leaves: bytes that encode how many letters are marked.
use Rattle.std.proofs.Common.{◌≡◌, inl, inr, ℕ, List, [], ◌∷◌, ◌++◌, length, ap, arith, length-append, refl}
use Rattle.std.specs.Prelude.{Option, Some, None}
use Rattle.dsn_device.specs.Marking.{SayCount, SayCountOrNext}
use Rattle.dsn_outcome.specs.Letter.{Letter}
use Rattle.dsn_report.specs.Outgoing.{SayCountOfFirst, marked_with}

-- bytes that encode a count are that number alone
abbrev one_number : List ℕ → ℕ → Type 0
one_number left count = left ≡ count ∷ []

-- the number that such bytes encode, and the serials of the first letter and of the next
abbrev number_of : List ℕ → ℕ
number_of [] = 0
number_of (number ∷ more) = number

abbrev first_serial : List Letter → ℕ
first_serial [] = 0
first_serial (letter ∷ more) = letter.serial

abbrev next_serial : List Letter → ℕ
next_serial [] = 0
next_serial (letter ∷ more) = first_serial more

module _ (any : Letter) where
  abbrev letter : ℕ → Letter
  letter serial = record any { serial = serial }

  -- three letters were marked before, and then two more are
  abbrev two : List Letter
  two = letter 3 ∷ letter 4 ∷ []

  both_marked : marked_with two (Some 3) ≡ Some 5
  both_marked = refl

  -- a crash leaves the count before them, or with the first of them, or with both
  none_of_them : SayCountOfFirst one_number (Some 3) two (3 ∷ [])
  none_of_them = record { first = []; rest = two; split = refl; counted_are = refl }

  one_of_them : SayCountOfFirst one_number (Some 3) two (4 ∷ [])
  one_of_them = record { first = letter 3 ∷ []; rest = letter 4 ∷ []; split = refl; counted_are = refl }

  both_of_them : SayCountOfFirst one_number (Some 3) two (5 ∷ [])
  both_of_them = record { first = two; rest = []; split = refl; counted_are = refl }

  -- a greater count isn't left, since there is no third letter
  first_of_two : (first rest : List Letter) → two ≡ first ++ rest → SayCount one_number (marked_with first (Some 3)) (6 ∷ []) → ⊥
  first_of_two [] rest split says = absurd (omega (arith, ap number_of says))
  first_of_two (x ∷ []) rest split says = absurd (omega (arith, ap first_serial split, ap number_of says))
  first_of_two (x ∷ y ∷ []) rest split says = absurd (omega (arith, ap next_serial split, ap number_of says))
  first_of_two (x ∷ y ∷ z ∷ more) rest split says = absurd (omega (arith, ap length split, length-append more rest))

  no_third : SayCountOfFirst one_number (Some 3) two (6 ∷ []) → ⊥
  no_third some = first_of_two some.first some.rest some.split some.counted_are

-- while the letter with serial 3 is marked, a crash leaves 3 or 4
before_it : SayCountOrNext one_number (Some 3) 3 (3 ∷ [])
before_it = inl refl

with_it : SayCountOrNext one_number (Some 3) 3 (4 ∷ [])
with_it = inr refl

-- a device that marks no letters leaves nothing
nothing : (left : List ℕ) → SayCountOrNext one_number None 3 left → ⊥
nothing left (inl says) = says
nothing left (inr says) = says
