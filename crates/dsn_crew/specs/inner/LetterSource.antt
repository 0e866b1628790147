-- Letter sinks: what contracts see of the sending half of the lane of letters.
use Rattle.std.specs.Prelude.{Bool, List, Option, Some, None, ◌≡◌, false, [], ◌∷◌, ◌++◌, Result, Ok, Err, ℕ, suc, true}
use Rattle.std.specs.Option.{option_to_list}
use Rattle.dsn_crew.specs.declared.lane.lane_gone.LaneGone.{LaneGone}
use Rattle.dsn_crew.specs.lane.Halves.{Identity, Out}
use Rattle.dsn_crew.specs.post.LetterSource.{LetterSource}
use Rattle.dsn_crew.specs.post.Parcel.{Parcel}
use Rattle.dsn_outcome.specs.Letter.{Letter}

-- the sending half at its end, after the end mark if it was sent
pub record FinishedSink : Type 0 where
  pub lane : Identity Parcel
  pub letters : List Letter
  pub marked : Bool

-- the result of taking: the next letter; or none, if the end mark came, none waits, or the lane is
-- lost
abbrev pub HasTaken : LetterSource → LetterSource → Result (Option Letter) LaneGone → Type 0
HasTaken old new (Ok (Some letter)) =
    (old.marked ≡ false)
    × (new ≡ record { lane = old.lane; letters = old.letters ++ letter ∷ []; marked = false })
HasTaken old new (Ok None) =
    (new.lane ≡ old.lane) × (new.letters ≡ old.letters)
HasTaken old new (Err gone) =
    (new.lane ≡ old.lane) × (new.letters ≡ old.letters) × (new.marked ≡ false)

-- the parcels of these letters, numbered from `number` on, and after them the end mark if it was
-- sent
abbrev pub parcels_from : ℕ → List Letter → Bool → List Parcel
parcels_from number (letter ∷ rest) marked =
    record { number = number; letter = Some letter } ∷ parcels_from (suc number) rest marked
parcels_from number [] true = record { number = number; letter = None } ∷ []
parcels_from number [] false = []

abbrev pub parcels_of : List Letter → Bool → List Parcel
parcels_of letters marked = parcels_from 0 letters marked

-- the receiving half of the lane that carries them
abbrev pub taken_parcels : LetterSource → Out Parcel
taken_parcels source =
    record {
      lane = source.lane;
      first = 0;
      past = 1;
      taken = parcels_of source.letters source.marked;
    }

-- the letters of these parcels
abbrev pub letters_of : List Parcel → List Letter
letters_of [] = []
letters_of (first ∷ rest) = option_to_list first.letter ++ letters_of rest
