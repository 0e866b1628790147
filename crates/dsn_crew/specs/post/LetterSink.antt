-- Letter sinks: what contracts see of the sending half of the lane of letters.
use Rattle.std.specs.Prelude.{◌≡◌, List, [], ◌∷◌, ◌++◌}
use Rattle.dsn_crew.specs.lane.Halves.{Identity}
use Rattle.dsn_outcome.specs.Letter.{Letter}
use Rattle.dsn_crew.specs.post.Parcel.{Parcel}

-- its lane, and the letters that it has sent, in order
pub record LetterSink : Type 0 where
  pub lane : Identity Parcel
  pub letters : List Letter

-- it takes a letter
abbrev pub TakesLetter : LetterSink → Letter → LetterSink → Type 0
TakesLetter old letter new = new ≡ record { lane = old.lane; letters = old.letters ++ letter ∷ [] }
