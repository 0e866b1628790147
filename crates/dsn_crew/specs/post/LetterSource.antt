-- Letter sources: what contracts see of the receiving half of the lane of letters.
use Rattle.std.specs.Prelude.{Bool, List}
use Rattle.dsn_crew.specs.lane.Halves.{Identity}
use Rattle.dsn_outcome.specs.Letter.{Letter}
use Rattle.dsn_crew.specs.post.Parcel.{Parcel}

-- its lane, the letters that it has taken, in order, and whether the end mark came after them
pub record LetterSource : Type 0 where
  pub lane : Identity Parcel
  pub letters : List Letter
  pub marked : Bool
