-- Posting: the result of the poster's thread.
use Rattle.std.specs.Prelude.{◌≡◌, ◌+◌, ◌≤◌, List, [], ◌++◌, length, is_none}
use Rattle.dsn_crew.specs.lane.Halves.{Identity}
use Rattle.dsn_outcome.specs.Letter.{Letter}
use Rattle.dsn_crew.specs.post.Parcel.{Parcel}
use Rattle.dsn_crew.specs.declared.post.outlet.Outlet.{Ghosts as Outlet}
use Rattle.dsn_crew.specs.declared.post.posting.Posting.{Posting}

-- what the promise of a poster's thread remembers: the outlet as it was, and the lane of letters
pub record Posts (O : Type 0) : Type 0 where
  pub begun : O
  pub lane : Identity Parcel

-- The result of a poster's thread. The letters that came over its lane were passed to the outlet,
-- after what was passed before, until the end mark came or the lane was lost. If none came, what is
-- left of the outlet is left of one to which no letter was passed
pub record IsPosting {O L : Type 0} (outlet : Outlet O L) (begun : O) (lane : Identity Parcel)
    (end : Posting O) : Type 0 where
  pub lane_is : end.source.lane ≡ lane
  pub count : end.handed ≡ length end.source.letters
  pub posted : (start : O) (first : List Letter)
      → outlet.posted start first begun
      → outlet.posted start (first ++ end.source.letters) end.outlet
  pub few : outlet.unsent end.outlet ≤ outlet.unsent begun + length end.source.letters
  pub untouched : end.source.letters ≡ []
      → (left : L) → outlet.untouched end.outlet left → outlet.untouched begun left
  pub ended : end.source.marked ≡ is_none end.lost
