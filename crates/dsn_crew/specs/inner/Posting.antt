-- Posting: the end of an outlet, once all letters were sent to the poster.
use Rattle.std.specs.Prelude.{◌≡◌, ◌↔◌, ℕ, ◌+◌, ◌≤◌, Bool, true, List, ◌++◌, length, None}
use mathlib.Core.List.{IsPrefix}
use Rattle.dsn_crew.specs.declared.post.outlet.Outlet.{Ghosts as Outlet}
use Rattle.dsn_crew.specs.declared.post.posted.Posted.{Posted}
use Rattle.dsn_outcome.specs.Letter.{Letter}

-- An outlet at its end, if these letters were sent in this order over a lane in which at most the
-- given number wait. The poster received a prefix of them, which lacks at most that number. Each
-- letter of it is posted or unsent, and the outlet ended after the letters passed before and these.
-- The lane was not lost exactly if the poster received the end mark and all letters before it
pub record IsPosted {O L : Type 0} (outlet : Outlet O L) (begun : O) (waiting : ℕ)
    (sent : List Letter) (end : Posted L) : Type 0 where
  pub letters : List Letter
  pub came : IsPrefix letters sent
  pub few : length sent ≤ length letters + waiting
  pub marked : Bool
  pub whole : (end.lost ≡ None) ↔ ((marked ≡ true) × (letters ≡ sent))
  pub count : end.posted + length end.end.unsent ≡ length letters
  pub ended : (start : O) (first : List Letter)
      → outlet.posted start first begun
      → outlet.ended start (first ++ letters) end.end
