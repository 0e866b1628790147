-- The bytes that a crash leaves of a device with a clock, at each moment of a run of its calls.
use Rattle.std.specs.Prelude.{◌≡◌, ◌⊎◌, ℕ, ◌≤◌, List}

-- a crash at any moment from the first state to the second leaves bytes with the property P;
-- moments are numbers, and `left_since` has the bytes that a crash since a moment may have left
pub record LeavesThroughout {K : Type 0} (moment : K → ℕ) (left_since : K → ℕ → List ℕ → Type 0)
    (old new : K) (P : List ℕ → Type 0) : Type 0 where
  pub later : moment old ≤ moment new
  pub each : (left : List ℕ) → left_since new (moment old) left → P left
  -- for a run that began earlier
  pub before : (t : ℕ) (left : List ℕ) → t ≤ moment old → left_since new t left
      → left_since old t left ⊎ P left

-- a call takes no time: a crash since an earlier moment may have left only bytes that it may have
-- left before
abbrev pub StandsStill : ℕ → ℕ → (ℕ → List ℕ → Type 0) → (ℕ → List ℕ → Type 0) → Type 0
StandsStill before now past since =
    (now ≡ before) × ((t : ℕ) (left : List ℕ) → since t left → past t left)
