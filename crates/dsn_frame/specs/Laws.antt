-- Laws of all inputs: each has one list of frames and one end.
use Rattle.std.specs.Prelude.{◌≡◌, ℕ, List, Option}
use Rattle.dsn_frame.specs.Frame.{AreFramesOf}
use Rattle.dsn_frame.specs.declared.frame_fault.FrameFault.{FrameFault}

-- an input has frames and an end
abbrev pub HasFrames : List ℕ → Type 0
HasFrames input =
    (bodies : List (List ℕ)) × (end : Option FrameFault) × AreFramesOf input bodies end

-- an input has one list of frames, and one end
abbrev pub HasOneReading : List ℕ → Type 0
HasOneReading input =
    (bodies other_bodies : List (List ℕ)) (end other_end : Option FrameFault)
    → AreFramesOf input bodies end → AreFramesOf input other_bodies other_end
    → (bodies ≡ other_bodies) × (end ≡ other_end)
