-- Worked examples of frames, computed by the definitions.
use Rattle.std.proofs.Common.{ℕ, List, [], ◌∷◌, ◌++◌, refl, lit<, lit≤, arith}
use Rattle.std.specs.Prelude.{Some, None}
use Rattle.dsn_frame.specs.bodies.FrameBody.{frame}
use Rattle.dsn_frame.proofs.bodies.Examples.{append_body, flush_body}
use Rattle.dsn_frame.specs.Frame.{AreFramesOf}
use Rattle.dsn_frame.specs.declared.frame_fault.FrameFault.TheVariants.{TooLong, Empty, CutShort}

-- the input of this agent is these two frames; without its last byte it is one frame and a fault
unfoldable pub agent_input : List ℕ
agent_input = frame append_body ++ frame flush_body

pub two_frames : AreFramesOf agent_input (append_body ∷ flush_body ∷ []) None
unfolding agent_input
two_frames = record {
  rest = [];
  begins = record { front = refl; whole = ((lit≤ tt, lit≤ tt), ((lit≤ tt, lit≤ tt), tt)) };
  ends = refl;
}

cut_in_length : AreFramesOf (frame append_body ++ (0 ∷ 0 ∷ [])) (append_body ∷ []) (Some CutShort)
cut_in_length = record {
  rest = 0 ∷ 0 ∷ [];
  begins = record { front = refl; whole = ((lit≤ tt, lit≤ tt), tt) };
  ends = (lit< tt, λ h. absurd (omega arith));
}

-- a length that no frame has
too_long : AreFramesOf (0 ∷ 1 ∷ 0 ∷ 1 ∷ []) [] (Some TooLong)
too_long = record {
  rest = 0 ∷ 1 ∷ 0 ∷ 1 ∷ [];
  begins = record { front = refl; whole = tt };
  ends = (lit≤ tt, lit< tt);
}

empty_frame : AreFramesOf (0 ∷ 0 ∷ 0 ∷ 0 ∷ []) [] (Some Empty)
empty_frame = record {
  rest = 0 ∷ 0 ∷ 0 ∷ 0 ∷ [];
  begins = record { front = refl; whole = tt };
  ends = (lit≤ tt, refl);
}
