use Rattle.dsn_frame.proofs.SessionFrames.{takes_its_frames}
use Rattle.dsn_frame.proofs.laws.sessions_take_the_frames_of_their_bytes.Goals as goal

pub returns : goal.returns
returns c = takes_its_frames
