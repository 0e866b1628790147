use Rattle.dsn_frame.proofs.WholeInputLemmas.{taken_whole}
use Rattle.dsn_frame.proofs.laws.requests_in_turn_are_taken.Goals as goal

pub returns : goal.returns
returns c = taken_whole
