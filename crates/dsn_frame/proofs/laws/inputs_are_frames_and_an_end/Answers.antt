use Rattle.dsn_frame.proofs.Existence.{frames_exist}
use Rattle.dsn_frame.proofs.InputLaws.{one_reading}
use Rattle.dsn_frame.proofs.laws.inputs_are_frames_and_an_end.Goals as goal

pub returns-clause-some : goal.returns-clause-some
returns-clause-some c input fits = frames_exist input fits

pub returns-clause-one : goal.returns-clause-one
returns-clause-one c input bodies others end ending = one_reading input bodies others end ending
