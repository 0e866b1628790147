use Rattle.dsn_frame.proofs.bodies.Existence.{accepted_is_encoded}
use Rattle.dsn_frame.proofs.bodies.RequestLaws.{encoded_is_accepted, encodes_one}
use Rattle.dsn_frame.proofs.bodies.laws.bodies_are_requests_or_refused.Goals as goal

pub returns-clause-some : goal.returns-clause-some
returns-clause-some c bytes fits = accepted_is_encoded bytes fits

pub returns-clause-accepted : goal.returns-clause-accepted
returns-clause-accepted c bytes number body = encoded_is_accepted bytes number body

pub returns-clause-one : goal.returns-clause-one
returns-clause-one c bytes number other body elsewise = encodes_one bytes number other body elsewise
