use Rattle.dsn_submission.specs.Waiting.{empty_queue}
use Rattle.dsn_submission.specs.WaitingLaws.{after_events}
use Rattle.dsn_submission.proofs.LawLemmas.{all_have_places, all_orderly, orderly_in_order}
use Rattle.dsn_submission.proofs.laws.letters_keep_their_places.Goals as goal

pub returns-clause-places : goal.returns-clause-places
returns-clause-places g c mark events = all_have_places mark events

pub returns-clause-orderly : goal.returns-clause-orderly
returns-clause-orderly g c mark events = all_orderly mark events

pub returns-clause-in_order : goal.returns-clause-in_order
returns-clause-in_order g c mark events = orderly_in_order (after_events (empty_queue mark) events) (all_orderly mark events)
