-- Which lemmas the tactics use, by what they prove with them.
use Rattle.noticed_lib.proofs.client.SendLemmas.{sent-nothing, sent-one}

-- one frame after another
pub ruleset sends = (sent-nothing, sent-one)
