-- Which lemmas the tactics use, by what they prove with them.
use Rattle.std.proofs.lemmas.List.{length-append}

-- the length of two texts in a row
pub ruleset lengths = length-append
