-- The result of sending a text or of reading bytes, if the device may fail on the way. If a device
-- doesn't expose its bytes, nothing is claimed, as in the contracts of std's readers and writers.
use Rattle.std.specs.Prelude.{◌≡◌, ℕ, ◌<◌, List, ◌++◌, length, Option}
use Rattle.std.specs.Io.KnownBytes.{Appends, Consumes}

-- known bytes grow by a front of the text: none of it, some or all
pub record AppendsFront (old new : Option (List ℕ)) (text : List ℕ) : Type 0 where
  pub front : List ℕ
  pub unsent : List ℕ
  pub split : text ≡ front ++ unsent
  pub appended : Appends old new front

-- known bytes grow by a front of the text, but not by all of it
pub record AppendsPart (old new : Option (List ℕ)) (text : List ℕ) : Type 0 where
  pub front : List ℕ
  pub unsent : List ℕ
  pub some : 0 < length unsent
  pub split : text ≡ front ++ unsent
  pub appended : Appends old new front

-- known bytes lose a front of fewer bytes than the limit
pub record ConsumesFewer (old new : Option (List ℕ)) (limit : ℕ) : Type 0 where
  pub taken : List ℕ
  pub few : length taken < limit
  pub consumed : Consumes old new taken
