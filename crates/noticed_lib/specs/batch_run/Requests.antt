-- The requests of an input that is read alone: which they are, and what they are answered (this
-- project's profile).
use Rattle.std.specs.Prelude.{◌≡◌, ℕ, ◌+◌, List, [], ◌∷◌, map}
use Rattle.std.specs.List.{flat_map}
use Rattle.dsn_frame.specs.bodies.Spoken.{reply_of}
use Rattle.dsn_frame.specs.declared.bodies.spoken.Spoken.{Spoken}
use Rattle.dsn_outcome.specs.History.{Limits, history_of, answers_to, replied_in}
use Rattle.dsn_outcome.specs.Request.{Request, Body}

-- the requests that bodies make: of agent 0, numbered one after another
unfoldable pub batch_requests_from : ℕ → List Body → List Request
batch_requests_from number [] = []
batch_requests_from number (body ∷ rest) =
    record { agent = 0; number = number; body = body } ∷ batch_requests_from (number + 1) rest

abbrev pub requests_of : List Body → List Request
requests_of bodies = batch_requests_from 0 bodies

-- the replies among answers are those that the history of the requests defines, in order
pub record AreReplies (limits : Limits) (answers : List Spoken)
    (requests : List Request) : Type 0 where
  pub replies : flat_map reply_of answers
      ≡ map replied_in (answers_to 0 (history_of limits requests))
