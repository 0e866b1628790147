-- The requests of an input that is read alone, and the answers to them (this project's profile).
use Rattle.std.specs.Prelude.{List, length, ℕ, ◌≡◌, ◌+◌, [], ◌∷◌, ◌++◌}
use Rattle.dsn_book.specs.Book.{Represents}
use Rattle.dsn_device.specs.declared.drain.Drain.{Ghosts as Drain}
use Rattle.dsn_frame.specs.Session.{Input, Takes}
use Rattle.dsn_frame.specs.declared.bodies.spoken.Spoken.{Spoken}
use Rattle.dsn_outcome.specs.History.{Limits, history_of, answer_of, exchange_of, replied_in, sealed_letters}
use Rattle.dsn_outcome.specs.Request.{Request, Body}
use Rattle.dsn_outcome.specs.declared.answer.Replied.{Replied}
use Rattle.dsn_report.specs.Outgoing.{Delivered}
use Rattle.dsn_report.specs.Site.{Site}
use Rattle.noticed_lib.specs.batch_run.Requests.{AreReplies, requests_of}
use Rattle.noticed_lib.specs.declared.batch_run.run.Run.{Run}
use Rattle.dsn_frame.specs.declared.session.Turn.{Turn}
use Rattle.dsn_frame.specs.inner.Session.{end_after}

-- the next request after these: its number is how many there are
abbrev pub next_request : List Request → Body → Request
next_request requests body = record { agent = 0; number = length requests; body = body }

-- what the next request after these is answered: the reply that their history decides, and the
-- serial of the letter that is sealed with it
abbrev pub replied_next : Limits → List Request → Body → Replied
replied_next limits requests body =
    replied_in
    (answer_of (history_of limits requests)
    (exchange_of limits (history_of limits requests) (next_request requests body)))

-- how many requests a run takes at most: they are counted in four bytes
abbrev pub most_accepted : ℕ
most_accepted = 4294967295

-- the book models the requests' history, and the letters of that history were passed on
pub record Stands {W : Type 0} (outbox_device : Drain W) (limits : Limits) (site : Site)
    (start : W) (run : Run W) (requests : List Request) : Type 0 where
  pub limits_kept : run.book.limits ≡ limits
  pub book : Represents run.book (history_of limits requests)
  pub count : run.accepted ≡ length requests
  pub letters : Delivered outbox_device site start run.outgoing
      (sealed_letters (history_of limits requests))

-- a request was taken, and the run models the requests with it
pub record Asks {W : Type 0} (outbox_device : Drain W) (limits : Limits) (site : Site)
    (start : W) (run : Run W) (before : List Request) (body : Body) (reply : Replied) : Type 0 where
  pub reply_is : reply ≡ replied_next limits before body
  pub stands : Stands outbox_device limits site start run (before ++ next_request before body ∷ [])

-- the run models the requests that these bodies make, and their replies are among the answers
pub record RunStands {W : Type 0} (outbox_device : Drain W) (limits : Limits) (site : Site)
    (start : W) (run : Run W) (bodies : List Body) (answers : List Spoken) : Type 0 where
  pub replies : AreReplies limits answers (requests_of bodies)
  pub stands : Stands outbox_device limits site start run (requests_of bodies)

-- a frame was answered as a session answers it, and the run models the requests after it
pub record Answered {W : Type 0} (outbox_device : Drain W) (old new : Run W) (position : ℕ)
    (bytes : List ℕ) (turn : Turn) : Type 0 where
  pub asked : List Body
  pub takes : Takes Input old.book.limits.requests old.accepted position bytes asked
      (turn.answer ∷ []) (end_after turn.over)
  pub counted : new.accepted ≡ old.accepted + length asked
  pub limited : new.book.limits ≡ old.book.limits
  pub then : (limits : Limits) (site : Site) (start : W) (bodies : List Body)
      (answers : List Spoken) → RunStands outbox_device limits site start old bodies answers
      → RunStands outbox_device limits site start new (bodies ++ asked) (answers ++ turn.answer ∷ [])
