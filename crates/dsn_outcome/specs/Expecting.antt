-- Flushes that say how many outcomes they expect: one that expects another number changes nothing
-- (this project's profile).
use Rattle.std.specs.Prelude.{◌≡◌, ℕ, true, false, List, [], ◌∷◌, ◌++◌, length, All}
use Rattle.dsn_outcome.specs.Draft.{Draft, differs}
use Rattle.dsn_outcome.specs.Forgetting.{ChangesNothing}
use Rattle.dsn_outcome.specs.History.{Limits, Exchange, log_of, reply_to, exchange_of}
use Rattle.dsn_outcome.specs.Letter.{Letter}
use Rattle.dsn_outcome.specs.Request.{Request, Flush}
use Rattle.dsn_outcome.specs.declared.answer.Reply.TheVariants.{Differs}
use Rattle.dsn_text.specs.declared.key.Key.{Key}

-- a flush of the key is answered with the number of outcomes in its log if it expects another
-- number
abbrev pub AnswersDiffers : Limits → Key → List Exchange → Type 0
AnswersDiffers limits key history =
    (request : Request) (draft : Draft) → request.body ≡ Flush key draft →
    differs draft.expected (length (log_of key history)) ≡ true →
    reply_to limits history request ≡ Differs (length (log_of key history))

-- the next request changes nothing if it is answered Differs
abbrev pub DiffersChangesNothing : Limits → List Exchange → Type 0
DiffersChangesNothing limits history =
    (request : Request) (count : ℕ) → reply_to limits history request ≡ Differs count →
    ChangesNothing history (history ++ exchange_of limits history request ∷ [])

-- each of these letters has as many outcomes as its flush expects
abbrev pub AreAsExpected : List Letter → Type 0
AreAsExpected letters =
    All (λ letter. differs letter.draft.expected (length letter.outcomes) ≡ false) letters
