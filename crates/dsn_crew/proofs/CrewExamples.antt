-- Worked examples of a whole run: a property of each account, and the answers of a run in which closed
-- keys make room.
use Rattle.std.proofs.Common.{◌≡◌, ◌+◌, ◌≤◌, List, [], ◌∷◌, ℕ, suc, length, map, refl, arith}
use Rattle.std.specs.Prelude.{codes, None}
use Rattle.dsn_book.specs.Book.{Book}
use Rattle.dsn_book.specs.Release.{closed_after, collector, history_releasing, history_under, releasing}
use Rattle.dsn_device.specs.declared.drain.Drain.{Ghosts as Drain}
use Rattle.dsn_outcome.proofs.HistoryLaws.{letters_few}
use Rattle.dsn_outcome.specs.History.{Limits, Exchange, answer_of, answers_after, answers_to, closes_log, exchange_of, held_after, history_after, holds_key, is_forgotten, letter_sealed, outcome_logged, reply_about, reply_to, reply_when_open, since_after}
use Rattle.dsn_outcome.specs.Outcome.{Outcome}
use Rattle.dsn_outcome.specs.Request.{Request, Body, Append, Discard}
use Rattle.dsn_outcome.specs.declared.answer.Reply.{Reply}
use Rattle.dsn_outcome.specs.declared.answer.Reply.TheVariants.{Logged, Closed, TableFull, Discarded, Forgotten}
use Rattle.dsn_text.specs.declared.action.Action.TheVariants.{Failed}
use Rattle.dsn_text.specs.declared.key.Key.{Key}
use Rattle.dsn_text.specs.declared.service.Service.TheVariants.{Bounce}
use Rattle.dsn_crew.specs.Crew.{Account, IsAccount}
use Rattle.dsn_crew.specs.declared.agents.port.Port.{Ghosts as Port}
use Rattle.dsn_report.specs.Site.{Site}

-- a run posts, and names as unsent, no more letters than it took requests
no_more_than_asked : {P S W : Type 0} (port : Port P S) (drain : Drain W) (site : Site) (limits : Limits) (ports : List P) (start : W) (account : Account W Book) → IsAccount port drain site limits ports start account → account.letters + length account.unsent ≤ length account.taken
no_more_than_asked port drain site limits ports start account is = omega (arith, is.count, letters_few limits account.taken)

-- ---- closed keys make room

abbrev two_keys : Limits
two_keys = record { logs = 2; entries = 8; requests = 8 }

-- a permanent failure, with no optional text
abbrev failure : Outcome
failure = record {
  service = Bounce;
  recipient = codes "x@y";
  recipient_type = None;
  original = None;
  original_type = None;
  action = Failed;
  status = codes "5.0.0";
  mta = None;
  diagnostic = None;
  diagnostic_type = None;
  reason = None;
  last_attempt = None;
  retry_until = None;
  extensions = [];
}

abbrev append : List ℕ → Body
append id = Append id failure

abbrev discard : List ℕ → Body
discard id = Discard (record { service = Bounce; id = id })

-- the requests of agent 0, numbered from the given number
abbrev from_number : ℕ → List Body → List Request
from_number number [] = []
from_number number (body ∷ rest) = record { agent = 0; number = number; body = body } ∷ from_number (suc number) rest

-- the history of one agent's requests: K2 is closed before K1, so K3 makes room by K2, and K4 by K1
abbrev run : List Exchange
run = history_under (releasing two_keys) [] (from_number 0 (append (codes "K1") ∷ append (codes "K2") ∷ discard (codes "K2") ∷ discard (codes "K1") ∷ append (codes "K3") ∷ append (codes "K1") ∷ append (codes "K4") ∷ append (codes "K1") ∷ []))

abbrev replies_to : ℕ → List (ℕ × Reply)
replies_to agent = map (λ answer. (answer.number, answer.reply)) (answers_to agent run)

-- the agent's answers: K1 is still closed after K3, and no closed key is left after K4
agent_answers :
    replies_to 0 ≡
    (0, Logged 0) ∷ (1, Logged 0) ∷ (2, Discarded 1) ∷ (3, Discarded 1) ∷ (4, Logged 0) ∷ (5, Closed) ∷ (6, Logged 0) ∷ (7, TableFull) ∷ []
unfolding history_releasing history_after exchange_of reply_to reply_about reply_when_open since_after held_after is_forgotten holds_key closes_log outcome_logged closed_after answers_to answers_after answer_of letter_sealed
agent_answers = refl

-- the collector's own requests are two, and no other agent's answer is among them
collector_answers : replies_to collector ≡ (0, Forgotten) ∷ (0, Forgotten) ∷ []
unfolding history_releasing history_after exchange_of reply_to reply_about reply_when_open since_after held_after is_forgotten holds_key closes_log outcome_logged closed_after answers_to answers_after answer_of letter_sealed
collector_answers = refl
