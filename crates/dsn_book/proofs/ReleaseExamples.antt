-- Worked examples of releases, computed by the definitions: which key makes room, and which replies
-- follow.
use Rattle.std.proofs.Common.{◌≡◌, ℕ, suc, Bool, true, false, List, [], ◌∷◌, map, refl}
use Rattle.std.specs.Prelude.{codes, None, Some}
use Rattle.dsn_outcome.specs.History.{Limits, reply_to, reply_about, reply_when_open, exchange_of, history_after, since_after, held_after, is_forgotten, holds_key, closes_log, outcome_logged}
use Rattle.dsn_outcome.specs.Draft.{Draft}
use Rattle.dsn_outcome.specs.Outcome.{Outcome}
use Rattle.dsn_outcome.specs.Request.{Request, Body, Append, Discard, Flush, Forget}
use Rattle.dsn_outcome.specs.declared.answer.Reply.{Reply}
use Rattle.dsn_outcome.specs.declared.answer.Reply.TheVariants.{Logged, Closed, TableFull, Nothing, Discarded, Forgotten, NotClosed, Differs}
use Rattle.dsn_outcome.specs.declared.returned.Returned.TheVariants.{Header}
use Rattle.dsn_outcome.specs.declared.wording.Wording.TheVariants.{ByService}
use Rattle.dsn_text.specs.declared.action.Action.TheVariants.{Failed}
use Rattle.dsn_text.specs.declared.key.Key.{Key}
use Rattle.dsn_text.specs.declared.service.Service.TheVariants.{Bounce}
use Rattle.dsn_book.specs.Release.{closed_after, closed_keys, collector, history_by, history_releasing}

-- two keys, so that a third needs room
abbrev two_keys : Limits
two_keys = record { logs = 2; entries = 10; requests = 100 }

abbrev key : List ℕ → Key
key id = record { service = Bounce; id = id }

-- a permanent failure, with no optional text
abbrev failure : Outcome
failure = record {
  service = Bounce;
  recipient = codes "x@y";
  recipient_type = None;
  original = None;
  original_type = None;
  action = Failed;
  status = codes "5.0.0";
  mta = None;
  diagnostic = None;
  diagnostic_type = None;
  reason = None;
  last_attempt = None;
  retry_until = None;
  extensions = [];
}

-- the requests of one agent, numbered from the given number
abbrev from_number : ℕ → List Body → List Request
from_number number [] = []
from_number number (body ∷ rest) = record { agent = 0; number = number; body = body } ∷ from_number (suc number) rest

abbrev told : Bool → List Body → List (ℕ × Reply)
told releases bodies =
    map (λ exchange. (exchange.request.agent, exchange.reply)) (history_by releases two_keys [] (from_number 0 bodies))

abbrev append : List ℕ → Body
append id = Append id failure

abbrev discard : List ℕ → Body
discard id = Discard (key id)

-- the second key is closed first, so it makes room for the third; the first then makes room for the fourth
abbrev four_keys : List Body
four_keys = append (codes "A") ∷ append (codes "B") ∷ discard (codes "B") ∷ discard (codes "A") ∷ append (codes "C") ∷ append (codes "D") ∷ []

longest_closed_first :
    told true four_keys ≡
    (0, Logged 0) ∷ (0, Logged 0) ∷ (0, Discarded 1) ∷ (0, Discarded 1)
    ∷ (collector, Forgotten) ∷ (0, Logged 0) ∷ (collector, Forgotten) ∷ (0, Logged 0) ∷ []
unfolding history_releasing history_after exchange_of reply_to reply_about reply_when_open since_after held_after is_forgotten holds_key closes_log outcome_logged closed_after
longest_closed_first = refl

-- without the rule no key is released, and the table stays full
none_released :
    told false four_keys ≡
    (0, Logged 0) ∷ (0, Logged 0) ∷ (0, Discarded 1) ∷ (0, Discarded 1) ∷ (0, TableFull) ∷ (0, TableFull) ∷ []
unfolding history_after exchange_of reply_to reply_about reply_when_open since_after held_after is_forgotten holds_key closes_log outcome_logged
none_released = refl

-- open logs make no room
open_logs_stay :
    told true (append (codes "A") ∷ append (codes "B") ∷ append (codes "C") ∷ []) ≡
    (0, Logged 0) ∷ (0, Logged 0) ∷ (0, TableFull) ∷ []
unfolding history_releasing history_after exchange_of reply_to reply_about reply_when_open since_after held_after is_forgotten holds_key closes_log outcome_logged closed_after
open_logs_stay = refl

-- a held key, a Forget and a table with room release none
no_need :
    told true (discard (codes "A") ∷ append (codes "A") ∷ append (codes "B") ∷ append (codes "A") ∷ append (codes "B") ∷ Forget (key (codes "C")) ∷ []) ≡
    (0, Discarded 0) ∷ (0, Closed) ∷ (0, Logged 0) ∷ (0, Closed) ∷ (0, Logged 1) ∷ (0, NotClosed) ∷ []
unfolding history_releasing history_after exchange_of reply_to reply_about reply_when_open since_after held_after is_forgotten holds_key closes_log outcome_logged closed_after
no_need = refl

-- a flush that expects outcomes of a new key holds none, so it releases none; a flush without a number does
abbrev draft : Draft
draft = record {
  moment = 0;
  arrival = 0;
  return_path = None;
  envelope_id = None;
  header = codes "";
  extensions = [];
  expected = None;
  returned = Header;
  wording = ByService;
}

abbrev counted : List Body
counted = discard (codes "A") ∷ append (codes "B") ∷ Flush (key (codes "C")) (record draft { expected = Some 1 }) ∷ []

counting_flush_releases_none :
    told true counted ≡ (0, Discarded 0) ∷ (0, Logged 0) ∷ (0, Differs 0) ∷ []
unfolding history_releasing history_after exchange_of reply_to reply_about reply_when_open since_after held_after is_forgotten holds_key closes_log outcome_logged closed_after
counting_flush_releases_none = refl

counting_flush_in_full_table :
    told false counted ≡ (0, Discarded 0) ∷ (0, Logged 0) ∷ (0, Differs 0) ∷ []
unfolding history_after exchange_of reply_to reply_about reply_when_open since_after held_after is_forgotten holds_key closes_log outcome_logged
counting_flush_in_full_table = refl

plain_flush_releases_one :
    told true (discard (codes "A") ∷ append (codes "B") ∷ Flush (key (codes "C")) draft ∷ []) ≡
    (0, Discarded 0) ∷ (0, Logged 0) ∷ (collector, Forgotten) ∷ (0, Nothing) ∷ []
unfolding history_releasing history_after exchange_of reply_to reply_about reply_when_open since_after held_after is_forgotten holds_key closes_log outcome_logged closed_after
plain_flush_releases_one = refl

-- a key that is closed again after it was forgotten is last
closed_again :
    closed_keys (history_after two_keys [] (from_number 0 (discard (codes "A") ∷ discard (codes "B") ∷ Forget (key (codes "A")) ∷ discard (codes "A") ∷ []))) ≡
    key (codes "B") ∷ key (codes "A") ∷ []
unfolding history_after exchange_of reply_to reply_about reply_when_open since_after held_after is_forgotten holds_key closes_log outcome_logged closed_after
closed_again = refl
