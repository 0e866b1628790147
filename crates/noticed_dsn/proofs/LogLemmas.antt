-- Logs in frames: how a log goes on, and the letter that it ends in.
use Rattle.std.proofs.Common.{◌≡◌, ℕ, ◌+◌, ◌≤◌, Bool, true, ◌&&◌, not, ◌==◌, List, [], ◌∷◌, ◌++◌, refl, ap, subst, arith}
use Rattle.std.specs.Prelude.{Option, All, Result, Ok, Err, IfOk, IfErr}
use Rattle.std.proofs.lemmas.List.Elements.{All-nil, All-push}
use Rattle.dsn_text.proofs.KeyLemmas.{same_key-equal}
use Rattle.dsn_text.specs.declared.key.Key.{Key}
use Rattle.dsn_outcome.specs.Draft.{Draft}
use Rattle.dsn_outcome.specs.History.{is_empty}
use Rattle.dsn_outcome.specs.Letter.{Letter}
use Rattle.dsn_outcome.specs.Outcome.{Outcome}
use Rattle.dsn_outcome.specs.Request.{Append, Flush, key_of}
use Rattle.noticed_dsn.specs.Log.{IsLetterIn, IsNextRequest, Logs, begun, continues_log, is_of_log, logged}

-- what follows from a result's value holds of the result
pub if_ok : {T E : Type 0} (P Q : T → Type 0) (result : Result T E) → ((value : T) → P value → Q value) → IfOk result P → IfOk result Q
if_ok P Q (Ok value) step held = step value held
if_ok P Q (Err fault) step held = held

pub if_err : {T E : Type 0} (P Q : E → Type 0) (result : Result T E) → ((fault : E) → P fault → Q fault) → IfErr result P → IfErr result Q
if_err P Q (Ok value) step held = held
if_err P Q (Err fault) step held = step fault held

first_of : (a b : Bool) → (a && b) ≡ true → a ≡ true
first_of a b both = grind arith

second_of : (a b : Bool) → (a && b) ≡ true → b ≡ true
second_of a b both = grind arith

room_for_one : (place : ℕ) → not (place == 1000) ≡ true → place ≤ 1000 → place + 1 ≤ 1000
room_for_one place apart few = grind arith

nothing_left : (rest : List ℕ) → is_empty rest ≡ true → rest ≡ []
nothing_left [] empty = refl
nothing_left (byte ∷ rest) empty = grind arith

-- each outcome of a log is of the service of its key
of_service : (bytes : List ℕ) (place : ℕ) (log : Option Key) (outcomes : List Outcome) (rest : List ℕ) (key : Key) → Logs bytes place log outcomes rest → is_of_log log key ≡ true → All (λ outcome. outcome.service ≡ key.service) outcomes
of_service bytes _ _ _ _ key begun of_log = All-nil (λ outcome. outcome.service ≡ key.service)
of_service bytes _ _ _ _ key (logged place log outcomes rest later id outcome logs next goes) of_log =
    let equal = same_key-equal (record { service = outcome.service; id = id }) key of_log in
    let before = of_service bytes place log outcomes rest (record { service = outcome.service; id = id }) logs (first_of _ _ goes) in
    All-push (λ outcome. outcome.service ≡ key.service) outcomes outcome
    (subst (λ (k : Key). All (λ outcome. outcome.service ≡ k.service) outcomes) equal before) (ap (λ (k : Key). k.service) equal)

module _ (bytes : List ℕ) (place : ℕ) (log : Option Key) (outcomes : List Outcome) (rest later : List ℕ) (logs : Logs bytes place log outcomes rest) where
  -- one more append
  pub goes_further : (id : List ℕ) (outcome : Outcome) (named : Option Key) (grown : List Outcome) → IsNextRequest rest later place (Append id outcome) → continues_log place log later (Append id outcome) ≡ true → named ≡ key_of (Append id outcome) → grown ≡ outcomes ++ outcome ∷ [] → Logs bytes (place + 1) named grown later
  goes_further id outcome named grown next goes named_is grown_is =
      rw (named_is, grown_is) (logged place log outcomes rest later id outcome logs next goes)

  pub stays_few : (id : List ℕ) (outcome : Outcome) → continues_log place log later (Append id outcome) ≡ true → place ≤ 1000 → place + 1 ≤ 1000
  stays_few id outcome goes few = room_for_one place (second_of _ _ goes) few

  pub sealed_of_service : (key : Key) (draft : Draft) → continues_log place log later (Flush key draft) ≡ true → All (λ outcome. outcome.service ≡ key.service) outcomes
  sealed_of_service key draft goes = of_service bytes place log outcomes rest key logs (first_of _ _ goes)

  -- the flush
  pub sealed_in : (key : Key) (draft : Draft) (serial : ℕ) (letter : Letter) → IsNextRequest rest later place (Flush key draft) → continues_log place log later (Flush key draft) ≡ true → (letter.key ≡ key) × (letter.draft ≡ draft) × (letter.outcomes ≡ outcomes) × (letter.serial ≡ serial) → IsLetterIn bytes serial letter
  sealed_in key draft serial letter next goes (key_is, draft_is, outcomes_is, serial_is) =
      let last : later ≡ [] = nothing_left later (second_of _ _ goes) in
      record {
        place = place;
        log = log;
        rest = rest;
        logs = rw outcomes_is logs;
        flushed = rw (key_is, draft_is) (subst (λ (left : List ℕ). IsNextRequest rest left place (Flush key draft)) last next);
        continues_log = rw key_is (subst (λ (left : List ℕ). continues_log place log left (Flush key draft) ≡ true) last goes);
        serial_is = serial_is;
      }
