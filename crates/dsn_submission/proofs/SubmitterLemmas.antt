-- What a submitter does with refused letters, and with settled ones.
use Rattle.std.proofs.Common.{◌≡◌, ℕ, Bool, true, List, Option, Some, None, is_some, refl, Result, Ok, Err, is_ok, is_err, sym, ap, subst, ◌∙◌}
use Rattle.std.specs.Option.{option_map}
use Rattle.dsn_submission.specs.Waiting.{Queue, item_of, letter_at, letter_in_hand, serial_in_hand}
use Rattle.dsn_submission.specs.Verdict.{reason_of}
use Rattle.dsn_submission.specs.declared.waiting.Waits.{Waits}
use Rattle.dsn_submission.specs.Submitter.{AsksOnce, Handles, KeepsRefused, Submitter, TellsSettled, concluded, is_settled_by, lost, next_place, told, verdict_in, with_next_taken}
use Rattle.dsn_device.specs.declared.drain.Drain
use Rattle.dsn_device.specs.declared.source.Source
use Rattle.dsn_smtp.specs.Session.{OpenSession}
use Rattle.dsn_smtp.specs.declared.hand_in_fault.HandInFault.{HandInFault}
use Rattle.dsn_submission.proofs.WaitingLemmas.{due_place_waits, some_if_else}
use Rattle.dsn_submission.specs.declared.verdict.Verdict.{Verdict}

-- a letter that its verdict settles was kept as settled if the call returned Ok
pub tells_settled : {M U E : Type 0} (settles : M → ℕ → Bool → M → Type 0) (result : Result U E) (old new : M) (serial : ℕ) (verdict : Verdict) → is_settled_by verdict ≡ true
    → settles old serial (is_ok result) new → TellsSettled settles old new (Some serial) verdict (is_err result)
tells_settled settles (Ok done) old new serial verdict by is = told verdict serial by refl is
tells_settled settles (Err why) old new serial verdict by is = lost verdict serial by refl is

-- the letter that `in_hand` gives is the one in hand
pub item_in_hand : {T : Type 0} (hand : Option (Waits T)) (item : T) (letter : Waits T)
    → Some item ≡ option_map item_of hand → hand ≡ Some letter → item ≡ letter.item
item_in_hand hand item letter gives here =
    let same : Some item ≡ Some letter.item = gives ∙ ap (option_map item_of) here in cc

-- the states of one submission: with the letter in hand, after the server was asked, after the verdict, and at the end
pub handled_by : {T S C K M : Type 0} (source : Source.Ghosts S) (drain : Drain.Ghosts S) (gives : C → C → Result S HandInFault → Type 0)
    (keeps : K → List ℕ → List ℕ → List ℕ → Bool → K → Type 0) (settles : M → ℕ → Bool → M → Type 0)
    (start asked ended final : Submitter T S) (server_old server_new : C) (refused_old refused_new : K) (marks_old marks_new : M)
    (path message : List ℕ) (now : ℕ) (serial : Option ℕ) (fault : Option HandInFault) (verdict : Verdict)
    → asked ≡ record start { session = asked.session; reply = asked.reply }
    → ended ≡ record asked { waiting = concluded asked.waiting now verdict }
    → final ≡ record ended { stopped = final.stopped }
    → serial ≡ serial_in_hand start.waiting
    → AsksOnce source drain gives server_old server_new start.session asked.session start.host path message start.reply asked.reply fault
    → KeepsRefused keeps refused_old refused_new path message (reason_of fault asked.reply) (verdict_in asked.waiting now asked.give_up fault) verdict
    → TellsSettled settles marks_old marks_new serial verdict final.stopped
    → Handles source drain gives keeps settles start final server_old server_new refused_old refused_new marks_old marks_new path message now fault verdict
handled_by {T} {S} {C} {K} {M} source drain gives keeps settles start asked ended final server_old server_new refused_old refused_new marks_old marks_new path message now serial fault verdict first second third its_serial asks keeps_one tells_one =
    let session : asked.session ≡ final.session = sym (ap (λ (s : Submitter T S). s.session) third ∙ ap (λ (s : Submitter T S). s.session) second) in
    let reply : asked.reply ≡ final.reply = sym (ap (λ (s : Submitter T S). s.reply) third ∙ ap (λ (s : Submitter T S). s.reply) second) in
    let waiting : asked.waiting ≡ start.waiting = ap (λ (s : Submitter T S). s.waiting) first in
    let limit : asked.give_up ≡ start.give_up = ap (λ (s : Submitter T S). s.give_up) first in
    record {
      asked =
          subst (λ (r : List ℕ). AsksOnce source drain gives server_old server_new start.session final.session start.host path message start.reply r fault) reply
          (subst (λ (s : Option (OpenSession S)). AsksOnce source drain gives server_old server_new start.session s start.host path message start.reply asked.reply fault) session asks);
      refusal =
          subst (λ (r : List ℕ). KeepsRefused keeps refused_old refused_new path message (reason_of fault r) (verdict_in start.waiting now start.give_up fault) verdict) reply
          (subst (λ (l : ℕ). KeepsRefused keeps refused_old refused_new path message (reason_of fault asked.reply) (verdict_in start.waiting now l fault) verdict) limit
          (subst (λ (q : Queue T). KeepsRefused keeps refused_old refused_new path message (reason_of fault asked.reply) (verdict_in q now asked.give_up fault) verdict) waiting keeps_one));
      concluded_is =
          ap (λ (s : Submitter T S). s.waiting) third
          ∙ (ap (λ (s : Submitter T S). s.waiting) second ∙ ap (λ (q : Queue T). concluded q now verdict) waiting);
      settled_is = subst (λ (it : Option ℕ). TellsSettled settles marks_old marks_new it verdict final.stopped) its_serial tells_one;
      same_host = ap (λ (s : Submitter T S). s.host) third ∙ (ap (λ (s : Submitter T S). s.host) second ∙ ap (λ (s : Submitter T S). s.host) first);
      same_limit = ap (λ (s : Submitter T S). s.give_up) third ∙ (ap (λ (s : Submitter T S). s.give_up) second ∙ limit);
    }

-- a submitter that has a letter to submit has it in hand then
taken_at_waits : {T S : Type 0} (submitter : Submitter T S) (now : ℕ) (place : Option ℕ) → next_place submitter now ≡ place → is_some place ≡ true
    → is_some (letter_in_hand (with_next_taken submitter place).waiting) ≡ true
taken_at_waits submitter now None found some = cc
taken_at_waits submitter now (Some place) found some = due_place_waits submitter.waiting now place (some_if_else submitter.stopped _ place found)

pub taken_waits : {T S : Type 0} (submitter : Submitter T S) (now : ℕ) → is_some (next_place submitter now) ≡ true
    → is_some (letter_in_hand (with_next_taken submitter (next_place submitter now)).waiting) ≡ true
taken_waits submitter now some = taken_at_waits submitter now (next_place submitter now) refl some

-- the letter that was taken is in hand
pub in_hand_at : {T S : Type 0} (submitter : Submitter T S) (place : Option ℕ) (letter : Waits T) → letter_at submitter.waiting.letters place ≡ Some letter
    → letter_in_hand (with_next_taken submitter place).waiting ≡ Some letter
in_hand_at submitter None letter at = cc
in_hand_at submitter (Some place) letter at = at
