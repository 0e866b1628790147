-- The turns of a transaction whose commands before the message are one group, composed of those of its steps.
use Rattle.std.proofs.Common.{◌≡◌, ℕ, Bool, true, false, List, [], ◌∷◌, Option, Some, None, refl, ap, subst, ◌∙◌}
use Rattle.std.specs.Io.KnownBytes.{prepend_known}
use Rattle.dsn_device.specs.declared.drain.Drain
use Rattle.dsn_device.specs.declared.source.Source
use Rattle.dsn_smtp.specs.Dialogue.{TakesTurn, TakesTurns, Turn, Heard, HeardEach, HeardNone, Said, SaidPart}
use Rattle.dsn_smtp.specs.HandIn.{TurnsOver, last_heard_after}
use Rattle.dsn_smtp.specs.Pipelining.{AsksGroup, Cancels, FollowsGroup, HearsGroup, HearsOne, empty_message, group_steps}
use Rattle.dsn_smtp.specs.ReplyReading.{ReadsEach}
use Rattle.dsn_smtp.specs.declared.group_replies.GroupReplies.{GroupReplies}
use Rattle.dsn_smtp.specs.declared.hand_in_fault.HandInFault.{HandInFault}
use Rattle.dsn_smtp.specs.declared.hand_in_fault.HandInFault.TheVariants.{Unheard, Unsaid}
use Rattle.dsn_smtp.specs.declared.hand_in_step.HandInStep.TheVariants.{Sender, Message}
use Rattle.dsn_smtp.specs.declared.reply_fault.ReplyFault.{ReplyFault}
use Rattle.dsn_smtp.specs.inner.GroupReplies.{HearsReplies}
use Rattle.dsn_smtp.specs.inner.ReadAhead.{StreamAhead}
use Rattle.dsn_smtp.proofs.TransactionLemmas.{never_none, never_some, takes_one}

-- ---- the empty message

pub passed_over : {S : Type 0} → (source : Source.Ghosts S) (drain : Drain.Ghosts S) (old new : S) (code bytes : List ℕ) → TakesTurn source drain old new (Heard code bytes)
    → (turns : List Turn) × TakesTurns source drain old new turns × HearsOne turns
passed_over source drain old new code bytes takes = (Heard code bytes ∷ [], takes_one source drain old new (Heard code bytes) takes, refl)

pub passed_none : {S : Type 0} → (source : Source.Ghosts S) (drain : Drain.Ghosts S) (old new : S) (why : ReplyFault) → TakesTurn source drain old new (HeardNone why)
    → (turns : List Turn) × TakesTurns source drain old new turns × HearsOne turns
passed_none source drain old new why takes = (HeardNone why ∷ [], takes_one source drain old new (HeardNone why) takes, refl)

pub cancelled : {S : Type 0} → (source : Source.Ghosts S) (drain : Drain.Ghosts S) (old between new : S) → TakesTurn source drain old between (Said empty_message)
    → (turns : List Turn) × TakesTurns source drain between new turns × HearsOne turns → (turns : List Turn) × TakesTurns source drain old new turns × Cancels turns
cancelled source drain old between new said rest = (Said empty_message ∷ rest.0, (between, said, rest.1), (refl, rest.2))

pub not_cancelled : {S : Type 0} → (source : Source.Ghosts S) (drain : Drain.Ghosts S) (old new : S) → TakesTurn source drain old new (SaidPart empty_message)
    → (turns : List Turn) × TakesTurns source drain old new turns × Cancels turns
not_cancelled source drain old new takes = (SaidPart empty_message ∷ [], takes_one source drain old new (SaidPart empty_message) takes, (refl, refl))

-- ---- what follows the replies

pub ends_waiting : {S : Type 0} → (source : Source.Ghosts S) (drain : Drain.Ghosts S) (old new : S) (why : HandInFault) (message before after : List ℕ)
    → (turns : List Turn) × TakesTurns source drain old new turns × Cancels turns → TurnsOver source drain old new (FollowsGroup (Some why) true message) before after (Some why)
ends_waiting source drain old new why message before after rest = record {
  turns = rest.0;
  taken = rest.1;
  go = (rest.2, refl);
  last = λ e. absurd (never_none why e);
}

pub ends_there : {S : Type 0} → (source : Source.Ghosts S) (drain : Drain.Ghosts S) (old : S) (why : HandInFault) (message before after : List ℕ)
    → TurnsOver source drain old old (FollowsGroup (Some why) false message) before after (Some why)
ends_there source drain old why message before after = record {
  turns = [];
  taken = refl;
  go = (refl, refl);
  last = λ e. absurd (never_none why e);
}

-- the reply that is held at the end is the one to the message, whichever was held before
held_last : (fault : Option HandInFault) (waits : Bool) (message : List ℕ) (turns : List Turn) (first before : List ℕ) → FollowsGroup fault waits message turns None
    → last_heard_after first turns ≡ last_heard_after before turns
held_last (Some why) true message turns first before h = absurd (never_some why h.1)
held_last (Some why) false message turns first before h = absurd (never_some why h.1)
held_last None waits message [] first before h = absurd h
held_last None waits message (Said text ∷ []) first before h = absurd h.1
held_last None waits message (Said text ∷ Heard code bytes ∷ rest) first before h = refl
held_last None waits message (Said text ∷ HeardNone why ∷ rest) first before h = absurd (never_some (Unheard Message why) h.1.1)
held_last None waits message (Said text ∷ HeardEach codes missing ∷ rest) first before h = absurd h.1
held_last None waits message (Said text ∷ Said other ∷ rest) first before h = absurd h.1
held_last None waits message (Said text ∷ SaidPart other ∷ rest) first before h = absurd h.1
held_last None waits message (SaidPart text ∷ rest) first before h = absurd (never_some (Unsaid Message) h.1.1)
held_last None waits message (Heard code bytes ∷ rest) first before h = absurd h
held_last None waits message (HeardNone why ∷ rest) first before h = absurd h
held_last None waits message (HeardEach codes missing ∷ rest) first before h = absurd h

-- ---- the replies to a group

none_ahead : (rest : Option (List ℕ)) → prepend_known [] rest ≡ rest
none_ahead None = refl
none_ahead (Some xs) = refl

heard_each : {S : Type 0} → (source : Source.Ghosts S) (drain : Drain.Ghosts S) (old new : S) (replies : GroupReplies)
    → (h : HearsReplies source (record { stream = old; ahead = [] }) (record { stream = new; ahead = [] }) group_steps replies) → TakesTurn source drain old new (HeardEach h.heard h.missing)
heard_each source drain old new replies h = (
  subst (λ (rest : Option (List ℕ)). ReadsEach rest (source.remaining new) h.heard h.missing) (none_ahead (source.remaining old))
      (subst (λ (rest : Option (List ℕ)). ReadsEach (prepend_known [] (source.remaining old)) rest h.heard h.missing) (none_ahead (source.remaining new)) h.reads),
  h.only,
)

heard_group : {S : Type 0} → (source : Source.Ghosts S) (drain : Drain.Ghosts S) (old new last : S) (replies : GroupReplies) (message first before after : List ℕ) (outcome : Option HandInFault)
    → HearsReplies source (record { stream = old; ahead = [] }) (record { stream = new; ahead = [] }) group_steps replies
    → TurnsOver source drain new last (FollowsGroup replies.fault replies.waits message) before after outcome
    → TurnsOver source drain old last (HearsGroup message) first after outcome
heard_group source drain old new last replies message first before after outcome h rest = record {
  turns = HeardEach h.heard h.missing ∷ rest.turns;
  taken = (new, heard_each source drain old new replies h, rest.taken);
  go = (h.answers, rw (← h.fault, ← h.waits) rest.go);
  last = λ e. held_last replies.fault replies.waits message rest.turns first before (subst (λ (o : Option HandInFault). FollowsGroup replies.fault replies.waits message rest.turns o) e rest.go) ∙ rest.last e;
}

-- the same with the bytes that were read ahead: none before the replies, and none after them
pub group_heard : {S : Type 0} → (source : Source.Ghosts S) (drain : Drain.Ghosts S) (old last : S) (a b : StreamAhead S) (replies : GroupReplies) (message first before after : List ℕ) (outcome : Option HandInFault)
    → a ≡ record { stream = old; ahead = [] } → b.ahead ≡ [] → HearsReplies source a b group_steps replies
    → TurnsOver source drain b.stream last (FollowsGroup replies.fault replies.waits message) before after outcome
    → TurnsOver source drain old last (HearsGroup message) first after outcome
group_heard {S} source drain old last a b replies message first before after outcome begins empty h rest =
    let with : List ℕ → StreamAhead S = λ l. record { stream = b.stream; ahead = l } in
    let same : b ≡ record { stream = b.stream; ahead = [] } = ap with empty in
    heard_group source drain old b.stream last replies message first before after outcome
    (subst (λ (x : StreamAhead S). HearsReplies source x (record { stream = b.stream; ahead = [] }) group_steps replies) begins
    (subst (λ (x : StreamAhead S). HearsReplies source a x group_steps replies) same h)) rest

-- ---- a group

pub group_asked : {S : Type 0} → (source : Source.Ghosts S) (drain : Drain.Ghosts S) (old between new : S) (text message before after : List ℕ) (outcome : Option HandInFault)
    → TakesTurn source drain old between (Said text) → TurnsOver source drain between new (HearsGroup message) before after outcome
    → TurnsOver source drain old new (AsksGroup text message) before after outcome
group_asked source drain old between new text message before after outcome said rest = record {
  turns = Said text ∷ rest.turns;
  taken = (between, said, rest.taken);
  go = (refl, rest.go);
  last = λ e. rest.last e;
}

pub group_unsaid : {S : Type 0} → (source : Source.Ghosts S) (drain : Drain.Ghosts S) (old new : S) (text message before after : List ℕ)
    → TakesTurn source drain old new (SaidPart text) → TurnsOver source drain old new (AsksGroup text message) before after (Some (Unsaid Sender))
group_unsaid source drain old new text message before after takes = record {
  turns = SaidPart text ∷ [];
  taken = takes_one source drain old new (SaidPart text) takes;
  go = (refl, (refl, refl));
  last = λ e. absurd (never_none (Unsaid Sender) e);
}
