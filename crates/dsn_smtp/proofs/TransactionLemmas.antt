-- The turns of a session, composed of those of its steps.
use Rattle.std.proofs.Common.{◌≡◌, ℕ, Bool, true, false, List, [], ◌∷◌, ◌++◌, Option, Some, None, refl, sym, ap, subst, ◌∙◌, append_assoc, append-nil, drop, drop-cons, get_or, length, suc, ◌<◌, ◌+◌, ◌≤◌, arith}
use Rattle.std.proofs.lemmas.List.{drop_all}
use Rattle.std.specs.Prelude.{MatchBool}
use Rattle.dsn_device.specs.declared.drain.Drain
use Rattle.dsn_device.specs.declared.source.Source
use Rattle.dsn_smtp.specs.Command.{Command}
use Rattle.dsn_smtp.specs.CommandLine.{quit_line}
use Rattle.dsn_smtp.specs.Dialogue.{TakesTurn, TakesTurns, Turn, Heard, HeardEach, HeardNone, Said, SaidPart}
use Rattle.dsn_smtp.specs.HandIn.{AsksCommand, AsksAll, GreetsWith, Listens, SaysGoodbye, TurnsOver, is_wanted_reply, last_heard_after}
use Rattle.dsn_smtp.specs.ReplyCode.{class_of}
use Rattle.dsn_smtp.specs.declared.hand_in_fault.HandInFault.{HandInFault}
use Rattle.dsn_smtp.specs.declared.hand_in_fault.HandInFault.TheVariants.{Refused, Unheard, Unsaid}
use Rattle.dsn_smtp.specs.declared.hand_in_step.HandInStep.{HandInStep}
use Rattle.dsn_smtp.specs.declared.hand_in_step.HandInStep.TheVariants.{Greeting, Hello}
use Rattle.dsn_smtp.specs.declared.reply_fault.ReplyFault.{ReplyFault}

abbrev Goes : Type 1
Goes = List Turn → Option HandInFault → Type 0

pub never_none : (why : HandInFault) → Some why ≡ None → ⊥
never_none why e = cc

pub never_some : (why : HandInFault) → None ≡ Some why → ⊥
never_some why e = cc

-- ---- turns after others

pub takes_more : {S : Type 0} → (source : Source.Ghosts S) (drain : Drain.Ghosts S) (old between new : S) (turns more : List Turn)
    → TakesTurns source drain old between turns → TakesTurns source drain between new more → TakesTurns source drain old new (turns ++ more)
takes_more source drain old between new [] more first second = subst (λ s. TakesTurns source drain s new more) first second
takes_more source drain old between new (turn ∷ turns) more first second =
    (first.0, first.1, takes_more source drain first.0 between new turns more first.2 second)

pub takes_one : {S : Type 0} → (source : Source.Ghosts S) (drain : Drain.Ghosts S) (old new : S) (turn : Turn) → TakesTurn source drain old new turn → TakesTurns source drain old new (turn ∷ [])
takes_one source drain old new turn takes = (new, takes, refl)

pub last-append : (before : List ℕ) (turns more : List Turn) → last_heard_after before (turns ++ more) ≡ last_heard_after (last_heard_after before turns) more
last-append before [] more = refl
last-append before (Heard code bytes ∷ turns) more = last-append bytes turns more
last-append before (HeardNone why ∷ turns) more = last-append before turns more
last-append before (HeardEach codes missing ∷ turns) more = last-append before turns more
last-append before (Said text ∷ turns) more = last-append before turns more
last-append before (SaidPart text ∷ turns) more = last-append before turns more

-- ---- a reply at a step

pub listened : {S : Type 0} → (source : Source.Ghosts S) (drain : Drain.Ghosts S) (old new : S) (step : HandInStep) (code before bytes : List ℕ)
    → is_wanted_reply step (class_of code) ≡ true → TakesTurn source drain old new (Heard code bytes) → TurnsOver source drain old new (Listens step (AsksAll [])) before bytes None
listened source drain old new step code before bytes wanted takes = record {
  turns = Heard code bytes ∷ [];
  taken = takes_one source drain old new (Heard code bytes) takes;
  go = rw wanted (refl, refl);
  last = λ e. refl;
}

pub refused : {S : Type 0} → (source : Source.Ghosts S) (drain : Drain.Ghosts S) (old new : S) (step : HandInStep) (code before bytes : List ℕ)
    → is_wanted_reply step (class_of code) ≡ false → TakesTurn source drain old new (Heard code bytes) → TurnsOver source drain old new (Listens step (AsksAll [])) before bytes (Some (Refused step code))
refused source drain old new step code before bytes unwanted takes = record {
  turns = Heard code bytes ∷ [];
  taken = takes_one source drain old new (Heard code bytes) takes;
  go = rw unwanted (refl, refl);
  last = λ e. absurd (never_none (Refused step code) e);
}

pub unheard : {S : Type 0} → (source : Source.Ghosts S) (drain : Drain.Ghosts S) (old new : S) (step : HandInStep) (why : ReplyFault) (before after : List ℕ)
    → TakesTurn source drain old new (HeardNone why) → TurnsOver source drain old new (Listens step (AsksAll [])) before after (Some (Unheard step why))
unheard source drain old new step why before after takes = record {
  turns = HeardNone why ∷ [];
  taken = takes_one source drain old new (HeardNone why) takes;
  go = (refl, refl);
  last = λ e. absurd (never_none (Unheard step why) e);
}

-- ---- a command, and the reply to it

pub unsaid : {S : Type 0} → (source : Source.Ghosts S) (drain : Drain.Ghosts S) (old new : S) (command : Command) (before after : List ℕ)
    → TakesTurn source drain old new (SaidPart command.text) → TurnsOver source drain old new (AsksAll (command ∷ [])) before after (Some (Unsaid command.step))
unsaid source drain old new command before after takes = record {
  turns = SaidPart command.text ∷ [];
  taken = takes_one source drain old new (SaidPart command.text) takes;
  go = (refl, (refl, refl));
  last = λ e. absurd (never_none (Unsaid command.step) e);
}

pub asked : {S : Type 0} → (source : Source.Ghosts S) (drain : Drain.Ghosts S) (old between new : S) (command : Command) (before after : List ℕ) (outcome : Option HandInFault)
    → TakesTurn source drain old between (Said command.text) → TurnsOver source drain between new (Listens command.step (AsksAll [])) before after outcome
    → TurnsOver source drain old new (AsksAll (command ∷ [])) before after outcome
asked source drain old between new command before after outcome said heard = record {
  turns = Said command.text ∷ heard.turns;
  taken = (between, said, heard.taken);
  go = (refl, heard.go);
  last = λ e. heard.last e;
}

-- ---- commands after others

-- nothing went wrong
abbrev no_fault : Option HandInFault
no_fault = None

then_bool : (b : Bool) (P Q : Type 0) (rest : List Turn) (why : HandInFault) (R : Type 0) → (P → Q) → MatchBool b P ((rest ≡ []) × (no_fault ≡ Some why)) → MatchBool b Q R
then_bool true P Q rest why R follow h = follow h
then_bool false P Q rest why R follow h = absurd (never_some why h.1)

listens_on : (step : HandInStep) (First Next : Goes) (turns after : List Turn) (outcome : Option HandInFault)
    → ((rest : List Turn) → First rest None → Next (rest ++ after) outcome) → Listens step First turns None → Listens step Next (turns ++ after) outcome
listens_on step First Next [] after outcome follow h = absurd h
listens_on step First Next (Heard code bytes ∷ rest) after outcome follow h =
    then_bool (is_wanted_reply step (class_of code)) (First rest None) (Next (rest ++ after) outcome) rest (Refused step code) ((rest ++ after ≡ []) × (outcome ≡ Some (Refused step code))) (follow rest) h
listens_on step First Next (HeardNone why ∷ rest) after outcome follow h = absurd (never_some (Unheard step why) h.1)
listens_on step First Next (HeardEach codes missing ∷ rest) after outcome follow h = absurd h
listens_on step First Next (Said text ∷ rest) after outcome follow h = absurd h
listens_on step First Next (SaidPart text ∷ rest) after outcome follow h = absurd h

asks_on : (command : Command) (First Next : Goes) (turns after : List Turn) (outcome : Option HandInFault)
    → ((rest : List Turn) → First rest None → Next (rest ++ after) outcome) → AsksCommand command First turns None → AsksCommand command Next (turns ++ after) outcome
asks_on command First Next [] after outcome follow h = absurd h
asks_on command First Next (Said text ∷ rest) after outcome follow h = (h.0, listens_on command.step First Next rest after outcome follow h.1)
asks_on command First Next (SaidPart text ∷ rest) after outcome follow h = absurd (never_some (Unsaid command.step) h.1.1)
asks_on command First Next (Heard code bytes ∷ rest) after outcome follow h = absurd h
asks_on command First Next (HeardNone why ∷ rest) after outcome follow h = absurd h
asks_on command First Next (HeardEach codes missing ∷ rest) after outcome follow h = absurd h

-- more commands are sent after some that succeeded
pub asks_more : (commands more : List Command) (turns after : List Turn) (outcome : Option HandInFault)
    → AsksAll commands turns None → AsksAll more after outcome → AsksAll (commands ++ more) (turns ++ after) outcome
asks_more [] more turns after outcome h next = subst (λ (ts : List Turn). AsksAll more (ts ++ after) outcome) (sym h.0) next
asks_more (command ∷ commands) more turns after outcome h next =
    asks_on command (AsksAll commands) (AsksAll (commands ++ more)) turns after outcome (λ rest went. asks_more commands more rest after outcome went next) h

-- more commands are sent after a reply that was received, and after commands that succeeded
pub listens_more : (step : HandInStep) (commands more : List Command) (turns after : List Turn) (outcome : Option HandInFault)
    → Listens step (AsksAll commands) turns None → AsksAll more after outcome → Listens step (AsksAll (commands ++ more)) (turns ++ after) outcome
listens_more step commands more turns after outcome h next =
    listens_on step (AsksAll commands) (AsksAll (commands ++ more)) turns after outcome (λ rest went. asks_more commands more rest after outcome went next) h

fault_bool : (b : Bool) (P Q R : Type 0) → (P → Q) → MatchBool b P R → MatchBool b Q R
fault_bool true P Q R follow h = follow h
fault_bool false P Q R follow h = h

listens_to_fault : (step : HandInStep) (First Next : Goes) (turns : List Turn) (why : HandInFault)
    → ((rest : List Turn) → First rest (Some why) → Next rest (Some why)) → Listens step First turns (Some why) → Listens step Next turns (Some why)
listens_to_fault step First Next [] why follow h = absurd h
listens_to_fault step First Next (Heard code bytes ∷ rest) why follow h =
    fault_bool (is_wanted_reply step (class_of code)) (First rest (Some why)) (Next rest (Some why)) ((rest ≡ []) × (Some why ≡ Some (Refused step code))) (follow rest) h
listens_to_fault step First Next (HeardNone other ∷ rest) why follow h = h
listens_to_fault step First Next (HeardEach codes missing ∷ rest) why follow h = absurd h
listens_to_fault step First Next (Said text ∷ rest) why follow h = absurd h
listens_to_fault step First Next (SaidPart text ∷ rest) why follow h = absurd h

asks_to_fault : (command : Command) (First Next : Goes) (turns : List Turn) (why : HandInFault)
    → ((rest : List Turn) → First rest (Some why) → Next rest (Some why)) → AsksCommand command First turns (Some why) → AsksCommand command Next turns (Some why)
asks_to_fault command First Next [] why follow h = absurd h
asks_to_fault command First Next (Said text ∷ rest) why follow h = (h.0, listens_to_fault command.step First Next rest why follow h.1)
asks_to_fault command First Next (SaidPart text ∷ rest) why follow h = h
asks_to_fault command First Next (Heard code bytes ∷ rest) why follow h = absurd h
asks_to_fault command First Next (HeardNone other ∷ rest) why follow h = absurd h
asks_to_fault command First Next (HeardEach codes missing ∷ rest) why follow h = absurd h

-- no more commands are sent after a fault
pub asks_no_more : (commands more : List Command) (turns : List Turn) (why : HandInFault) → AsksAll commands turns (Some why) → AsksAll (commands ++ more) turns (Some why)
asks_no_more [] more turns why h = absurd (never_none why h.1)
asks_no_more (command ∷ commands) more turns why h =
    asks_to_fault command (AsksAll commands) (AsksAll (commands ++ more)) turns why (λ rest went. asks_no_more commands more rest why went) h

-- ---- one command more

-- the commands from an index on
pub left_from : (commands : List Command) (i : ℕ) (command : Command) → i < length commands → command ≡ get_or commands i command → drop i commands ≡ command ∷ drop (i + 1) commands
left_from commands i command within is =
    let next : suc i ≡ i + 1 = omega arith in
    drop-cons commands i command within
    ∙ ap (λ (x : Command). x ∷ drop (suc i) commands) (sym is)
    ∙ ap (λ (n : ℕ). command ∷ drop n commands) next

-- the commands that are left go on from these turns
abbrev GoesOnFrom : List Command → List Command → List Turn → Type 0
GoesOnFrom commands left turns = (after : List Turn) (outcome : Option HandInFault) → AsksAll left after outcome → AsksAll commands (turns ++ after) outcome

pub asked_on : (commands left rest : List Command) (command : Command) (turns more : List Turn) → left ≡ command ∷ rest → GoesOnFrom commands left turns → AsksAll (command ∷ []) more None → GoesOnFrom commands rest (turns ++ more)
asked_on commands left rest command turns more is goes_on asks after outcome h =
    subst (λ (all : List Turn). AsksAll commands all outcome) (sym (append_assoc turns more after))
    (goes_on (more ++ after) outcome (subst (λ (l : List Command). AsksAll l (more ++ after) outcome) (sym is) (asks_more (command ∷ []) rest more after outcome asks h)))

pub stopped : {S : Type 0} → (source : Source.Ghosts S) (drain : Drain.Ghosts S) (old between new : S) (commands left rest : List Command) (command : Command) (turns : List Turn) (first before after : List ℕ) (why : HandInFault)
    → left ≡ command ∷ rest → TakesTurns source drain old between turns → GoesOnFrom commands left turns → TurnsOver source drain between new (AsksAll (command ∷ [])) before after (Some why)
    → TurnsOver source drain old new (AsksAll commands) first after (Some why)
stopped source drain old between new commands left rest command turns first before after why is taken goes_on over = record {
  turns = turns ++ over.turns;
  taken = takes_more source drain old between new turns over.turns taken over.taken;
  go = goes_on over.turns (Some why) (subst (λ (l : List Command). AsksAll l over.turns (Some why)) (sym is) (asks_no_more (command ∷ []) rest over.turns why over.go));
  last = λ e. absurd (never_none why e);
}

pub ended : {S : Type 0} → (source : Source.Ghosts S) (drain : Drain.Ghosts S) (old new : S) (commands : List Command) (i : ℕ) (turns : List Turn) (before after : List ℕ)
    → length commands ≤ i → TakesTurns source drain old new turns → GoesOnFrom commands (drop i commands) turns → last_heard_after before turns ≡ after
    → TurnsOver source drain old new (AsksAll commands) before after None
ended source drain old new commands i turns before after all taken goes_on last = record {
  turns = turns;
  taken = taken;
  go = subst (λ (ts : List Turn). AsksAll commands ts None) (append-nil turns) (goes_on [] None (subst (λ (l : List Command). AsksAll l [] None) (sym (drop_all i commands all)) (refl, refl)));
  last = λ e. last;
}

-- the reply that was received last, after more turns
pub last_after_more : (first between after : List ℕ) (turns more : List Turn) → last_heard_after first turns ≡ between → last_heard_after between more ≡ after → last_heard_after first (turns ++ more) ≡ after
last_after_more first between after turns more one two = last-append first turns more ∙ ap (λ (bytes : List ℕ). last_heard_after bytes more) one ∙ two

-- ---- how a session begins

-- turns that succeeded, and others after them
joined : {S : Type 0} → (source : Source.Ghosts S) (drain : Drain.Ghosts S) (old between new : S) (First Second Go : Goes) (first held after : List ℕ) (outcome : Option HandInFault)
    → ((turns more : List Turn) → First turns None → Second more outcome → Go (turns ++ more) outcome)
    → TurnsOver source drain old between First first held None → TurnsOver source drain between new Second held after outcome
    → TurnsOver source drain old new Go first after outcome
joined source drain old between new First Second Go first held after outcome go one two = record {
  turns = one.turns ++ two.turns;
  taken = takes_more source drain old between new one.turns two.turns one.taken two.taken;
  go = go one.turns two.turns one.go two.go;
  last = λ e. last_after_more first held after one.turns two.turns (one.last refl) (two.last e);
}

-- commands, if there are any, are sent after a reply was received
pub asked_after : {S : Type 0} → (source : Source.Ghosts S) (drain : Drain.Ghosts S) (old between new : S) (step : HandInStep) (commands more : List Command) (first held after : List ℕ) (outcome : Option HandInFault)
    → TurnsOver source drain old between (Listens step (AsksAll commands)) first held None → TurnsOver source drain between new (AsksAll more) held after outcome
    → TurnsOver source drain old new (Listens step (AsksAll (commands ++ more))) first after outcome
asked_after source drain old between new step commands more first held after outcome one two =
    joined source drain old between new (Listens step (AsksAll commands)) (AsksAll more) (Listens step (AsksAll (commands ++ more))) first held after outcome
    (λ turns others went next. listens_more step commands more turns others outcome went next) one two

pub greeted : {S : Type 0} → (source : Source.Ghosts S) (drain : Drain.Ghosts S) (old between new : S) (line first held after : List ℕ) (outcome : Option HandInFault)
    → TurnsOver source drain old between (Listens Greeting (AsksAll [])) first held None → TurnsOver source drain between new (AsksAll (record { step = Hello; text = line } ∷ [])) held after outcome
    → TurnsOver source drain old new (GreetsWith line) first after outcome
greeted source drain old between new line first held after outcome heard asks =
    asked_after source drain old between new Greeting [] (record { step = Hello; text = line } ∷ []) first held after outcome heard asks

-- ---- QUIT

pub said_goodbye : {S : Type 0} → (source : Source.Ghosts S) (drain : Drain.Ghosts S) (old new : S) → TakesTurn source drain old new (Said quit_line)
    → (turns : List Turn) × TakesTurns source drain old new turns × SaysGoodbye turns
said_goodbye source drain old new takes = (Said quit_line ∷ [], takes_one source drain old new (Said quit_line) takes, (refl, refl))

pub unsaid_goodbye : {S : Type 0} → (source : Source.Ghosts S) (drain : Drain.Ghosts S) (old new : S) → TakesTurn source drain old new (SaidPart quit_line)
    → (turns : List Turn) × TakesTurns source drain old new turns × SaysGoodbye turns
unsaid_goodbye source drain old new takes = (SaidPart quit_line ∷ [], takes_one source drain old new (SaidPart quit_line) takes, (refl, refl))
