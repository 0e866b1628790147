-- The replies to a group of commands, composed of single ones.
use Rattle.std.proofs.Common.{◌≡◌, ℕ, ◌<◌, Bool, true, false, List, [], ◌∷◌, ◌++◌, length, Option, Some, None, Err, refl, sym, ap, subst, ◌∙◌, append-nil, zero-lt-suc}
use Rattle.std.specs.Io.KnownBytes.{Consumes, IsAtEnd, prepend_known}
use Rattle.std.proofs.KnownBytes.{Consumes-trans, Keeps-trans}
use Rattle.dsn_device.specs.Failures.{counted}
use Rattle.dsn_device.specs.declared.source.Source
use Rattle.dsn_smtp.specs.Dialogue.{OnlyReads, is_of_device}
use Rattle.dsn_smtp.specs.HandIn.{is_wanted_reply}
use Rattle.dsn_smtp.specs.ReplyCode.{class_of}
use Rattle.dsn_smtp.specs.ReplyReading.{EndsBeforeReply, ReadsNoReply, reply_device_failed}
use Rattle.dsn_smtp.specs.inner.GroupReplies.{HearsNoMore, HearsReplies, HearsReply, left_in, with_refusal}
use Rattle.dsn_smtp.specs.inner.ReadAhead.{StreamAhead}
use Rattle.dsn_smtp.specs.declared.group_replies.GroupReplies.{GroupReplies}
use Rattle.dsn_smtp.specs.declared.hand_in_fault.HandInFault.TheVariants.{Refused, Unheard}
use Rattle.dsn_smtp.specs.declared.hand_in_step.HandInStep.{HandInStep}
use Rattle.dsn_smtp.specs.declared.reply_fault.ReplyFault.{ReplyFault}
use Rattle.dsn_smtp.specs.declared.reply_fault.ReplyFault.TheVariants.{Nothing, CutShort, NoReply, TooLong, Trailing, Read}

-- a stream, without the bytes that were read ahead of it
abbrev pub cleared : {S : Type 0} → StreamAhead S → StreamAhead S
cleared a = record { stream = a.stream; ahead = [] }

-- ---- one reply, or none

-- bytes that were read ahead are dropped
drops : (ahead : List ℕ) (rest : Option (List ℕ)) → Consumes (prepend_known ahead rest) (prepend_known [] rest) ahead
drops ahead None = tt
drops ahead (Some xs) = refl

at_end : (ahead : List ℕ) (rest : Option (List ℕ)) → IsAtEnd (prepend_known ahead rest) → IsAtEnd (prepend_known [] rest)
at_end ahead None end = tt
at_end [] (Some xs) end = end
at_end (byte ∷ ahead) (Some xs) end = absurd (cc)

ends_cleared : (why : ReplyFault) (ahead : List ℕ) (rest : Option (List ℕ)) → EndsBeforeReply why (prepend_known ahead rest) → EndsBeforeReply why (prepend_known [] rest)
ends_cleared Nothing ahead rest ends = at_end ahead rest ends
ends_cleared CutShort ahead rest ends = at_end ahead rest ends
ends_cleared NoReply ahead rest ends = tt
ends_cleared TooLong ahead rest ends = tt
ends_cleared Trailing ahead rest ends = tt
ends_cleared Read ahead rest ends = tt

pub same_failure : (why : ReplyFault) → reply_device_failed {T = List ℕ} (Err why) ≡ is_of_device why
same_failure Nothing = refl
same_failure CutShort = refl
same_failure NoReply = refl
same_failure TooLong = refl
same_failure Trailing = refl
same_failure Read = refl

-- no reply could be read, and what came with its bytes is dropped
pub heard_none : {S : Type 0} → (source : Source.Ghosts S) (old mid : StreamAhead S) (why : ReplyFault) → ReadsNoReply (left_in source old) (left_in source mid) why
    → OnlyReads source (is_of_device why) old.stream mid.stream → HearsNoMore source old (cleared mid) why
heard_none source old mid why none only = record {
  reads = record {
    part = none.part;
    behind = mid.ahead;
    consumed = Consumes-trans (left_in source old) (left_in source mid) (left_in source (cleared mid)) none.part mid.ahead none.consumed (drops mid.ahead (source.remaining mid.stream));
    stops = none.stops;
    ends = ends_cleared why mid.ahead (source.remaining mid.stream) none.ends;
  };
  only = only;
}

some_bytes : (bytes : List ℕ) → (bytes ≡ [] → ⊥) → 0 < length bytes
some_bytes [] never = absurd (never refl)
some_bytes (byte ∷ bytes) never = zero-lt-suc (length bytes)

-- bytes follow the last reply
pub heard_trailing : {S : Type 0} → (source : Source.Ghosts S) (old mid : StreamAhead S) (code bytes : List ℕ) → HearsReply source old mid code bytes → (mid.ahead ≡ [] → ⊥)
    → HearsNoMore source old (cleared mid) Trailing
heard_trailing source old mid code bytes heard never = record {
  reads = record {
    part = bytes ++ mid.ahead;
    behind = [];
    consumed = subst (Consumes (left_in source old) (left_in source (cleared mid))) (sym (append-nil (bytes ++ mid.ahead)))
        (Consumes-trans (left_in source old) (left_in source mid) (left_in source (cleared mid)) bytes mid.ahead heard.reads.consumed (drops mid.ahead (source.remaining mid.stream)));
    stops = record { front = bytes; rest = mid.ahead; code = code; split = refl; some = some_bytes mid.ahead never; whole = heard.reads.reply };
    ends = tt;
  };
  only = heard.only;
}

-- ---- a reply, and those after it

only_more : {S : Type 0} → (source : Source.Ghosts S) (failed : Bool) (a b c : S) → OnlyReads source false a b → OnlyReads source failed b c → OnlyReads source failed a c
only_more source failed a b c one two = record {
  held = Keeps-trans _ _ _ one.held two.held;
  no_flush = two.no_flush ∙ one.no_flush;
  unflushed = two.unflushed ∙ one.unflushed;
  count = two.count ∙ ap (counted failed) one.count;
  stays_steady = λ h. ((two.stays_steady (one.stays_steady h).0).0, (two.stays_steady (one.stays_steady h).0).1 ∙ (one.stays_steady h).1);
}

pub first_wanted : {S : Type 0} → (source : Source.Ghosts S) (old mid new : StreamAhead S) (step next : HandInStep) (steps : List HandInStep) (code bytes : List ℕ) (later : GroupReplies)
    → HearsReply source old mid code bytes → is_wanted_reply step (class_of code) ≡ true → HearsReplies source mid new (next ∷ steps) later
    → HearsReplies source old new (step ∷ next ∷ steps) later
first_wanted source old mid new step next steps code bytes later heard wanted rest = record {
  heard = code ∷ rest.heard;
  missing = rest.missing;
  reads = (left_in source mid, bytes, heard.reads, rest.reads);
  only = only_more source _ old.stream mid.stream new.stream heard.only rest.only;
  answers = rest.answers;
  fault = rw wanted rest.fault;
  waits = rest.waits;
}

pub first_refused : {S : Type 0} → (source : Source.Ghosts S) (old mid new : StreamAhead S) (step next : HandInStep) (steps : List HandInStep) (code bytes : List ℕ) (later : GroupReplies)
    → HearsReply source old mid code bytes → is_wanted_reply step (class_of code) ≡ false → HearsReplies source mid new (next ∷ steps) later
    → HearsReplies source old new (step ∷ next ∷ steps) (with_refusal step code later)
first_refused source old mid new step next steps code bytes later heard unwanted rest = record {
  heard = code ∷ rest.heard;
  missing = rest.missing;
  reads = (left_in source mid, bytes, heard.reads, rest.reads);
  only = only_more source _ old.stream mid.stream new.stream heard.only rest.only;
  answers = rest.answers;
  fault = rw unwanted refl;
  waits = rest.waits;
}

pub first_missing : {S : Type 0} → (source : Source.Ghosts S) (old new : StreamAhead S) (step : HandInStep) (steps : List HandInStep) (why : ReplyFault)
    → HearsNoMore source old new why → HearsReplies source old new (step ∷ steps) (record { fault = Some (Unheard step why); waits = false })
first_missing source old new step steps why none = record {
  heard = [];
  missing = Some why;
  reads = none.reads;
  only = none.only;
  answers = tt;
  fault = refl;
  waits = refl;
}

pub last_wanted : {S : Type 0} → (source : Source.Ghosts S) (old new : StreamAhead S) (step : HandInStep) (code bytes : List ℕ)
    → HearsReply source old new code bytes → is_wanted_reply step (class_of code) ≡ true → HearsReplies source old new (step ∷ []) (record { fault = None; waits = true })
last_wanted source old new step code bytes heard wanted = record {
  heard = code ∷ [];
  missing = None;
  reads = (left_in source new, bytes, heard.reads, refl);
  only = heard.only;
  answers = tt;
  fault = rw wanted refl;
  waits = sym wanted;
}

pub last_refused : {S : Type 0} → (source : Source.Ghosts S) (old new : StreamAhead S) (step : HandInStep) (code bytes : List ℕ)
    → HearsReply source old new code bytes → is_wanted_reply step (class_of code) ≡ false
    → HearsReplies source old new (step ∷ []) (record { fault = Some (Refused step code); waits = false })
last_refused source old new step code bytes heard unwanted = record {
  heard = code ∷ [];
  missing = None;
  reads = (left_in source new, bytes, heard.reads, refl);
  only = heard.only;
  answers = tt;
  fault = rw unwanted refl;
  waits = sym unwanted;
}
