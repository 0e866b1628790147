-- The replies to a group of commands, or to the last of them.
use Rattle.std.specs.Prelude.{◌≡◌, ℕ, false, List, Option, Some}
use Rattle.std.specs.Io.KnownBytes.{prepend_known}
use Rattle.dsn_device.specs.declared.source.Source
use Rattle.dsn_smtp.specs.Dialogue.{OnlyReads, is_lost_by_device, is_of_device}
use Rattle.dsn_smtp.specs.Pipelining.{AnswersEach, first_fault, waits_for_message}
use Rattle.dsn_smtp.specs.ReplyReading.{ReadsEach, ReadsNoMore, ReadsReply}
use Rattle.dsn_smtp.specs.declared.group_replies.GroupReplies.{GroupReplies}
use Rattle.dsn_smtp.specs.declared.hand_in_fault.HandInFault.TheVariants.{Refused}
use Rattle.dsn_smtp.specs.declared.hand_in_step.HandInStep.{HandInStep}
use Rattle.dsn_smtp.specs.declared.reply_fault.ReplyFault.{ReplyFault}
use Rattle.dsn_smtp.specs.inner.ReadAhead.{StreamAhead}

-- the bytes that a stream and what was read ahead of it still have
abbrev pub left_in : {S : Type 0} → Source.Ghosts S → StreamAhead S → Option (List ℕ)
left_in source a = prepend_known a.ahead (source.remaining a.stream)

-- one reply was received
pub record HearsReply {S : Type 0} (source : Source.Ghosts S) (old new : StreamAhead S) (code bytes : List ℕ) : Type 0 where
  pub reads : ReadsReply (left_in source old) (left_in source new) code bytes
  pub only : OnlyReads source false old.stream new.stream

-- the next reply couldn't be received
pub record HearsNoMore {S : Type 0} (source : Source.Ghosts S) (old new : StreamAhead S) (why : ReplyFault) : Type 0 where
  pub reads : ReadsNoMore (left_in source old) (left_in source new) why
  pub only : OnlyReads source (is_of_device why) old.stream new.stream

-- replies to commands at these steps were received, and this is what they say
pub record HearsReplies {S : Type 0} (source : Source.Ghosts S) (old new : StreamAhead S) (steps : List HandInStep) (replies : GroupReplies) : Type 0 where
  pub heard : List (List ℕ)
  pub missing : Option ReplyFault
  pub reads : ReadsEach (left_in source old) (left_in source new) heard missing
  pub only : OnlyReads source (is_lost_by_device missing) old.stream new.stream
  pub answers : AnswersEach steps heard missing
  pub fault : replies.fault ≡ first_fault steps heard missing
  pub waits : replies.waits ≡ waits_for_message steps heard

-- what replies say if the first isn't wanted
abbrev pub with_refusal : HandInStep → List ℕ → GroupReplies → GroupReplies
with_refusal step code later = record { fault = Some (Refused step code); waits = later.waits }
