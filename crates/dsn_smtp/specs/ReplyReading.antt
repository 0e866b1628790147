-- Replies that are read from a device in pieces: what was read, and how reading ends. If a device doesn't expose its
-- bytes, this says what the reply is, and not where it came from.
use Rattle.std.specs.Prelude.{◌≡◌, ℕ, ◌<◌, ◌≤◌, Bool, true, false, List, [], ◌∷◌, ◌++◌, length, Option, Some, None, Result, Ok, Err}
use Rattle.std.specs.Io.KnownBytes.{Consumes, IsAtEnd}
use Rattle.dsn_smtp.specs.Reply.{HasFurtherBytes, HasNoReply, IsFrontOfReply, IsNoFrontOfReply, IsServerReply, longest_server_reply}
use Rattle.dsn_smtp.specs.declared.reply_fault.ReplyFault.{ReplyFault}
use Rattle.dsn_smtp.specs.declared.reply_fault.ReplyFault.TheVariants.{Nothing, CutShort, NoReply, TooLong, Trailing, Read}

-- a reply was read, and nothing after it
pub record ReadsReply (old new : Option (List ℕ)) (code bytes : List ℕ) : Type 0 where
  pub reply : IsServerReply code bytes
  pub short : length bytes ≤ longest_server_reply
  pub consumed : Consumes old new bytes

-- bytes that begin a reply, and in which no reply ends
pub record IsUnended (bytes : List ℕ) : Type 0 where
  pub front : IsFrontOfReply bytes
  pub none : HasNoReply bytes

-- what a fault says of the bytes that were read before it
abbrev pub StopsReply : ReplyFault → List ℕ → Type 0
StopsReply Nothing part = part ≡ []
StopsReply CutShort part = IsUnended part × (0 < length part)
StopsReply NoReply part = IsNoFrontOfReply part × HasNoReply part
StopsReply TooLong part = IsUnended part × (length part ≡ longest_server_reply)
StopsReply Trailing part = HasFurtherBytes part
StopsReply Read part = IsUnended part × (length part < longest_server_reply)

-- the input is at its end if the fault says so
abbrev pub EndsBeforeReply : ReplyFault → Option (List ℕ) → Type 0
EndsBeforeReply Nothing new = IsAtEnd new
EndsBeforeReply CutShort new = IsAtEnd new
EndsBeforeReply NoReply new = Unit {0}
EndsBeforeReply TooLong new = Unit {0}
EndsBeforeReply Trailing new = Unit {0}
EndsBeforeReply Read new = Unit {0}

-- no reply could be read, but `part` was
pub record ReadsNoReply (old new : Option (List ℕ)) (fault : ReplyFault) : Type 0 where
  pub part : List ℕ
  pub short : length part ≤ longest_server_reply
  pub consumed : Consumes old new part
  pub stops : StopsReply fault part
  pub ends : EndsBeforeReply fault new

-- One more reply couldn't be read: `part` was read of it, and `behind` came with that.
pub record ReadsNoMore (old new : Option (List ℕ)) (fault : ReplyFault) : Type 0 where
  pub part : List ℕ
  pub behind : List ℕ
  pub consumed : Consumes old new (part ++ behind)
  pub stops : StopsReply fault part
  pub ends : EndsBeforeReply fault new

-- Replies with these codes were read, one right after another, and nothing after them. Or the next one couldn't be.
abbrev pub ReadsEach : Option (List ℕ) → Option (List ℕ) → List (List ℕ) → Option ReplyFault → Type 0
ReadsEach old new [] None = new ≡ old
ReadsEach old new [] (Some fault) = ReadsNoMore old new fault
ReadsEach old new (code ∷ codes) missing =
    (between : Option (List ℕ)) × (bytes : List ℕ) × ReadsReply old between code bytes × ReadsEach between new codes missing

-- whether a result says that the device failed
abbrev pub reply_device_failed : {T : Type 0} → Result T ReplyFault → Bool
reply_device_failed (Ok value) = false
reply_device_failed (Err Nothing) = false
reply_device_failed (Err CutShort) = false
reply_device_failed (Err NoReply) = false
reply_device_failed (Err TooLong) = false
reply_device_failed (Err Trailing) = false
reply_device_failed (Err Read) = true
