-- A reply that is read in pieces to the front of a buffer is the same as one that is read in one piece.
use Rattle.std.proofs.Common.{◌≡◌, ℕ, ◌+◌, ◌<◌, ◌≤◌, List, [], ◌++◌, length, take, drop, Option, sym, ap, subst, ◌∙◌, append-nil, length-take-le, arith}
use Rattle.std.specs.Io.KnownBytes.{Consumes}
use Rattle.std.proofs.KnownBytes.{Consumes-trans}
use Rattle.std.proofs.Math.Seq.{take-add}
use Rattle.std.proofs.lemmas.List.{nil_from_length}
use Rattle.dsn_smtp.specs.Reply.{longest_server_reply}
use Rattle.dsn_smtp.specs.inner.ReplyState.{scan}
use Rattle.dsn_smtp.specs.inner.ReplyState.{ReadsNoReplyPiece, ReadsReplyPiece, StopsAtReplyPiece}
use Rattle.dsn_smtp.specs.ReplyReading.{ReadsNoReply, ReadsReply, StopsReply}
use Rattle.dsn_smtp.specs.declared.reply_fault.ReplyFault.{ReplyFault}
use Rattle.dsn_smtp.specs.declared.reply_fault.ReplyFault.TheVariants.{Nothing, CutShort, NoReply, TooLong, Trailing, Read}
use Rattle.dsn_smtp.specs.declared.reply_state.ReplyState.TheVariants.{Front}
use Rattle.dsn_smtp.specs.declared.reply_state.ReplyScan.TheVariants.{Open, Whole, Behind, Wrong}
use Rattle.dsn_smtp.proofs.ReplyLemmas.{no_front, no_reply, reply_and_more, unended, whole_reply}

-- what is known of a buffer once a piece was read into it, behind `filled` bytes
pub record ReadOn (a b c : Option (List ℕ)) (filled : ℕ) (old new : List ℕ) (count : ℕ) : Type 0 where
  pub within : filled ≤ length old
  pub front : take filled new ≡ take filled old
  pub consumed : Consumes a b (take filled old)
  pub piece : ReadsReplyPiece b c filled new count
  pub bounded : length new ≡ longest_server_reply

pub consumed_on : (a b c : Option (List ℕ)) (filled : ℕ) (old new : List ℕ) (count : ℕ) → ReadOn a b c filled old new count → Consumes a c (take (filled + count) new)
consumed_on a b c filled old new count on =
    subst (Consumes a c) (sym (take-add filled count new ∙ ap (λ (front : List ℕ). front ++ take count (drop filled new)) on.front))
    (Consumes-trans a b c (take filled old) (take count (drop filled new)) on.consumed on.piece.consumed)

long_on : (a b c : Option (List ℕ)) (filled : ℕ) (old new : List ℕ) (count : ℕ) → ReadOn a b c filled old new count → length (take (filled + count) new) ≡ filled + count
long_on a b c filled old new count on = length-take-le (filled + count) new on.piece.fits

short_on : (a b c : Option (List ℕ)) (filled : ℕ) (old new : List ℕ) (count : ℕ) → ReadOn a b c filled old new count → length (take (filled + count) new) ≤ longest_server_reply
short_on a b c filled old new count on = omega (arith, long_on a b c filled old new count on, on.piece.fits, on.bounded)

-- the reply ends with the piece
pub reply_read : (a b c : Option (List ℕ)) (filled : ℕ) (old new : List ℕ) (count : ℕ) (code : List ℕ) → ReadOn a b c filled old new count → scan Front (take (filled + count) new) ≡ Whole code
    → ReadsReply a c code (take (filled + count) new)
reply_read a b c filled old new count code on is = record {
  reply = whole_reply (take (filled + count) new) code is;
  short = short_on a b c filled old new count on;
  consumed = consumed_on a b c filled old new count on;
}

-- the reply ends within the piece
pub more_read : (a b c : Option (List ℕ)) (filled : ℕ) (old new : List ℕ) (count : ℕ) → ReadOn a b c filled old new count → scan Front (take (filled + count) new) ≡ Behind → ReadsNoReply a c Trailing
more_read a b c filled old new count on is = record {
  part = take (filled + count) new;
  short = short_on a b c filled old new count on;
  consumed = consumed_on a b c filled old new count on;
  stops = reply_and_more (take (filled + count) new) is;
  ends = tt;
}

-- a byte of the piece is at a place where no reply has it
pub other_read : (a b c : Option (List ℕ)) (filled : ℕ) (old new : List ℕ) (count : ℕ) → ReadOn a b c filled old new count → scan Front (take (filled + count) new) ≡ Wrong → ReadsNoReply a c NoReply
other_read a b c filled old new count on is = record {
  part = take (filled + count) new;
  short = short_on a b c filled old new count on;
  consumed = consumed_on a b c filled old new count on;
  stops = (no_front (take (filled + count) new) is, no_reply (take (filled + count) new) is);
  ends = tt;
}

-- a fault at a piece says the same of the bytes before it
stops_on : (fault : ReplyFault) (filled : ℕ) (part : List ℕ) → length part ≡ filled → filled < longest_server_reply → scan Front part ≡ Open → StopsAtReplyPiece fault filled → StopsReply fault part
stops_on Nothing filled part long short scanned none = nil_from_length part (omega (arith, long, none))
stops_on CutShort filled part long short scanned some = (unended part scanned, omega (arith, long, some))
stops_on NoReply filled part long short scanned never = absurd never
stops_on TooLong filled part long short scanned never = absurd never
stops_on Trailing filled part long short scanned never = absurd never
stops_on Read filled part long short scanned is = (unended part scanned, omega (arith, long, short))

pub no_piece : (a b c : Option (List ℕ)) (filled : ℕ) (bytes : List ℕ) (fault : ReplyFault) → filled ≤ length bytes → filled < longest_server_reply → Consumes a b (take filled bytes) → scan Front (take filled bytes) ≡ Open
    → ReadsNoReplyPiece b c filled fault → ReadsNoReply a c fault
no_piece a b c filled bytes fault within short consumed scanned none =
    let long = length-take-le filled bytes within in
    record {
      part = take filled bytes;
      short = omega (arith, long, short);
      consumed = subst (Consumes a c) (append-nil (take filled bytes)) (Consumes-trans a b c (take filled bytes) [] consumed none.consumed);
      stops = stops_on fault filled (take filled bytes) long short scanned none.stops;
      ends = none.ends;
    }

-- no reply ends within the longest size
pub too_long : (a b : Option (List ℕ)) (filled : ℕ) (bytes : List ℕ) → filled ≡ longest_server_reply → filled ≤ length bytes → Consumes a b (take filled bytes) → scan Front (take filled bytes) ≡ Open → ReadsNoReply a b TooLong
too_long a b filled bytes full within consumed scanned =
    let long = length-take-le filled bytes within in
    record {
      part = take filled bytes;
      short = omega (arith, long, full);
      consumed = consumed;
      stops = (unended (take filled bytes) scanned, omega (arith, long, full));
      ends = tt;
    }
