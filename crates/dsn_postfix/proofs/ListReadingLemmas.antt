-- A list that is read in pieces to the front of a buffer is the same as one that is read in one piece.
use Rattle.std.proofs.Common.{◌≡◌, ℕ, ◌+◌, ◌-◌, ◌<◌, ◌≤◌, List, [], ◌++◌, length, take, drop, Option, sym, ap, subst, ◌∙◌, append-nil, length-take-le, arith}
use Rattle.std.specs.Io.KnownBytes.{Consumes}
use Rattle.std.proofs.KnownBytes.{Consumes-trans}
use Rattle.std.proofs.Math.Seq.{take-add}
use Rattle.std.proofs.lemmas.List.{length-take, nil_from_length}
use Rattle.dsn_postfix.specs.ListBuffer.{ReadsList, ReadsNoList, RoomAfterBytes, StopsReading, longest_list}
use Rattle.dsn_postfix.specs.inner.ListState.{ReadsNoPiece, ReadsPiece, StopsAtPiece}
use Rattle.dsn_postfix.specs.inner.ListState.{further, step_over}
use Rattle.dsn_postfix.specs.declared.list_fault.ListFault.{ListFault}
use Rattle.dsn_postfix.specs.declared.list_fault.ListFault.TheVariants.{NoMemory, Nothing, CutShort, TooLong, Trailing, Read}
use Rattle.dsn_postfix.specs.declared.list_state.ListState.{ListState}
use Rattle.dsn_postfix.specs.declared.list_state.ListState.TheVariants.{Front}
use Rattle.dsn_postfix.specs.declared.list_state.ListStep.{ListStep}
use Rattle.dsn_postfix.specs.declared.list_state.ListStep.TheVariants.{Ended, Within}
use Rattle.dsn_postfix.proofs.ListStateLemmas.{list_and_more, no_list, step_over-append, whole_list}

-- ---- room

-- the room after more bytes
pub room_on : (before now after size more : ℕ) → size ≤ more → RoomAfterBytes size before now → RoomAfterBytes size now after → RoomAfterBytes more before after
room_on before now after size more longer first second = record {
  kept = omega (arith, first.kept, second.kept);
  modest = omega (arith, longer, first.modest, second.modest);
}

-- ---- a piece after what was read

-- what is known of a buffer once a piece was read into it, behind `filled` bytes in which no list ends
pub record ReadOn (a b c : Option (List ℕ)) (filled : ℕ) (old new : List ℕ) (place : ListState) (count : ℕ) : Type 0 where
  pub within : filled ≤ length old
  pub front : take filled new ≡ take filled old
  pub consumed : Consumes a b (take filled old)
  pub scanned : step_over Front (take filled old) ≡ Within place
  pub piece : ReadsPiece b c filled new count

bytes_on : (a b c : Option (List ℕ)) (filled : ℕ) (old new : List ℕ) (place : ListState) (count : ℕ) → ReadOn a b c filled old new place count
    → take (filled + count) new ≡ take filled old ++ take count (drop filled new)
bytes_on a b c filled old new place count on =
    take-add filled count new ∙ ap (λ (front : List ℕ). front ++ take count (drop filled new)) on.front

pub consumed_on : (a b c : Option (List ℕ)) (filled : ℕ) (old new : List ℕ) (place : ListState) (count : ℕ) → ReadOn a b c filled old new place count → Consumes a c (take (filled + count) new)
consumed_on a b c filled old new place count on =
    subst (Consumes a c) (sym (bytes_on a b c filled old new place count on))
    (Consumes-trans a b c (take filled old) (take count (drop filled new)) on.consumed on.piece.consumed)

long_on : (a b c : Option (List ℕ)) (filled : ℕ) (old new : List ℕ) (place : ListState) (count : ℕ) → ReadOn a b c filled old new place count → length (take (filled + count) new) ≡ filled + count
long_on a b c filled old new place count on = length-take-le (filled + count) new on.piece.fits

pub step_on : (a b c : Option (List ℕ)) (filled : ℕ) (old new : List ℕ) (place : ListState) (count : ℕ) (step : ListStep) → ReadOn a b c filled old new place count
    → step ≡ step_over place (take count (drop filled new)) → step_over Front (take (filled + count) new) ≡ further filled step
step_on a b c filled old new place count step on is =
    ap (step_over Front) (bytes_on a b c filled old new place count on)
    ∙ step_over-append Front place (take filled old) (take count (drop filled new)) on.scanned
    ∙ ap (λ (n : ℕ). further n (step_over place (take count (drop filled new)))) (length-take-le filled old on.within)
    ∙ ap (further filled) (sym is)

-- the piece as a part of the buffer
pub piece_is : (filled count : ℕ) (shown new : List ℕ) → shown ≡ new → take ((filled + count) - filled) (drop filled shown) ≡ take count (drop filled new)
piece_is filled count shown new same = ap (λ (n : ℕ). take n (drop filled shown)) (omega arith) ∙ ap (λ (bytes : List ℕ). take count (drop filled bytes)) same

pub piece_short : (count : ℕ) (bytes : List ℕ) → length (take count bytes) ≤ count
piece_short count bytes = rw length-take (omega arith)

-- the list ends with the piece
pub list_read : (a b c : Option (List ℕ)) (before : ℕ) (filled : ℕ) (old new : List ℕ) (place : ListState) (count size : ℕ) → ReadOn a b c filled old new place count
    → Ended size ≡ step_over place (take count (drop filled new)) → size ≡ count → length new ≤ longest_list → RoomAfterBytes (filled + count) before (length new)
    → (whole : ℕ) → whole ≡ filled + count → ReadsList a c before (length new) (take whole new)
list_read a b c before filled old new place count size on ends all bounded room whole is =
    let long = long_on a b c filled old new place count on in
    rw is record {
      list = whole_list (take (filled + count) new) (filled + size) (step_on a b c filled old new place count (Ended size) on ends) (omega (arith, all, long));
      short = omega (arith, long, bounded, on.piece.fits);
      consumed = consumed_on a b c filled old new place count on;
      room = rw long room;
    }

-- the list ends within the piece
pub more_read : (a b c : Option (List ℕ)) (before : ℕ) (filled : ℕ) (old new : List ℕ) (place : ListState) (count size : ℕ) → ReadOn a b c filled old new place count
    → Ended size ≡ step_over place (take count (drop filled new)) → size < count → length new ≤ longest_list → RoomAfterBytes (filled + count) before (length new)
    → ReadsNoList a c before (length new) Trailing
more_read a b c before filled old new place count size on ends some bounded room =
    let long = long_on a b c filled old new place count on in
    record {
      part = take (filled + count) new;
      short = omega (arith, long, bounded, on.piece.fits);
      consumed = consumed_on a b c filled old new place count on;
      stops = list_and_more (take (filled + count) new) (filled + size) (step_on a b c filled old new place count (Ended size) on ends) (omega (arith, some, long));
      ends = tt;
      room = rw long room;
    }

-- ---- no piece after what was read

-- a fault at a piece says the same of the bytes before it
stops_on : (fault : ListFault) (place : ListState) (filled room : ℕ) (part : List ℕ) → length part ≡ filled → filled < longest_list → step_over Front part ≡ Within place
    → StopsAtPiece fault filled room → StopsReading fault room part
stops_on NoMemory place filled room part long short scanned full = (no_list part place scanned, (omega (arith, long, short), omega (arith, long, full)))
stops_on Nothing place filled room part long short scanned none = nil_from_length part (omega (arith, long, none))
stops_on CutShort place filled room part long short scanned some = (no_list part place scanned, omega (arith, long, some))
stops_on TooLong place filled room part long short scanned never = absurd never
stops_on Trailing place filled room part long short scanned never = absurd never
stops_on Read place filled room part long short scanned is = (no_list part place scanned, omega (arith, long, short))

pub no_piece : (a b c : Option (List ℕ)) (before now after filled : ℕ) (bytes : List ℕ) (place : ListState) (fault : ListFault) → filled ≤ length bytes → filled < longest_list
    → Consumes a b (take filled bytes) → step_over Front (take filled bytes) ≡ Within place → RoomAfterBytes filled before now → RoomAfterBytes filled now after
    → ReadsNoPiece b c filled after fault → ReadsNoList a c before after fault
no_piece a b c before now after filled bytes place fault within short consumed scanned first second none =
    let long = length-take-le filled bytes within in
    record {
      part = take filled bytes;
      short = omega (arith, long, short);
      consumed = subst (Consumes a c) (append-nil (take filled bytes)) (Consumes-trans a b c (take filled bytes) [] consumed none.consumed);
      stops = stops_on fault place filled after (take filled bytes) long short scanned none.stops;
      ends = none.ends;
      room = rw long (room_on before now after filled filled (omega arith) first second);
    }

-- no list ends within the longest size
pub too_long : (a b : Option (List ℕ)) (before after filled : ℕ) (bytes : List ℕ) (place : ListState) → filled ≡ longest_list → filled ≤ length bytes
    → Consumes a b (take filled bytes) → step_over Front (take filled bytes) ≡ Within place → RoomAfterBytes filled before after → ReadsNoList a b before after TooLong
too_long a b before after filled bytes place full within consumed scanned room =
    let long = length-take-le filled bytes within in
    record {
      part = take filled bytes;
      short = omega (arith, long, full);
      consumed = consumed;
      stops = (no_list (take filled bytes) place scanned, omega (arith, long, full));
      ends = tt;
      room = rw long room;
    }
