use Rattle.std.proofs.Common.{◌+◌, ◌-◌, ap, drop, ◌∙◌, arith}
use Rattle.std.proofs.KnownBytes.{Keeps-trans}
use Rattle.std.proofs.lemmas.Result.{err_from_is_err_and}
use Rattle.dsn_postfix.proofs.ListReadingLemmas.{ReadOn, consumed_on, list_read, more_read, no_piece, piece_is, piece_short, room_on, step_on, too_long}
use Rattle.dsn_postfix.specs.inner.ListState.{step_over}
use Rattle.dsn_postfix.proofs.list_buffer.read_into.Goals as goal

-- no piece was read
pub returns-in_err-count-clause-refused : goal.returns-in_err-count-clause-refused
returns-in_err-count-clause-refused g c =
    let kept = c.loop-filled.invariant in
    let read = c.in_err-count.ensures in
    let exit = err_from_is_err_and c.from_residual.result c.from_residual.ensures.1 in
    rw (exit.1, exit.2) (no_piece _ _ _ _ _ _ c.loop-filled.filled c.loop-filled.bytes.items c.loop-filled.place c.in_err-count.field-0.0
    kept.in_range c.loop-filled-test.true kept.consumed kept.scanned kept.room read.room read.refused)

-- bytes follow the list
pub returns-in-Ended-clause-refused : goal.returns-in-Ended-clause-refused
returns-in-Ended-clause-refused g c =
    let kept = c.loop-filled.invariant in
    let read = c.in_ok-count.ensures in
    more_read _ _ _ _ c.loop-filled.filled c.loop-filled.bytes.items c.read_piece.new.bytes.items c.loop-filled.place c.in_ok-count.count c.in-Ended.size
    (record { within = kept.in_range; front = read.front; consumed = kept.consumed; scanned = kept.scanned; piece = read.piece })
    (c.in-Ended.ensures.step ∙ ap (step_over c.loop-filled.place) (piece_is c.loop-filled.filled c.in_ok-count.count c.deref.result.now c.read_piece.new.bytes.items c.deref.ensures.value)) c.if-size-count.true read.bounded (room_on _ _ _ c.loop-filled.filled _ (omega arith) kept.room read.room)

-- the list ends
pub returns-in-Ended-2-clause-list : goal.returns-in-Ended-2-clause-list
returns-in-Ended-2-clause-list g c =
    let kept = c.loop-filled.invariant in
    let read = c.in_ok-count.ensures in
    list_read _ _ _ _ c.loop-filled.filled c.loop-filled.bytes.items c.read_piece.new.bytes.items c.loop-filled.place c.in_ok-count.count c.in-Ended.size
    (record { within = kept.in_range; front = read.front; consumed = kept.consumed; scanned = kept.scanned; piece = read.piece })
    (c.in-Ended.ensures.step ∙ ap (step_over c.loop-filled.place) (piece_is c.loop-filled.filled c.in_ok-count.count c.deref.result.now c.read_piece.new.bytes.items c.deref.ensures.value))
    (omega (arith, c.if-size-count.false, c.in-Ended.ensures.within, piece_short (c.loop-filled.filled + c.in_ok-count.count - c.loop-filled.filled) (drop c.loop-filled.filled c.deref.result.now))) read.bounded (room_on _ _ _ c.loop-filled.filled _ (omega arith) kept.room read.room) _ (omega arith)

pub returns-in-Ended-2-clause-front : goal.returns-in-Ended-2-clause-front
returns-in-Ended-2-clause-front g c = (omega (arith, c.in_ok-count.ensures.piece.fits), (returns-in-Ended-2-clause-list g c).list)

-- the list goes on
pub loop-filled-preserved : goal.loop-filled-preserved
loop-filled-preserved g c =
    let kept = c.loop-filled.invariant in
    let read = c.in_ok-count.ensures in
    let on : ReadOn (g.S.Source.remaining c.args.source.now) (g.S.Source.remaining c.loop-filled.source) (g.S.Source.remaining c.read_piece.new.source) c.loop-filled.filled c.loop-filled.bytes.items c.read_piece.new.bytes.items c.loop-filled.place c.in_ok-count.count = record { within = kept.in_range; front = read.front; consumed = kept.consumed; scanned = kept.scanned; piece = read.piece } in
    record {
      in_range = read.piece.fits;
      bounded = read.bounded;
      consumed = consumed_on _ _ _ c.loop-filled.filled c.loop-filled.bytes.items c.read_piece.new.bytes.items c.loop-filled.place c.in_ok-count.count on;
      scanned = step_on _ _ _ c.loop-filled.filled c.loop-filled.bytes.items c.read_piece.new.bytes.items c.loop-filled.place c.in_ok-count.count _ on (c.in-Within.ensures.step ∙ ap (step_over c.loop-filled.place) (piece_is c.loop-filled.filled c.in_ok-count.count c.deref.result.now c.read_piece.new.bytes.items c.deref.ensures.value));
      room = room_on _ _ _ c.loop-filled.filled _ (omega arith) kept.room read.room;
      held = Keeps-trans _ _ _ kept.held read.held;
      no_flush = read.no_flush ∙ kept.no_flush;
      count = read.count ∙ kept.count;
      steady = λ h. (read.steady (kept.steady h)).0;
    }

-- no list ends within the longest size
pub returns-clause-refused : goal.returns-clause-refused
returns-clause-refused g c =
    let kept = c.loop-filled.invariant in
    too_long _ _ _ _ c.loop-filled.filled c.loop-filled.bytes.items c.loop-filled.place (omega (arith, kept.in_range, kept.bounded, c.loop-filled-test.false)) kept.in_range kept.consumed kept.scanned kept.room
