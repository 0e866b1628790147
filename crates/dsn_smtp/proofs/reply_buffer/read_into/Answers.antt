use Rattle.std.proofs.Common.{◌∙◌, sym, arith, rules}
use Rattle.std.proofs.KnownBytes.{Keeps-trans}
use Rattle.std.proofs.lemmas.Result.{err_from_is_err_and}
use Rattle.dsn_smtp.proofs.ReplyReadingLemmas.{ReadOn, consumed_on, more_read, no_piece, other_read, reply_read, too_long}
use Rattle.dsn_smtp.proofs.reply_buffer.read_into.Goals as goal

-- no piece was read
pub returns-in_err-count-clause-refused : goal.returns-in_err-count-clause-refused
returns-in_err-count-clause-refused g c =
    let kept = c.loop-filled.invariant in
    let exit = err_from_is_err_and c.from_residual.result c.from_residual.ensures.1 in
    rw (exit.1, exit.2) (no_piece _ _ _ c.loop-filled.filled c.loop-filled.bytes c.in_err-count.field-0.0
    kept.in_range c.loop-filled-test.true kept.consumed kept.scanned c.in_err-count.ensures.refused)

-- the reply goes on
pub loop-filled-preserved : goal.loop-filled-preserved
loop-filled-preserved g c =
    let kept = c.loop-filled.invariant in
    let read = c.in_ok-count.ensures in
    let on : ReadOn (g.S.Source.remaining c.args.source.now) (g.S.Source.remaining c.loop-filled.source) (g.S.Source.remaining c.read_piece.new.source) c.loop-filled.filled c.loop-filled.bytes c.read_piece.new.bytes c.in_ok-count.count = record { within = kept.in_range; front = read.front; consumed = kept.consumed; piece = read.piece; bounded = search rules } in
    record {
      in_range = read.piece.fits;
      long = search rules;
      consumed = consumed_on _ _ _ c.loop-filled.filled c.loop-filled.bytes c.read_piece.new.bytes c.in_ok-count.count on;
      scanned = sym c.in-Open.ensures;
      held = Keeps-trans _ _ _ kept.held read.held;
      no_flush = read.no_flush ∙ kept.no_flush;
      unflushed = read.unflushed ∙ kept.unflushed;
      count = read.count ∙ kept.count;
      steady = λ h. (read.steady (kept.steady h)).0;
    }

-- the reply ends with the piece
pub returns-in-Whole-clause-reply : goal.returns-in-Whole-clause-reply
returns-in-Whole-clause-reply g c =
    let kept = c.loop-filled.invariant in
    let read = c.in_ok-count.ensures in
    reply_read _ _ _ c.loop-filled.filled c.loop-filled.bytes c.read_piece.new.bytes c.in_ok-count.count c.in-Whole.code
    (record { within = kept.in_range; front = read.front; consumed = kept.consumed; piece = read.piece; bounded = search rules }) (sym c.in-Whole.ensures)

-- the reply ends within the piece
pub returns-in-Behind-clause-refused : goal.returns-in-Behind-clause-refused
returns-in-Behind-clause-refused g c =
    let kept = c.loop-filled.invariant in
    let read = c.in_ok-count.ensures in
    more_read _ _ _ c.loop-filled.filled c.loop-filled.bytes c.read_piece.new.bytes c.in_ok-count.count
    (record { within = kept.in_range; front = read.front; consumed = kept.consumed; piece = read.piece; bounded = search rules }) (sym c.in-Behind.ensures)

-- a byte is at a place where no reply has it
pub returns-in-Wrong-clause-refused : goal.returns-in-Wrong-clause-refused
returns-in-Wrong-clause-refused g c =
    let kept = c.loop-filled.invariant in
    let read = c.in_ok-count.ensures in
    other_read _ _ _ c.loop-filled.filled c.loop-filled.bytes c.read_piece.new.bytes c.in_ok-count.count
    (record { within = kept.in_range; front = read.front; consumed = kept.consumed; piece = read.piece; bounded = search rules }) (sym c.in-Wrong.ensures)

-- no reply ends within the longest size
pub returns-clause-refused : goal.returns-clause-refused
returns-clause-refused g c =
    let kept = c.loop-filled.invariant in
    too_long _ _ c.loop-filled.filled c.loop-filled.bytes (omega (arith, kept.in_range, kept.long, c.loop-filled-test.false)) kept.in_range kept.consumed kept.scanned
