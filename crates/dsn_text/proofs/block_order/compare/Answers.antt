-- An unequal word decides the order, and after an equal one the next words do.
use Rattle.std.proofs.Common.{◌≡◌, ◌+◌, ◌*◌, sym, ◌∙◌, rules, take, drop, arith}
use Rattle.std.specs.Ordering.{nat_cmp}
use Rattle.std.specs.Slice.Scan.{big_endian}
use Rattle.dsn_text.proofs.BlockOrderLemmas.{word-decides, word-passes, words_at}
use Rattle.dsn_text.proofs.block_order.compare.Goals as goal

pub returns-then-is_ne : goal.returns-then-is_ne
returns-then-is_ne c =
    let is : c.cmp-order.result ≡ nat_cmp (big_endian 0 (take 8 (drop (c.loop-number.number * 8) c.args.left.now))) (big_endian 0 (take 8 (drop (c.loop-number.number * 8) c.args.right.now))) =
    words_at (c.loop-number.number * 8) _ _ c.word.result c.word-in-loop-number.result c.args.left.now c.args.right.now c.cmp-order.result c.cmp-order.ensures c.word.ensures c.word-in-loop-number.ensures (omega arith) (omega arith) in
    sym (c.loop-number.invariant ∙ word-decides (c.loop-number.number * 8) c.args.left.now c.args.right.now c.cmp-order.result (omega arith) (omega arith) c.fits-left c.fits-right is (search rules))

pub loop-number-preserved : goal.loop-number-preserved
loop-number-preserved c =
    let next : (c.loop-number.number + 1) * 8 ≡ c.loop-number.number * 8 + 8 = omega arith in
    let is : c.cmp-order.result ≡ nat_cmp (big_endian 0 (take 8 (drop (c.loop-number.number * 8) c.args.left.now))) (big_endian 0 (take 8 (drop (c.loop-number.number * 8) c.args.right.now))) =
    words_at (c.loop-number.number * 8) _ _ c.word.result c.word-in-loop-number.result c.args.left.now c.args.right.now c.cmp-order.result c.cmp-order.ensures c.word.ensures c.word-in-loop-number.ensures (omega arith) (omega arith) in
    rw next (c.loop-number.invariant
    ∙ word-passes (c.loop-number.number * 8) c.args.left.now c.args.right.now c.cmp-order.result (omega arith) (omega arith) c.fits-left c.fits-right is (search rules))
