-- The closing at the place, or else that which is found, loses its key.
use Rattle.std.proofs.Common.{◌≡◌, ◌<◌, not, filter, length, refl, arith, rules}
use Rattle.std.specs.VecDeque.{deque_len}
use Rattle.std.proofs.lemmas.Fn.{filter_same}
use Rattle.dsn_book.proofs.ClosedKeysLemmas.{keys_closed-set, keys_closed-without}
use Rattle.dsn_book.specs.inner.Closing.{has_key}
use Rattle.dsn_book.proofs.closing.release.Goals as goal

pub returns-then-is_at-clause-keys : goal.returns-then-is_at-clause-keys
returns-then-is_at-clause-keys c = λ apart.
    let count : deque_len c.args.closings.now ≡ length c.args.closings.now.items = search rules in
    let within = c.if-is_at.ensures.inside refl in
    let inside : c.partition_point-at.result < length c.args.closings.now.items = omega (arith, count, within) in
    rw c.release.ensures (keys_closed-set c.args.key c.args.closings.now.items c.partition_point-at.result inside (c.if-is_at.ensures.here refl) apart)

pub returns-else-is_at-clause-keys : goal.returns-else-is_at-clause-keys
returns-else-is_at-clause-keys c = λ apart.
    let left : c.retain.new.self.items ≡ filter (λ closing. not (has_key c.args.key closing)) c.args.closings.now.items = filter_same _ _ _ (λ x b f' k. search rules) _ _ c.retain.ensures.filtered in
    rw left (keys_closed-without c.args.key c.args.closings.now.items)
