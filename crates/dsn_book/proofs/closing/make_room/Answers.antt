-- Only closings whose keys were released are dropped.
use Rattle.std.proofs.Common.{◌≡◌, filter, length, ap, ◌∙◌, arith, rules}
use Rattle.std.specs.Prelude.{is_some}
use Rattle.std.specs.VecDeque.{deque_len}
use Rattle.std.proofs.lemmas.Fn.{filter_same}
use Rattle.dsn_book.proofs.ClosedKeysLemmas.{keys_closed-held, length-held}
use Rattle.dsn_book.proofs.closing.make_room.Goals as goal

pub returns-then-len-capacity-clause-keys : goal.returns-then-len-capacity-clause-keys
returns-then-len-capacity-clause-keys c =
    let held : c.retain.new.self.items ≡ filter is_some c.args.closings.now.items = filter_same _ _ _ (λ x b f' k. search rules) _ _ c.retain.ensures.filtered in
    rw held (keys_closed-held c.args.closings.now.items)

pub returns-then-len-capacity-clause-room : goal.returns-then-len-capacity-clause-room
returns-then-len-capacity-clause-room c = λ few.
    let held : c.retain.new.self.items ≡ filter is_some c.args.closings.now.items = filter_same _ _ _ (λ x b f' k. search rules) _ _ c.retain.ensures.filtered in
    let count : deque_len c.retain.new.self ≡ length c.retain.new.self.items = search rules in
    let long = ap length held ∙ length-held c.args.closings.now.items in
    let same = c.retain.ensures.capacity in
    omega (arith, count, long, few, same)
