-- Once there is room, the closing is put last.
use Rattle.std.proofs.Common.{◌≡◌, List, [], ◌∷◌, ◌++◌, ap, ◌∙◌, rules}
use Rattle.std.specs.Prelude.{Some}
use Rattle.dsn_text.specs.declared.key.Key.{Key}
use Rattle.dsn_book.proofs.ClosedKeysLemmas.{keys_closed-push}
use Rattle.dsn_book.proofs.closing.push.Goals as goal

pub returns-clause-keys : goal.returns-clause-keys
returns-clause-keys c = λ few.
    let room = c.make_room.ensures.room few in
    let pushed : c.push_back.new.self.items ≡ c.make_room.new.closings.items ++ Some c.args.key ∷ [] = search rules in
    rw pushed
    (keys_closed-push c.make_room.new.closings.items c.args.key ∙ ap (λ (keys : List Key). keys ++ c.args.key ∷ []) c.make_room.ensures.keys)
