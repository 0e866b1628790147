-- Whether a body needs a new key in a full table.
use Rattle.std.proofs.Common.{◌≡◌, ◌≤◌, ◌<◌, false, List, length, sym, subst, ◌∙◌, arith, rules}
use Rattle.dsn_outcome.specs.Body.{body_of}
use Rattle.dsn_outcome.specs.History.{Exchange, holds_none}
use Rattle.dsn_book.proofs.RoomLemmas.{few-no_room, room-search}
use Rattle.dsn_book.specs.Book.{Book, Represents}
use Rattle.dsn_book.specs.Release.{needs_room}
use Rattle.dsn_book.proofs.book.Book.needs_room.Goals as goal

pub returns-then-len-logs : goal.returns-then-len-logs
returns-then-len-logs c =
    let few : length c.self.inside.table.entries < c.self.inside.limits.logs = omega (arith, c.if-len-logs.true, c.len.ensures, c.logs.ensures.value) in
    subst (λ (b : Book). (t : List Exchange) → Represents b t → false ≡ needs_room b.limits t (body_of c.args.body.now)) c.self.view_is
    (λ t stands. sym (few-no_room _ t (body_of c.args.body.now) stands few))

pub returns-in-Some : goal.returns-in-Some
returns-in-Some c =
    let few : length c.self.inside.table.entries ≤ c.self.inside.limits.logs = c.self.invariant.0.few in
    let full : length c.self.inside.table.entries ≡ c.self.inside.limits.logs = omega (arith, few, c.if-len-logs.false, c.len.ensures, c.logs.ensures.value) in
    let holds : holds_none (body_of c.args.body.now) ≡ false = search rules in
    let key = sym c.key.ensures ∙ c.in-Some.is in
    subst (λ (b : Book). (t : List Exchange) → Represents b t → c.is_err.result ≡ needs_room b.limits t (body_of c.args.body.now)) c.self.view_is
    (λ t stands. c.is_err.ensures.value ∙ room-search _ t (body_of c.args.body.now) c.in-Some.key c.search.result.found stands holds key full c.search.ensures.held c.search.ensures.other)
