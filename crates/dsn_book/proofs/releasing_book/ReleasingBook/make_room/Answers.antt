-- Room is made exactly if the rule and the body say so.
use Rattle.std.proofs.Common.{◌≡◌, true, false, sym, subst, ◌∙◌, rules}
use Rattle.dsn_outcome.specs.Body.{body_of}
use Rattle.dsn_book.proofs.OrderLemmas.{none-made, some-made}
use Rattle.dsn_book.specs.Book.{ReleasingBook, Represents}
use Rattle.dsn_book.specs.Release.{needs_room}
use Rattle.dsn_book.proofs.releasing_book.ReleasingBook.make_room.Goals as goal

pub returns-then-not-needs_room-clause-stands : goal.returns-then-not-needs_room-clause-stands
returns-then-not-needs_room-clause-stands c = λ t stands.
    let releases : c.args.releases ≡ true = search rules in
    let no : c.needs_room.result ≡ false = search rules in
    let inner : Represents c.self.inside.book t = subst (λ (b : ReleasingBook). Represents b.book t) (sym c.self.view_is) stands.represents in
    let none : needs_room c.args.self.now.book.limits t (body_of c.args.body.now) ≡ false =
    subst (λ (b : ReleasingBook). needs_room b.book.limits t (body_of c.args.body.now) ≡ false) c.self.view_is (sym (c.needs_room.ensures t inner) ∙ no) in
    rw (releases, none-made c.args.self.now.book.limits t (body_of c.args.body.now) none) stands

pub returns-clause-stands : goal.returns-clause-stands
returns-clause-stands c = λ t stands.
    let releases : c.args.releases ≡ true = search rules in
    let yes : c.needs_room.result ≡ true = search rules in
    let inner : Represents c.self.inside.book t = subst (λ (b : ReleasingBook). Represents b.book t) (sym c.self.view_is) stands.represents in
    let some : needs_room c.args.self.now.book.limits t (body_of c.args.body.now) ≡ true =
    subst (λ (b : ReleasingBook). needs_room b.book.limits t (body_of c.args.body.now) ≡ true) c.self.view_is (sym (c.needs_room.ensures t inner) ∙ yes) in
    rw (releases, ← (some-made c.args.self.now.book.limits t (body_of c.args.body.now) some)) (c.release_oldest.ensures.stands t stands)
