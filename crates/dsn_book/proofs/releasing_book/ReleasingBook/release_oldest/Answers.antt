-- The first of the closed keys leaves, if there is one.
use Rattle.std.proofs.Common.{◌≡◌, List, [], ◌∷◌, map, take, ap, sym, subst, ◌∙◌}
use Rattle.dsn_outcome.specs.History.{history_after}
use Rattle.dsn_text.specs.declared.key.Key.{Key}
use Rattle.dsn_book.proofs.OrderLemmas.{release-closed}
use Rattle.dsn_book.proofs.ReleaseLemmas.{after-none}
use Rattle.dsn_book.specs.Book.{ReleasingBook, RepresentsInOrder}
use Rattle.dsn_book.specs.Closing.{keys_closed}
use Rattle.dsn_book.specs.Release.{closed_keys, release_of}
use Rattle.dsn_book.proofs.releasing_book.ReleasingBook.release_oldest.Goals as goal

pub returns-in-Some-clause-stands : goal.returns-in-Some-clause-stands
returns-in-Some-clause-stands c = λ t stands.
    let here : RepresentsInOrder _ t = subst (λ (b : ReleasingBook). RepresentsInOrder b t) (sym c.self.view_is) stands in
    let left : List Key = keys_closed c.pop_oldest.new.closings.items in
    let order : closed_keys t ≡ c.in-Some.key ∷ left = sym here.closed ∙ c.in-Some.ensures.first in
    let one : map release_of (take 1 (closed_keys t)) ≡ release_of c.in-Some.key ∷ [] = ap (λ (keys : List Key). map release_of (take 1 keys)) order in
    let after : RepresentsInOrder (record { book = c.release.new.self; closed = left }) (history_after c.self.inside.book.limits t (release_of c.in-Some.key ∷ [])) = record {
      represents = c.release.ensures.stands t here.represents;
      closed = sym (release-closed c.self.inside.book.limits t c.in-Some.key left order);
    } in
    rw (one, ← c.self.view_is) after

pub returns-in_default-clause-stands : goal.returns-in_default-clause-stands
returns-in_default-clause-stands c = λ t stands.
    let here : RepresentsInOrder _ t = subst (λ (b : ReleasingBook). RepresentsInOrder b t) (sym c.self.view_is) stands in
    let order : closed_keys t ≡ [] = sym here.closed ∙ c.in_default.ensures.none.0 in
    let none : map release_of (take 1 (closed_keys t)) ≡ [] = ap (λ (keys : List Key). map release_of (take 1 keys)) order in
    let same : RepresentsInOrder (record { book = c.self.inside.book; closed = keys_closed c.pop_oldest.new.closings.items }) t = record {
      represents = here.represents;
      closed = c.in_default.ensures.none.1 ∙ sym order;
    } in
    rw (none, after-none c.args.self.now.book.limits t) same
