use Rattle.std.proofs.Common.{rules, ◌≡◌, List, [], ◌∷◌, ◌++◌, ap, sym, ◌∙◌, subst, append_assoc}
use Rattle.std.proofs.lemmas.List.{append-nil}
use Rattle.std.specs.Vec.Iter.{into_iter_items}
use Rattle.dsn_outcome.specs.Letter.{Letter}
use Rattle.noticed_lib.proofs.daemon.JournaledLemmas.{none_left}
use Rattle.noticed_lib.proofs.daemon.journal_start.hand_first.Goals as goal

pub loop-letter-init : goal.loop-letter-init
loop-letter-init g c =
    let all : into_iter_items c.into_iter-letter-iterator.result ≡ c.args.letters.items = search rules in
    record {
      done = [];
      split = sym all;
      posted = λ start before was. subst (λ (letters : List Letter). g.O.Outlet.posted start letters c.args.outlet) (sym (append-nil before)) was;
    }

pub loop-letter-preserved : goal.loop-letter-preserved
loop-letter-preserved g c =
    let before = c.loop-letter.invariant in
    record {
      done = before.done ++ c.in-Some.letter ∷ [];
      split = before.split ∙ (ap (λ rest. before.done ++ rest) c.in-Some.ensures.steps.0 ∙ sym (append_assoc before.done (c.in-Some.letter ∷ []) (into_iter_items c.next.new.self)));
      posted = λ start earlier was. subst (λ (letters : List Letter). g.O.Outlet.posted start letters c.hand.new.self) (append_assoc earlier before.done (c.in-Some.letter ∷ [])) (c.hand.ensures.posted start (earlier ++ before.done) (before.posted start earlier was));
    }

pub returns : goal.returns
returns g c =
    let before = c.loop-letter.invariant in
    λ start earlier was. subst (λ (done : List Letter). g.O.Outlet.posted start (earlier ++ done) c.loop-letter.outlet) (none_left _ before.done (into_iter_items c.loop-letter.letter-iterator) before.split (search rules)) (before.posted start earlier was)
