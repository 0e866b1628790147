use Rattle.std.proofs.Common.{◌∙◌, ◌+◌, inr, refl, subst, true≢false, ap, sym, arith}
use Rattle.std.specs.Prelude.{Err}
use Rattle.noticed_lib.specs.inner.Daemon.{BeginsAnew}
use Rattle.noticed_lib.proofs.daemon.JournaledLemmas.{at_opening, begun_is, many_sealed, may_stay, not_replaced_for, once_opened, only_opened, too_many_for}
use Rattle.noticed_lib.proofs.daemon.journal_start.begin_ledger.Goals as goal
use Rattle.noticed_lib.proofs.daemon.journal_start.begin_ledger.Goals.{then-not-may_stay+in-Ok-true, then-not-may_stay+in-Err+else-not-goes_on_after, else-not-may_stay}

pub keeper_over-requires-clause-awaits : goal.keeper_over-requires-clause-awaits
keeper_over-requires-clause-awaits g c =
    let from = c.requires.opened.1 in
    elim c.if-not-may_stay.branch [
      | then-not-may_stay+in-Ok-true w ↦ rw w.ledger-is (w.in-Ok-true.ensures.none (w.in-Ok-true.ensures.settled ∙ from.is.settled))
      | then-not-may_stay+in-Err+else-not-goes_on_after w ↦
          let goes = w.goes_on_after.ensures.0 w.if-not-goes_on_after.false in
          rw (w.ledger-is ∙ w.in-Err.ensures.unchanged (inr (inr (ap Err goes.1)))) from.is.awaits
      | else-not-may_stay w ↦ rw w.ledger-is from.is.awaits
    ]

pub returns-clause-begun : goal.returns-clause-begun
returns-clause-begun g c = elim c.if-not-may_stay.branch [
  | then-not-may_stay+in-Ok-true w ↦
      let raised = w.in-Ok-true.ensures in
      let done = w.in-Ok-true.field-0-test in
      let book = raised.book done in
      let begins = subst (λ l. BeginsAnew g.D.Disk (record l { releases = c.args.releases })) w.ledger-is c.keeper_over.ensures.begins in
      rw (c.keeper_over.ensures.ledger, w.ledger-is)
      (λ journal from.
      begun_is g.D.Disk c.args.limits from.edges journal (record from.opened { ledger = c.args.ledger }) from.allowed from.is _ book.limits_are (let base = raised.base done in let waiting = book.sealed in let small = raised.small.0 done in omega arith) begins raised.ledger
      (λ stays. absurd (true≢false (sym (c.may_stay.ensures.1 (may_stay g.D.Disk c.args.limits from.edges journal (record from.opened { ledger = c.args.ledger }) from.allowed from.is stays (raised.small.0 done))) ∙ w.if-not-may_stay.true)))
      (once_opened g.D.Disk c.args.limits from.edges journal (record from.opened { ledger = c.args.ledger }) from.allowed from.is _ (raised.in_place from.is.settled)))
  | then-not-may_stay+in-Err+else-not-goes_on_after w ↦
      let goes = w.goes_on_after.ensures.0 w.if-not-goes_on_after.false in
      let may = w.may_go_on-may_go_on.ensures.0 goes.0 in
      let same = w.in-Err.ensures.unchanged (inr (inr (ap Err goes.1))) in
      let begins = subst (λ l. BeginsAnew g.D.Disk (record l { releases = c.args.releases })) (w.ledger-is ∙ same) c.keeper_over.ensures.begins in
      rw (c.keeper_over.ensures.ledger, w.ledger-is ∙ same)
      (λ journal from.
      begun_is g.D.Disk c.args.limits from.edges journal (record from.opened { ledger = c.args.ledger }) from.allowed from.is _ may.limits_are may.few begins (λ long in_place. in_place)
      (λ stays. only_opened g.D.Disk c.args.limits from.edges journal (record from.opened { ledger = c.args.ledger }) from.allowed from.is may.limits_are)
      (at_opening g.D.Disk c.args.limits from.edges journal (record from.opened { ledger = c.args.ledger }) from.allowed from.is))
  | else-not-may_stay w ↦
      let may = c.may_stay.ensures.0 w.if-not-may_stay.false in
      let begins = subst (λ l. BeginsAnew g.D.Disk (record l { releases = c.args.releases })) w.ledger-is c.keeper_over.ensures.begins in
      rw (c.keeper_over.ensures.ledger, w.ledger-is)
      (λ journal from.
      begun_is g.D.Disk c.args.limits from.edges journal (record from.opened { ledger = c.args.ledger }) from.allowed from.is _ may.limits_are may.few begins (λ long in_place. in_place)
      (λ stays. only_opened g.D.Disk c.args.limits from.edges journal (record from.opened { ledger = c.args.ledger }) from.allowed from.is may.limits_are)
      (at_opening g.D.Disk c.args.limits from.edges journal (record from.opened { ledger = c.args.ledger }) from.allowed from.is))
]

pub returns-in-Ok-false-clause-refused : goal.returns-in-Ok-false-clause-refused
returns-in-Ok-false-clause-refused g c =
    λ journal from.
    too_many_for g.D.Disk c.args.limits from.edges journal (record from.opened { ledger = c.args.ledger }) from.allowed from.is c.args.waiting.now _ refl
    (many_sealed (c.args.ledger.base + c.args.ledger.book.book.sealed) (λ few. true≢false (sym (c.in-Ok-false.ensures.small.1 few) ∙ c.in-Ok-false.field-0-test)))

pub returns-in-Ok-false-clause-crash : goal.returns-in-Ok-false-clause-crash
returns-in-Ok-false-clause-crash g c = λ journal from.
    rw c.into_disk.ensures.disk (once_opened g.D.Disk c.args.limits from.edges journal (record from.opened { ledger = c.args.ledger }) from.allowed from.is _ (c.in-Ok-false.ensures.in_place from.is.settled))

pub returns-then-not-goes_on_after-clause-refused : goal.returns-then-not-goes_on_after-clause-refused
returns-then-not-goes_on_after-clause-refused g c = λ journal from.
    not_replaced_for g.D.Disk c.args.limits from.edges journal (record from.opened { ledger = c.args.ledger }) from.allowed from.is c.args.waiting.now c.in-Err.error _ c.code.ensures
    (λ unsettled. true≢false (sym from.is.settled ∙ c.in-Err.ensures.unsettled.0 (ap Err unsettled))) (λ full. c.in-Err.ensures.full (ap Err full))
    (λ full may. true≢false (sym (c.goes_on_after.ensures.1 (c.may_go_on-may_go_on.ensures.1 may, full)) ∙ c.if-not-goes_on_after.true))

pub returns-then-not-goes_on_after-clause-crash : goal.returns-then-not-goes_on_after-clause-crash
returns-then-not-goes_on_after-clause-crash g c = λ journal from.
    rw c.into_disk-then-not-goes_on_after.ensures.disk (once_opened g.D.Disk c.args.limits from.edges journal (record from.opened { ledger = c.args.ledger }) from.allowed from.is _ (c.in-Err.ensures.in_place from.is.settled))
