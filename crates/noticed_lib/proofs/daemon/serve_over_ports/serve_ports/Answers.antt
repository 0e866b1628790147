-- A run over a book that is empty begins with no history; one without a book did nothing.
use denote.Exit.{no}
use denote.Param.Send.{param_send, arg_send}
use Rattle.std.proofs.Common.{◌≡◌, ℕ, List, [], inl, inr, ap, subst, sym, ◌∙◌, arith, length, vec_len}
use Rattle.std.specs.Prelude.{Err}
use Rattle.dsn_book.specs.RuledBook.{book_rules, has_by_rules, ruled_keeper}
use Rattle.dsn_book.specs.Release.{Rules}
use Rattle.dsn_book.specs.declared.ruled_book.RuledBook.{RuledBook}
use Rattle.dsn_crew.proofs.CrewLemmas.{kept_always}
use Rattle.dsn_crew.specs.Crew.{CrewFault, HasAccount, HasFault}
use Rattle.dsn_crew.specs.post.Outlet.{outbox_outlet}
use Rattle.dsn_outcome.specs.Letter.{Letter}
use Rattle.dsn_report.proofs.SendLemmas.{outgoing_send}
use Rattle.dsn_report.specs.Outgoing.{Outgoing, begun}
use Rattle.noticed_lib.specs.daemon.Serve.{WritesFault}
use Rattle.noticed_lib.specs.inner.Daemon.{HasNoPorts}
use Rattle.noticed_lib.proofs.daemon.ServeLemmas.{no-book, none_earlier, represented}
use Rattle.noticed_lib.proofs.daemon.serve_over_ports.serve_ports.Goals as goal

pub returns-in-Err : goal.returns-in-Err
returns-in-Err g c =
    let counts : vec_len c.args.ports ≡ length c.args.ports.items = omega arith in
    no-book g.P.Port g.W.Drain g.N.Drain c.args.site _ c.args.ports.items c.args.outbox c.args.notes.now c.write_fault.new.notes c.write_fault.result c.in-Err.cause
    (subst (λ (count : ℕ). HasNoPorts count c.in-Err.cause) (c.len.ensures ∙ counts) c.in-Err.ensures.refused)
    (subst (λ (unsent : List Letter). WritesFault g.N.Drain c.in-Err.cause c.args.outbox unsent c.args.notes.now c.write_fault.new.notes c.write_fault.result) c.new.ensures (rw c.code.ensures at c.write_fault.ensures))

pub run_crew_over-requires-clause-begins : goal.run_crew_over-requires-clause-begins
run_crew_over-requires-clause-begins g c κs within = ([], (subst (λ (book : RuledBook). has_by_rules book []) (sym c.new-book.ensures) c.in-Ok.ensures.empty.0, none_earlier))

pub run_crew_over-requires-send-O : goal.run_crew_over-requires-send-O
run_crew_over-requires-send-O g c κs within = param_send 3 _ (arg_send _ no _ (outgoing_send _ c.type_bounds.send-W))

pub returns-in-Ok-run_crew_over : goal.returns-in-Ok-run_crew_over
returns-in-Ok-run_crew_over g c =
    let empty = subst (λ (book : RuledBook). has_by_rules book []) (sym c.new-book.ensures) c.in-Ok.ensures.empty.0 in
    let rules = ap book_rules c.new-book.ensures ∙ c.in-Ok.ensures.rules in
    let crew = subst (λ (by : Rules). HasAccount ruled_keeper g.P.Port (outbox_outlet g.W.Drain) (begun c.args.site c.args.outbox) [] by [] c.args.ports.items c.in-Ok-run_crew_over.account) rules (c.in-Ok-run_crew_over.ensures.run.account (begun c.args.site c.args.outbox) [] c.new-2.ensures.delivered [] (empty, none_earlier)) in
    inl (record {
      account = c.in-Ok-run_crew_over.account;
      crew = crew;
      count = c.in-Ok-run_crew_over.ensures.count;
      noted = c.write_account.ensures _ (represented c.in-Ok-run_crew_over.account.book _ crew.is.book);
    })

pub returns-in-Err-run_crew_over : goal.returns-in-Err-run_crew_over
returns-in-Err-run_crew_over g c =
    let empty = subst (λ (book : RuledBook). has_by_rules book []) (sym c.new-book.ensures) c.in-Ok.ensures.empty.0 in
    let rules = ap book_rules c.new-book.ensures ∙ c.in-Ok.ensures.rules in
    let new = subst (λ (it : Outgoing _). HasFault ruled_keeper (outbox_outlet g.W.Drain) (begun c.args.site c.args.outbox) [] it (book_rules c.new-book.result) [] (length c.args.ports.items) c.in-Err-run_crew_over.fault) c.new-2.ensures.new (c.in-Err-run_crew_over.ensures.run.fault (begun c.args.site c.args.outbox) [] c.new-2.ensures.delivered [] (empty, none_earlier)) in
    let crew = subst (λ (by : Rules). HasFault ruled_keeper (outbox_outlet g.W.Drain) (begun c.args.site c.args.outbox) [] (begun c.args.site c.args.outbox) by [] (length c.args.ports.items) c.in-Err-run_crew_over.fault) rules new in
    inr (record {
      fault = c.in-Err-run_crew_over.fault;
      crew = crew;
      counted = c.in-Err-run_crew_over.ensures.refused;
      kept = kept_always ruled_keeper (λ _ _ _ _ never. never) _ _ _ _ _ _ (Err c.in-Err-run_crew_over.fault) crew;
      noted = subst (λ (fault : CrewFault _ _). WritesFault g.N.Drain fault.cause fault.outbox fault.unsent c.args.notes.now c.write_fault-in-Err-run_crew_over.new.notes c.write_fault-in-Err-run_crew_over.result) c.fault.view_is (rw c.code-in-Err-run_crew_over.ensures at c.write_fault-in-Err-run_crew_over.ensures);
    })
