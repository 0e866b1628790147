-- A run over a book that is empty begins with no history.
use denote.Exit.{no}
use denote.Param.Send.{param_send, arg_send}
use Rattle.std.proofs.Common.{[]}
use Rattle.dsn_book.specs.Keeper.{book_keeper}
use Rattle.dsn_crew.proofs.CrewLemmas.{book_account, book_fault, book_left, kept_always}
use Rattle.dsn_crew.proofs.desk.EarlierLemmas.{none_earlier}
use Rattle.dsn_report.proofs.SendLemmas.{outgoing_send}
use Rattle.dsn_report.specs.Outgoing.{begun}
use Rattle.dsn_crew.proofs.crew_run.run_crew.Goals as goal

pub run_crew_over-requires-clause-begins : goal.run_crew_over-requires-clause-begins
run_crew_over-requires-clause-begins g c κs within = ([], (c.in-Ok.ensures.empty.0, none_earlier))

pub run_crew_over-requires-send-O : goal.run_crew_over-requires-send-O
run_crew_over-requires-send-O g c κs within = param_send 3 _ (arg_send _ no _ (outgoing_send _ c.type_bounds.send-W))

pub returns-in-Ok-clause-account : goal.returns-in-Ok-clause-account
returns-in-Ok-clause-account g c = book_account _ _ _ _ _ _ _ _ c.in-Ok.ensures.limits (c.run_crew_over.ensures.run.account (begun c.args.site c.args.outbox) [] c.new.ensures.delivered [] (c.in-Ok.ensures.empty.0, none_earlier))

pub returns-in-Ok-clause-fault : goal.returns-in-Ok-clause-fault
returns-in-Ok-clause-fault g c = book_fault _ _ _ _ _ _ _ _ c.new.ensures.new c.in-Ok.ensures.limits (c.run_crew_over.ensures.run.fault (begun c.args.site c.args.outbox) [] c.new.ensures.delivered [] (c.in-Ok.ensures.empty.0, none_earlier))

pub returns-in-Ok-clause-kept : goal.returns-in-Ok-clause-kept
returns-in-Ok-clause-kept g c = kept_always book_keeper (λ _ _ _ _ never. never) _ _ _ _ _ _ _ (c.run_crew_over.ensures.run.fault (begun c.args.site c.args.outbox) [] c.new.ensures.delivered [] (c.in-Ok.ensures.empty.0, none_earlier))

pub returns-in-Ok-clause-book : goal.returns-in-Ok-clause-book
returns-in-Ok-clause-book g c = book_left _ _ _ _ _ _ _ _ c.in-Ok.ensures.limits (c.run_crew_over.ensures.run.fault (begun c.args.site c.args.outbox) [] c.new.ensures.delivered [] (c.in-Ok.ensures.empty.0, none_earlier))
