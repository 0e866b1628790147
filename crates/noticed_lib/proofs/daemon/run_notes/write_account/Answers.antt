use Rattle.std.proofs.Common.{◌∙◌, ap, refl, subst, sym}
use Rattle.dsn_book.specs.Book.{Book, Represents}
use Rattle.dsn_book.specs.RuledBook.{book_of}
use Rattle.dsn_book.specs.declared.ruled_book.RuledBook.{RuledBook}
use Rattle.dsn_crew.specs.Crew.{Account}
use Rattle.noticed_lib.specs.daemon.Serve.{WritesAccount}
use Rattle.noticed_lib.specs.inner.Daemon.{WritesRun}
use Rattle.noticed_lib.proofs.daemon.run_notes.write_account.Goals as goal

pub returns : goal.returns
returns g c =
    λ history. subst (λ (account : Account _ RuledBook). Represents (book_of account.book) history → WritesAccount g.N.Drain history account c.args.notes.now c.write_run-status.new.notes (record { outbox = c.account.inside.outbox; status = c.write_run-status.result })) c.account.view_is
    (λ stands. let run = subst (λ agents. WritesRun g.N.Drain history agents c.account.inside.whole c.account.inside.unsent c.args.notes.now c.write_run-status.new.notes c.write_run-status.result) c.as_slice.ensures.value (c.write_run-status.ensures history (subst (λ (book : Book). Represents book history) (sym (c.book.ensures ∙ ap book_of c.into_keeper-book.ensures)) stands)) in record {
      logs = run.logs;
      logs_are = run.logs_are;
      lost = run.lost;
      noted = run.noted;
      outbox_is = refl;
      status_is = run.status_is;
    })
