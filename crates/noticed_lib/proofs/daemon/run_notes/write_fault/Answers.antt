use Rattle.std.proofs.Common.{refl}
use Rattle.dsn_device.proofs.UntilFailureLemmas.{writes-as}
use Rattle.noticed_lib.proofs.daemon.AgentLinesLemmas.{end_lines-fault}
use Rattle.noticed_lib.proofs.daemon.run_notes.write_fault.Goals as goal

pub returns : goal.returns
returns g c = record {
  lost = c.write_last_lines.new.writing.failed;
  noted = writes-as (cc (end_lines-fault c.args.code c.args.unsent)) (rw c.new-writing.ensures at c.write_last_lines.ensures.noted);
  outbox_is = refl;
  status_is = refl;
}
