use Rattle.std.proofs.lemmas.Result.{IfOk-weaker}
use Rattle.dsn_device.proofs.UntilFailureLemmas.{writes-as, writes-then}
use Rattle.dsn_notes.proofs.OpenLogsLemmas.{AreOpenLines-listed, is_none-listed}
use Rattle.noticed_lib.specs.daemon.AgentLines.{run_lines}
use Rattle.noticed_lib.proofs.daemon.run_notes.write_run.Goals as goal

pub returns : goal.returns
unfolding run_lines
returns g c =
    let noted = writes-then c.write_agents.ensures c.write_last_lines.ensures.noted in
    λ history stands. record {
      logs = _;
      logs_are = AreOpenLines-listed _ c.open_lines-logs.result _ (IfOk-weaker c.open_lines-logs.result _ _ (λ lines listed. listed _ stands) c.open_lines-logs.ensures.history) c.open_lines-logs.ensures.order;
      lost = c.write_last_lines.new.writing.failed;
      noted = writes-as (cc) (rw c.new-writing.ensures at noted);
      status_is = cc (is_none-listed c.open_lines-logs.result (λ lines. lines.items));
    }
