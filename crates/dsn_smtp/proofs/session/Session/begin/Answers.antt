use Rattle.std.proofs.Common.{◌∙◌, ap}
use Rattle.dsn_smtp.specs.Extensions.{extensions_of}
use Rattle.dsn_smtp.specs.Session.{greeted}
use Rattle.dsn_smtp.proofs.session.Session.begin.Goals as goal

pub invariant_of-result : goal.invariant_of-result
invariant_of-result g c =
    greeted c.args.stream (record { stream = c.greet.new.stream; extensions = c.of_reply-extensions.result }) c.args.host.now c.args.buffer.now c.greet.new.buffer
    c.in-Ok.ensures (c.of_reply-extensions.ensures ∙ ap extensions_of c.bytes.ensures)
