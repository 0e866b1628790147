-- The service of the connections, and the goodbye.
use Rattle.std.proofs.Common.{Ok, Err}
use Rattle.dsn_crew.proofs.agents.PortLemmas.{service-ends}
use Rattle.dsn_crew.proofs.agents.port_service.serve_port.Goals as goal

pub returns-in-Ok : goal.returns-in-Ok
returns-in-Ok g c = rw c.heard.ensures (service-ends _ _ _ _ _ c.serve_connections-line.ensures.served.served (Ok c.in-Ok.finished) c.in-Ok.ensures.leave)

pub returns : goal.returns
returns g c = rw c.unheard.ensures (service-ends _ _ _ _ _ c.serve_connections-line.ensures.served.served (Err c.in-Err.unheard) c.in-Err.ensures.leave)
