-- So many connections were served, and nothing ended the service.
use Rattle.dsn_crew.specs.agents.Agent.{IsAgent}
use Rattle.dsn_crew.proofs.agents.PortLemmas.{ServesSoFar}
use Rattle.dsn_crew.proofs.agents.port_service.serve_connections.Given as goal

abbrev pub invariant-loop : goal.invariant-loop
invariant-loop g l = ServesSoFar g.P.Port l.fn.port l.fn.agent l.port l.agent l.line l.counter × IsAgent l.agent
