-- Each connection that the port gives is served before it is asked for the next one.
use Rattle.std.proofs.Common.{rules, ◌+◌, ap, refl, sym, ◌∙◌, arith}
use mir.Val.{bool_byte}
use Rattle.dsn_crew.proofs.agents.PortLemmas.{serves-done, serves-failed, serves-full, serves-more, serves-lost}
use Rattle.dsn_crew.proofs.agents.port_service.serve_connections.Goals as goal

pub returns-then-is_lost-clause-served : goal.returns-then-is_lost-clause-served
returns-then-is_lost-clause-served g c =
    serves-lost g.P.Stream.Source g.P.Stream.Drain g.P.Port _ _ _ _ _ _ _ _ _ _ _ _ _ _ _ c.loop.invariant.0 c.in-Conn.ensures.told (cc) c.in-Conn.ensures.given (c.in-Conn.ensures.goes_on refl) c.serve-served.ensures.served (omega arith) c.requests-in-loop.ensures.count (omega arith)
    (ap (λ n. c.loop.line.faults + n) (c.from.ensures ∙ ap bool_byte c.is_err.ensures.value)) (sym c.is_lost.ensures ∙ c.if-is_lost.true)

pub returns-in-Done-clause-served : goal.returns-in-Done-clause-served
returns-in-Done-clause-served g c =
    serves-done g.P.Port _ _ _ _ _ _ c.loop.invariant.0 (omega arith) g.P.Stream.Source _ _ (search (rules, c.loop.invariant.0.good)) c.in-Done.ensures.told c.in-Done.ensures.given

pub returns-in-Failed-clause-served : goal.returns-in-Failed-clause-served
returns-in-Failed-clause-served g c =
    serves-failed g.P.Port _ _ _ _ _ _ c.loop.invariant.0 (omega arith) g.P.Stream.Source _ _ (search (rules, c.loop.invariant.0.good)) c.in-Failed.ensures.told c.in-Failed.ensures.given

pub loop-preserved : goal.loop-preserved
loop-preserved g c = (
  serves-more g.P.Stream.Source g.P.Stream.Drain g.P.Port _ _ _ _ _ _ _ _ _ _ _ _ _ _ _ c.loop.invariant.0 c.in-Conn.ensures.told (cc) c.in-Conn.ensures.given (c.in-Conn.ensures.goes_on refl) c.serve-served.ensures.served (omega arith) c.requests-in-loop.ensures.count (omega arith)
      (ap (λ n. c.loop.line.faults + n) (c.from.ensures ∙ ap bool_byte c.is_err.ensures.value)) (sym c.is_lost.ensures ∙ c.if-is_lost.false),
  c.serve-served.ensures.kept,
)

pub returns-clause-served : goal.returns-clause-served
returns-clause-served g c =
    serves-full g.P.Port _ _ _ _ _ _ c.loop.invariant.0 (omega arith) (omega arith)
