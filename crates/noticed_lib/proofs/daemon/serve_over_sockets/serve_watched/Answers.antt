use Rattle.std.proofs.Common.{inl, refl}
use Rattle.noticed_lib.proofs.daemon.ServeLemmas.{no-ports, ports-fit, serve-uses}
use Rattle.noticed_lib.proofs.daemon.serve_over_sockets.serve_watched.Goals as goal

pub returns-in-Ok : goal.returns-in-Ok
returns-in-Ok g c = inl (rw (← c.in-Ok.ensures.count) (serve-uses _ (λ one. refl) _ _ _ _ _ _ _ (ports-fit g.H.Watch.may_end (λ port. port.watch.now) (λ port. port.left) c.args.watch.now c.args.serving.max_use _ c.in-Ok.ensures.uses) _ _ _ _ c.serve_ports.ensures))

pub returns-in-Err : goal.returns-in-Err
returns-in-Err g c = no-ports _ _ _ _ _ _ _ _ _ _ _ c.in-Err.cause c.in-Err.ensures.none (rw (← c.new.ensures) (rw c.code.ensures at c.write_fault.ensures))
