-- The agents' results show why the run was broken off.
use Rattle.std.proofs.Common.{sym, subst}
use Rattle.std.specs.Prelude.{Some, Err}
use Rattle.dsn_crew.specs.inner.Breach.{IsShown}
use Rattle.dsn_crew.specs.inner.Conclude.{MayClose}
use Rattle.dsn_crew.specs.declared.breach.Breach.{Breach}
use Rattle.dsn_crew.proofs.conclude.conclude.Goals as goal

pub broken_off-requires-in-Err-gathered : goal.broken_off-requires-in-Err-gathered
broken_off-requires-in-Err-gathered g c =
    let new = c.new-broken-in-Err-gathered in
    let may = subst (λ it. MayClose g.B.Keeper it (Err c.in-Err-gathered.breach)) c.in-Ok.is (subst (λ it. MayClose g.B.Keeper c.args.collected it) c.in-Err-gathered.is c.requires.close) in
    record { shown = subst (λ (breach : Breach). IsShown g.B.Keeper (Some new.result.desk) breach) (sym new.ensures.breach) (may (Some new.result.desk)) }
