-- The closure, and what it gives back, go from one thread to another; a refused start passes no letter on.
use denote.Exit.{no}
use denote.Param.Send.{param_send, arg_send}
use mir.Syntax.{named}
use Rattle.std.proofs.Common.{rules, ◌∙◌}
use Rattle.dsn_crew.specs.post.Posting.{IsPosting}
use Rattle.dsn_crew.proofs.post.PostingLemmas.{none_first}
use Rattle.dsn_crew.proofs.post.SendLemmas.{posting_send, posts_send}
use Rattle.dsn_crew.proofs.post.posting_start.start_posting.Goals as goal

pub spawn_with-started-requires-send-F : goal.spawn_with-started-requires-send-F
spawn_with-started-requires-send-F g c κs within =
    param_send 2 _ (arg_send _ no _ (posts_send _ (record { mir = named 6; lft = κs.1.1.1.1.1.1.0 }) g.row.R g.row.O c.type_bounds.sync-R c.type_bounds.send-O))

pub spawn_with-started-requires-send-T : goal.spawn_with-started-requires-send-T
spawn_with-started-requires-send-T g c κs within = param_send 3 _ (arg_send _ no _ (posting_send g.row.O c.type_bounds.send-O))

pub returns-in-Err-clause-refused : goal.returns-in-Err-clause-refused
returns-in-Err-clause-refused g c =
    let posting : IsPosting g.O.Outlet c.args.outlet c.args.source.lane c.spawn_with-outlet.result = search rules in
    let none = none_first _ _ c.close.ensures.first (c.mark-sink.ensures.1 ∙ c.requires.sink) in
    posting.untouched none _ c.into_left.ensures
