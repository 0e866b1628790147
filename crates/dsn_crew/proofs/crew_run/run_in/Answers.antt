-- The results of the threads, the collector and the poster are put together.
use Rattle.std.proofs.Common.{rules, ℕ, ap, sym, ◌∙◌, subst, arith}
use Rattle.dsn_crew.specs.lane.Halves.{Identity}
use Rattle.dsn_crew.specs.post.LetterSink.{LetterSink}
use Rattle.dsn_crew.specs.post.Parcel.{Parcel}
use Rattle.dsn_crew.specs.inner.Posting.{IsPosted}
use Rattle.dsn_crew.specs.post.Posting.{Posts}
use Rattle.dsn_crew.proofs.CrewLemmas.{begins, collected_lane, crew_run, ends_length, handles_length, may_close, may_miss, missing_few, never_begun, never_begun_with, never_ran, no_count}
use Rattle.dsn_crew.specs.declared.crew_cause.CrewCause.TheVariants as causes
use Rattle.dsn_crew.proofs.crew_run.run_in.Goals as goal

pub overflow_cast-count_missing : goal.overflow_cast-count_missing
overflow_cast-count_missing g c =
    let room = c.in-Ok.ensures.room in
    let few = missing_few g.B.Keeper g.P.Port c.args.book c.args.ports.items _ _ _ room.opened (search rules) _ c.start_all-handles.ensures in
    let count = c.count_missing.ensures in
    let most = c.requires.few in
    record { fits = omega arith }

pub miss-requires : goal.miss-requires
miss-requires g c =
    let room = c.in-Ok.ensures.room in
    let few = may_miss g.B.Keeper g.P.Port c.args.book c.args.ports.items _ _ _ room.opened (search rules) _ c.start_all-handles.ensures in
    let count = c.count_missing.ensures in
    record { idle = room.opened.taken.1; left = omega arith }

pub join_all-requires-clause-room : goal.join_all-requires-clause-room
join_all-requires-clause-room g c κs within =
    let room = c.in-Ok.ensures.room in
    let long = handles_length g.B.Keeper g.P.Port c.args.book c.args.ports.items _ _ _ room.opened (search rules) _ c.start_all-handles.ensures in
    let fits = room.slots.ends.1 in
    (room.slots.ends.0, omega arith)

pub gather-gathered-requires-clause-lines : goal.gather-gathered-requires-clause-lines
gather-gathered-requires-clause-lines g c =
    let room = c.in-Ok.ensures.room in
    let long = ends_length g.B.Keeper g.P.Port c.args.book c.args.ports.items _ _ _ room.opened (search rules) _ c.start_all-handles.ensures _ c.join_all.ensures in
    let fits = room.slots.lines.1 in
    (room.slots.lines.0, omega arith)

pub gather-gathered-requires-clause-finished : goal.gather-gathered-requires-clause-finished
gather-gathered-requires-clause-finished g c =
    let room = c.in-Ok.ensures.room in
    let long = ends_length g.B.Keeper g.P.Port c.args.book c.args.ports.items _ _ _ room.opened (search rules) _ c.start_all-handles.ensures _ c.join_all.ensures in
    let fits = room.slots.finished.1 in
    (room.slots.finished.0, omega arith)

pub end_posting-posted-requires-clause-lane : goal.end_posting-posted-requires-clause-lane
end_posting-posted-requires-clause-lane g c κs within =
    let room = c.in-Ok.ensures.room in
    let same = c.in-Ok-start_posting.ensures.sink in
    let lane = collected_lane g.B.Keeper g.P.Port c.args.book c.args.ports.items _ _ _ room.opened (search rules) _ c.start_all-handles.ensures _ c.join_all.ensures _ _ c.miss.ensures.missed _ _ (ap (λ (sink : LetterSink). sink.letters) same ∙ room.sink) c.requires.begins.0 _ (c.collect-collected.ensures c.requires.begins.0 (begins g.B.Keeper g.P.Port c.args.book c.args.ports.items _ _ _ room.opened (search rules) _ c.start_all-handles.ensures _ c.join_all.ensures _ _ c.miss.ensures.missed c.requires.begins.0 c.requires.begins.1)) in
    ap (λ (posts : Posts g.row.O.Denot). posts.lane) c.in-Ok-start_posting.ensures.promise ∙ (ap (λ (sink : LetterSink). sink.lane) (sym same) ∙ sym lane)

pub conclude-requires : goal.conclude-requires
conclude-requires g c =
    let room = c.in-Ok.ensures.room in
    let same = c.in-Ok-start_posting.ensures.sink in
    record { close = may_close g.B.Keeper g.P.Port c.args.book c.args.ports.items _ _ _ room.opened (search rules) _ c.start_all-handles.ensures _ c.join_all.ensures _ _ c.miss.ensures.missed _ _ (ap (λ (sink : LetterSink). sink.letters) same ∙ room.sink) c.requires.begins.0 _ _ (c.collect-collected.ensures c.requires.begins.0 (begins g.B.Keeper g.P.Port c.args.book c.args.ports.items _ _ _ room.opened (search rules) _ c.start_all-handles.ensures _ c.join_all.ensures _ _ c.miss.ensures.missed c.requires.begins.0 c.requires.begins.1)) c.gather-gathered.ensures }

pub returns-clause-run : goal.returns-clause-run
returns-clause-run g c =
    let room = c.in-Ok.ensures.room in
    let same = c.in-Ok-start_posting.ensures.sink in
    let fresh = ap (λ (sink : LetterSink). sink.letters) same ∙ room.sink in
    let lane = collected_lane g.B.Keeper g.P.Port c.args.book c.args.ports.items _ _ _ room.opened (search rules) _ c.start_all-handles.ensures _ c.join_all.ensures _ _ c.miss.ensures.missed _ _ fresh c.requires.begins.0 _ (c.collect-collected.ensures c.requires.begins.0 (begins g.B.Keeper g.P.Port c.args.book c.args.ports.items _ _ _ room.opened (search rules) _ c.start_all-handles.ensures _ c.join_all.ensures _ _ c.miss.ensures.missed c.requires.begins.0 c.requires.begins.1)) in
    let waiting = ap (λ (it : Identity Parcel). it.capacity) (lane ∙ ap (λ (sink : LetterSink). sink.lane) same) ∙ (room.waiting ∙ c.room.ensures.room) in
    let posted = subst (λ (posts : Posts g.row.O.Denot). IsPosted g.O.Outlet posts.begun c.collect-collected.new.sink.lane.capacity c.collect-collected.new.sink.letters c.end_posting-posted.result) c.in-Ok-start_posting.ensures.promise c.end_posting-posted.ensures in
    let post = subst (λ (most : ℕ). IsPosted g.O.Outlet c.args.outlet most c.collect-collected.new.sink.letters c.end_posting-posted.result) waiting posted in
    crew_run g.B.Keeper g.P.Port c.args.book c.args.ports.items _ _ _ room.opened (search rules) _ c.start_all-handles.ensures _ c.join_all.ensures _ _ c.miss.ensures.missed _ _ fresh g.O.Outlet c.args.outlet _ post _ _ _ c.requires.begins c.collect-collected.ensures c.gather-gathered.ensures c.conclude.ensures

pub returns-clause-counted : goal.returns-clause-counted
returns-clause-counted g c =
    let room = c.in-Ok.ensures.room in
    let same = c.in-Ok-start_posting.ensures.sink in
    no_count g.B.Keeper _ _ _ _ _ (may_close g.B.Keeper g.P.Port c.args.book c.args.ports.items _ _ _ room.opened (search rules) _ c.start_all-handles.ensures _ c.join_all.ensures _ _ c.miss.ensures.missed _ _ (ap (λ (sink : LetterSink). sink.letters) same ∙ room.sink) c.requires.begins.0 _ _ (c.collect-collected.ensures c.requires.begins.0 (begins g.B.Keeper g.P.Port c.args.book c.args.ports.items _ _ _ room.opened (search rules) _ c.start_all-handles.ensures _ c.join_all.ensures _ _ c.miss.ensures.missed c.requires.begins.0 c.requires.begins.1)) c.gather-gathered.ensures) c.gather-gathered.ensures c.conclude.ensures

pub returns-in-Err-clause-run : goal.returns-in-Err-clause-run
returns-in-Err-clause-run g c =
    let is = c.unbegun.ensures ∙ ap (never_begun_with causes.Refused c.into_left.result) c.in-Err.ensures.back in
    never_ran g.B.Keeper g.P.Port g.O.Outlet c.args.book c.args.ports.items c.args.outlet causes.Refused c.into_left.result _ g.met.B.Keeper.leaves_kept is
    (λ start first by before with_it. never_begun g.B.Keeper g.O.Outlet start first c.args.outlet before _ c.args.book _ _ with_it.0 c.into_left.ensures is)

pub returns-in-Err-start_posting-clause-run : goal.returns-in-Err-start_posting-clause-run
returns-in-Err-start_posting-clause-run g c =
    let back = c.into_book.ensures ∙ c.in-Ok.ensures.room.opened.book_is in
    let is = c.unbegun-in-Err-start_posting.ensures ∙ ap (never_begun_with causes.Refused c.in-Err-start_posting.left) back in
    never_ran g.B.Keeper g.P.Port g.O.Outlet c.args.book c.args.ports.items c.args.outlet causes.Refused c.in-Err-start_posting.left _ g.met.B.Keeper.leaves_kept is
    (λ start first by before with_it. never_begun g.B.Keeper g.O.Outlet start first c.args.outlet before _ c.args.book _ _ with_it.0 c.in-Err-start_posting.ensures.refused is)
