-- The lane has one sending half, so what was taken is the first of what that half sent.
use Rattle.std.proofs.Common.{arith, ap, ◌∙◌, ◌∷◌, ◌++◌, [], List}
use Rattle.dsn_crew.specs.lane.Halves.{Half, Identity, Out}
use Rattle.dsn_crew.specs.inner.LetterSource.{FinishedSink}
use Rattle.dsn_crew.specs.inner.LetterSource.{taken_parcels}
use Rattle.dsn_crew.specs.post.Parcel.{Parcel}
use Rattle.dsn_crew.specs.inner.LetterSource.{parcels_of}
use Rattle.dsn_crew.proofs.post.LetterSinkLemmas.{closed_all, closed_few, closed_first, closed_marked}
use Rattle.dsn_crew.proofs.post.finished_sink.FinishedSink.close.Goals as goal

pub returns-clause-first : goal.returns-clause-first
returns-clause-first g c =
    let one = c.push_reserved.ensures.items ∙ ap (λ (room : List (Half Parcel)). room ++ c.self.inside.half ∷ []) c.self.invariant.2 in
    let sent = c.self.invariant.1 ∙ ap (λ (sink : FinishedSink). parcels_of sink.letters sink.marked) c.self.view_is in
    let taken = ap (λ (out : Out Parcel). out.taken) (c.source.invariant ∙ ap taken_parcels c.source.view_is) in
    closed_first _ c.self.inside.half _ _ _ _ _ one c.self.invariant.0 taken sent c.close_lane.ensures.prefix

pub returns-clause-few : goal.returns-clause-few
returns-clause-few g c =
    let one = c.push_reserved.ensures.items ∙ ap (λ (room : List (Half Parcel)). room ++ c.self.inside.half ∷ []) c.self.invariant.2 in
    let sent = c.self.invariant.1 ∙ ap (λ (sink : FinishedSink). parcels_of sink.letters sink.marked) c.self.view_is in
    let taken = ap (λ (out : Out Parcel). out.taken) (c.source.invariant ∙ ap taken_parcels c.source.view_is) in
    let few = closed_few _ c.self.inside.half _ _ _ _ _ one c.self.invariant.0 taken sent c.close_lane.ensures.prefix _ _ c.close_lane.ensures.taken c.close_lane.ensures.waiting in
    let most = c.close_lane.ensures.capacity in
    let lane = ap (λ (out : Out Parcel). out.lane.capacity) (c.source.invariant ∙ ap taken_parcels c.source.view_is) in
    let same = ap (λ (it : Identity Parcel). it.capacity) c.requires.lane in
    omega arith

pub returns-clause-all : goal.returns-clause-all
returns-clause-all g c =
    let one = c.push_reserved.ensures.items ∙ ap (λ (room : List (Half Parcel)). room ++ c.self.inside.half ∷ []) c.self.invariant.2 in
    let sent = c.self.invariant.1 ∙ ap (λ (sink : FinishedSink). parcels_of sink.letters sink.marked) c.self.view_is in
    let taken = ap (λ (out : Out Parcel). out.taken) (c.source.invariant ∙ ap taken_parcels c.source.view_is) in
    closed_all _ c.self.inside.half _ _ _ _ _ one c.self.invariant.0 taken sent c.close_lane.ensures.prefix _ _ c.close_lane.ensures.taken c.close_lane.ensures.waiting

pub returns-clause-marked : goal.returns-clause-marked
returns-clause-marked g c =
    let one = c.push_reserved.ensures.items ∙ ap (λ (room : List (Half Parcel)). room ++ c.self.inside.half ∷ []) c.self.invariant.2 in
    let sent = c.self.invariant.1 ∙ ap (λ (sink : FinishedSink). parcels_of sink.letters sink.marked) c.self.view_is in
    let taken = ap (λ (out : Out Parcel). out.taken) (c.source.invariant ∙ ap taken_parcels c.source.view_is) in
    closed_marked _ c.self.inside.half _ _ _ _ _ one c.self.invariant.0 taken sent c.close_lane.ensures.prefix
