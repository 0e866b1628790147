-- The letters that came were passed to the outlet, and those that are unsent are the last of them.
use Rattle.std.proofs.Common.{rules, ap, length, ◌<◌, ◌∙◌, subst, arith}
use mathlib.Core.List.{IsPrefix}
use Rattle.dsn_crew.specs.lane.Halves.{Identity}
use Rattle.dsn_crew.specs.post.Parcel.{Parcel}
use Rattle.dsn_crew.proofs.post.PostingLemmas.{left_within, whole_unlost}
use Rattle.dsn_crew.proofs.post.posting_end.end_posting.Goals as goal

pub overflow_cast-result : goal.overflow_cast-result
overflow_cast-result g c =
    let within = left_within _ _ _ _ c.finish-end.ensures.unsent c.requires.all_sent c.join-outlet.ensures.few in
    let few : c.join-outlet.result.handed < 4294967296 = search rules in
    let count = c.join-outlet.ensures.count in
    let left = c.len.ensures in
    record { fits = omega arith }

pub overflow_sub-result : goal.overflow_sub-result
overflow_sub-result g c =
    let within = left_within _ _ _ _ c.finish-end.ensures.unsent c.requires.all_sent c.join-outlet.ensures.few in
    let count = c.join-outlet.ensures.count in
    let left = c.len.ensures in omega arith

pub returns : goal.returns
returns g c =
    let within = left_within _ _ _ _ c.finish-end.ensures.unsent c.requires.all_sent c.join-outlet.ensures.few in
    let few : c.join-outlet.result.handed < 4294967296 = search rules in
    let first = c.close.ensures.first in
    let letters_are = c.mark-sink.ensures.1 in record {
      letters = c.join-outlet.result.source.letters;
      came = subst (IsPrefix c.join-outlet.result.source.letters) letters_are first;
      few = (let few = c.close.ensures.few in let lane = ap (λ (it : Identity Parcel). it.capacity) c.mark-sink.ensures.0 in let long = ap length letters_are in omega arith);
      marked = c.join-outlet.result.source.marked;
      whole = whole_unlost c.join-outlet.result.lost _ _ _ c.join-outlet.ensures.ended (λ marked. c.close.ensures.marked marked ∙ letters_are);
      count = (let count = c.join-outlet.ensures.count in let left = c.len.ensures in omega arith);
      ended = λ start first before. c.finish-end.ensures.ended start _ (c.join-outlet.ensures.posted start first before);
    }
