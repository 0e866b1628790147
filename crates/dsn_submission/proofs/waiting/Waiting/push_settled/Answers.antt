use Rattle.std.proofs.Common.{◌≡◌, ◌+◌, ◌-◌, ◌^◌, ◌<◌, ◌≤◌, [], ◌∷◌, ◌++◌, None, arith, ◌∙◌, ap, is_none, length, rules}
use Rattle.std.proofs.lemmas.List.{length-append}
use Rattle.std.proofs.lemmas.List.Sums.{prefix_len-le-length}
use Rattle.dsn_submission.proofs.WaitingLemmas.{IsQueue-come}
use Rattle.dsn_submission.specs.Waiting.{settled_front}
use Rattle.dsn_submission.specs.inner.Waiting.{queue_of}
use Rattle.dsn_submission.proofs.waiting.Waiting.push_settled.Goals as goal

pub overflow_add-self : goal.overflow_add-self
overflow_add-self g c =
    let letters = c.self.inside.letters.items in
    let few : settled_front (letters ++ None ∷ []) ≤ length (letters ++ None ∷ []) = prefix_len-le-length is_none (letters ++ None ∷ []) in
    let long = length-append letters (None ∷ []) in
    let count : c.drop_settled.result ≡ settled_front (letters ++ None ∷ []) = c.drop_settled.ensures.count ∙ ap settled_front c.in-Ok.ensures.ok in
    let room : c.self.inside.mark + length letters < 2 ^ 64 - 1 = search rules in
    record { fits = omega (arith, few, long, count, room) }

pub invariant_of-self : goal.invariant_of-self
invariant_of-self g c =
    rw (c.drop_settled.ensures.count, c.drop_settled.ensures.rest, c.in-Ok.ensures.ok)
    (IsQueue-come (queue_of c.self.inside) c.self.invariant (search rules))
