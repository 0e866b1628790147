use Rattle.std.proofs.Common.{◌≡◌, ◌∙◌, ◌+◌, ap, arith, length, refl, rules}
use Rattle.dsn_outcome.specs.Outcomes.{outcomes_left}
use Rattle.dsn_listing.specs.ListingLines.{told}
use Rattle.dsn_listing.proofs.listing_texts.count_outcomes.Goals as goal

pub loop-init : goal.loop-init
loop-init c =
    let all : outcomes_left c.into_iter-iterator.result ≡ c.args.letter.now.outcomes = search rules in
    record { done = 0; split = omega (arith, ap length all); counted = refl }

pub loop-preserved : goal.loop-preserved
loop-preserved c =
    let before = c.loop.invariant in
    record {
      done = before.done + 1;
      split = omega (arith, before.split, ap length c.in-Some.ensures.steps);
      counted = omega (arith, before.counted, c.saturating_add-count.ensures);
    }

pub returns : goal.returns
returns c =
    let before = c.loop.invariant in
    before.counted ∙ ap told (omega (arith, before.split, ap length c.in-None.ensures.steps.0))
