use Rattle.std.proofs.Common.{◌≡◌, ℕ, suc, ◌+◌, ◌-◌, ◌<◌, true, false, sym, ap, ◌∙◌, arith, rules, tests}
use Rattle.std.specs.List.{before_first}
use Rattle.dsn_text.specs.Extension.{are_extension_lines, is_extension_line, is_feed, most_extensions}
use Rattle.dsn_text.proofs.ExtensionLemmas.{lines-go_on, lines-stop, lines-end, lines-none}
use Rattle.dsn_text.proofs.extension.are_extension_lines.Goals as goal

-- before a line, one more line may follow than after it
one-more : (counter : ℕ) → counter < most_extensions → most_extensions - counter ≡ suc (most_extensions - (counter + 1))
one-more counter more = omega arith

pub returns-in_default : goal.returns-in_default
returns-in_default c =
    sym (c.loop.invariant ∙ lines-end (most_extensions - c.loop.counter) c.loop.rest.now c.in_default.ensures.place ∙ sym c.is_empty.ensures)

pub returns-then-not-is_extension_line : goal.returns-then-not-is_extension_line
returns-then-not-is_extension_line c =
    let rest = c.loop.rest.now in
    let no_field : is_extension_line (before_first is_feed rest) ≡ false = rw (← c.in-Some.ensures.before, ← c.is_extension_line.ensures) (search (rules, tests)) in
    sym (c.loop.invariant ∙ ap (λ (left : ℕ). are_extension_lines left rest) (one-more c.loop.counter c.loop-test.true)
    ∙ lines-stop (most_extensions - (c.loop.counter + 1)) rest c.in-Some.ensures.place no_field)

pub loop-preserved : goal.loop-preserved
loop-preserved c =
    let rest = c.loop.rest.now in
    let field : is_extension_line (before_first is_feed rest) ≡ true = rw (← c.in-Some.ensures.before, ← c.is_extension_line.ensures) (search (rules, tests)) in
    rw c.in-Some.ensures.after (c.loop.invariant ∙ ap (λ (left : ℕ). are_extension_lines left rest) (one-more c.loop.counter c.loop-test.true)
    ∙ lines-go_on (most_extensions - (c.loop.counter + 1)) rest c.in-Some.ensures.place field)

pub returns : goal.returns
returns c =
    let none : most_extensions - c.loop.counter ≡ 0 = omega arith in
    sym (c.loop.invariant ∙ ap (λ (left : ℕ). are_extension_lines left c.loop.rest.now) none ∙ lines-none c.loop.rest.now ∙ sym c.is_empty-2.ensures)
