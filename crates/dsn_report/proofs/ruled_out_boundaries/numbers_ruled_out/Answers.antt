use Rattle.std.proofs.Common.{◌≡◌, ◌∙◌, ◌++◌, ◌||◌, ◌<◌, ℕ, false, true, refl, arith, sym, ap, map}
use Rattle.std.specs.List.{list_any}
use Rattle.std.proofs.lemmas.Bool.{false_from_ne_true}
use Rattle.std.proofs.lemmas.List.{get_or-replicate, length-set}
use Rattle.dsn_report.specs.Boundary.{boundary_front, four_digits, is_delimiter}
use Rattle.dsn_report.specs.inner.NoticeLines.{line_shown, lines_left, lines_shown, taken_lines}
use Rattle.dsn_report.proofs.BoundaryLemmas.{IsMarked-all, IsMarked-none, IsMarked-some, delimiter-once, delimiter-shown}
use Rattle.dsn_report.proofs.ruled_out_boundaries.numbers_ruled_out.Goals as goal

pub loop-line-init : goal.loop-line-init
loop-line-init c =
    let whole = c.args.returned.whole in
    let front = boundary_front c.args.letter.now in
    let left : taken_lines whole c.args.returned.bytes.now ≡ lines_left c.into_iter-line-iterator.result =
    rw (c.into_iter-line-iterator.ensures.into_iter_gives, c.lines-line-items.ensures.whole, c.lines-line-items.ensures.rest) refl in
    record {
      table = refl;
      marked = λ number below.
          ap (λ ls. list_any (is_delimiter (front ++ four_digits number)) (map (line_shown whole) ls)) left
          ∙ ap (λ marked. marked || list_any (is_delimiter (front ++ four_digits number)) (map (line_shown whole) (lines_left c.into_iter-line-iterator.result)))
          (sym (get_or-replicate 2980 number false false below));
    }

pub loop-line-preserved-then-number-lt-NUMBERS : goal.loop-line-preserved-then-number-lt-NUMBERS
loop-line-preserved-then-number-lt-NUMBERS c =
    let given = c.boundary_front-front.ensures in
    let shown = delimiter-shown c.args.returned.whole (boundary_front c.args.letter.now) c.boundary_front-front.result c.bytes.result.now c.in-Some.line.now given.front given.short given.plain c.bytes.ensures.same in
    let some = c.in-Some-number_ruled_out.ensures.some in
    record {
      table = length-set c.loop-line.ruled_out c.in-Some-number_ruled_out.number true ∙ c.loop-line.invariant.table;
      marked =
          IsMarked-some (boundary_front c.args.letter.now) c.in-Some.line.now c.args.returned.whole (lines_shown c.args.returned.whole c.args.returned.bytes.now) c.loop-line.ruled_out (lines_left c.loop-line.line-iterator) (lines_left c.next.new.self) c.in-Some-number_ruled_out.number
          c.in-Some.ensures.steps c.loop-line.invariant.table c.if-number-lt-NUMBERS.true (shown c.in-Some-number_ruled_out.number some.0 ∙ some.1) c.loop-line.invariant.marked;
    }

pub loop-line-preserved-else-number-lt-NUMBERS : goal.loop-line-preserved-else-number-lt-NUMBERS
loop-line-preserved-else-number-lt-NUMBERS c =
    let given = c.boundary_front-front.ensures in
    let shown = delimiter-shown c.args.returned.whole (boundary_front c.args.letter.now) c.boundary_front-front.result c.bytes.result.now c.in-Some.line.now given.front given.short given.plain c.bytes.ensures.same in
    let found = c.in-Some-number_ruled_out.number in
    let line = line_shown c.args.returned.whole c.in-Some.line.now in
    let some = c.in-Some-number_ruled_out.ensures.some in
    let none = λ (number : ℕ) (below : number < 2980). false_from_ne_true (is_delimiter (boundary_front c.args.letter.now ++ four_digits number) line) (λ also.
    let same : found ≡ number = delimiter-once (boundary_front c.args.letter.now) line found number some.0 (omega arith) (shown found some.0 ∙ some.1) also in
    absurd (omega (arith, same, below, c.if-number-lt-NUMBERS.false))) in
    record {
      table = c.loop-line.invariant.table;
      marked =
          IsMarked-none (boundary_front c.args.letter.now) c.in-Some.line.now c.args.returned.whole (lines_shown c.args.returned.whole c.args.returned.bytes.now) c.loop-line.ruled_out (lines_left c.loop-line.line-iterator) (lines_left c.next.new.self)
          c.in-Some.ensures.steps none c.loop-line.invariant.marked;
    }

pub loop-line-preserved : goal.loop-line-preserved
loop-line-preserved c =
    let given = c.boundary_front-front.ensures in
    let shown = delimiter-shown c.args.returned.whole (boundary_front c.args.letter.now) c.boundary_front-front.result c.bytes.result.now c.in-Some.line.now given.front given.short given.plain c.bytes.ensures.same in
    record {
      table = c.loop-line.invariant.table;
      marked =
          IsMarked-none (boundary_front c.args.letter.now) c.in-Some.line.now c.args.returned.whole (lines_shown c.args.returned.whole c.args.returned.bytes.now) c.loop-line.ruled_out (lines_left c.loop-line.line-iterator) (lines_left c.next.new.self)
          c.in-Some.ensures.steps (λ number below. shown number (omega arith) ∙ c.in_default.ensures.none number (omega arith)) c.loop-line.invariant.marked;
    }

pub returns : goal.returns
returns c =
    IsMarked-all (boundary_front c.args.letter.now) c.args.returned.whole (lines_shown c.args.returned.whole c.args.returned.bytes.now) c.loop-line.ruled_out (lines_left c.loop-line.line-iterator)
    c.in-None.ensures.steps.0 c.loop-line.invariant.marked
