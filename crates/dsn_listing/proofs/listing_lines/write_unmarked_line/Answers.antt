use Rattle.std.proofs.Common.{◌≡◌, ◌∙◌, Bool, true, false, List, ℕ, [], ◌++◌, ap, if◌then◌else◌, sym}
use Rattle.dsn_device.proofs.UntilFailureLemmas.{writes-as, writes-none, writes-then}
use Rattle.dsn_journal.specs.SettledLetters.{is_settled}
use Rattle.dsn_listing.specs.ListingLines.{unmarked_counts, unmarked_key, unmarked_line}
use Rattle.dsn_outcome.specs.Letter.{Letter}
use Rattle.dsn_listing.proofs.listing_lines.write_unmarked_line.Goals as goal

line_if : (edges : List ℕ) (letter : Letter) (settled : Bool) → is_settled edges letter.serial ≡ settled
    → (if settled then [] else unmarked_key letter ++ unmarked_counts letter) ≡ unmarked_line edges letter
unfolding unmarked_line
line_if edges letter settled is = ap (λ (b : Bool). if b then [] else unmarked_key letter ++ unmarked_counts letter) (sym is)

pub returns-then-is_settled : goal.returns-then-is_settled
returns-then-is_settled g c =
    let is : is_settled c.args.settled.now c.args.letter.now.serial ≡ true = ap (is_settled c.args.settled.now) (sym c.serial.ensures) ∙ sym c.is_settled.ensures ∙ c.if-is_settled.true in
    writes-as (line_if c.args.settled.now c.args.letter.now true is) (writes-none _ _)

pub returns : goal.returns
returns g c =
    let is : is_settled c.args.settled.now c.args.letter.now.serial ≡ false = ap (is_settled c.args.settled.now) (sym c.serial.ensures) ∙ sym c.is_settled.ensures ∙ c.if-is_settled.false in
    writes-as (line_if c.args.settled.now c.args.letter.now false is)
    (writes-then (writes-as (c.bytes.ensures.same ∙ c.unmarked_key.ensures) c.write.ensures) (writes-as (c.bytes-2.ensures.same ∙ c.unmarked_counts.ensures) c.write-2.ensures))
