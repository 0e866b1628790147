use Rattle.std.proofs.Common.{◌≡◌, ◌∙◌, ◌&&◌, ap, sym, refl, rules}
use Rattle.std.specs.List.{list_any}
use Rattle.std.specs.Str.Lines.{lines}
use Rattle.dsn_outcome.specs.declared.returned.Returned.TheVariants.{Header, Message, EightBitMessage}
use Rattle.dsn_report.proofs.LinesLemmas.{seven_bit-only, whole-and-high}
use Rattle.dsn_report.specs.Boundary.{may_be_eight_bit, returns_message, stands_whole}
use Rattle.dsn_report.specs.LegalLines.{has_high_byte}
use Rattle.dsn_report.proofs.returned_text.carriage_of.Goals as goal

pub returns-in-Header-clause-whole : goal.returns-in-Header-clause-whole
unfolding returns_message
returns-in-Header-clause-whole c =
    let kind : c.args.letter.now.draft.returned ≡ Header = search rules in
    rw kind refl

pub returns-in-Header-clause-eight_bit : goal.returns-in-Header-clause-eight_bit
returns-in-Header-clause-eight_bit c =
    let kind : c.args.letter.now.draft.returned ≡ Header = search rules in
    sym (seven_bit-only c.args.letter.now.draft (ap may_be_eight_bit kind))

pub returns-in-Message-clause-whole : goal.returns-in-Message-clause-whole
unfolding returns_message stands_whole
returns-in-Message-clause-whole c =
    let kind : c.args.letter.now.draft.returned ≡ Message = search rules in
    c.is_seven_bit.ensures ∙ rw (kind, c.requires) refl

pub returns-in-Message-clause-eight_bit : goal.returns-in-Message-clause-eight_bit
returns-in-Message-clause-eight_bit c =
    let kind : c.args.letter.now.draft.returned ≡ Message = search rules in
    sym (seven_bit-only c.args.letter.now.draft (ap may_be_eight_bit kind))

pub returns-in-EightBitMessage-clause-whole : goal.returns-in-EightBitMessage-clause-whole
unfolding returns_message stands_whole
returns-in-EightBitMessage-clause-whole c =
    let kind : c.args.letter.now.draft.returned ≡ EightBitMessage = search rules in
    c.carriage_in_eight_bits.ensures.whole ∙ rw (kind, c.requires) refl

pub returns-in-EightBitMessage-clause-eight_bit : goal.returns-in-EightBitMessage-clause-eight_bit
returns-in-EightBitMessage-clause-eight_bit c =
    c.carriage_in_eight_bits.ensures.eight_bit
    ∙ ap (λ text. c.carriage_in_eight_bits.result.whole && list_any has_high_byte (lines text)) c.requires
    ∙ whole-and-high c.args.letter.now.draft c.carriage_in_eight_bits.result.whole (returns-in-EightBitMessage-clause-whole c)
