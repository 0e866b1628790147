use Rattle.std.proofs.Common.{◌∙◌, ◌++◌, ℕ, ap, sym, rules, subst, codes, List, [], if◌then◌else◌, Vec, Global}
use Rattle.dsn_device.specs.Plain.{Plain}
use Rattle.dsn_device.specs.QuietWriter.{QuietWriter}
use Rattle.dsn_device.proofs.UntilFailureLemmas.{writes-whole}
use Rattle.dsn_report.proofs.LineWriterLemmas.{Took-as, Took-then, settled-text}
use Rattle.dsn_report.specs.inner.LineWriter.{lines_sent}
use Rattle.dsn_report.specs.Lines.{text_of_lines}
use Rattle.dsn_report.specs.Notice.{notice_lines}
use Rattle.dsn_report.proofs.notice_text.notice_text.Goals as goal

pub returns : goal.returns
returns c =
    let good = sym c.into_parts-drain.ensures.failed ∙ c.if-failed.false in
    let text = text_of_lines (lines_sent c.args.dots (notice_lines c.args.site.now c.args.letter.now)) in
    let ended = Took-as (ap (λ last. text ++ last) c.end_of_text.ensures) (Took-then c.write_notice.ensures.took c.piece.ensures) in
    let appended = writes-whole good (settled-text c.new-4.ensures ended c.settle.ensures) in
    let empty =
    ap (λ (writer : QuietWriter (Plain (Vec ℕ Global))). writer.drain.inner.items) c.new-3.ensures
    ∙ ap (λ (plain : Plain (Vec ℕ Global)). plain.inner.items) c.new-2.ensures
    ∙ c.new.ensures.items in
    ap (λ (text : Vec ℕ Global). text.items) c.into_inner-text.ensures
    ∙ ap (λ (plain : Plain (Vec ℕ Global)). plain.inner.items) c.into_parts-drain.ensures.drain
    ∙ appended
    ∙ ap (λ before. before ++ (text ++ (if c.args.dots then codes ".\r\n" else []))) empty
