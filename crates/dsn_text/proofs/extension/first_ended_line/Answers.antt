use Rattle.std.proofs.Common.{◌<◌, length}
use Rattle.std.specs.List.{position_or_len}
use Rattle.dsn_text.specs.Extension.{is_feed}
use Rattle.dsn_text.proofs.ExtensionLemmas.{lines_ended_by_lf_first, feed_found}
use Rattle.dsn_text.proofs.extension.first_ended_line.Goals as goal

pub returns-clause-lines : goal.returns-clause-lines
returns-clause-lines c =
    let text = c.args.text.now in
    let found : position_or_len is_feed text < length text = feed_found text (λ whole. c.if-line-text.false (rw c.split_at_first.ensures.before whole)) in
    rw (c.split_at_first.ensures.before, c.split_at_first.ensures.after) (lines_ended_by_lf_first text found)
