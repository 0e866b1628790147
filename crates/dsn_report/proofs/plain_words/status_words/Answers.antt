use Rattle.std.proofs.Common.{◌∙◌, ap, arith, sym}
use Rattle.std.proofs.lemmas.List.{drop_all, take_rest}
use Rattle.dsn_report.specs.PlainWords.{status_table, status_words, words_for}
use Rattle.dsn_report.proofs.plain_words.status_words.Goals as goal

pub returns-in_default : goal.returns-in_default
unfolding status_words
returns-in_default c = c.words_for.ensures ∙ ap (words_for status_table) (sym (drop_all 2 c.args.status.now (omega (arith, c.in_default.len_below))))

pub returns-in-len2-up : goal.returns-in-len2-up
unfolding status_words
returns-in-len2-up c = c.words_for-in-len2-up.ensures ∙ ap (words_for status_table) (take_rest c.args.status.now 2)
