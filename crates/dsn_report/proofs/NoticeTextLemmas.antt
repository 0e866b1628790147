-- The text of a notice in memory: as it is shown, and as mail data.
use Rattle.std.proofs.Common.{◌≡◌, ℕ, List, [], ◌∷◌, ◌++◌, map, codes, true, false, sym, ◌∙◌, append-nil}
use Rattle.dsn_outcome.specs.Letter.{Letter}
use Rattle.dsn_report.proofs.LineWriterLemmas.{text_of_lines-append}
use Rattle.dsn_report.specs.inner.LineWriter.{lines_sent}
use Rattle.dsn_report.specs.Lines.{dot_stuffed, text_of_lines}
use Rattle.dsn_report.specs.Notice.{notice_lines, notice_of}
use Rattle.dsn_report.specs.Outbox.{mail_data}
use Rattle.dsn_report.specs.Site.{Site}

-- without added dots and without an end, it is the notice
pub plain_text : (site : Site) (letter : Letter) (text : List ℕ)
    → text ≡ text_of_lines (lines_sent false (notice_lines site letter)) ++ [] → text ≡ notice_of site letter
unfolding notice_of
plain_text site letter text written = written ∙ append-nil (text_of_lines (notice_lines site letter))

-- with added dots and the final dot, it is the mail data
pub data_text : (site : Site) (letter : Letter) (text : List ℕ)
    → text ≡ text_of_lines (lines_sent true (notice_lines site letter)) ++ codes ".\r\n" → text ≡ mail_data site letter
unfolding mail_data text_of_lines
data_text site letter text written = written ∙ sym (text_of_lines-append (map dot_stuffed (notice_lines site letter)) (codes "." ∷ []))
