-- The lines of a notice, as the functions that write them pass them.
use Rattle.std.specs.Prelude.{ℕ, List, Bool, if◌then◌else◌, take, map}
use Rattle.std.specs.Str.Lines.{lines}
use Rattle.dsn_report.specs.Boundary.{header_lines, shown_byte}
use Rattle.dsn_report.specs.Lines.{longest_line}
use Rattle.dsn_report.specs.Notice as notice
use Rattle.dsn_report.specs.declared.extension_lines.ExtensionLines.{ExtensionLines}
use Rattle.dsn_report.specs.declared.notice_wording.Words.{Words}
use Rattle.dsn_report.specs.declared.returned_lines.ReturnedLines.{ReturnedLines}
use Rattle.dsn_text.specs.Extension.{lines_ended_by_lf}

abbrev pub extensions_left : ExtensionLines → List (List ℕ)
extensions_left lines = lines_ended_by_lf lines.rest.now

-- the texts that the references point to
abbrev pub words_in : Words → notice.Words
words_in words = record {
  subject = words.subject.now;
  opening = words.opening.now;
  consequence = words.consequence.now;
  header = words.header.now;
  message = words.message.now;
}

-- all lines of a text, or those before the first empty one
abbrev pub taken_lines : Bool → List ℕ → List (List ℕ)
taken_lines whole text = if whole then lines text else header_lines text

-- a byte and a line, unchanged for a whole message, or as a returned header shows them
abbrev pub byte_shown : Bool → ℕ → ℕ
byte_shown whole byte = if whole then byte else shown_byte byte

abbrev pub line_shown : Bool → List ℕ → List ℕ
line_shown whole line = take longest_line (map (byte_shown whole) line)

-- the lines that are shown of a text
abbrev pub lines_shown : Bool → List ℕ → List (List ℕ)
lines_shown whole text = map (line_shown whole) (taken_lines whole text)

abbrev pub lines_left : ReturnedLines → List (List ℕ)
lines_left lines = taken_lines lines.whole lines.rest.now
