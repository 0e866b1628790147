-- Values of attributes that have a restricted form.
use Rattle.std.specs.Prelude.{ℕ, ◌==◌, Bool, ◌&&◌, List, length, IsTrue}
use Rattle.dsn_text.specs.Text.{is_letter_or_digit, is_text}
use Rattle.dsn_postfix_files.specs.ZeroFree.{is_zero_free}

-- the longest name of a queue, in bytes
abbrev pub longest_queue_name : ℕ
longest_queue_name = 100

-- the name of a queue and of its folder
abbrev pub is_queue_name : List ℕ → Bool
is_queue_name = is_text is_letter_or_digit 1 longest_queue_name

abbrev pub IsQueueName : List ℕ → Type 0
IsQueueName text = IsTrue (is_queue_name text)

-- the two delimiters of a recipient in a return path
abbrev pub are_delimiters : List ℕ → Bool
are_delimiters text = length text == 2 && is_zero_free text

abbrev pub AreDelimiters : List ℕ → Type 0
AreDelimiters text = IsTrue (are_delimiters text)
