-- The Message-ID of the message that a notice is about, by which a mail program shows both in one thread (RFC 5322
-- section 3.6.4).
use Rattle.std.specs.Prelude.{ℕ, ◌-◌, Bool, true, false, ◌==◌, ◌&&◌, List, [], ◌∷◌, length, take, Option, Some, None, nat_le, nat_lt, if◌then◌else◌}
use Rattle.std.specs.List.{list_all, slice_get}
use Rattle.dsn_text.specs.Text.{is_printable, longest_header}
use Rattle.dsn_postfix_files.specs.MessageFacts.{first_or, said_of_message}
use Rattle.dsn_postfix_files.specs.MessageHeader.{front_size, message_id_of_text}
use Rattle.dsn_postfix_files.specs.MessageText.{message_text}
use Rattle.dsn_postfix_files.specs.QueueRecord.{PlacedBytes}

-- the limit of an id, in bytes, with which it fits in one line (this project's profile)
abbrev pub longest_id : ℕ
longest_id = 900

abbrev pub is_closing : Option ℕ → Bool
is_closing None = false
is_closing (Some byte) = byte == 62

-- whether an id without its first byte isn't empty, and not too long
abbrev pub fits_a_line : List ℕ → Bool
fits_a_line rest = nat_lt 1 (length rest) && nat_lt (length rest) longest_id

abbrev pub ends_with_bracket : List ℕ → Bool
ends_with_bracket rest = is_closing (slice_get rest (length rest - 1))

abbrev pub is_plain : List ℕ → Bool
is_plain rest = fits_a_line rest && list_all is_printable rest

abbrev pub ends_an_id : List ℕ → Bool
ends_an_id rest = ends_with_bracket rest && is_plain rest

-- an id in angle brackets, of printable bytes
abbrev pub is_thread_id : List ℕ → Bool
is_thread_id [] = false
is_thread_id (first ∷ rest) = first == 60 && ends_an_id rest

abbrev pub if_thread_id : Option (List ℕ) → Option (List ℕ)
if_thread_id None = None
if_thread_id (Some id) = if is_thread_id id then Some id else None

-- the part of a message's text in which its Message-ID is looked for
abbrev pub text_searched : List PlacedBytes → List ℕ
text_searched records = take (front_size longest_header) (message_text records)

-- the id that cleanup(8) noted, or else that of the header
abbrev pub message_id_of : List PlacedBytes → Option (List ℕ)
message_id_of records = first_or (said_of_message records).message_id (message_id_of_text (text_searched records))

abbrev pub thread_id : Bool → List PlacedBytes → Option (List ℕ)
thread_id true records = if_thread_id (message_id_of records)
thread_id false records = None
