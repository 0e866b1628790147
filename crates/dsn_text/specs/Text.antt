-- The texts that requests carry: their allowed bytes and lengths.
use Rattle.std.specs.Prelude.{ℕ, Bool, ◌&&◌, ◌||◌, not, ◌==◌, nat_le, List, length, map, IsTrue, if◌then◌else◌}
use Rattle.std.specs.List.{list_all}

-- whether a byte is between two bounds, both included
abbrev pub is_between : ℕ → ℕ → ℕ → Bool
is_between low high byte = nat_le low byte && nat_le byte high

-- ASCII digits and letters
abbrev pub is_digit : ℕ → Bool
is_digit byte = is_between 48 57 byte

abbrev pub is_letter_or_digit : ℕ → Bool
is_letter_or_digit byte = is_digit byte || (is_between 65 90 byte || is_between 97 122 byte)

-- printable ASCII, including the space, and visible ASCII, which excludes it (RFC 5234 appendix
-- B.1, VCHAR)
abbrev pub is_printable : ℕ → Bool
is_printable byte = is_between 32 126 byte

abbrev pub is_visible : ℕ → Bool
is_visible byte = is_between 33 126 byte

-- whether an address may have a byte; it is written between angle brackets in a command (RFC 5321
-- section 4.1.2)
abbrev pub is_address_byte : ℕ → Bool
is_address_byte byte = is_visible byte && (not (byte == 60) && not (byte == 62))

-- the specials (RFC 5322 section 3.2.3): the quote, ( ) , . : ; < > @ [ \ ]
abbrev pub is_mail_special : ℕ → Bool
is_mail_special byte =
    ((byte == 34) || (is_between 40 41 byte || (byte == 44)))
    || ((byte == 46) || (is_between 58 60 byte
    || ((byte == 62) || ((byte == 64) || is_between 91 93 byte))))

-- whether an atom may have a byte (RFC 5322 section 3.2.3, atext)
abbrev pub is_atom_byte : ℕ → Bool
is_atom_byte byte = is_visible byte && not (is_mail_special byte)

-- whether a text has from `least` to `most` bytes, all of them allowed
abbrev pub is_text : (ℕ → Bool) → ℕ → ℕ → List ℕ → Bool
is_text allowed least most text =
    (nat_le least (length text) && nat_le (length text) most) && list_all allowed text

-- the length limit of a queue id, in bytes (this project's profile)
abbrev pub longest_queue_id : ℕ
longest_queue_id = 32

-- whether a text is a queue id, which identifies the log of a message (this project's profile)
abbrev pub is_queue_id : List ℕ → Bool
is_queue_id = is_text is_letter_or_digit 1 longest_queue_id

-- the length limit of an address, in bytes (this project's profile; RFC 5321 section 4.5.3.1.3 has
-- 256 with the angle brackets)
abbrev pub longest_address : ℕ
longest_address = 256

-- whether a text is an envelope address, without its angle brackets
abbrev pub is_address : List ℕ → Bool
is_address = is_text is_address_byte 1 longest_address

-- the length limit of a mail system's name, in bytes (RFC 5321 section 4.5.3.1.2)
abbrev pub longest_mta_name : ℕ
longest_mta_name = 255

-- whether a text is the name of a remote mail system (RFC 3464 section 2.3.5)
abbrev pub is_mta_name : List ℕ → Bool
is_mta_name = is_text is_visible 1 longest_mta_name

-- the length limit of a type name, in bytes (this project's profile)
abbrev pub longest_type_name : ℕ
longest_type_name = 32

-- whether a text is the type of an address or of a diagnostic, an atom (RFC 3464 sections 2.1.2 and
-- 2.3.6)
abbrev pub is_type_name : List ℕ → Bool
is_type_name = is_text is_atom_byte 1 longest_type_name

-- the length limit of a decoded envelope id, in bytes (RFC 3461 section 4.4)
abbrev pub longest_envelope_id : ℕ
longest_envelope_id = 100

-- whether a text is a decoded envelope id (RFC 3464 section 2.2.1, RFC 3461 section 4.4)
abbrev pub is_envelope_id : List ℕ → Bool
is_envelope_id = is_text is_printable 1 longest_envelope_id

-- the length limit of a diagnostic or a reason, in bytes (this project's profile)
abbrev pub longest_clean : ℕ
longest_clean = 800

-- whether a text is a cleaned diagnostic or reason: printable bytes only (this project's profile)
abbrev pub is_clean : List ℕ → Bool
is_clean = is_text is_printable 0 longest_clean

-- whether a text is a cleaned diagnostic or reason that is not empty; an empty one means a missing
-- one
abbrev pub is_remark : List ℕ → Bool
is_remark = is_text is_printable 1 longest_clean

-- the length limit of a message's header in a request, in bytes (this project's profile)
abbrev pub longest_header : ℕ
longest_header = 32768

-- the number of decimal digits of 2 ^ 64 - 1, the largest number of 64 bits
abbrev pub most_digits : ℕ
most_digits = 20

-- a byte of a diagnostic or a reason, or `?` if it is not printable
abbrev pub clean_byte : ℕ → ℕ
clean_byte byte = if is_printable byte then byte else 63

abbrev pub clean_text : List ℕ → List ℕ
clean_text = map clean_byte

-- the same as propositions
abbrev pub IsQueueId : List ℕ → Type 0
IsQueueId text = IsTrue (is_queue_id text)

abbrev pub IsAddress : List ℕ → Type 0
IsAddress text = IsTrue (is_address text)

abbrev pub IsMtaName : List ℕ → Type 0
IsMtaName text = IsTrue (is_mta_name text)

abbrev pub IsTypeName : List ℕ → Type 0
IsTypeName text = IsTrue (is_type_name text)

abbrev pub IsEnvelopeId : List ℕ → Type 0
IsEnvelopeId text = IsTrue (is_envelope_id text)

abbrev pub IsClean : List ℕ → Type 0
IsClean text = IsTrue (is_clean text)
