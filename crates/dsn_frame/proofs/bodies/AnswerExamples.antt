-- Worked examples of answers, computed by the definitions.
use Rattle.std.proofs.Common.{◌≡◌, ℕ, List, [], ◌∷◌, refl}
use Rattle.std.specs.Prelude.{Option, Some, None}
use Rattle.std.specs.Option.{option_map}
use Rattle.dsn_outcome.specs.History.{plain}
use Rattle.dsn_outcome.specs.declared.answer.Replied.{Replied}
use Rattle.dsn_outcome.specs.declared.answer.Reply.TheVariants.{Logged, Closed, Sealed, Forgotten, NotClosed, Differs}
use Rattle.dsn_frame.specs.bodies.AnswerFault.{answer_fault_code}
use Rattle.dsn_frame.specs.bodies.Spoken.{answer_body, answer_bytes, first_answer_fault, told_each}
use Rattle.dsn_frame.specs.declared.bodies.spoken.Spoken.TheVariants.{Reply, Refused}

-- the number of the refusal, if the body is refused
abbrev refused : List ℕ → Option ℕ
refused bytes = option_map answer_fault_code (first_answer_fault bytes)

-- the answers to one append and one flush
logged : answer_bytes 0 (Reply (plain (Logged 0))) ≡ 0 ∷ 0 ∷ 0 ∷ 10 ∷ 1 ∷ 1 ∷ 0 ∷ 0 ∷ 0 ∷ 0 ∷ 0 ∷ 0 ∷ 0 ∷ 0 ∷ []
unfolding answer_bytes answer_body
logged = refl

sealed : answer_bytes 1 (Reply (plain (Sealed 1))) ≡ 0 ∷ 0 ∷ 0 ∷ 10 ∷ 1 ∷ 7 ∷ 0 ∷ 0 ∷ 0 ∷ 1 ∷ 0 ∷ 0 ∷ 0 ∷ 1 ∷ []
unfolding answer_bytes answer_body
sealed = refl

-- with the serial of the notice
abbrev third_notice : Replied
third_notice = record { reply = Sealed 1; serial = Some 258 }

sealed_with_serial : answer_bytes 1 (Reply third_notice) ≡ 0 ∷ 0 ∷ 0 ∷ 18 ∷ 1 ∷ 7 ∷ 0 ∷ 0 ∷ 0 ∷ 1 ∷ 0 ∷ 0 ∷ 0 ∷ 1 ∷ 0 ∷ 0 ∷ 0 ∷ 0 ∷ 0 ∷ 0 ∷ 1 ∷ 2 ∷ []
unfolding answer_bytes answer_body
sealed_with_serial = refl

-- a frame of version 3 gets the serial; frames of versions 1 and 2, and one without a byte, don't
told_by_version :
    told_each ((1 ∷ 2 ∷ []) ∷ (2 ∷ 2 ∷ []) ∷ (3 ∷ 2 ∷ []) ∷ [] ∷ (3 ∷ []) ∷ []) (Reply third_notice ∷ Reply third_notice ∷ Reply third_notice ∷ Reply third_notice ∷ Refused 23 ∷ [])
    ≡ Reply (plain (Sealed 1)) ∷ Reply (plain (Sealed 1)) ∷ Reply third_notice ∷ Reply (plain (Sealed 1)) ∷ Refused 23 ∷ []
told_by_version = refl

-- the frames of a connection that ended before the last of them was answered
told_but_for_the_last : told_each ((3 ∷ 2 ∷ []) ∷ (3 ∷ 2 ∷ []) ∷ []) (Reply third_notice ∷ []) ≡ Reply third_notice ∷ []
told_but_for_the_last = refl

-- a body with bytes after it
refused_extra : answer_bytes 0 (Refused 24) ≡ 0 ∷ 0 ∷ 0 ∷ 10 ∷ 1 ∷ 10 ∷ 0 ∷ 0 ∷ 0 ∷ 0 ∷ 0 ∷ 0 ∷ 0 ∷ 24 ∷ []
unfolding answer_bytes answer_body
refused_extra = refl

-- the answers to a Forget
forgotten : answer_bytes 2 (Reply (plain Forgotten)) ≡ 0 ∷ 0 ∷ 0 ∷ 10 ∷ 1 ∷ 11 ∷ 0 ∷ 0 ∷ 0 ∷ 2 ∷ 0 ∷ 0 ∷ 0 ∷ 0 ∷ []
unfolding answer_bytes answer_body
forgotten = refl

not_closed : answer_bytes 0 (Reply (plain NotClosed)) ≡ 0 ∷ 0 ∷ 0 ∷ 10 ∷ 1 ∷ 12 ∷ 0 ∷ 0 ∷ 0 ∷ 0 ∷ 0 ∷ 0 ∷ 0 ∷ 0 ∷ []
unfolding answer_bytes answer_body
not_closed = refl

-- the answer to a flush that expects another number of outcomes than these two
differs : answer_bytes 3 (Reply (plain (Differs 2))) ≡ 0 ∷ 0 ∷ 0 ∷ 10 ∷ 1 ∷ 13 ∷ 0 ∷ 0 ∷ 0 ∷ 3 ∷ 0 ∷ 0 ∷ 0 ∷ 2 ∷ []
unfolding answer_bytes answer_body
differs = refl

differs_is_accepted : refused (1 ∷ 13 ∷ 0 ∷ 0 ∷ 0 ∷ 3 ∷ 0 ∷ 0 ∷ 0 ∷ 2 ∷ []) ≡ None
unfolding first_answer_fault
differs_is_accepted = refl

-- the last frame of a session of a million
last_frame : answer_body 999999 (Reply (plain Closed)) ≡ 1 ∷ 2 ∷ 0x00 ∷ 0x0f ∷ 0x42 ∷ 0x3f ∷ 0 ∷ 0 ∷ 0 ∷ 0 ∷ []
unfolding answer_body
last_frame = refl

sealed_is_accepted : refused (1 ∷ 7 ∷ 0 ∷ 0 ∷ 0 ∷ 1 ∷ 0 ∷ 0 ∷ 0 ∷ 1 ∷ []) ≡ None
unfolding first_answer_fault
sealed_is_accepted = refl

serial_is_accepted : refused (1 ∷ 7 ∷ 0 ∷ 0 ∷ 0 ∷ 1 ∷ 0 ∷ 0 ∷ 0 ∷ 1 ∷ 0 ∷ 0 ∷ 0 ∷ 0 ∷ 0 ∷ 0 ∷ 1 ∷ 2 ∷ []) ≡ None
unfolding first_answer_fault
serial_is_accepted = refl

-- a serial has eight bytes, and only a notice has one
serial_cut_short : refused (1 ∷ 7 ∷ 0 ∷ 0 ∷ 0 ∷ 1 ∷ 0 ∷ 0 ∷ 0 ∷ 1 ∷ 0 ∷ 0 ∷ 0 ∷ 0 ∷ 0 ∷ 0 ∷ 1 ∷ []) ≡ Some 24
unfolding first_answer_fault
serial_cut_short = refl

serial_too_long : refused (1 ∷ 7 ∷ 0 ∷ 0 ∷ 0 ∷ 1 ∷ 0 ∷ 0 ∷ 0 ∷ 1 ∷ 0 ∷ 0 ∷ 0 ∷ 0 ∷ 0 ∷ 0 ∷ 1 ∷ 2 ∷ 0 ∷ []) ≡ Some 24
unfolding first_answer_fault
serial_too_long = refl

serial_of_another_reply : refused (1 ∷ 8 ∷ 0 ∷ 0 ∷ 0 ∷ 1 ∷ 0 ∷ 0 ∷ 0 ∷ 1 ∷ 0 ∷ 0 ∷ 0 ∷ 0 ∷ 0 ∷ 0 ∷ 1 ∷ 2 ∷ []) ≡ Some 24
unfolding first_answer_fault
serial_of_another_reply = refl

-- closed has no value
closed_with_value : refused (1 ∷ 2 ∷ 0 ∷ 0 ∷ 0 ∷ 0 ∷ 0 ∷ 0 ∷ 0 ∷ 5 ∷ []) ≡ Some 34
unfolding first_answer_fault
closed_with_value = refl

closed_with_high_value : refused (1 ∷ 2 ∷ 0 ∷ 0 ∷ 0 ∷ 0 ∷ 1 ∷ 0 ∷ 0 ∷ 0 ∷ []) ≡ Some 34
unfolding first_answer_fault
closed_with_high_value = refl

-- the length is checked before the value
value_and_byte_after : refused (1 ∷ 2 ∷ 0 ∷ 0 ∷ 0 ∷ 0 ∷ 0 ∷ 0 ∷ 0 ∷ 5 ∷ 0 ∷ []) ≡ Some 24
unfolding first_answer_fault
value_and_byte_after = refl

no_bytes : refused [] ≡ Some 23
unfolding first_answer_fault
no_bytes = refl

kind_alone : refused (1 ∷ 1 ∷ []) ≡ Some 23
unfolding first_answer_fault
kind_alone = refl

one_byte_short : refused (1 ∷ 2 ∷ 0 ∷ 0 ∷ 0 ∷ 0 ∷ 0 ∷ 0 ∷ 5 ∷ []) ≡ Some 23
unfolding first_answer_fault
one_byte_short = refl

wrong_version : refused (0 ∷ 11 ∷ []) ≡ Some 21
unfolding first_answer_fault
wrong_version = refl

kind_zero : refused (1 ∷ 0 ∷ []) ≡ Some 22
unfolding first_answer_fault
kind_zero = refl

kind_fourteen : refused (1 ∷ 14 ∷ 0 ∷ 0 ∷ 0 ∷ 0 ∷ 0 ∷ 0 ∷ 0 ∷ 0 ∷ []) ≡ Some 22
unfolding first_answer_fault
kind_fourteen = refl

forgotten_with_value : refused (1 ∷ 11 ∷ 0 ∷ 0 ∷ 0 ∷ 0 ∷ 0 ∷ 0 ∷ 0 ∷ 1 ∷ []) ≡ Some 34
unfolding first_answer_fault
forgotten_with_value = refl

not_closed_with_value : refused (1 ∷ 12 ∷ 0 ∷ 0 ∷ 0 ∷ 0 ∷ 0 ∷ 0 ∷ 0 ∷ 1 ∷ []) ≡ Some 34
unfolding first_answer_fault
not_closed_with_value = refl
