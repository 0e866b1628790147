-- Worked examples of bodies, computed by the definitions.
use Rattle.std.proofs.Common.{◌≡◌, ℕ, List, [], ◌∷◌, ◌++◌, refl, lit<}
use Rattle.std.specs.Prelude.{Option, Some, None, codes, replicate}
use Rattle.std.specs.Option.{option_map}
use Rattle.dsn_outcome.specs.Outcome.{first_outcome_fault}
use Rattle.dsn_outcome.specs.Request.{Body, Append, Flush, Forget}
use Rattle.dsn_text.specs.Extension.{are_extension_lines, is_extension_line}
use Rattle.dsn_text.specs.declared.action.Action.TheVariants.{Failed, Delayed}
use Rattle.dsn_outcome.specs.declared.returned.Returned.{Returned}
use Rattle.dsn_outcome.specs.declared.returned.Returned.TheVariants.{Header, Message, EightBitMessage}
use Rattle.dsn_outcome.specs.declared.wording.Wording.{Wording}
use Rattle.dsn_outcome.specs.declared.wording.Wording.TheVariants.{ByService, ByOutcome}
use Rattle.dsn_text.specs.declared.service.Service.TheVariants.{Bounce, Defer}
use Rattle.dsn_frame.specs.bodies.BodyFault.{body_fault_code}
use Rattle.dsn_frame.specs.bodies.Request.{first_body_fault, has_kind, first_own_fault, append_written_as, flush_written_as, StandsFor, Encodes, fields_written, request_body}
use Rattle.dsn_frame.specs.bodies.Wire.{AppendFields, FlushFieldsOf, CountedFlushFields, number_at, number_bytes, text_at, text_bytes, head_at, head_bytes, append_at, append_body_at, append_bytes, retry_at, types_at, retry_bytes, type_bytes, flush_at, flush_body_at, wishes_at, flush_bytes, wish_bytes, counted_flush_bytes, own_at, body_at, body_bytes, own_bytes, FitsOwn}

-- the number of the refusal, if the body is refused
abbrev refused : List ℕ → Option ℕ
refused bytes = option_map body_fault_code (first_body_fault bytes)

-- short bodies
no_bytes : refused [] ≡ Some 23
unfolding first_body_fault has_kind first_own_fault body_at head_at text_at number_at own_at
no_bytes = refl

wrong_version : refused (0 ∷ []) ≡ Some 21
unfolding first_body_fault has_kind first_own_fault body_at head_at text_at number_at own_at
wrong_version = refl

wrong_kind : refused (1 ∷ 4 ∷ []) ≡ Some 22
unfolding first_body_fault has_kind first_own_fault body_at head_at text_at number_at own_at
wrong_kind = refl

-- a Forget needs version 2 or 3; no version is above them
forget_of_version_one : refused (1 ∷ 4 ∷ 0 ∷ 0 ∷ 0 ∷ 0 ∷ 1 ∷ 0 ∷ 2 ∷ 75 ∷ 49 ∷ []) ≡ Some 22
unfolding first_body_fault has_kind first_own_fault body_at head_at text_at number_at own_at
forget_of_version_one = refl

append_of_version_two : refused (2 ∷ 1 ∷ []) ≡ Some 23
unfolding first_body_fault has_kind first_own_fault body_at head_at text_at number_at own_at
append_of_version_two = refl

kind_five : refused (2 ∷ 5 ∷ []) ≡ Some 22
unfolding first_body_fault has_kind first_own_fault body_at head_at text_at number_at own_at
kind_five = refl

version_four : refused (4 ∷ 4 ∷ 0 ∷ 0 ∷ 0 ∷ 0 ∷ 1 ∷ 0 ∷ 2 ∷ 75 ∷ 49 ∷ []) ≡ Some 21
unfolding first_body_fault has_kind first_own_fault body_at head_at text_at number_at own_at
version_four = refl

forget_of_version_three : refused (3 ∷ 4 ∷ 0 ∷ 0 ∷ 0 ∷ 0 ∷ 1 ∷ 0 ∷ 2 ∷ 75 ∷ 49 ∷ []) ≡ None
unfolding first_body_fault has_kind first_own_fault body_at head_at text_at number_at own_at
forget_of_version_three = refl

kind_five_of_version_three : refused (3 ∷ 5 ∷ []) ≡ Some 22
unfolding first_body_fault has_kind first_own_fault body_at head_at text_at number_at own_at
kind_five_of_version_three = refl

discard_of_version_three : refused (3 ∷ 3 ∷ 0 ∷ 0 ∷ 0 ∷ 0 ∷ 1 ∷ 0 ∷ 2 ∷ 75 ∷ 49 ∷ []) ≡ None
unfolding first_body_fault has_kind first_own_fault body_at head_at text_at number_at own_at
discard_of_version_three = refl

whole_forget : refused (2 ∷ 4 ∷ 0 ∷ 0 ∷ 0 ∷ 0 ∷ 1 ∷ 0 ∷ 2 ∷ 75 ∷ 49 ∷ []) ≡ None
unfolding first_body_fault has_kind first_own_fault body_at head_at text_at number_at own_at
whole_forget = refl

byte_after_forget : refused (2 ∷ 4 ∷ 0 ∷ 0 ∷ 0 ∷ 0 ∷ 1 ∷ 0 ∷ 2 ∷ 75 ∷ 49 ∷ 0 ∷ []) ≡ Some 24
unfolding first_body_fault has_kind first_own_fault body_at head_at text_at number_at own_at
byte_after_forget = refl

-- a discard of version 2
discard_of_version_two : refused (2 ∷ 3 ∷ 0 ∷ 0 ∷ 0 ∷ 0 ∷ 1 ∷ 0 ∷ 2 ∷ 75 ∷ 49 ∷ []) ≡ None
unfolding first_body_fault has_kind first_own_fault body_at head_at text_at number_at own_at
discard_of_version_two = refl

kind_alone : refused (1 ∷ 3 ∷ []) ≡ Some 23
unfolding first_body_fault has_kind first_own_fault body_at head_at text_at number_at own_at
kind_alone = refl

whole_discard : refused (1 ∷ 3 ∷ 0 ∷ 0 ∷ 0 ∷ 0 ∷ 1 ∷ 0 ∷ 2 ∷ 75 ∷ 49 ∷ []) ≡ None
unfolding first_body_fault has_kind first_own_fault body_at head_at text_at number_at own_at
whole_discard = refl

byte_after_discard : refused (1 ∷ 3 ∷ 0 ∷ 0 ∷ 0 ∷ 0 ∷ 1 ∷ 0 ∷ 2 ∷ 75 ∷ 49 ∷ 0 ∷ []) ≡ Some 24
unfolding first_body_fault has_kind first_own_fault body_at head_at text_at number_at own_at
byte_after_discard = refl

dash_in_id : refused (1 ∷ 3 ∷ 0 ∷ 0 ∷ 0 ∷ 0 ∷ 1 ∷ 0 ∷ 2 ∷ 75 ∷ 45 ∷ []) ≡ Some 26
unfolding first_body_fault has_kind first_own_fault body_at head_at text_at number_at own_at
dash_in_id = refl

service_before_id : refused (1 ∷ 3 ∷ 0 ∷ 0 ∷ 0 ∷ 0 ∷ 4 ∷ 0 ∷ 2 ∷ 75 ∷ 45 ∷ []) ≡ Some 25
unfolding first_body_fault has_kind first_own_fault body_at head_at text_at number_at own_at
service_before_id = refl

-- one append and one flush: the bodies of a delivery agent that gives up on one recipient and asks
-- for the notice
abbrev pub append_body : List ℕ
append_body =
    (1 ∷ 1 ∷ 0 ∷ 0 ∷ 0 ∷ 0 ∷ 1 ∷ 0 ∷ 6 ∷ []) ++ codes "A1B2C3" ++ (0 ∷ 0 ∷ 0 ∷ 15 ∷ []) ++ codes "bob@example.org"
    ++ (1 ∷ 0 ∷ 5 ∷ []) ++ codes "5.1.1" ++ (0 ∷ 0 ∷ 0 ∷ 0 ∷ 0 ∷ 0 ∷ [])

abbrev pub flush_body : List ℕ
flush_body =
    (1 ∷ 2 ∷ 0 ∷ 0 ∷ 0 ∷ 1 ∷ 1 ∷ 0 ∷ 6 ∷ []) ++ codes "A1B2C3" ++ (0 ∷ 0 ∷ 0 ∷ 0 ∷ 0x65 ∷ 0x53 ∷ 0xf1 ∷ 0 ∷ [])
    ++ (0 ∷ 0 ∷ 0 ∷ 0 ∷ 0x65 ∷ 0x53 ∷ 0xe2 ∷ 0xf0 ∷ []) ++ (0 ∷ 15 ∷ []) ++ codes "ann@example.com" ++ (0 ∷ 0 ∷ 0 ∷ 0 ∷ [])

append_is_accepted : refused append_body ≡ None
unfolding first_body_fault has_kind first_own_fault body_at head_at text_at number_at own_at append_at append_body_at first_outcome_fault are_extension_lines
append_is_accepted = refl

flush_is_accepted : refused flush_body ≡ None
unfolding first_body_fault has_kind first_own_fault body_at head_at text_at number_at own_at flush_at flush_body_at wishes_at are_extension_lines
flush_is_accepted = refl

byte_after_append : refused (append_body ++ (0 ∷ [])) ≡ Some 24
unfolding first_body_fault has_kind first_own_fault body_at head_at text_at number_at own_at append_at append_body_at
byte_after_append = refl

-- the requests that they encode
abbrev pub append_asked : Body
append_asked =
    Append (codes "A1B2C3") (record {
      service = Bounce;
      recipient = codes "bob@example.org";
      recipient_type = None;
      original = None;
      original_type = None;
      action = Failed;
      status = codes "5.1.1";
      mta = None;
      diagnostic = None;
      diagnostic_type = None;
      reason = None;
      last_attempt = None;
      retry_until = None;
      extensions = [];
    })

abbrev pub flush_wishing : Option ℕ → Returned → Wording → Body
flush_wishing expected returned wording =
    Flush (record { service = Bounce; id = codes "A1B2C3" }) (record {
      moment = 1700000000;
      arrival = 1699996400;
      return_path = Some (codes "ann@example.com");
      envelope_id = None;
      header = [];
      extensions = [];
      expected = expected;
      returned = returned;
      wording = wording;
    })

abbrev pub flush_expecting : Option ℕ → Body
flush_expecting expected = flush_wishing expected Header ByService

abbrev pub flush_asked : Body
flush_asked = flush_expecting None

pub append_is_encoded : Encodes append_body 0 append_asked
unfolding body_bytes own_bytes head_bytes append_bytes flush_bytes text_bytes number_bytes FitsOwn first_own_fault StandsFor first_outcome_fault are_extension_lines
append_is_encoded = record {
  wire = AppendFields (record { version = 1; number = 0; service = 1; id = codes "A1B2C3" }) (record { recipient = codes "bob@example.org"; original = []; action = 1; status = codes "5.1.1"; mta = []; diagnostic = []; reason = [] });
  laid_out = refl;
  known = refl;
  fits = (record { number = lit< tt; id = lit< tt }, (refl, record { original = lit< tt; recipient = lit< tt; status = lit< tt; mta = lit< tt; diagnostic = lit< tt; reason = lit< tt }));
  number_is = refl;
  accepted = refl;
  stands_for = record {
    service_is = refl;
    id_is = refl;
    outcome_is = record { service_is = refl; recipient_is = refl; recipient_type_is = refl; original_is = refl; original_type_is = refl; action_is = refl; status_is = refl; mta_is = refl; diagnostic_is = refl; diagnostic_type_is = refl; reason_is = refl; last_attempt_is = refl; retry_until_is = refl; extensions_is = refl };
  };
}

pub flush_is_encoded : Encodes flush_body 1 flush_asked
unfolding body_bytes own_bytes head_bytes append_bytes flush_bytes text_bytes number_bytes FitsOwn first_own_fault StandsFor are_extension_lines
flush_is_encoded = record {
  wire = FlushFieldsOf (record { version = 1; number = 1; service = 1; id = codes "A1B2C3" }) (record { moment = 1700000000; arrival = 1699996400; return_path = codes "ann@example.com"; envelope_id = []; header = [] });
  laid_out = refl;
  known = refl;
  fits = (record { number = lit< tt; id = lit< tt }, (refl, record { moment = lit< tt; arrival = lit< tt; return_path = lit< tt; envelope_id = lit< tt; header = lit< tt }));
  number_is = refl;
  accepted = refl;
  stands_for = (record { service_is = refl; id_is = refl }, refl);
}

-- and these requests are written as these bodies
append_is_written : request_body 0 append_asked ≡ append_body
unfolding request_body fields_written append_written_as body_bytes own_bytes head_bytes append_bytes text_bytes number_bytes
append_is_written = refl

flush_is_written : request_body 1 flush_asked ≡ flush_body
unfolding request_body fields_written flush_written_as body_bytes own_bytes head_bytes flush_bytes text_bytes number_bytes
flush_is_written = refl

-- a flush that says how many outcomes it expects: the body of a version 3 flush, and its request
abbrev flush_with : ℕ → List ℕ → List ℕ
flush_with version rest =
    (version ∷ 2 ∷ 0 ∷ 0 ∷ 0 ∷ 1 ∷ 1 ∷ 0 ∷ 6 ∷ []) ++ codes "A1B2C3" ++ (0 ∷ 0 ∷ 0 ∷ 0 ∷ 0x65 ∷ 0x53 ∷ 0xf1 ∷ 0 ∷ [])
    ++ (0 ∷ 0 ∷ 0 ∷ 0 ∷ 0x65 ∷ 0x53 ∷ 0xe2 ∷ 0xf0 ∷ []) ++ (0 ∷ 15 ∷ []) ++ codes "ann@example.com" ++ (0 ∷ 0 ∷ 0 ∷ 0 ∷ []) ++ rest

counted_flush_is_accepted : refused (flush_with 3 (0 ∷ 0 ∷ 1 ∷ 2 ∷ 0 ∷ 0 ∷ 0 ∷ 0 ∷ [])) ≡ None
unfolding first_body_fault has_kind first_own_fault body_at head_at text_at number_at own_at flush_at flush_body_at wishes_at are_extension_lines
counted_flush_is_accepted = refl

counted_flush_is_written : request_body 1 (flush_expecting (Some 258)) ≡ flush_with 3 (0 ∷ 0 ∷ 1 ∷ 2 ∷ 0 ∷ 0 ∷ 0 ∷ 0 ∷ [])
unfolding request_body fields_written flush_written_as body_bytes own_bytes counted_flush_bytes wish_bytes head_bytes flush_bytes text_bytes number_bytes
counted_flush_is_written = refl

counted_flush_is_encoded : Encodes (flush_with 3 (0 ∷ 0 ∷ 1 ∷ 2 ∷ 0 ∷ 0 ∷ 0 ∷ 0 ∷ [])) 1 (flush_expecting (Some 258))
unfolding body_bytes own_bytes counted_flush_bytes wish_bytes head_bytes append_bytes flush_bytes text_bytes number_bytes FitsOwn first_own_fault StandsFor are_extension_lines
counted_flush_is_encoded = record {
  wire = CountedFlushFields (record { version = 3; number = 1; service = 1; id = codes "A1B2C3" }) (record { moment = 1700000000; arrival = 1699996400; return_path = codes "ann@example.com"; envelope_id = []; header = [] }) (record { expected = 258; returned = 0; wording = 0; extensions = [] });
  laid_out = refl;
  known = refl;
  fits = (record { number = lit< tt; id = lit< tt }, (refl, (record { moment = lit< tt; arrival = lit< tt; return_path = lit< tt; envelope_id = lit< tt; header = lit< tt }, record { expected = lit< tt; extensions = lit< tt })));
  number_is = refl;
  accepted = refl;
  stands_for = (record { service_is = refl; id_is = refl }, refl);
}

-- all ones mean any number of outcomes
any_number_is_encoded : Encodes (flush_with 3 (replicate 4 255 ++ 0 ∷ 0 ∷ 0 ∷ 0 ∷ [])) 1 flush_asked
unfolding body_bytes own_bytes counted_flush_bytes wish_bytes head_bytes append_bytes flush_bytes text_bytes number_bytes FitsOwn first_own_fault StandsFor are_extension_lines
any_number_is_encoded = record {
  wire = CountedFlushFields (record { version = 3; number = 1; service = 1; id = codes "A1B2C3" }) (record { moment = 1700000000; arrival = 1699996400; return_path = codes "ann@example.com"; envelope_id = []; header = [] }) (record { expected = 4294967295; returned = 0; wording = 0; extensions = [] });
  laid_out = refl;
  known = refl;
  fits = (record { number = lit< tt; id = lit< tt }, (refl, (record { moment = lit< tt; arrival = lit< tt; return_path = lit< tt; envelope_id = lit< tt; header = lit< tt }, record { expected = lit< tt; extensions = lit< tt })));
  number_is = refl;
  accepted = refl;
  stands_for = (record { service_is = refl; id_is = refl }, refl);
}

-- the count belongs to version 3, and it has four bytes; two bytes and a text follow it
count_in_version_two : refused (flush_with 2 (0 ∷ 0 ∷ 1 ∷ 2 ∷ [])) ≡ Some 24
unfolding first_body_fault has_kind first_own_fault body_at head_at text_at number_at own_at flush_at flush_body_at wishes_at are_extension_lines
count_in_version_two = refl

no_count_in_version_three : refused (flush_with 3 []) ≡ Some 23
unfolding first_body_fault has_kind first_own_fault body_at head_at text_at number_at own_at flush_at flush_body_at wishes_at are_extension_lines
no_count_in_version_three = refl

count_cut : refused (flush_with 3 (0 ∷ 0 ∷ 1 ∷ [])) ≡ Some 23
unfolding first_body_fault has_kind first_own_fault body_at head_at text_at number_at own_at flush_at flush_body_at wishes_at are_extension_lines
count_cut = refl

byte_after_wishes : refused (flush_with 3 (0 ∷ 0 ∷ 1 ∷ 2 ∷ 0 ∷ 0 ∷ 0 ∷ 0 ∷ 0 ∷ [])) ≡ Some 24
unfolding first_body_fault has_kind first_own_fault body_at head_at text_at number_at own_at flush_at flush_body_at wishes_at are_extension_lines
byte_after_wishes = refl

count_alone : refused (flush_with 3 (0 ∷ 0 ∷ 1 ∷ 2 ∷ [])) ≡ Some 23
unfolding first_body_fault has_kind first_own_fault body_at head_at text_at number_at own_at flush_at flush_body_at wishes_at are_extension_lines
count_alone = refl

wording_missing : refused (flush_with 3 (0 ∷ 0 ∷ 1 ∷ 2 ∷ 1 ∷ [])) ≡ Some 23
unfolding first_body_fault has_kind first_own_fault body_at head_at text_at number_at own_at flush_at flush_body_at wishes_at are_extension_lines
wording_missing = refl

-- a message, with words by outcome; the first byte is 0, 1 or 2, the second 0 or 1, and the first is checked first
message_by_outcome_is_written : request_body 1 (flush_wishing None Message ByOutcome) ≡ flush_with 3 (replicate 4 255 ++ 1 ∷ 1 ∷ 0 ∷ 0 ∷ [])
unfolding request_body fields_written flush_written_as body_bytes own_bytes counted_flush_bytes wish_bytes head_bytes flush_bytes text_bytes number_bytes
message_by_outcome_is_written = refl

message_is_written : request_body 1 (flush_wishing None Message ByService) ≡ flush_with 3 (replicate 4 255 ++ 1 ∷ 0 ∷ 0 ∷ 0 ∷ [])
unfolding request_body fields_written flush_written_as body_bytes own_bytes counted_flush_bytes wish_bytes head_bytes flush_bytes text_bytes number_bytes
message_is_written = refl

by_outcome_is_written : request_body 1 (flush_wishing None Header ByOutcome) ≡ flush_with 3 (replicate 4 255 ++ 0 ∷ 1 ∷ 0 ∷ 0 ∷ [])
unfolding request_body fields_written flush_written_as body_bytes own_bytes counted_flush_bytes wish_bytes head_bytes flush_bytes text_bytes number_bytes
by_outcome_is_written = refl

message_by_outcome_is_accepted : refused (flush_with 3 (replicate 4 255 ++ 1 ∷ 1 ∷ 0 ∷ 0 ∷ [])) ≡ None
unfolding first_body_fault has_kind first_own_fault body_at head_at text_at number_at own_at flush_at flush_body_at wishes_at are_extension_lines
message_by_outcome_is_accepted = refl

eight_bit_message_is_written : request_body 1 (flush_wishing None EightBitMessage ByService) ≡ flush_with 3 (replicate 4 255 ++ 2 ∷ 0 ∷ 0 ∷ 0 ∷ [])
unfolding request_body fields_written flush_written_as body_bytes own_bytes counted_flush_bytes wish_bytes head_bytes flush_bytes text_bytes number_bytes
eight_bit_message_is_written = refl

eight_bit_message_is_accepted : refused (flush_with 3 (replicate 4 255 ++ 2 ∷ 1 ∷ 0 ∷ 0 ∷ [])) ≡ None
unfolding first_body_fault has_kind first_own_fault body_at head_at text_at number_at own_at flush_at flush_body_at wishes_at are_extension_lines
eight_bit_message_is_accepted = refl

eight_bit_message_is_encoded : Encodes (flush_with 3 (replicate 4 255 ++ 2 ∷ 1 ∷ 0 ∷ 0 ∷ [])) 1 (flush_wishing None EightBitMessage ByOutcome)
unfolding body_bytes own_bytes counted_flush_bytes wish_bytes head_bytes append_bytes flush_bytes text_bytes number_bytes FitsOwn first_own_fault StandsFor are_extension_lines
eight_bit_message_is_encoded = record {
  wire = CountedFlushFields (record { version = 3; number = 1; service = 1; id = codes "A1B2C3" }) (record { moment = 1700000000; arrival = 1699996400; return_path = codes "ann@example.com"; envelope_id = []; header = [] }) (record { expected = 4294967295; returned = 2; wording = 1; extensions = [] });
  laid_out = refl;
  known = refl;
  fits = (record { number = lit< tt; id = lit< tt }, (refl, (record { moment = lit< tt; arrival = lit< tt; return_path = lit< tt; envelope_id = lit< tt; header = lit< tt }, record { expected = lit< tt; extensions = lit< tt })));
  number_is = refl;
  accepted = refl;
  stands_for = (record { service_is = refl; id_is = refl }, refl);
}

returned_three : refused (flush_with 3 (replicate 4 255 ++ 3 ∷ 2 ∷ 0 ∷ 0 ∷ [])) ≡ Some 18
unfolding first_body_fault has_kind first_own_fault body_at head_at text_at number_at own_at flush_at flush_body_at wishes_at are_extension_lines
returned_three = refl

wording_two : refused (flush_with 3 (replicate 4 255 ++ 2 ∷ 2 ∷ 0 ∷ 1 ∷ 32 ∷ [])) ≡ Some 19
unfolding first_body_fault has_kind first_own_fault body_at head_at text_at number_at own_at flush_at flush_body_at wishes_at are_extension_lines
wording_two = refl

-- extension fields of the message: the last field of a version 3 flush, checked last
abbrev flush_extended : List ℕ → Body
flush_extended extensions =
    Flush (record { service = Bounce; id = codes "A1B2C3" }) (record {
      moment = 1700000000;
      arrival = 1699996400;
      return_path = Some (codes "ann@example.com");
      envelope_id = None;
      header = [];
      extensions = extensions;
      expected = None;
      returned = Header;
      wording = ByService;
    })

abbrev flush_ended_with : List ℕ → List ℕ
flush_ended_with extensions = flush_with 3 (replicate 4 255 ++ 0 ∷ 0 ∷ [] ++ extensions)

message_field_is_written : request_body 1 (flush_extended (codes "X-A: b\n")) ≡ flush_ended_with ((0 ∷ 7 ∷ []) ++ codes "X-A: b\n")
unfolding request_body fields_written flush_written_as body_bytes own_bytes counted_flush_bytes wish_bytes head_bytes flush_bytes text_bytes number_bytes
message_field_is_written = refl

message_field_is_encoded : Encodes (flush_ended_with ((0 ∷ 7 ∷ []) ++ codes "X-A: b\n")) 1 (flush_extended (codes "X-A: b\n"))
unfolding body_bytes own_bytes counted_flush_bytes wish_bytes head_bytes append_bytes flush_bytes text_bytes number_bytes FitsOwn first_own_fault StandsFor are_extension_lines is_extension_line
message_field_is_encoded = record {
  wire = CountedFlushFields (record { version = 3; number = 1; service = 1; id = codes "A1B2C3" }) (record { moment = 1700000000; arrival = 1699996400; return_path = codes "ann@example.com"; envelope_id = []; header = [] }) (record { expected = 4294967295; returned = 0; wording = 0; extensions = codes "X-A: b\n" });
  laid_out = refl;
  known = refl;
  fits = (record { number = lit< tt; id = lit< tt }, (refl, (record { moment = lit< tt; arrival = lit< tt; return_path = lit< tt; envelope_id = lit< tt; header = lit< tt }, record { expected = lit< tt; extensions = lit< tt })));
  number_is = refl;
  accepted = refl;
  stands_for = (record { service_is = refl; id_is = refl }, refl);
}

message_field_unended : refused (flush_ended_with ((0 ∷ 6 ∷ []) ++ codes "X-A: b")) ≡ Some 20
unfolding first_body_fault has_kind first_own_fault body_at head_at text_at number_at own_at flush_at flush_body_at wishes_at are_extension_lines is_extension_line
message_field_unended = refl

message_field_without_x : refused (flush_ended_with ((0 ∷ 5 ∷ []) ++ codes "A: b\n")) ≡ Some 20
unfolding first_body_fault has_kind first_own_fault body_at head_at text_at number_at own_at flush_at flush_body_at wishes_at are_extension_lines is_extension_line
message_field_without_x = refl

message_fields_missing : refused (flush_with 3 (replicate 4 255 ++ 0 ∷ 0 ∷ [])) ≡ Some 23
unfolding first_body_fault has_kind first_own_fault body_at head_at text_at number_at own_at flush_at flush_body_at wishes_at
message_fields_missing = refl

message_fields_cut : refused (flush_ended_with ((0 ∷ 8 ∷ []) ++ codes "X-A: b\n")) ≡ Some 23
unfolding first_body_fault has_kind first_own_fault body_at head_at text_at number_at own_at flush_at flush_body_at wishes_at
message_fields_cut = refl

-- a Forget, as it is written
forget_is_written : request_body 0 (Forget (record { service = Bounce; id = codes "K1" })) ≡ 2 ∷ 4 ∷ 0 ∷ 0 ∷ 0 ∷ 0 ∷ 1 ∷ 0 ∷ 2 ∷ 75 ∷ 49 ∷ []
unfolding request_body fields_written body_bytes own_bytes head_bytes text_bytes number_bytes
forget_is_written = refl

-- a delayed recipient, with its two moments: the body of a version 2 append, and its request
abbrev with_moments : List ℕ → List ℕ → List ℕ
with_moments last_attempt retry_until =
    (2 ∷ 1 ∷ 0 ∷ 0 ∷ 0 ∷ 0 ∷ 2 ∷ 0 ∷ 2 ∷ []) ++ codes "X1" ++ (0 ∷ 0 ∷ 0 ∷ 15 ∷ []) ++ codes "bob@example.org"
    ++ (2 ∷ 0 ∷ 5 ∷ []) ++ codes "4.4.1" ++ (0 ∷ 0 ∷ 0 ∷ 0 ∷ 0 ∷ 0 ∷ []) ++ last_attempt ++ retry_until

abbrev delayed_body : List ℕ
delayed_body = with_moments (0 ∷ 0 ∷ 0 ∷ 0 ∷ 0x65 ∷ 0x53 ∷ 0xf1 ∷ 0 ∷ []) (0 ∷ 0 ∷ 0 ∷ 0 ∷ 0x65 ∷ 0x5a ∷ 0x88 ∷ 0x80 ∷ [])

delayed_is_accepted : refused delayed_body ≡ None
unfolding first_body_fault first_own_fault body_at head_at text_at number_at own_at append_at append_body_at retry_at has_kind first_outcome_fault are_extension_lines
delayed_is_accepted = refl

delayed_is_written :
    request_body 0 (Append (codes "X1") (record {
      service = Defer;
      recipient = codes "bob@example.org";
      recipient_type = None;
      original = None;
      original_type = None;
      action = Delayed;
      status = codes "4.4.1";
      mta = None;
      diagnostic = None;
      diagnostic_type = None;
      reason = None;
      last_attempt = Some 1700000000;
      retry_until = Some 1700432000;
      extensions = [];
    })) ≡ delayed_body
unfolding request_body fields_written append_written_as body_bytes own_bytes head_bytes append_bytes retry_bytes text_bytes number_bytes
delayed_is_written = refl

-- all ones mean no moment; the first second of the year 10000 isn't a valid moment
moments_missing : refused (with_moments (replicate 8 255) (replicate 8 255)) ≡ None
unfolding first_body_fault first_own_fault body_at head_at text_at number_at own_at append_at append_body_at retry_at has_kind first_outcome_fault are_extension_lines
moments_missing = refl

attempt_in_year_ten_thousand : refused (with_moments (0 ∷ 0 ∷ 0 ∷ 0x3a ∷ 0xff ∷ 0xf4 ∷ 0x41 ∷ 0x80 ∷ []) (replicate 8 255)) ≡ Some 27
unfolding first_body_fault first_own_fault body_at head_at text_at number_at own_at append_at append_body_at retry_at has_kind first_outcome_fault are_extension_lines
attempt_in_year_ten_thousand = refl

byte_after_moments : refused (with_moments (replicate 8 255) (replicate 9 255)) ≡ Some 24
unfolding first_body_fault first_own_fault body_at head_at text_at number_at own_at append_at append_body_at retry_at has_kind
byte_after_moments = refl

moments_cut : refused (with_moments (replicate 8 255) (replicate 7 255)) ≡ Some 23
unfolding first_body_fault first_own_fault body_at head_at text_at number_at own_at append_at append_body_at retry_at has_kind
moments_cut = refl

-- an append with types: a recipient that isn't an Internet mail address, and a diagnostic that
-- isn't an SMTP reply; the body of a version 3 append, and its request
abbrev typed_body : ℕ → List ℕ → List ℕ → List ℕ
typed_body version diagnostic types =
    (version ∷ 1 ∷ 0 ∷ 0 ∷ 0 ∷ 0 ∷ 1 ∷ 0 ∷ 2 ∷ []) ++ codes "K1" ++ (0 ∷ 3 ∷ []) ++ codes "/C=" ++ (0 ∷ 3 ∷ []) ++ codes "x@y"
    ++ (1 ∷ 0 ∷ 5 ∷ []) ++ codes "5.0.0" ++ (0 ∷ 0 ∷ []) ++ diagnostic ++ (0 ∷ 0 ∷ []) ++ replicate 16 255 ++ types

abbrev busy : List ℕ
busy = (0 ∷ 4 ∷ []) ++ codes "busy"

abbrev fax_x400_postfix : List ℕ
fax_x400_postfix = (0 ∷ 3 ∷ []) ++ codes "fax" ++ (0 ∷ 4 ∷ []) ++ codes "x400" ++ (0 ∷ 9 ∷ []) ++ codes "X-Postfix" ++ (0 ∷ 0 ∷ [])

abbrev no_types : List ℕ
no_types = replicate 8 0

typed_is_accepted : refused (typed_body 3 busy fax_x400_postfix) ≡ None
unfolding first_body_fault first_own_fault body_at head_at text_at number_at own_at append_at append_body_at retry_at types_at has_kind first_outcome_fault are_extension_lines
typed_is_accepted = refl

untyped_is_accepted : refused (typed_body 3 busy no_types) ≡ None
unfolding first_body_fault first_own_fault body_at head_at text_at number_at own_at append_at append_body_at retry_at types_at has_kind first_outcome_fault are_extension_lines
untyped_is_accepted = refl

typed_is_written :
    request_body 0 (Append (codes "K1") (record {
      service = Bounce;
      recipient = codes "x@y";
      recipient_type = Some (codes "fax");
      original = Some (codes "/C=");
      original_type = Some (codes "x400");
      action = Failed;
      status = codes "5.0.0";
      mta = None;
      diagnostic = Some (codes "busy");
      diagnostic_type = Some (codes "X-Postfix");
      reason = None;
      last_attempt = None;
      retry_until = None;
      extensions = [];
    })) ≡ typed_body 3 busy fax_x400_postfix
unfolding request_body fields_written append_written_as body_bytes own_bytes head_bytes append_bytes retry_bytes type_bytes text_bytes number_bytes
typed_is_written = refl

-- types belong to version 3; a type that isn't an atom, and a type of an absent text
types_in_version_two : refused (typed_body 2 busy fax_x400_postfix) ≡ Some 24
unfolding first_body_fault first_own_fault body_at head_at text_at number_at own_at append_at append_body_at retry_at types_at has_kind
types_in_version_two = refl

no_types_in_version_three : refused (typed_body 3 busy []) ≡ Some 23
unfolding first_body_fault first_own_fault body_at head_at text_at number_at own_at append_at append_body_at retry_at types_at has_kind
no_types_in_version_three = refl

recipient_type_is_no_atom : refused (typed_body 3 busy ((0 ∷ 4 ∷ []) ++ codes "fax;" ++ (0 ∷ 3 ∷ []) ++ codes "a b" ++ (0 ∷ 0 ∷ 0 ∷ 0 ∷ []))) ≡ Some 15
unfolding first_body_fault first_own_fault body_at head_at text_at number_at own_at append_at append_body_at retry_at types_at has_kind first_outcome_fault are_extension_lines
recipient_type_is_no_atom = refl

original_type_is_no_atom : refused (typed_body 3 busy ((0 ∷ 0 ∷ 0 ∷ 3 ∷ []) ++ codes "a b" ++ (0 ∷ 1 ∷ []) ++ codes "@" ++ (0 ∷ 0 ∷ []))) ≡ Some 16
unfolding first_body_fault first_own_fault body_at head_at text_at number_at own_at append_at append_body_at retry_at types_at has_kind first_outcome_fault are_extension_lines
original_type_is_no_atom = refl

type_of_no_diagnostic : refused (typed_body 3 (0 ∷ 0 ∷ []) ((0 ∷ 0 ∷ 0 ∷ 0 ∷ 0 ∷ 4 ∷ []) ++ codes "smtp" ++ (0 ∷ 0 ∷ []))) ≡ Some 17
unfolding first_body_fault first_own_fault body_at head_at text_at number_at own_at append_at append_body_at retry_at types_at has_kind first_outcome_fault are_extension_lines
type_of_no_diagnostic = refl

-- extension fields: the last field of a version 3 append, after its types
abbrev usual_and : List ℕ → List ℕ
usual_and extensions = replicate 6 0 ++ extensions

extended_is_accepted : refused (typed_body 3 busy (usual_and ((0 ∷ 14 ∷ []) ++ codes "X-A: b\nX-C: d\n"))) ≡ None
unfolding first_body_fault first_own_fault body_at head_at text_at number_at own_at append_at append_body_at retry_at types_at has_kind first_outcome_fault are_extension_lines is_extension_line
extended_is_accepted = refl

extension_without_x : refused (typed_body 3 busy (usual_and ((0 ∷ 5 ∷ []) ++ codes "A: b\n"))) ≡ Some 20
unfolding first_body_fault first_own_fault body_at head_at text_at number_at own_at append_at append_body_at retry_at types_at has_kind first_outcome_fault are_extension_lines is_extension_line
extension_without_x = refl

extension_without_its_end : refused (typed_body 3 busy (usual_and ((0 ∷ 6 ∷ []) ++ codes "X-A: b"))) ≡ Some 20
unfolding first_body_fault first_own_fault body_at head_at text_at number_at own_at append_at append_body_at retry_at types_at has_kind first_outcome_fault are_extension_lines is_extension_line
extension_without_its_end = refl

no_extensions_in_version_three : refused (typed_body 3 busy (replicate 6 0)) ≡ Some 23
unfolding first_body_fault first_own_fault body_at head_at text_at number_at own_at append_at append_body_at retry_at types_at has_kind
no_extensions_in_version_three = refl

extended_is_written :
    request_body 0 (Append (codes "K1") (record {
      service = Bounce;
      recipient = codes "x@y";
      recipient_type = None;
      original = Some (codes "/C=");
      original_type = None;
      action = Failed;
      status = codes "5.0.0";
      mta = None;
      diagnostic = Some (codes "busy");
      diagnostic_type = None;
      reason = None;
      last_attempt = None;
      retry_until = None;
      extensions = codes "X-A: b\nX-C: d\n";
    })) ≡ typed_body 3 busy (usual_and ((0 ∷ 14 ∷ []) ++ codes "X-A: b\nX-C: d\n"))
unfolding request_body fields_written append_written_as body_bytes own_bytes head_bytes append_bytes retry_bytes type_bytes text_bytes number_bytes
extended_is_written = refl

-- malformed statuses, and a status of a class that a failure can't have
abbrev append_with_status : ℕ → List ℕ → List ℕ
append_with_status size status =
    (1 ∷ 1 ∷ 0 ∷ 0 ∷ 0 ∷ 0 ∷ 1 ∷ 0 ∷ 2 ∷ []) ++ codes "K1" ++ (0 ∷ 0 ∷ 0 ∷ 3 ∷ []) ++ codes "x@y" ++ (1 ∷ 0 ∷ size ∷ []) ++ status
    ++ (0 ∷ 0 ∷ 0 ∷ 0 ∷ 0 ∷ 0 ∷ [])

status_with_leading_zero : refused (append_with_status 6 (codes "5.01.1")) ≡ Some 4
unfolding first_body_fault has_kind first_own_fault body_at head_at text_at number_at own_at append_at append_body_at first_outcome_fault are_extension_lines
status_with_leading_zero = refl

status_of_unknown_class : refused (append_with_status 5 (codes "3.0.0")) ≡ Some 4
unfolding first_body_fault has_kind first_own_fault body_at head_at text_at number_at own_at append_at append_body_at first_outcome_fault are_extension_lines
status_of_unknown_class = refl

status_with_four_digits : refused (append_with_status 8 (codes "5.1000.1")) ≡ Some 4
unfolding first_body_fault has_kind first_own_fault body_at head_at text_at number_at own_at append_at append_body_at first_outcome_fault are_extension_lines
status_with_four_digits = refl

status_of_success : refused (append_with_status 5 (codes "2.0.0")) ≡ Some 5
unfolding first_body_fault has_kind first_own_fault body_at head_at text_at number_at own_at append_at append_body_at first_outcome_fault are_extension_lines
status_of_success = refl

status_of_delay : refused (append_with_status 5 (codes "4.4.7")) ≡ None
unfolding first_body_fault has_kind first_own_fault body_at head_at text_at number_at own_at append_at append_body_at first_outcome_fault are_extension_lines
status_of_delay = refl
