-- Letters made of the front of a message's text are those made of its whole text.
use Rattle.std.proofs.Common.{◌≡◌, ◌<◌, ◌≤◌, ◌∙◌, ◌+◌, ◌++◌, ℕ, Bool, true, false, List, [], ◌∷◌, Option, Some, None, ap, arith, length, length-append, length-take, refl, subst, sym, take, take_all, if◌then◌else◌}
use Rattle.std.specs.List.{list_any}
use Rattle.std.specs.Option.{is_some, option_map, option_map_or}
use Rattle.std.specs.Prelude.{◌&&◌, nat_le, nat_lt}
use Rattle.std.proofs.lemmas.Bool.{false≢true}
use Rattle.dsn_outcome.specs.Draft.{DraftFields, first_draft_fault}
use Rattle.dsn_outcome.specs.Letter.{Letter}
use Rattle.dsn_outcome.specs.declared.draft_fault.DraftFault.{DraftFault}
use Rattle.dsn_outcome.specs.declared.draft_fault.DraftFault.TheVariants as draft
use Rattle.dsn_text.specs.Stamp.{last_moment}
use Rattle.dsn_text.specs.Text.{longest_header}
use Rattle.dsn_postfix.specs.PlannedNotice.{NoticeFacts}
use Rattle.dsn_postfix.specs.QuotedAddress.{needs_no_quotes}
use Rattle.dsn_postfix.specs.VerpPath.{notice_address}
use Rattle.dsn_postfix.specs.declared.returned_part.ReturnedPart.{ReturnedPart}
use Rattle.dsn_postfix.specs.declared.returned_part.ReturnedPart.TheVariants.{Whole, Header}
use Rattle.dsn_postfix_files.specs.MessageHeader.{AreSameUpTo, front_size, longer, message_header, same}
use Rattle.dsn_postfix_notices.specs.declared.letters.letter_fault.LetterFault.{LetterFault}
use Rattle.dsn_postfix_notices.specs.declared.letters.letter_fault.LetterFault.TheVariants.{Arrival, Count, Quotes}
use Rattle.dsn_postfix_notices.specs.letters.LetterFault.{of_draft}
use Rattle.dsn_postfix_notices.specs.letters.NoticeDraft.{IsDraftTold, draft_fields_told, first_draft_fault_told, is_message_told, is_returned_whole, return_path_line, returned_as, returned_text, tried_until}
use Rattle.dsn_postfix_notices.specs.letters.NoticeLetter.{first_fault_of_told, first_letter_fault, first_of, has_a_count}
use Rattle.dsn_postfix_notices.specs.letters.ReportedMessage.{MessageSaid}
use Rattle.dsn_postfix_notices.specs.requests.RequestLetters.{AreLettersOf, IsSaidLetter, has_fault, next_serial}

-- the front of a text that shows whether it is returned whole, and its header if that is returned
abbrev front_of : List ℕ → List ℕ
front_of text = take (front_size longest_header) text

abbrev pub with_front : MessageSaid → MessageSaid
with_front message = record {
  queue_id = message.queue_id;
  arrival = message.arrival;
  sender = message.sender;
  envelope_id = message.envelope_id;
  text = front_of message.text;
  lifetime = message.lifetime;
  size_limit = message.size_limit;
}

-- each front has the header of its text, or both headers are too long
abbrev FrontsShow : Type 0
FrontsShow = (limit : ℕ) (text : List ℕ) → AreSameUpTo limit (message_header (take (front_size limit) text)) (message_header text)

-- ---- what is returned

never : (one other : Bool) → (one && false) ≡ (other && false)
never true true = refl
never true false = refl
never false true = refl
never false false = refl

-- a text is its front, or both are too long
front-by : (text : List ℕ) (long : Bool) → nat_lt (front_size longest_header) (length text) ≡ long → AreSameUpTo longest_header (front_of text) text
front-by text true is =
    let over : front_size longest_header < length text = grind (arith, is) in
    longer (omega (arith, over, length-take (front_size longest_header) text)) (omega (arith, over))
front-by text false is =
    let under : length text ≤ front_size longest_header = grind (arith, is) in
    same (take_all (front_size longest_header) text under)

front-same : (text : List ℕ) → AreSameUpTo longest_header (front_of text) text
front-same text = front-by text (nat_lt (front_size longest_header) (length text)) refl

too-long : (text : List ℕ) → longest_header < length text → nat_le (length text) longest_header ≡ false
too-long text long = grind (arith, long)

too-long-behind : (line text : List ℕ) → longest_header < length text → nat_le (length line + length text) longest_header ≡ false
too-long-behind line text long = grind (arith, long)

whole-by : (part : ReturnedPart) (size_limit : ℕ) (line one other : List ℕ) → AreSameUpTo longest_header one other
    → is_returned_whole part size_limit line one ≡ is_returned_whole part size_limit line other
whole-by Whole size_limit line one other (same is) = ap (is_returned_whole Whole size_limit line) is
whole-by Whole size_limit line one other (longer first second) =
    (λ i. nat_le (length one) size_limit && too-long-behind line one first i)
    ∙ never (nat_le (length one) size_limit) (nat_le (length other) size_limit)
    ∙ (λ i. nat_le (length other) size_limit && sym (too-long-behind line other second) i)
whole-by Header size_limit line one other are = refl

whole-same : (part : ReturnedPart) (size_limit : ℕ) (line text : List ℕ) → is_returned_whole part size_limit line (front_of text) ≡ is_returned_whole part size_limit line text
whole-same part size_limit line text = whole-by part size_limit line (front_of text) text (front-same text)

behind-same : (line one other : List ℕ) → AreSameUpTo longest_header one other → AreSameUpTo longest_header (line ++ one) (line ++ other)
behind-same line one other (same is) = same (ap (λ (text : List ℕ). line ++ text) is)
behind-same line one other (longer first second) =
    longer (omega (arith, first, length-append line one)) (omega (arith, second, length-append line other))

returned-by : FrontsShow → (whole : Bool) (line text : List ℕ) → AreSameUpTo longest_header (returned_text whole line (front_of text)) (returned_text whole line text)
returned-by shows true line text = behind-same line (front_of text) text (front-same text)
returned-by shows false line text = behind-same line (message_header (front_of text)) (message_header text) (shows longest_header text)

told-same : (message : MessageSaid) (notice : NoticeFacts) → is_message_told (with_front message) notice ≡ is_message_told message notice
told-same message notice = whole-same notice.returned message.size_limit (return_path_line message.sender) message.text

returned-same : FrontsShow → (message : MessageSaid) (notice : NoticeFacts)
    → AreSameUpTo longest_header (draft_fields_told (with_front message) notice).header (draft_fields_told message notice).header
returned-same shows message notice =
    let line = return_path_line message.sender in
    subst (λ (whole : Bool). AreSameUpTo longest_header (returned_text whole line (front_of message.text)) (returned_text (is_message_told message notice) line message.text))
    (sym (told-same message notice))
    (returned-by shows (is_message_told message notice) line message.text)

-- ---- faults

fits-same : (one other : List ℕ) → AreSameUpTo longest_header one other → nat_le (length one) longest_header ≡ nat_le (length other) longest_header
fits-same one other (same is) = ap (λ (text : List ℕ). nat_le (length text) longest_header) is
fits-same one other (longer first second) = too-long one first ∙ sym (too-long other second)

-- the first fault of a draft whose header fits or doesn't
abbrev fault_by : DraftFields → Bool → Option DraftFault
fault_by fields fits = if fits then first_draft_fault (record {
  return_path = fields.return_path;
  envelope_id = fields.envelope_id;
  header = [];
  returned = fields.returned;
  wording = fields.wording;
  extensions = fields.extensions;
}) else Some draft.Header

draft-fault-same : FrontsShow → (message : MessageSaid) (notice : NoticeFacts)
    → first_draft_fault (draft_fields_told (with_front message) notice) ≡ first_draft_fault (draft_fields_told message notice)
draft-fault-same shows message notice =
    let whole : is_message_told (with_front message) notice ≡ is_message_told message notice = told-same message notice in
    let fits : nat_le (length (draft_fields_told (with_front message) notice).header) longest_header ≡ nat_le (length (draft_fields_told message notice).header) longest_header =
    fits-same (draft_fields_told (with_front message) notice).header (draft_fields_told message notice).header (returned-same shows message notice) in
    λ i. fault_by (record {
      return_path = notice_address notice;
      envelope_id = message.envelope_id;
      header = [];
      returned = Some (returned_as (whole i));
      wording = (draft_fields_told message notice).wording;
      extensions = (draft_fields_told message notice).extensions;
    }) (fits i)

told-fault-same : FrontsShow → (message : MessageSaid) (notice : NoticeFacts)
    → first_draft_fault_told (with_front message) notice ≡ first_draft_fault_told message notice
told-fault-same shows message notice =
    ap (λ (fault : Option DraftFault). if needs_no_quotes (notice_address notice) then option_map of_draft fault else Some Quotes)
    (draft-fault-same shows message notice)

-- the first fault of a letter whose draft has this fault
abbrev fault_with : MessageSaid → NoticeFacts → Option LetterFault → Option LetterFault
fault_with message notice found =
    if has_a_count notice.outcomes
    then option_map_or
    (λ arrival. if nat_le arrival last_moment
    then first_of found (first_fault_of_told notice.service (tried_until notice.service arrival message.lifetime) notice.outcomes)
    else Some Arrival)
    message.arrival (Some Arrival)
    else Some Count

letter-fault-same : FrontsShow → (message : MessageSaid) (notice : NoticeFacts) → first_letter_fault (with_front message) notice ≡ first_letter_fault message notice
letter-fault-same shows message notice = ap (fault_with message notice) (told-fault-same shows message notice)

-- ---- a letter has no header that is too long

long-told : (plain : Bool) (fields : DraftFields) → nat_le (length fields.header) longest_header ≡ false
    → is_some (if plain then option_map of_draft (first_draft_fault fields) else Some Quotes) ≡ true
long-told true fields long = ap (λ (fits : Bool). is_some (option_map of_draft (fault_by fields fits))) long
long-told false fields long = refl

found-first : (found later : Option LetterFault) → is_some found ≡ true → is_some (first_of found later) ≡ true
found-first None later is = absurd (false≢true is)
found-first (Some fault) later is = refl

found-dated : (dated : Bool) (found later : Option LetterFault) → is_some found ≡ true → is_some (if dated then first_of found later else Some Arrival) ≡ true
found-dated true found later is = found-first found later is
found-dated false found later is = refl

found-come : (arrival : Option ℕ) (later : ℕ → Option LetterFault) (found : Option LetterFault) → is_some found ≡ true
    → is_some (option_map_or (λ (moment : ℕ). if nat_le moment last_moment then first_of found (later moment) else Some Arrival) arrival (Some Arrival)) ≡ true
found-come None later found is = refl
found-come (Some moment) later found is = found-dated (nat_le moment last_moment) found (later moment) is

found-counted : (counted : Bool) (rest : Option LetterFault) → is_some rest ≡ true → is_some (if counted then rest else Some Count) ≡ true
found-counted true rest is = is
found-counted false rest is = refl

long-fault : (message : MessageSaid) (notice : NoticeFacts) → nat_le (length (draft_fields_told message notice).header) longest_header ≡ false
    → is_some (first_letter_fault message notice) ≡ true
long-fault message notice long =
    found-counted (has_a_count notice.outcomes) _
    (found-come message.arrival (λ moment. first_fault_of_told notice.service (tried_until notice.service moment message.lifetime) notice.outcomes)
    (first_draft_fault_told message notice) (long-told (needs_no_quotes (notice_address notice)) (draft_fields_told message notice) long))

header-by : (message : MessageSaid) (notice : NoticeFacts) (other : List ℕ) → first_letter_fault message notice ≡ None
    → AreSameUpTo longest_header (draft_fields_told message notice).header other → (draft_fields_told message notice).header ≡ other
header-by message notice other sayable (same is) = is
header-by message notice other sayable (longer first second) =
    absurd (false≢true (ap is_some (sym sayable) ∙ long-fault message notice (too-long (draft_fields_told message notice).header first)))

-- ---- letters

said-letter : FrontsShow → (message : MessageSaid) (moment serial : ℕ) (notice : NoticeFacts) (letter : Letter)
    → IsSaidLetter (with_front message) moment serial notice letter → IsSaidLetter message moment serial notice letter
said-letter shows message moment serial notice letter is =
    let told : IsDraftTold (with_front message) notice moment is.arrival letter.draft = is.letter_is.draft_is in
    record {
      arrival = is.arrival;
      sayable = sym (letter-fault-same shows message notice) ∙ is.sayable;
      letter_is = record {
        came = is.letter_is.came;
        service_is = is.letter_is.service_is;
        id_is = is.letter_is.id_is;
        draft_is = record {
          moment_is = told.moment_is;
          arrival_is = told.arrival_is;
          return_path_is = told.return_path_is;
          envelope_id_is = told.envelope_id_is;
          header_is = told.header_is ∙ header-by (with_front message) notice (draft_fields_told message notice).header is.sayable (returned-same shows message notice);
          returned_is = subst (λ (whole : Bool). letter.draft.returned ≡ returned_as whole) (told-same message notice) told.returned_is;
          worded_by_outcome = told.worded_by_outcome;
          extensions_is = told.extensions_is;
          none_expected = told.none_expected;
        };
        outcomes_are = is.letter_is.outcomes_are;
        serial_is = is.letter_is.serial_is;
      };
    }

pub letters_of_front : FrontsShow → (message : MessageSaid) (moment serial : ℕ) (notices : List NoticeFacts) (letters : List Letter)
    → AreLettersOf (with_front message) moment serial notices letters → AreLettersOf message moment serial notices letters
letters_of_front shows message moment serial [] letters are = are
letters_of_front shows message moment serial (notice ∷ notices) [] are = are
letters_of_front shows message moment serial (notice ∷ notices) (letter ∷ letters) are =
    (said-letter shows message moment serial notice letter are.0, letters_of_front shows message moment (next_serial serial) notices letters are.1)

pub any_fault_of_front : FrontsShow → (message : MessageSaid) (notices : List NoticeFacts)
    → list_any (has_fault (with_front message)) notices ≡ true → list_any (has_fault message) notices ≡ true
any_fault_of_front shows message notices is =
    let faulty : has_fault (with_front message) ≡ has_fault message = λ i notice. is_some (letter-fault-same shows message notice i) in
    sym (ap (λ (test : NoticeFacts → Bool). list_any test notices) faulty) ∙ is
