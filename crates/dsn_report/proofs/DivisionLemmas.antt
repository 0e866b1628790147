-- A notice divides into its parts.
use Rattle.std.proofs.Common.{◌≡◌, ℕ, suc, map, Bool, true, false, List, [], ◌∷◌, ◌++◌, Option, Some, None, length, take, codes, refl, sym, ap, ◌∙◌, arith, append_assoc, append-nil, length-append, nat_eq}
use Rattle.std.specs.Prelude.{All, IfSome, option_map}
use Rattle.std.specs.List.{list_any, flat_map}
use Rattle.std.specs.Cmp.Lexicographic.{unequal}
use Rattle.std.proofs.lemmas.Bool.{or_from, or_parts}
use Rattle.std.proofs.lemmas.Bool.Decides.{Decides-eqb}
use Rattle.std.proofs.lemmas.List.{length-take}
use Rattle.std.proofs.lemmas.Slice.Eq.{starts_is}
use Rattle.dsn_text.specs.Action.{action_word}
use Rattle.dsn_outcome.specs.Letter.{Letter}
use Rattle.dsn_outcome.specs.Outcome.{Outcome, IsLegalOutcome}
use Rattle.dsn_text.specs.Extension.{lines_ended_by_lf, is_extension_text}
use Rattle.dsn_text.specs.Stamp.{date_text}
use Rattle.dsn_outcome.specs.declared.wording.Wording.{Wording}
use Rattle.dsn_outcome.specs.declared.wording.Wording.TheVariants.{ByService, ByOutcome}
use Rattle.dsn_text.specs.declared.service.Service.{Service}
use Rattle.dsn_text.specs.declared.service.Service.TheVariants.{Bounce, Defer, Trace}
use Rattle.dsn_report.proofs.BoundaryLaw.{boundary_number-is}
use Rattle.dsn_report.specs.Boundary.{boundary_of, boundary_text, is_delimiter, is_ruled_out, returned_lines, returns_eight_bit, returns_message}
use Rattle.dsn_report.specs.DeliveryStatus.{line_if_any, per_message_fields, per_recipient_fields, recipient_group, delivery_status, typed, usual_address_type, usual_diagnostic_type}
use Rattle.dsn_report.specs.Multipart.{DividesIntoParts, divide, divide_more, message_body, multipart_of, multipart_of_pieces, part_lines, returned_parts, notice_parts, is_last_delimiter}
use Rattle.dsn_report.specs.PlainWords.{meaning_of}
use Rattle.dsn_report.specs.Notice.{encoding_lines, explanation, guidance, is_eight_bit, notification_type, own_preface, preface_by, preface_of, reply_beside, reply_lines, notice_header, template_of, part_header, part_of, outcome_lines, notification, origin_told, recipient_told, returned_description, returned_part, returned_type, words_by, words_of, lines_with_boundary, notice_lines, notice_of}
use Rattle.dsn_report.specs.Lines.{text_of_pieces}
use Rattle.dsn_report.specs.Site.{Site}
use Rattle.dsn_report.specs.Template.{IsTemplate, Template, template_lines}
use Rattle.dsn_report.specs.WellFormed.{IsWellFormed}
use Rattle.dsn_report.proofs.ExtensionLemmas.{extension_lines-pass, none-delimits}
use Rattle.dsn_report.proofs.LinesLemmas.{notice_lines-eight_bit}
use Rattle.dsn_report.proofs.TemplateLemmas.{none-like, template-keeps, template-legal}
use Rattle.dsn_report.proofs.PieceLemmas.{has_line_bytes-legal, map-text_of_pieces, pieces-lines}

-- ---- lines that are not delimiters

abbrev NoneDelimits : List ℕ → List (List ℕ) → Type 0
NoneDelimits boundary lines = list_any (is_delimiter boundary) lines ≡ false

none-append : (boundary : List ℕ) (xs ys : List (List ℕ)) → NoneDelimits boundary xs → NoneDelimits boundary ys → NoneDelimits boundary (xs ++ ys)
none-append boundary [] ys p q = q
none-append boundary (x ∷ xs) ys p q =
    let both = or_parts (is_delimiter boundary x) (list_any (is_delimiter boundary) xs) p in
    or_from (is_delimiter boundary x) (list_any (is_delimiter boundary) (xs ++ ys)) both.0 (none-append boundary xs ys both.1 q)

none-flat_map : {A : Type 0} (boundary : List ℕ) (f : A → List (List ℕ)) (xs : List A) → ((x : A) → NoneDelimits boundary (f x)) → NoneDelimits boundary (flat_map f xs)
none-flat_map boundary f [] each = refl
none-flat_map boundary f (x ∷ xs) each = none-append boundary (f x) (flat_map f xs) (each x) (none-flat_map boundary f xs each)

-- ---- the lines of a notice

none-if-any : (boundary : List ℕ) (byte : ℕ) (name : List ℕ) (value : Option (List ℕ)) → nat_eq 45 byte ≡ false → NoneDelimits boundary (line_if_any (byte ∷ name) value)
unfolding line_if_any
none-if-any boundary byte name None other = refl
none-if-any boundary byte name (Some value) other = rw other refl

none-opening : (boundary : List ℕ) (wording : Wording) (service : Service) (arrived : Bool) → is_delimiter boundary (words_by wording service arrived).opening ≡ false
none-opening boundary ByService Bounce arrived = refl
none-opening boundary ByService Defer arrived = refl
none-opening boundary ByService Trace arrived = refl
none-opening boundary ByOutcome Bounce arrived = refl
none-opening boundary ByOutcome Defer arrived = refl
none-opening boundary ByOutcome Trace true = refl
none-opening boundary ByOutcome Trace false = refl

none-told : (boundary recipient rest : List ℕ) (origin : Option (List ℕ)) → is_delimiter boundary (recipient_told recipient origin ++ rest) ≡ false
unfolding recipient_told
none-told boundary recipient rest None = refl
none-told boundary recipient rest (Some original) = refl

none-reply : (boundary : List ℕ) (mta reply : Option (List ℕ)) → NoneDelimits boundary (reply_lines mta reply)
unfolding reply_lines
none-reply boundary mta None = refl
none-reply boundary mta (Some reply) = refl

none-explanation : (boundary : List ℕ) (wording : Wording) (outcome : Outcome) → NoneDelimits boundary (explanation wording outcome)
unfolding explanation
none-explanation boundary ByService outcome = none-if-any boundary 32 (codes "   ") outcome.reason refl
none-explanation boundary ByOutcome outcome =
    let meaning = (codes "    " ++ meaning_of outcome.action outcome.status) ∷ line_if_any (codes "    ") outcome.reason in
    let reply = reply_lines outcome.mta (reply_beside outcome.reason outcome.diagnostic) in
    let until = line_if_any (codes "    It will be tried again until ") (option_map date_text outcome.retry_until) in
    none-append boundary (meaning ++ reply) until
    (none-append boundary meaning reply (none-if-any boundary 32 (codes "   ") outcome.reason refl) (none-reply boundary outcome.mta (reply_beside outcome.reason outcome.diagnostic)))
    (none-if-any boundary 32 (codes "   It will be tried again until ") (option_map date_text outcome.retry_until) refl)

none-guidance : (boundary host : List ℕ) (wording : Wording) (service : Service) (arrived : Bool) → NoneDelimits boundary (guidance wording host (words_by wording service arrived).consequence)
unfolding guidance
none-guidance boundary host ByService service arrived = refl
none-guidance boundary host ByOutcome Bounce arrived = refl
none-guidance boundary host ByOutcome Defer arrived = refl
none-guidance boundary host ByOutcome Trace true = refl
none-guidance boundary host ByOutcome Trace false = refl

none-outcome : (boundary : List ℕ) (wording explained : Wording) (outcome : Outcome) → NoneDelimits boundary (outcome_lines wording explained outcome)
unfolding outcome_lines
none-outcome boundary wording explained outcome =
    let told = recipient_told outcome.recipient (origin_told wording outcome) in
    let line = told ++ codes ": " ++ action_word outcome.action ++ codes " (" ++ outcome.status ++ codes ")" in
    let rest = codes ": " ++ (action_word outcome.action ++ (codes " (" ++ (outcome.status ++ codes ")"))) in
    let regrouped : line ≡ told ++ rest = simp append_assoc refl in
    or_from (is_delimiter boundary line) (list_any (is_delimiter boundary) (explanation explained outcome))
    (ap (is_delimiter boundary) regrouped ∙ none-told boundary outcome.recipient rest (origin_told wording outcome))
    (none-explanation boundary explained outcome)

-- this project's own text
none-own : (boundary host : List ℕ) (letter : Letter) → NoneDelimits boundary (own_preface host (words_of letter) letter.draft.wording).text
none-own boundary host letter =
    or_from (is_delimiter boundary (words_of letter).opening) (list_any (is_delimiter boundary) (guidance letter.draft.wording host (words_of letter).consequence))
    (none-opening boundary letter.draft.wording letter.key.service _) (none-guidance boundary host letter.draft.wording letter.key.service _)

none-template : (letter : Letter) (template : Template) → IsTemplate template → NoneDelimits (boundary_of letter) (template_lines template)
unfolding boundary_text
none-template letter template legal = none-like letter.key.service _ (template_lines template) (template-keeps template legal).apart

none-preface : (site : Site) (letter : Letter) → IsWellFormed site letter → NoneDelimits (boundary_of letter) (preface_of site letter).text
unfolding preface_of
none-preface site letter formed = here (template_of site.templates letter) (template-legal site.templates formed.site_legal.templates_legal letter)
  where
    here : (template : Option Template) → IfSome template IsTemplate → NoneDelimits (boundary_of letter) (preface_by site.host (words_of letter) letter.draft.wording template).text
    here None legal = none-own (boundary_of letter) site.host letter
    here (Some template) legal = none-template letter template legal

none-notification : (site : Site) (letter : Letter) → IsWellFormed site letter → NoneDelimits (boundary_of letter) (notification site letter)
unfolding notification
none-notification site letter formed =
    let boundary = boundary_of letter in
    let explained = (preface_of site letter).explained in
    let outcomes = flat_map (outcome_lines letter.draft.wording explained) letter.outcomes in
    none-append boundary (preface_of site letter).text ([] ∷ outcomes) (none-preface site letter formed)
    (none-flat_map boundary (outcome_lines letter.draft.wording explained) letter.outcomes (none-outcome boundary letter.draft.wording explained))

none-message : (boundary host : List ℕ) (letter : Letter) → is_extension_text letter.draft.extensions ≡ true → NoneDelimits boundary (per_message_fields host letter)
unfolding per_message_fields
none-message boundary host letter legal =
    none-append boundary (line_if_any (codes "Original-Envelope-Id: ") letter.draft.envelope_id) _
    (none-if-any boundary 79 (codes "riginal-Envelope-Id: ") letter.draft.envelope_id refl)
    (none-delimits boundary (lines_ended_by_lf letter.draft.extensions) (extension_lines-pass letter.draft.extensions legal))

none-recipient : (boundary : List ℕ) (outcome : Outcome) → IsLegalOutcome outcome → NoneDelimits boundary (recipient_group outcome)
unfolding per_recipient_fields
none-recipient boundary outcome legal =
    let original = line_if_any (typed (codes "Original-Recipient: ") usual_address_type outcome.original_type) outcome.original in
    let always =
    (typed (codes "Final-Recipient: ") usual_address_type outcome.recipient_type ++ outcome.recipient) ∷ (codes "Action: " ++ action_word outcome.action) ∷ (codes "Status: " ++ outcome.status) ∷ [] in
    let mta = line_if_any (codes "Remote-MTA: dns; ") outcome.mta in
    let diagnostic = line_if_any (typed (codes "Diagnostic-Code: ") usual_diagnostic_type outcome.diagnostic_type) outcome.diagnostic in
    let last_attempt = line_if_any (codes "Last-Attempt-Date: ") (option_map date_text outcome.last_attempt) in
    let retry_until = line_if_any (codes "Will-Retry-Until: ") (option_map date_text outcome.retry_until) in
    none-append boundary (original ++ always ++ mta ++ diagnostic ++ last_attempt ++ retry_until) (lines_ended_by_lf outcome.extensions)
    (none-append boundary (original ++ always ++ mta ++ diagnostic ++ last_attempt) retry_until
    (none-append boundary (original ++ always ++ mta ++ diagnostic) last_attempt
    (none-append boundary (original ++ always ++ mta) diagnostic
    (none-append boundary (original ++ always) mta
    (none-append boundary original always (none-if-any boundary 79 (typed (codes "riginal-Recipient: ") usual_address_type outcome.original_type) outcome.original refl) refl)
    (none-if-any boundary 82 (codes "emote-MTA: dns; ") outcome.mta refl))
    (none-if-any boundary 68 (typed (codes "iagnostic-Code: ") usual_diagnostic_type outcome.diagnostic_type) outcome.diagnostic refl))
    (none-if-any boundary 76 (codes "ast-Attempt-Date: ") (option_map date_text outcome.last_attempt) refl))
    (none-if-any boundary 87 (codes "ill-Retry-Until: ") (option_map date_text outcome.retry_until) refl))
    (none-delimits boundary (lines_ended_by_lf outcome.extensions) (extension_lines-pass outcome.extensions legal.extensions_legal))

none-groups : (boundary : List ℕ) (outcomes : List Outcome) → All IsLegalOutcome outcomes → NoneDelimits boundary (flat_map recipient_group outcomes)
none-groups boundary [] legal = refl
none-groups boundary (outcome ∷ outcomes) legal =
    none-append boundary (recipient_group outcome) (flat_map recipient_group outcomes) (none-recipient boundary outcome (legal 0 outcome (omega arith)))
    (none-groups boundary outcomes (λ k d below. legal (suc k) d (omega arith)))

none-status : (boundary host : List ℕ) (letter : Letter) → is_extension_text letter.draft.extensions ≡ true → All IsLegalOutcome letter.outcomes → NoneDelimits boundary (delivery_status host letter)
unfolding delivery_status
none-status boundary host letter fields legal =
    none-append boundary (per_message_fields host letter) (flat_map recipient_group letter.outcomes)
    (none-message boundary host letter fields)
    (none-groups boundary letter.outcomes legal)

none-part : (boundary description content_type : List ℕ) (eight : Bool) (body : List (List ℕ)) → NoneDelimits boundary body → NoneDelimits boundary (part_lines description content_type eight body ++ [] ∷ [])
unfolding part_lines
none-part boundary description content_type true body none = none-append boundary body ([] ∷ []) none refl
none-part boundary description content_type false body none = none-append boundary body ([] ∷ []) none refl

-- ---- the delimiters

delimiter-is : (boundary rest : List ℕ) → is_delimiter boundary ((codes "--" ++ boundary) ++ rest) ≡ true
delimiter-is boundary rest = (starts_is Decides-eqb ((codes "--" ++ boundary) ++ rest) (codes "--" ++ boundary) _ refl).1 rest refl

delimiter-plain : (boundary : List ℕ) → is_delimiter boundary (codes "--" ++ boundary) ≡ true
delimiter-plain boundary = ap (is_delimiter boundary) (sym (append-nil (codes "--" ++ boundary))) ∙ delimiter-is boundary []

last-is : (boundary : List ℕ) → is_last_delimiter boundary (codes "--" ++ boundary ++ codes "--") ≡ true
last-is boundary =
    (starts_is Decides-eqb (codes "--" ++ boundary ++ codes "--") (codes "--" ++ boundary ++ codes "--") _ refl).1 [] (sym (append-nil (codes "--" ++ boundary ++ codes "--")))

last-isnt : (boundary : List ℕ) → is_last_delimiter boundary (codes "--" ++ boundary) ≡ false
last-isnt boundary =
    let needle = codes "--" ++ boundary ++ codes "--" in
    unequal nat_eq needle (take (length needle) (codes "--" ++ boundary))
    (λ same. absurd (omega (arith, same, length-take (length needle) (codes "--" ++ boundary), length-append (codes "--" ++ boundary) (codes "--"))))

-- ---- dividing

divide-front : (boundary : List ℕ) (ls rest : List (List ℕ)) → NoneDelimits boundary ls
    → divide boundary (ls ++ rest) ≡ record { before = ls ++ (divide boundary rest).before; parts = (divide boundary rest).parts; after = (divide boundary rest).after }
unfolding divide divide_more
divide-front boundary [] rest none = refl
divide-front boundary (line ∷ ls) rest none =
    let both = or_parts (is_delimiter boundary line) (list_any (is_delimiter boundary) ls) none in
    rw (both.0, divide-front boundary ls rest both.1) refl

divide-delimiter : (boundary : List ℕ) (rest : List (List ℕ))
    → divide boundary ((codes "--" ++ boundary) ∷ rest) ≡ record { before = []; parts = (divide boundary rest).before ∷ (divide boundary rest).parts; after = (divide boundary rest).after }
unfolding divide divide_more
divide-delimiter boundary rest = rw (delimiter-plain boundary, last-isnt boundary) refl

part-is : (boundary description content_type : List ℕ) (eight : Bool) (body rest : List (List ℕ))
    → part_of boundary description content_type eight body ++ rest ≡ (codes "--" ++ boundary) ∷ ((part_lines description content_type eight body ++ [] ∷ []) ++ rest)
unfolding part_of part_header part_lines
part-is boundary description content_type true body rest = refl
part-is boundary description content_type false body rest = refl

divide-part : (boundary description content_type : List ℕ) (eight : Bool) (body rest : List (List ℕ)) (parts : List (List (List ℕ))) (tail : List (List ℕ)) → NoneDelimits boundary body
    → divide boundary rest ≡ record { before = []; parts = parts; after = Some tail }
    → divide boundary (part_of boundary description content_type eight body ++ rest)
    ≡ record { before = []; parts = (part_lines description content_type eight body ++ [] ∷ []) ∷ parts; after = Some tail }
divide-part boundary description content_type eight body rest parts tail none later =
    let lines = part_lines description content_type eight body ++ [] ∷ [] in
    ap (divide boundary) (part-is boundary description content_type eight body rest)
    ∙ divide-delimiter boundary (lines ++ rest)
    ∙ rw (divide-front boundary lines rest (none-part boundary description content_type eight body none), later, append-nil) refl

divide-last : (boundary : List ℕ) (tail : List (List ℕ)) → divide boundary ((codes "--" ++ boundary ++ codes "--") ∷ tail) ≡ record { before = []; parts = []; after = Some tail }
unfolding divide divide_more
divide-last boundary tail = rw (delimiter-is boundary (codes "--"), last-is boundary) refl

divide-returned : (boundary description content_type : List ℕ) (eight : Bool) (ls tail : List (List ℕ)) → NoneDelimits boundary ls
    → divide boundary (returned_part boundary description content_type eight ls ++ ((codes "--" ++ boundary ++ codes "--") ∷ tail))
    ≡ record { before = []; parts = map (λ part. part ++ [] ∷ []) (returned_parts description content_type eight ls); after = Some tail }
unfolding returned_part returned_parts
divide-returned boundary description content_type eight [] tail none = divide-last boundary tail
divide-returned boundary description content_type eight (line ∷ ls) tail none =
    divide-part boundary description content_type eight (line ∷ ls) ((codes "--" ++ boundary ++ codes "--") ∷ tail) [] tail none (divide-last boundary tail)

-- the returned part of a letter's notice
abbrev own_returned : Letter → List ℕ → List (List ℕ)
own_returned letter boundary =
    returned_part boundary (returned_description (words_of letter) (returns_message letter.draft)) (returned_type (returns_message letter.draft)) (returns_eight_bit letter.draft) (returned_lines letter.draft)

-- the body of a notice begins after the last line of its header and an empty line
after-header : (eight : Bool) (first second third fourth tail : List (List ℕ))
    → message_body (((((encoding_lines eight ++ [] ∷ []) ++ first) ++ second) ++ third) ++ fourth ++ tail) ≡ (first ++ second ++ third ++ fourth) ++ tail
unfolding message_body
after-header true first second third fourth tail = refl
after-header false first second third fourth tail = refl

-- the body of a notice is its parts and the last delimiter
body-is : (site : Site) (letter : Letter) (boundary : List ℕ) (tail : List (List ℕ)) → message_body (lines_with_boundary site letter boundary ++ tail) ≡
    part_of boundary (codes "Notification") (notification_type site letter) (preface_of site letter).eight_bit (notification site letter)
    ++ (part_of boundary (codes "Delivery report") (codes "message/delivery-status") false (delivery_status site.host letter)
    ++ (own_returned letter boundary ++ ((codes "--" ++ boundary ++ codes "--") ∷ tail)))
unfolding message_body lines_with_boundary notice_header
body-is site letter boundary tail =
    let person = part_of boundary (codes "Notification") (notification_type site letter) (preface_of site letter).eight_bit (notification site letter) in
    let program = part_of boundary (codes "Delivery report") (codes "message/delivery-status") false (delivery_status site.host letter) in
    let returned = own_returned letter boundary in
    let end = (codes "--" ++ boundary ++ codes "--") ∷ [] in
    after-header (is_eight_bit site letter) person program returned end tail
    ∙ append_assoc (person ++ program ++ returned) end tail
    ∙ append_assoc (person ++ program) returned (end ++ tail)
    ∙ append_assoc person program (returned ++ (end ++ tail))

notice-divides : (site : Site) (letter : Letter) → IsWellFormed site letter → (tail : List (List ℕ))
    → divide (boundary_of letter) (message_body (notice_lines site letter ++ tail))
    ≡ record { before = []; parts = map (λ part. part ++ [] ∷ []) (notice_parts site letter); after = Some tail }
unfolding notice_lines notice_parts is_ruled_out
notice-divides site letter formed tail =
    let boundary = boundary_of letter in
    let free = (boundary_number-is letter formed.header_short).free in
    ap (divide boundary) (body-is site letter boundary tail)
    ∙ divide-part boundary (codes "Notification") (notification_type site letter) (preface_of site letter).eight_bit (notification site letter) _ _ tail (none-notification site letter formed)
    (divide-part boundary (codes "Delivery report") (codes "message/delivery-status") false (delivery_status site.host letter) _ _ tail (none-status boundary site.host letter formed.extensions_legal formed.outcomes_legal)
    (divide-returned boundary _ _ (returns_eight_bit letter.draft) (returned_lines letter.draft) tail free))

pub division_law : (site : Site) (letter : Letter) → IsWellFormed site letter → DividesIntoParts site letter
unfolding multipart_of notice_of text_of_pieces
division_law site letter formed =
    ap (λ pieces. multipart_of_pieces (divide (boundary_of letter) (message_body pieces))) (pieces-lines (notice_lines site letter) (has_line_bytes-legal (notice_lines site letter) (notice_lines-eight_bit site letter formed)))
    ∙ ap multipart_of_pieces (notice-divides site letter formed ([] ∷ []))
    ∙ ap (λ parts. record { preamble = None; parts = parts; epilogue = Some [] }) (map-text_of_pieces (notice_parts site letter))
