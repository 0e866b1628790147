-- A notice: a multipart/report on the delivery to a message's recipients, as a list of lines (RFC
-- 6522, RFC 3464, RFC 3834).
use Rattle.std.specs.Prelude.{ℕ, Bool, true, false, List, [], ◌∷◌, ◌++◌, ◌||◌, Option, Some, None, option_map, codes, decimal, nat_eq, unwrap_or, if◌then◌else◌}
use Rattle.std.specs.List.{list_all, flat_map, starts_with}
use lib.Pointwise.{pointwise}
use Rattle.dsn_text.specs.Action.{action_word}
use Rattle.dsn_text.specs.declared.action.Action.{Action}
use Rattle.dsn_text.specs.declared.action.Action.TheVariants.{Failed, Delayed, Delivered, Relayed, Expanded}
use Rattle.dsn_outcome.specs.Letter.{Letter}
use Rattle.dsn_outcome.specs.Outcome.{Outcome}
use Rattle.dsn_text.specs.Stamp.{date_text}
use Rattle.dsn_text.specs.declared.service.Service.{Service}
use Rattle.dsn_text.specs.declared.service.Service.TheVariants.{Bounce, Defer, Trace}
use Rattle.dsn_outcome.specs.declared.wording.Wording.{Wording}
use Rattle.dsn_outcome.specs.declared.wording.Wording.TheVariants.{ByService, ByOutcome}
use Rattle.dsn_report.specs.Boundary.{letter_name, boundary_of, returned_lines, returns_eight_bit, returns_message}
use Rattle.dsn_report.specs.DeliveryStatus.{line_if_any, delivery_status}
use Rattle.dsn_report.specs.Lines.{text_of_lines}
use Rattle.dsn_report.specs.PlainWords.{meaning_of}
use Rattle.dsn_report.specs.Site.{Site, Templates}
use Rattle.dsn_report.specs.Template.{Template, has_eight_bit_text, template_lines}

-- the words of a notice that depend on its letter: its subject, its first sentence to the reader,
-- what follows from it for the reader, and the descriptions of a returned header and of a returned
-- message
pub record Words : Type 0 where
  pub subject : List ℕ
  pub opening : List ℕ
  pub consequence : List ℕ
  pub header : List ℕ
  pub message : List ℕ

-- whether the message reached the recipient, or left the mail systems that report on it (RFC 3464
-- section 2.3.3)
abbrev pub has_arrived : Action → Bool
has_arrived Failed = false
has_arrived Delayed = false
has_arrived Delivered = true
has_arrived Relayed = true
has_arrived Expanded = true

abbrev pub bounce_words : Words
bounce_words = record {
  subject = codes "Undelivered Mail Returned to Sender";
  opening = codes "Your message could not be delivered to the recipients below.";
  consequence = codes "No further attempt will be made.";
  header = codes "Undelivered Message Headers";
  message = codes "Undelivered Message";
}

abbrev pub defer_words : Words
defer_words = record {
  subject = codes "Delayed Mail (still being retried)";
  opening = codes "Your message has not yet been delivered to the recipients below.";
  consequence = codes "You do not need to send it again.";
  header = codes "Delayed Message Headers";
  message = codes "Delayed Message";
}

abbrev pub trace_words : Words
trace_words = record {
  subject = codes "Mail Delivery Status Report";
  opening = codes "This is the delivery report for your message.";
  consequence = codes "You or your mail program requested this report.";
  header = codes "Message Headers";
  message = codes "Message";
}

abbrev pub success_words : Words
success_words = record {
  subject = codes "Successful Mail Delivery Report";
  opening = codes "Your message was delivered to the recipients below.";
  consequence = codes "You or your mail program requested this report.";
  header = codes "Message Headers";
  message = codes "Message";
}

-- the words with the bounce's descriptions of the returned part, for wording by service
abbrev pub with_bounce_names : Words → Words
with_bounce_names words =
    record words { header = bounce_words.header; message = bounce_words.message }

-- the words, chosen by the wording, the service and whether the message arrived at all recipients
-- (this project's profile)
abbrev pub words_by : Wording → Service → Bool → Words
words_by ByService Bounce arrived = bounce_words
words_by ByService Defer arrived = with_bounce_names defer_words
words_by ByService Trace arrived = with_bounce_names trace_words
words_by ByOutcome Bounce arrived = bounce_words
words_by ByOutcome Defer arrived = defer_words
words_by ByOutcome Trace true = success_words
words_by ByOutcome Trace false = trace_words

-- the words of a letter's notice
abbrev pub words_of : Letter → Words
words_of letter =
    words_by letter.draft.wording letter.key.service
    (list_all (λ outcome. has_arrived outcome.action) letter.outcomes)

-- the description and the media type of the returned part: the message, or its header (RFC 6522
-- section 3)
abbrev pub returned_description : Words → Bool → List ℕ
returned_description words true = words.message
returned_description words false = words.header

abbrev pub returned_type : Bool → List ℕ
returned_type true = codes "message/rfc822"
returned_type false = codes "text/rfc822-headers"

-- the line of a header that says that the body is 8bit, if it is; a multipart with an 8bit part is
-- 8bit as well (RFC 2045 sections 6.1 and 6.4)
abbrev pub encoding_lines : Bool → List (List ℕ)
encoding_lines true = codes "Content-Transfer-Encoding: 8bit" ∷ []
encoding_lines false = []

-- the address that the notice is sent to: the message's return path (RFC 3464 section 2)
abbrev pub return_path_of : Letter → List ℕ
return_path_of letter = unwrap_or letter.draft.return_path []

-- the beginning of a part: its delimiter, its header and an empty line (RFC 2046 section 5.1.1)
unfoldable pub part_header : List ℕ → List ℕ → List ℕ → Bool → List (List ℕ)
part_header boundary description content_type eight_bit =
    (codes "--" ++ boundary)
    ∷ (codes "Content-Description: " ++ description)
    ∷ (codes "Content-Type: " ++ content_type)
    ∷ encoding_lines eight_bit
    ++ [] ∷ []

-- one part; the empty line after its body belongs to the next delimiter, so the body ends with the
-- CRLF of its last line (RFC 2046 section 5.1.1)
unfoldable pub part_of : List ℕ → List ℕ → List ℕ → Bool → List (List ℕ) → List (List ℕ)
part_of boundary description content_type eight_bit body =
    part_header boundary description content_type eight_bit ++ body ++ [] ∷ []

-- the original recipient of an outcome, if its notice names it: the wording is by outcome, and it
-- isn't the final recipient
abbrev pub origin_if_other : List ℕ → Option (List ℕ) → Option (List ℕ)
origin_if_other recipient None = None
origin_if_other recipient (Some original) =
    if pointwise nat_eq original recipient then None else Some original

abbrev pub origin_told : Wording → Outcome → Option (List ℕ)
origin_told ByService outcome = None
origin_told ByOutcome outcome = origin_if_other outcome.recipient outcome.original

-- a recipient, and the address that it was expanded from, if the notice names it
unfoldable pub recipient_told : List ℕ → Option (List ℕ) → List ℕ
recipient_told recipient None = codes "<" ++ recipient ++ codes ">"
recipient_told recipient (Some original) =
    codes "<" ++ recipient ++ codes "> (expanded from <" ++ original ++ codes ">)"

-- whether a text has another one in it
abbrev pub has_text : List ℕ → List ℕ → Bool
has_text part [] = starts_with nat_eq [] part
has_text part (byte ∷ rest) = starts_with nat_eq (byte ∷ rest) part || has_text part rest

-- the reply of the remote system, if the reason doesn't have it already
abbrev pub reply_beside : Option (List ℕ) → Option (List ℕ) → Option (List ℕ)
reply_beside reason None = None
reply_beside None (Some reply) = Some reply
reply_beside (Some reason) (Some reply) = if has_text reply reason then None else Some reply

-- the name of the remote system in front of its reply
abbrev pub speaker : Option (List ℕ) → List ℕ
speaker None = codes "The recipient's mail system"
speaker (Some mta) = mta

-- a reply, word for word, after the remote system's name; on two lines, so that each is short
-- enough for a mail
unfoldable pub reply_lines : Option (List ℕ) → Option (List ℕ) → List (List ℕ)
reply_lines mta None = []
reply_lines mta (Some reply) =
    (codes "    " ++ speaker mta ++ codes " said:") ∷ (codes "      " ++ reply) ∷ []

-- the lines on what happened to a recipient: the mail system's own reason, and by outcome the
-- meaning before it, and after it the remote system's reply and the end of the attempts
unfoldable pub explanation : Wording → Outcome → List (List ℕ)
explanation ByService outcome = line_if_any (codes "    ") outcome.reason
explanation ByOutcome outcome =
    (codes "    " ++ meaning_of outcome.action outcome.status)
    ∷ line_if_any (codes "    ") outcome.reason
    ++ reply_lines outcome.mta (reply_beside outcome.reason outcome.diagnostic)
    ++ line_if_any (codes "    It will be tried again until ")
    (option_map date_text outcome.retry_until)

-- the lines for people of one outcome, by the letter's wording; what happened to the recipient is
-- explained by a wording of its own
unfoldable pub outcome_lines : Wording → Wording → Outcome → List (List ℕ)
outcome_lines wording explained outcome =
    (recipient_told outcome.recipient (origin_told wording outcome) ++ codes ": "
    ++ action_word outcome.action ++ codes " (" ++ outcome.status ++ codes ")")
    ∷ explanation explained outcome

-- what follows for the reader, and whom to ask; only by outcome
unfoldable pub guidance : Wording → List ℕ → List ℕ → List (List ℕ)
guidance ByService host consequence = []
guidance ByOutcome host consequence =
    consequence
    ∷ (codes "For help, write to <postmaster@" ++ host ++ codes "> and include this notice.")
    ∷ []

-- what a template sets: the value of From, the subject, and the text before the recipients, with
-- its charset and whether it is 8bit; each outcome is explained by a wording of its own
pub record Preface : Type 0 where
  pub sender : List ℕ
  pub subject : List ℕ
  pub charset : List ℕ
  pub eight_bit : Bool
  pub text : List (List ℕ)
  pub explained : Wording

-- this project's own text before the recipients
abbrev pub own_text : List ℕ → List ℕ → List ℕ → Wording → List (List ℕ)
own_text host opening consequence wording =
    (codes "This is the mail system at host " ++ host ++ codes ".")
    ∷ []
    ∷ opening
    ∷ guidance wording host consequence

-- this project's own preface
abbrev pub own_preface : List ℕ → Words → Wording → Preface
own_preface host words wording = record {
  sender = codes "Mail Delivery System <MAILER-DAEMON@" ++ host ++ codes ">";
  subject = words.subject;
  charset = codes "us-ascii";
  eight_bit = false;
  text = own_text host words.opening words.consequence wording;
  explained = wording;
}

-- the preface of a template; outcomes are explained by service, since the sentences by outcome are
-- English
abbrev pub preface_from : Template → Preface
preface_from template = record {
  sender = template.sender;
  subject = template.subject;
  charset = template.charset;
  eight_bit = has_eight_bit_text template;
  text = template_lines template;
  explained = ByService;
}

abbrev pub preface_by : List ℕ → Words → Wording → Option Template → Preface
preface_by host words wording None = own_preface host words wording
preface_by host words wording (Some template) = preface_from template

-- the template in place of the words of the same case
abbrev pub template_by : Templates → Wording → Service → Bool → Option Template
template_by templates ByService Bounce arrived = templates.failure
template_by templates ByService Defer arrived = templates.delay
template_by templates ByService Trace arrived = templates.verify
template_by templates ByOutcome Bounce arrived = templates.failure
template_by templates ByOutcome Defer arrived = templates.delay
template_by templates ByOutcome Trace true = templates.success
template_by templates ByOutcome Trace false = templates.verify

-- the template of a letter's notice, if the site has one
unfoldable pub template_of : Templates → Letter → Option Template
template_of templates letter =
    template_by templates letter.draft.wording letter.key.service
    (list_all (λ outcome. has_arrived outcome.action) letter.outcomes)

-- the preface of a letter's notice
unfoldable pub preface_of : Site → Letter → Preface
preface_of site letter =
    preface_by site.host (words_of letter) letter.draft.wording
    (template_of site.templates letter)

-- the lines of others that are in the notice unchanged: those of the template, if there is one, and
-- the returned ones
abbrev pub lines_of_any : Option Template → List (List ℕ)
lines_of_any None = []
lines_of_any (Some template) = template_lines template

abbrev pub foreign_lines : Site → Letter → List (List ℕ)
foreign_lines site letter =
    lines_of_any (template_of site.templates letter) ++ returned_lines letter.draft

-- whether the notice is an 8bit mail: its preface or a returned line has a byte above 127
abbrev pub is_eight_bit : Site → Letter → Bool
is_eight_bit site letter =
    (preface_of site letter).eight_bit || returns_eight_bit letter.draft

-- the header of a notice (RFC 5322 section 3.6, RFC 3834 section 5, RFC 2045 sections 4 and 6, RFC
-- 6522 section 3)
unfoldable pub notice_header : Site → Letter → List ℕ → List (List ℕ)
notice_header site letter boundary =
    (codes "From: " ++ (preface_of site letter).sender)
    ∷ (codes "To: <" ++ return_path_of letter ++ codes ">")
    ∷ (codes "Subject: " ++ (preface_of site letter).subject)
    ∷ (codes "Date: " ++ date_text letter.draft.moment)
    ∷ (codes "Message-ID: <" ++ letter_name letter ++ codes "." ++ decimal letter.serial
    ++ codes "@" ++ site.host ++ codes ">")
    ∷ codes "Auto-Submitted: auto-replied"
    ∷ codes "MIME-Version: 1.0"
    ∷ codes "Content-Type: multipart/report; report-type=delivery-status;"
    ∷ (codes " boundary=\"" ++ boundary ++ codes "\"")
    ∷ encoding_lines (is_eight_bit site letter)

-- the part for people (RFC 6522 section 3, first part), and its media type
unfoldable pub notification : Site → Letter → List (List ℕ)
notification site letter =
    (preface_of site letter).text
    ++ [] ∷ flat_map (outcome_lines letter.draft.wording (preface_of site letter).explained)
    letter.outcomes

abbrev pub notification_type : Site → Letter → List ℕ
notification_type site letter =
    codes "text/plain; charset=" ++ (preface_of site letter).charset

-- the part with the returned lines, if there are any (RFC 6522 sections 3 and 4)
unfoldable pub returned_part : List ℕ → List ℕ → List ℕ → Bool → List (List ℕ) → List (List ℕ)
returned_part boundary description content_type eight_bit [] = []
returned_part boundary description content_type eight_bit (line ∷ rest) =
    part_of boundary description content_type eight_bit (line ∷ rest)

-- the lines of a notice: its header, an empty line, two or three parts, and the last delimiter
unfoldable pub lines_with_boundary : Site → Letter → List ℕ → List (List ℕ)
lines_with_boundary site letter boundary =
    notice_header site letter boundary
    ++ [] ∷ []
    ++ part_of boundary (codes "Notification") (notification_type site letter)
    (preface_of site letter).eight_bit (notification site letter)
    ++ part_of boundary (codes "Delivery report") (codes "message/delivery-status") false
    (delivery_status site.host letter)
    ++ returned_part boundary
    (returned_description (words_of letter) (returns_message letter.draft))
    (returned_type (returns_message letter.draft)) (returns_eight_bit letter.draft)
    (returned_lines letter.draft)
    ++ (codes "--" ++ boundary ++ codes "--") ∷ []

-- the lines of a notice with its own boundary
unfoldable pub notice_lines : Site → Letter → List (List ℕ)
notice_lines site letter = lines_with_boundary site letter (boundary_of letter)

-- the text of a notice
unfoldable pub notice_of : Site → Letter → List ℕ
notice_of site letter = text_of_lines (notice_lines site letter)
