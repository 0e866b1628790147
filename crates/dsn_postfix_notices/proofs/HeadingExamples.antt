-- Worked examples of the fields in front of a notice, each computed.
use Rattle.std.proofs.Common.{◌≡◌, ℕ, Bool, true, false, List, [], ◌∷◌, ◌++◌, codes, refl, Some, None}
use Rattle.dsn_text.specs.declared.service.Service.TheVariants.{Bounce}
use Rattle.dsn_postfix.specs.declared.postfix_request.NoticeRequest.{NoticeRequest}
use Rattle.dsn_postfix.specs.declared.postfix_request.PostfixRequest.TheVariants.{Flush}
use Rattle.dsn_postfix_files.specs.QueueRecord.{PlacedBytes}
use Rattle.dsn_postfix_notices.specs.requests.Heading.{front_lines}
use Rattle.dsn_postfix_notices.specs.requests.Task.{Task}
use Rattle.dsn_postfix_notices.specs.requests.ThreadId.{thread_id}
use Rattle.dsn_report.specs.Site.{plain_site}

abbrev asked : ℕ → NoticeRequest
asked options = record {
  flags = 0;
  queue_name = codes "active";
  queue_id = codes "6BB87A7E6A1";
  encoding = [];
  names_sendopts = true;
  send_options = options;
  sender = codes "ann@example.com";
  envelope_id = [];
  returns = 0;
}

abbrev task_with : Bool → ℕ → Task
task_with threaded options = record {
  terms = record {
    settings = record {
      site = plain_site (codes "mx.example.net");
      double_bounce = codes "double-bounce@mx.example.net";
      lifetime = 432000;
      size_limit = 50000;
      copies = record { bounce = false; double_bounce = false; delay = false };
      threaded = threaded;
    };
    service = Bounce;
    moment = 0;
    serial = 0;
  };
  request = Flush (asked options);
  notice = asked options;
}

abbrev at : ℕ → List ℕ → PlacedBytes
at kind bytes = record { place = 0; kind = kind; bytes = bytes }

-- a file whose header has this line
abbrev with_line : List ℕ → List PlacedBytes
with_line line = at 77 [] ∷ at 78 (codes "Subject: hello") ∷ at 78 line ∷ at 78 [] ∷ []

abbrev one : List PlacedBytes
one = with_line (codes "Message-ID: <one@example.com>")

-- nothing is in front, unless it is asked for
plain : front_lines (task_with false 0) one ≡ []
plain = refl

-- `TLS-Required: no`, also of a message with UTF-8 in its header
tls_optional : front_lines (task_with false 18) one ≡ codes "TLS-Required: no" ∷ []
tls_optional = refl

-- the fields are in the order of bounce(8)
thread : front_lines (task_with true 16) one ≡ codes "References: <one@example.com>" ∷ codes "In-Reply-To: <one@example.com>" ∷ codes "TLS-Required: no" ∷ []
thread = refl

-- what cleanup(8) noted counts more than the header
noted : thread_id true (one ++ at 65 (codes "message_id=<noted@example.com>") ∷ []) ≡ Some (codes "<noted@example.com>")
noted = refl

-- no brackets, a byte outside of ASCII, nothing in the brackets, and no id
bare : thread_id true (with_line (codes "Message-ID: one@example.com")) ≡ None
bare = refl

other_byte : thread_id true (with_line (codes "Message-ID: <" ++ 246 ∷ codes "ne@example.com>")) ≡ None
other_byte = refl

empty : thread_id true (with_line (codes "Message-ID: <>")) ≡ None
empty = refl

no_id : thread_id true (with_line (codes "To: bob@example.org")) ≡ None
no_id = refl
