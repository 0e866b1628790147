-- Worked examples of a return path that contains its recipient, each computed.
use Rattle.std.proofs.Common.{◌≡◌, ℕ, List, [], ◌∷◌, codes, refl, Option, Some, None}
use Rattle.dsn_text.specs.declared.service.Service.TheVariants.{Bounce}
use Rattle.dsn_postfix_files.specs.LogRecord.{LoggedFields}
use Rattle.dsn_postfix.specs.PlannedNotice.{NoticeFacts}
use Rattle.dsn_postfix.specs.VerpPath.{notice_address, verp_path}
use Rattle.dsn_postfix.specs.declared.returned_part.ReturnedPart.TheVariants.{Whole}

-- as bounce(8) of Postfix 3.7.11 addressed its notices
plain : verp_path (codes "list-owner@lists.example.com") (codes "+=") (codes "no.bob@example.org") ≡ codes "list-owner+no.bob=example.org@lists.example.com"
plain = refl

other_bytes : verp_path (codes "list@example.com") (codes "-=") (codes "no+tag@example.org") ≡ codes "list-no+tag=example.org@example.com"
other_bytes = refl

quoted : verp_path (codes "list@example.com") (codes "-=") (codes "\"no.a bob\"@example.org") ≡ codes "list-\"no.a bob\"=example.org@example.com"
quoted = refl

-- addresses without a domain, and one with a second `@`
without_domains : verp_path (codes "list") (codes "+=") (codes "bob") ≡ codes "list+bob"
without_domains = refl

last_at : verp_path (codes "list@example.com") (codes "+=") (codes "a@b@example.org") ≡ codes "list+a@b=example.org@example.com"
last_at = refl

domain_lacks : verp_path (codes "list@") (codes "+=") (codes "bob@") ≡ codes "list+bob"
domain_lacks = refl

-- the recipient before it was rewritten; without delimiters the sender
abbrev told : List ℕ → LoggedFields
told original = record {
  recipient = codes "no.behind@example.org";
  original_recipient = original;
  offset = 7;
  dsn_original = [];
  notify_flags = 0;
  status = codes "5.1.1";
  action = codes "failed";
  diagnostic_type = [];
  diagnostic_text = [];
  mta_type = [];
  mta_name = [];
  reason = codes "no";
}

abbrev notice : Option (List ℕ) → List ℕ → NoticeFacts
notice delimiters original = record { to = codes "list@example.com"; delimiters = delimiters; service = Bounce; returned = Whole; outcomes = told original ∷ [] }

of_an_alias : notice_address (notice (Some (codes "+=")) (codes "alias@example.org")) ≡ codes "list+alias=example.org@example.com"
of_an_alias = refl

of_none : notice_address (notice (Some (codes "+=")) []) ≡ codes "list+no.behind=example.org@example.com"
of_none = refl

to_the_sender : notice_address (notice None (codes "alias@example.org")) ≡ codes "list@example.com"
to_the_sender = refl
