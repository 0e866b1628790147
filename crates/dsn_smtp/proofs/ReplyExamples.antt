-- Worked examples of replies, and of what is no reply.
use Rattle.std.proofs.Common.{◌≡◌, ℕ, List, [], ◌∷◌, ◌++◌, Some, None, false, refl}
use Rattle.std.specs.Prelude.{codes}
use Rattle.dsn_smtp.specs.Reply.{IsServerReply, last_text_of}
use Rattle.dsn_smtp.specs.ReplyCode.{class_of, is_reply_code}
use Rattle.dsn_smtp.specs.inner.ReplyState.{scan}
use Rattle.dsn_smtp.specs.declared.reply_class.ReplyClass.TheVariants.{Positive, Intermediate, RefusedForNow, RefusedForGood}
use Rattle.dsn_smtp.specs.declared.reply_state.ReplyState.TheVariants.{Front}
use Rattle.dsn_smtp.specs.declared.reply_state.ReplyScan.TheVariants.{Open, Whole, Behind, Wrong}

-- RFC 5321 section 4.2.1: a reply of one line and one of three
abbrev line : List ℕ → List ℕ
line text = text ++ 13 ∷ 10 ∷ []

greeting : IsServerReply (codes "220") (line (codes "220 mx.example.org ESMTP"))
greeting = record { earlier = []; last = Some (codes "mx.example.org ESMTP"); legal = refl; texts = tt; last_text = refl; is = refl }

extensions : IsServerReply (codes "250") (line (codes "250-mx.example.org") ++ line (codes "250-PIPELINING") ++ line (codes "250 8BITMIME"))
extensions = record {
  earlier = codes "mx.example.org" ∷ codes "PIPELINING" ∷ [];
  last = Some (codes "8BITMIME");
  legal = refl;
  texts = (refl, (refl, tt));
  last_text = refl;
  is = refl;
}

-- nothing after the code
bare : IsServerReply (codes "354") (line (codes "354"))
bare = record { earlier = []; last = None; legal = refl; texts = tt; last_text = tt; is = refl }

queued : last_text_of (line (codes "250-2.0.0 first") ++ line (codes "250 2.0.0 Ok: queued as 4F9D195432C")) ≡ codes "2.0.0 Ok: queued as 4F9D195432C"
queued = refl

no_text : last_text_of (line (codes "250-2.0.0 first") ++ line (codes "250")) ≡ []
no_text = refl

is_read : scan Front (line (codes "250 Ok")) ≡ Whole (codes "250")
is_read = refl

is_cut : scan Front (codes "250 Ok" ++ 13 ∷ []) ≡ Open
is_cut = refl

two_at_once : scan Front (line (codes "250 Ok") ++ line (codes "250 Ok")) ≡ Behind
two_at_once = refl

another_code : scan Front (line (codes "250-Ok") ++ codes "251") ≡ Wrong
another_code = refl

no_code : is_reply_code (codes "650") ≡ false
no_code = refl

accepted : class_of (codes "250") ≡ Positive
accepted = refl

go_on : class_of (codes "354") ≡ Intermediate
go_on = refl

for_now : class_of (codes "451") ≡ RefusedForNow
for_now = refl

for_good : class_of (codes "550") ≡ RefusedForGood
for_good = refl
