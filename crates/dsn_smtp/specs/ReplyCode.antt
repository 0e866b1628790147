-- The codes of replies.
use Rattle.std.specs.Prelude.{ℕ, Bool, false, ◌&&◌, ◌==◌, List, [], ◌∷◌, IsTrue, if◌then◌else◌}
use Rattle.dsn_text.specs.Text.{is_between, is_digit}
use Rattle.dsn_smtp.specs.declared.reply_class.ReplyClass.{ReplyClass}
use Rattle.dsn_smtp.specs.declared.reply_class.ReplyClass.TheVariants.{Positive, Intermediate, RefusedForNow, RefusedForGood}

-- three digits, the first 2 to 5, the second 0 to 5, the third 0 to 9 (RFC 5321 section 4.2, Reply-code)
abbrev pub is_reply_code : List ℕ → Bool
is_reply_code [] = false
is_reply_code (first ∷ []) = false
is_reply_code (first ∷ second ∷ []) = false
is_reply_code (first ∷ second ∷ third ∷ []) =
    is_between 50 53 first && (is_between 48 53 second && is_digit third)
is_reply_code (first ∷ second ∷ third ∷ more ∷ rest) = false

abbrev pub IsReplyCode : List ℕ → Type 0
IsReplyCode code = IsTrue (is_reply_code code)

-- the class of a code, by its first digit (RFC 5321 section 4.2.1)
abbrev pub class_of : List ℕ → ReplyClass
class_of [] = RefusedForGood
class_of (first ∷ rest) =
    if first == 50 then Positive
    else (if first == 51 then Intermediate
    else (if first == 52 then RefusedForNow else RefusedForGood))
