-- Replies of a mail server (RFC 5321 section 4.2): which bytes are a reply, and the text of its last line.
use Rattle.std.specs.Prelude.{◌≡◌, ℕ, ◌-◌, ◌<◌, Bool, ◌&&◌, ◌==◌, not, List, [], ◌∷◌, ◌++◌, length, take, drop, codes, Option, Some, None, IsTrue}
use Rattle.std.specs.List.{list_all, after_last}
use Rattle.dsn_smtp.specs.ReplyCode.{IsReplyCode}

-- the longest reply that is read, in bytes (this project's profile)
abbrev pub longest_server_reply : ℕ
longest_server_reply = 8192

-- a byte of a reply's text: any byte except CR and LF (RFC 5321 section 4.2, textstring; servers write UTF-8 too)
abbrev pub is_text_byte : ℕ → Bool
is_text_byte byte = not (byte == 13) && not (byte == 10)

abbrev pub IsReplyText : List ℕ → Type 0
IsReplyText text = IsTrue (list_all is_text_byte text)

abbrev pub AreReplyTexts : List (List ℕ) → Type 0
AreReplyTexts [] = Unit {0}
AreReplyTexts (text ∷ texts) = IsReplyText text × AreReplyTexts texts

abbrev pub IsLastText : Option (List ℕ) → Type 0
IsLastText None = Unit {0}
IsLastText (Some text) = IsReplyText text

-- A reply after the code of its first line. Each earlier line has a hyphen, a text and CRLF, and the code of the next
-- line follows. The last line has nothing, or a space and a text, and CRLF (RFC 5321 section 4.2.1, multiline replies).
abbrev pub after_code : List ℕ → List (List ℕ) → Option (List ℕ) → List ℕ
after_code code [] None = codes "\r\n"
after_code code [] (Some text) = codes " " ++ (text ++ codes "\r\n")
after_code code (text ∷ texts) last =
    codes "-" ++ (text ++ (codes "\r\n" ++ (code ++ after_code code texts last)))

-- bytes that are exactly one reply with this code: each line begins with the code
pub record IsServerReply (code bytes : List ℕ) : Type 0 where
  pub earlier : List (List ℕ)
  pub last : Option (List ℕ)
  pub legal : IsReplyCode code
  pub texts : AreReplyTexts earlier
  pub last_text : IsLastText last
  pub is : bytes ≡ code ++ after_code code earlier last

-- bytes that some further bytes complete to a reply
pub record IsFrontOfReply (bytes : List ℕ) : Type 0 where
  pub rest : List ℕ
  pub code : List ℕ
  pub whole : IsServerReply code (bytes ++ rest)

-- bytes that no further bytes complete to a reply
abbrev pub IsNoFrontOfReply : List ℕ → Type 0
IsNoFrontOfReply bytes = (rest code : List ℕ) → IsServerReply code (bytes ++ rest) → ⊥

-- bytes of which no prefix is a reply
abbrev pub HasNoReply : List ℕ → Type 0
HasNoReply bytes = (front rest code : List ℕ) → bytes ≡ front ++ rest → IsServerReply code front → ⊥

-- bytes that begin with a reply, and further bytes follow it
pub record HasFurtherBytes (bytes : List ℕ) : Type 0 where
  pub front : List ℕ
  pub rest : List ℕ
  pub code : List ℕ
  pub split : bytes ≡ front ++ rest
  pub some : 0 < length rest
  pub whole : IsServerReply code front

-- the text of a reply's last line: the bytes after the last LF before its final one, without the code, the byte after
-- it and CRLF
abbrev pub last_text_of : List ℕ → List ℕ
last_text_of bytes = drop 4 (after_last (λ byte. byte == 10) (take (length bytes - 2) bytes))
