-- The fields of a request's body in their order, before they are checked (this project's profile,
-- versions 1 to 3).
use Rattle.std.specs.Prelude.{◌≡◌, ℕ, ◌<◌, ◌^◌, List, [], ◌∷◌, ◌++◌, length, take, drop, Option, Some, None, Bool, true, false, ◌&&◌, nat_lt, nat_le, ◌==◌, if◌then◌else◌}
use Rattle.std.specs.Int.{Width, w16, w32, w64, byte_len, to_be_bytes, from_be_bytes}

-- the head of a body: its version and, after its kind, its number on the connection, the byte of
-- its service, and the queue id of its message
pub record Head : Type 0 where
  pub version : ℕ
  pub number : ℕ
  pub service : ℕ
  pub id : List ℕ

-- the recipient's fields of an append in each version; an empty text means that the text is absent
pub record RecipientFields : Type 0 where
  pub recipient : List ℕ
  pub original : List ℕ
  pub action : ℕ
  pub status : List ℕ
  pub mta : List ℕ
  pub diagnostic : List ℕ
  pub reason : List ℕ

-- The moments of an append of version 2 or 3, in seconds since 1970: the last attempt at delivery,
-- and the end of further attempts. All ones mean that a moment is absent.
pub record RetryFields : Type 0 where
  pub last_attempt : ℕ
  pub retry_until : ℕ

-- the further fields of a version 3 append: the types of its recipients and its diagnostic, with an
-- empty text for the usual type, and its extension fields
pub record TypeFields : Type 0 where
  pub recipient : List ℕ
  pub original : List ℕ
  pub diagnostic : List ℕ
  pub extensions : List ℕ

-- The fields of a flush: moment and arrival in seconds since 1970, the return path, the envelope id
-- and the returned header. An empty text means that the text is absent.
pub record FlushFields : Type 0 where
  pub moment : ℕ
  pub arrival : ℕ
  pub return_path : List ℕ
  pub envelope_id : List ℕ
  pub header : List ℕ

-- The further terms of a version 3 flush: the expected number of outcomes, what its header field
-- holds, how its notice is worded, and its message's extension fields. An expected number of all
-- ones means any number.
pub record WishFields : Type 0 where
  pub expected : ℕ
  pub returned : ℕ
  pub wording : ℕ
  pub extensions : List ℕ

-- A body's fields after its head. An append has its recipient's fields; from version 2 on its two
-- moments; in version 3 its types and extension fields. A flush has its own fields, and in version
-- 3 its further terms. A discard and a Forget have no further field.
pub data WireBody : Type 0 where
  AppendFields : Head → RecipientFields → WireBody
  DatedAppendFields : Head → RecipientFields → RetryFields → WireBody
  TypedAppendFields : Head → RecipientFields → RetryFields → TypeFields → WireBody
  FlushFieldsOf : Head → FlushFields → WireBody
  CountedFlushFields : Head → FlushFields → WishFields → WireBody
  DiscardFields : Head → WireBody
  ForgetFields : Head → WireBody

abbrev pub head_of : WireBody → Head
head_of (AppendFields head fields) = head
head_of (DatedAppendFields head fields dates) = head
head_of (TypedAppendFields head fields dates types) = head
head_of (FlushFieldsOf head fields) = head
head_of (CountedFlushFields head fields wishes) = head
head_of (DiscardFields head) = head
head_of (ForgetFields head) = head

-- ---- how fields are written

-- a number of a fixed width, highest byte first
unfoldable pub number_bytes : Width → ℕ → List ℕ
number_bytes w number = to_be_bytes w number

-- a text: its length in two bytes, and its bytes
unfoldable pub text_bytes : List ℕ → List ℕ
text_bytes text = number_bytes w16 (length text) ++ text

unfoldable pub head_bytes : Head → List ℕ
head_bytes head = number_bytes w32 head.number ++ (head.service ∷ text_bytes head.id)

unfoldable pub append_bytes : RecipientFields → List ℕ
append_bytes fields =
    text_bytes fields.original
    ++ (text_bytes fields.recipient ++ (fields.action ∷ (text_bytes fields.status
    ++ (text_bytes fields.mta ++ (text_bytes fields.diagnostic ++ text_bytes fields.reason)))))

unfoldable pub retry_bytes : RetryFields → List ℕ
retry_bytes dates = number_bytes w64 dates.last_attempt ++ number_bytes w64 dates.retry_until

unfoldable pub type_bytes : TypeFields → List ℕ
type_bytes types =
    text_bytes types.recipient ++ (text_bytes types.original
    ++ (text_bytes types.diagnostic ++ text_bytes types.extensions))

unfoldable pub flush_bytes : FlushFields → List ℕ
flush_bytes fields =
    number_bytes w64 fields.moment ++ (number_bytes w64 fields.arrival
    ++ (text_bytes fields.return_path
    ++ (text_bytes fields.envelope_id ++ text_bytes fields.header)))

unfoldable pub wish_bytes : WishFields → List ℕ
wish_bytes wishes =
    number_bytes w32 wishes.expected
    ++ (wishes.returned ∷ wishes.wording ∷ text_bytes wishes.extensions)

-- a flush's fields, and its further terms
unfoldable pub counted_flush_bytes : FlushFields → WishFields → List ℕ
counted_flush_bytes fields wishes = flush_bytes fields ++ wish_bytes wishes

-- the byte of a body's kind
abbrev pub kind_of : WireBody → ℕ
kind_of (AppendFields head fields) = 1
kind_of (DatedAppendFields head fields dates) = 1
kind_of (TypedAppendFields head fields dates types) = 1
kind_of (FlushFieldsOf head fields) = 2
kind_of (CountedFlushFields head fields wishes) = 2
kind_of (DiscardFields head) = 3
kind_of (ForgetFields head) = 4

-- the versions of a body
abbrev pub is_version : ℕ → Bool
is_version version = nat_le 1 version && nat_le version 3

-- The kinds of a version: a Forget needs version 2 or 3. Discards of versions 2 and 3 are laid out
-- as in version 1, and so are flushes of version 2.
abbrev pub is_kind : ℕ → ℕ → Bool
is_kind version kind =
    if version == 1 then nat_le 1 kind && nat_le kind 3 else nat_le 1 kind && nat_le kind 4

-- a body's version is valid, and its kind is one of that version
abbrev pub is_known : WireBody → Bool
is_known wire = is_version (head_of wire).version && is_kind (head_of wire).version (kind_of wire)

-- the fields after the head
unfoldable pub own_bytes : WireBody → List ℕ
own_bytes (AppendFields head fields) = append_bytes fields
own_bytes (DatedAppendFields head fields dates) = append_bytes fields ++ retry_bytes dates
own_bytes (TypedAppendFields head fields dates types) =
    append_bytes fields ++ (retry_bytes dates ++ type_bytes types)
own_bytes (FlushFieldsOf head fields) = flush_bytes fields
own_bytes (CountedFlushFields head fields wishes) = counted_flush_bytes fields wishes
own_bytes (DiscardFields head) = []
own_bytes (ForgetFields head) = []

-- a body: its version, its kind, and its fields
unfoldable pub body_bytes : WireBody → List ℕ
body_bytes wire =
    (head_of wire).version ∷ kind_of wire ∷ (head_bytes (head_of wire) ++ own_bytes wire)

-- ---- which fields can be written

-- a text's length fits two bytes
abbrev pub FitsText : List ℕ → Type 0
FitsText text = length text < 2 ^ 16

pub record FitsHead (head : Head) : Type 0 where
  pub number : head.number < 2 ^ 32
  pub id : FitsText head.id

pub record FitsAppend (fields : RecipientFields) : Type 0 where
  pub original : FitsText fields.original
  pub recipient : FitsText fields.recipient
  pub status : FitsText fields.status
  pub mta : FitsText fields.mta
  pub diagnostic : FitsText fields.diagnostic
  pub reason : FitsText fields.reason

pub record FitsRetry (dates : RetryFields) : Type 0 where
  pub last_attempt : dates.last_attempt < 2 ^ 64
  pub retry_until : dates.retry_until < 2 ^ 64

pub record FitsTypes (types : TypeFields) : Type 0 where
  pub recipient : FitsText types.recipient
  pub original : FitsText types.original
  pub diagnostic : FitsText types.diagnostic
  pub extensions : FitsText types.extensions

pub record FitsFlush (fields : FlushFields) : Type 0 where
  pub moment : fields.moment < 2 ^ 64
  pub arrival : fields.arrival < 2 ^ 64
  pub return_path : FitsText fields.return_path
  pub envelope_id : FitsText fields.envelope_id
  pub header : FitsText fields.header

pub record FitsWishes (wishes : WishFields) : Type 0 where
  pub expected : wishes.expected < 2 ^ 32
  pub extensions : FitsText wishes.extensions

unfoldable pub FitsOwn : WireBody → Type 0
FitsOwn (AppendFields head fields) = ((head.version == 1) ≡ true) × FitsAppend fields
FitsOwn (DatedAppendFields head fields dates) =
    ((head.version == 1) ≡ false)
    × (((head.version == 3) ≡ false) × (FitsAppend fields × FitsRetry dates))
FitsOwn (TypedAppendFields head fields dates types) =
    ((head.version == 1) ≡ false)
    × (((head.version == 3) ≡ true)
    × (FitsAppend fields × (FitsRetry dates × FitsTypes types)))
FitsOwn (FlushFieldsOf head fields) = ((head.version == 3) ≡ false) × FitsFlush fields
FitsOwn (CountedFlushFields head fields wishes) =
    ((head.version == 3) ≡ true) × (FitsFlush fields × FitsWishes wishes)
FitsOwn (DiscardFields head) = Unit {0}
FitsOwn (ForgetFields head) = Unit {0}

abbrev pub Fits : WireBody → Type 0
Fits wire = FitsHead (head_of wire) × FitsOwn wire

-- ---- how fields are read

-- the next field, unless the bytes ended within the one before
infixl 10 ◌>>=◌
abbrev pub ◌>>=◌ : {A B : Type 0} → Option A → (A → Option B) → Option B
None >>= next = None
(Some read) >>= next = next read

-- a field at the front of some bytes, with the bytes after it
abbrev pub byte_at : List ℕ → Option (ℕ × List ℕ)
byte_at [] = None
byte_at (byte ∷ rest) = Some (byte, rest)

unfoldable pub number_at : Width → List ℕ → Option (ℕ × List ℕ)
number_at w bytes =
    if nat_lt (length bytes) (byte_len w) then None
    else Some (from_be_bytes w (take (byte_len w) bytes), drop (byte_len w) bytes)

unfoldable pub text_at : List ℕ → Option (List ℕ × List ℕ)
text_at bytes = do
  size ← number_at w16 bytes
  if nat_lt (length size.1) size.0 then None else Some (take size.0 size.1, drop size.0 size.1)

unfoldable pub head_at : ℕ → List ℕ → Option (Head × List ℕ)
head_at version bytes = do
  number ← number_at w32 bytes
  service ← byte_at number.1
  id ← text_at service.1
  Some (record { version = version; number = number.0; service = service.0; id = id.0 }, id.1)

unfoldable pub append_at : List ℕ → Option (RecipientFields × List ℕ)
append_at bytes = do
  original ← text_at bytes
  recipient ← text_at original.1
  action ← byte_at recipient.1
  status ← text_at action.1
  mta ← text_at status.1
  diagnostic ← text_at mta.1
  reason ← text_at diagnostic.1
  Some (
    record {
      recipient = recipient.0;
      original = original.0;
      action = action.0;
      status = status.0;
      mta = mta.0;
      diagnostic = diagnostic.0;
      reason = reason.0;
    },
    reason.1,
  )

unfoldable pub retry_at : List ℕ → Option (RetryFields × List ℕ)
retry_at bytes = do
  last_attempt ← number_at w64 bytes
  retry_until ← number_at w64 last_attempt.1
  Some (record { last_attempt = last_attempt.0; retry_until = retry_until.0 }, retry_until.1)

unfoldable pub types_at : List ℕ → Option (TypeFields × List ℕ)
types_at bytes = do
  recipient ← text_at bytes
  original ← text_at recipient.1
  diagnostic ← text_at original.1
  extensions ← text_at diagnostic.1
  Some (
    record {
      recipient = recipient.0;
      original = original.0;
      diagnostic = diagnostic.0;
      extensions = extensions.0;
    },
    extensions.1,
  )

-- an append with this head: from version 2 on its two moments follow, and in version 3 its types
-- and extension fields
unfoldable pub append_body_at : Head → List ℕ → Option (WireBody × List ℕ)
append_body_at head bytes =
    if head.version == 1
    then (append_at bytes >>= λ fields. Some (AppendFields head fields.0, fields.1))
    else (if head.version == 3
    then (append_at bytes >>= λ fields. retry_at fields.1 >>= λ dates. types_at dates.1
    >>= λ types. Some (TypedAppendFields head fields.0 dates.0 types.0, types.1))
    else (append_at bytes >>= λ fields. retry_at fields.1 >>= λ dates. Some
    (DatedAppendFields head fields.0 dates.0, dates.1)))

unfoldable pub flush_at : List ℕ → Option (FlushFields × List ℕ)
flush_at bytes = do
  moment ← number_at w64 bytes
  arrival ← number_at w64 moment.1
  return_path ← text_at arrival.1
  envelope_id ← text_at return_path.1
  header ← text_at envelope_id.1
  Some (
    record {
      moment = moment.0;
      arrival = arrival.0;
      return_path = return_path.0;
      envelope_id = envelope_id.0;
      header = header.0;
    },
    header.1,
  )

unfoldable pub wishes_at : List ℕ → Option (WishFields × List ℕ)
wishes_at bytes = do
  expected ← number_at w32 bytes
  returned ← byte_at expected.1
  wording ← byte_at returned.1
  extensions ← text_at wording.1
  Some (
    record {
      expected = expected.0;
      returned = returned.0;
      wording = wording.0;
      extensions = extensions.0;
    },
    extensions.1,
  )

-- a flush with this head: in version 3 its further terms follow
unfoldable pub flush_body_at : Head → List ℕ → Option (WireBody × List ℕ)
flush_body_at head bytes =
    if head.version == 3
    then (flush_at bytes >>= λ fields. wishes_at fields.1 >>= λ wishes. Some
    (CountedFlushFields head fields.0 wishes.0, wishes.1))
    else (flush_at bytes >>= λ fields. Some (FlushFieldsOf head fields.0, fields.1))

-- the body of this kind with this head
unfoldable pub own_at : ℕ → Head → List ℕ → Option (WireBody × List ℕ)
own_at kind head bytes =
    if kind == 1 then append_body_at head bytes
    else (if kind == 2 then flush_body_at head bytes
    else (if kind == 3 then Some (DiscardFields head, bytes)
    else (if kind == 4 then Some (ForgetFields head, bytes) else None)))

unfoldable pub body_at : List ℕ → Option (WireBody × List ℕ)
body_at bytes = do
  version ← byte_at bytes
  kind ← byte_at version.1
  head ← head_at version.0 kind.1
  own_at kind.0 head.0 head.1
