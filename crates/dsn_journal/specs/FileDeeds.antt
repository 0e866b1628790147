-- What is done to a file and to the names of its folder: each call, and whether it failed.
use Rattle.std.specs.Prelude.{◌≡◌, ◌⊎◌, ◌++◌, ℕ, List, [], ◌∷◌, length, Option, Some, None, Result, Ok, Err}

-- The calls are about one file, which is the one opened or made last. `Opened`: the file of this name was opened, to
-- be read and written. `Made`: a file was made under a name that no file had, with this mode. `Locked`: the file was
-- locked for this process alone. `NameChecked`: the name is still the file's. `Measured`: the file has this length.
-- `BytesRead`: these are its bytes, from the first on. `BytesWritten`: these bytes were written from this offset on.
-- `Synced`: its bytes and its attributes were synced. `DataSynced`: its bytes were. `Renamed`: the file of the first
-- name got the second, in place of the file that had it. `Linked`: the file of the first name got the second too, which
-- no file had. `Removed`: no file has this name now. `FolderSynced`: the folder of this name was synced.
pub data FileCall : Type 0 where
  Opened : List ℕ → FileCall
  Made : List ℕ → ℕ → FileCall
  Locked : FileCall
  NameChecked : List ℕ → FileCall
  Measured : ℕ → FileCall
  BytesRead : List ℕ → FileCall
  BytesWritten : ℕ → List ℕ → FileCall
  Synced : FileCall
  DataSynced : FileCall
  Renamed : List ℕ → List ℕ → FileCall
  Linked : List ℕ → List ℕ → FileCall
  Removed : List ℕ → FileCall
  FolderSynced : List ℕ → FileCall

-- a call that was made, or one that failed; of a failed one its effect may be there in part
pub data FileDeed : Type 0 where
  Did : FileCall → FileDeed
  Failed : FileCall → FileDeed

abbrev pub answered : {T E : Type 0} → Result T E → FileCall → FileDeed
answered (Ok value) call = Did call
answered (Err error) call = Failed call

-- the deed of a call that returns the file's length
abbrev pub measured : {E : Type 0} → Result ℕ E → FileDeed
measured (Ok size) = Did (Measured size)
measured (Err error) = Failed (Measured 0)

-- the deeds and one more, if they are exposed
abbrev pub with_deed : Option (List FileDeed) → FileDeed → Option (List FileDeed)
with_deed None deed = None
with_deed (Some deeds) deed = Some (deeds ++ deed ∷ [])

-- the deeds once all these calls were made, in this order, and none failed
abbrev pub after_calls : Option (List FileDeed) → List FileCall → Option (List FileDeed)
after_calls before [] = before
after_calls before (call ∷ calls) = after_calls (with_deed before (Did call)) calls

-- the calls were made in this order up to the first that failed, and none after it
abbrev pub StopsIn : List FileCall → Option (List FileDeed) → Option (List FileDeed) → Type 0
StopsIn [] before now = ⊥
StopsIn (call ∷ calls) before now = (now ≡ with_deed before (Failed call)) ⊎ StopsIn calls (with_deed before (Did call)) now

-- exactly these calls were made, in this order: all of them if the result is `Ok`, otherwise those up to the first that
-- failed
abbrev pub Tries : {T E : Type 0} → Result T E → List FileCall → Option (List FileDeed) → Option (List FileDeed) → Type 0
Tries (Ok value) calls before now = now ≡ after_calls before calls
Tries (Err error) calls before now = StopsIn calls before now

-- the same, unless memory is refused before the first call
abbrev pub TriesWithMemory : {T E : Type 0} → Result T E → List FileCall → Option (List FileDeed) → Option (List FileDeed) → Type 0
TriesWithMemory (Ok value) calls before now = now ≡ after_calls before calls
TriesWithMemory (Err error) calls before now = (now ≡ before) ⊎ StopsIn calls before now

-- the mode of each file that is made: its owner alone may read and write it
abbrev pub owner_alone : ℕ
owner_alone = 384

-- how a file with these bytes is made, under a name that is removed before
abbrev pub making : List ℕ → List ℕ → List FileCall
making name bytes = Removed name ∷ Made name owner_alone ∷ Locked ∷ BytesWritten 0 bytes ∷ Synced ∷ []

-- how the file at a path is replaced by one with these bytes, which is made under a name beside it
abbrev pub putting_in_place : List ℕ → List ℕ → List ℕ → List FileCall
putting_in_place beside path bytes = making beside bytes ++ Renamed beside path ∷ FolderSynced path ∷ []

-- how a file with these bytes is made at a path that no file has, and first under a name beside it
abbrev pub putting_new : List ℕ → List ℕ → List ℕ → List FileCall
putting_new beside path bytes = making beside bytes ++ Linked beside path ∷ Removed beside ∷ FolderSynced path ∷ []

-- how a file is opened for one process, and all that it has made durable
abbrev pub settling : List ℕ → List FileCall
settling path = Opened path ∷ Locked ∷ NameChecked path ∷ FolderSynced path ∷ DataSynced ∷ []

-- how a file's bytes are read
abbrev pub reading : List ℕ → List FileCall
reading bytes = Measured (length bytes) ∷ BytesRead bytes ∷ []

-- how a file with these bytes is opened
abbrev pub opening : List ℕ → List ℕ → List FileCall
opening path bytes = settling path ++ reading bytes
