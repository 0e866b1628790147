-- What the entries of a queue's folder show about the depth to which the queue is hashed. Postfix makes a hashed
-- queue's folders when a file needs them. After a change of the settings, `postfix start` and `postfix reload` move
-- files, and remove folders that are too deep.
use Rattle.std.specs.Prelude.{◌≡◌, ◌⊎◌, ℕ, suc, ◌<◌, ◌≤◌, List, [], ◌∷◌, codes, length, IsTrue}
use Rattle.dsn_text.specs.Text.{IsQueueId, is_letter_or_digit}

-- a queue id has five digits of microseconds or more, and one of an inode
abbrev pub IsFileName : List ℕ → Type 0
IsFileName name = IsQueueId name × (6 ≤ length name)

-- one byte of a queue id, or `_` for a missing one
abbrev pub IsFolderName : List ℕ → Type 0
IsFolderName [] = ⊥
IsFolderName (byte ∷ []) = IsTrue (is_letter_or_digit byte) ⊎ (byte ≡ 95)
IsFolderName (byte ∷ other ∷ more) = ⊥

-- An entry of this name, `above` folders below its queue's, shows that the queue is hashed to this depth, and not to
-- the wanted one. It is a file, or a folder for files that are deeper. Nobody tidies the folders of `trace`.
pub data IsAgainst (wanted : ℕ) (queue : List ℕ) (above : ℕ) (name : List ℕ) (depth : ℕ) : Type 0 where
  file : IsFileName name → depth ≡ above → (above ≡ wanted → ⊥) → IsAgainst wanted queue above name depth
  folder : IsFolderName name → (queue ≡ codes "trace" → ⊥) → depth ≡ suc above → wanted < depth
      → IsAgainst wanted queue above name depth
