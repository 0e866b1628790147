-- The queue id in the text of a reply, as Postfix writes it.
use Rattle.std.specs.Prelude.{◌≡◌, ℕ, List, ◌++◌, codes}
use Rattle.dsn_text.specs.Text.{IsQueueId}

-- a text that ends with `queued as ` and a queue id
pub record TellsQueueId (text id : List ℕ) : Type 0 where
  pub front : List ℕ
  pub legal : IsQueueId id
  pub is : text ≡ front ++ (codes "queued as " ++ id)
