-- The writer of an outbox under a watch: the writer inside, to which it passes on all that it takes.

pub record WatchedOutbox (W : Type 0) : Type 0 where
  pub inner : W
