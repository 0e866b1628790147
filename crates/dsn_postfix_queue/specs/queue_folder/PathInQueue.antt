-- The path of a message's file in a queue.
use Rattle.std.specs.Prelude.{ℕ, List, [], ◌∷◌, ◌++◌, zero, suc}
use Rattle.dsn_postfix_queue.specs.queue_folder.HashedId.{folder_level}

-- the folders of a file at this depth, each with its slash
abbrev pub folder_levels : List ℕ → ℕ → List ℕ
folder_levels id zero = []
folder_levels id (suc depth) = folder_levels id depth ++ (folder_level id depth ∷ 47 ∷ [])

-- below the root, in the queue's folder, in the folders of a hashed queue
abbrev pub path_in_queue : List ℕ → List ℕ → ℕ → List ℕ → List ℕ
path_in_queue root queue depth id = root ++ (47 ∷ queue ++ (47 ∷ folder_levels id depth ++ id))
