-- Which queues keep their files in folders within their own folder.
use Rattle.std.specs.List.{list_any}
use Rattle.std.specs.Prelude.{ℕ, List, map, if◌then◌else◌}
use Rattle.std.specs.Str.{str_eq_ignore_ascii_case}
use Rattle.dsn_postfix_queue.specs.declared.queue_folder.folder_hashing.FolderHashing.{FolderHashing}

-- the names of the hashed queues
abbrev pub hashed_queues : FolderHashing → List (List ℕ)
hashed_queues hashing = hashing.queues.now

-- how many folders deep the files of a queue are
abbrev pub depth_of : FolderHashing → List ℕ → ℕ
depth_of hashing queue = if list_any (λ name. str_eq_ignore_ascii_case name queue) (hashed_queues hashing) then hashing.depth else 0
