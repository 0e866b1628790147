-- Worked examples of the folders of hashed queues. The first two names are those of files that a Postfix made.
use Rattle.std.proofs.Common.{◌≡◌, ℕ, List, [], ◌∷◌, refl}
use Rattle.std.specs.Prelude.{codes}
use Rattle.dsn_postfix_queue.specs.queue_folder.HashedId.{folders_text}
use Rattle.dsn_postfix_queue.specs.queue_folder.PathInQueue.{path_in_queue}

path_of_long_id : path_in_queue (codes "/q") (codes "defer") 1 (codes "4jZlfk4Kjfz1btWg") ≡ codes "/q/defer/9/4jZlfk4Kjfz1btWg"
path_of_long_id = refl

path_of_short_id : path_in_queue (codes "/q") (codes "deferred") 1 (codes "6BB87A7E6A1") ≡ codes "/q/deferred/6/6BB87A7E6A1"
path_of_short_id = refl

path_in_flat_queue : path_in_queue (codes "/q") (codes "active") 0 (codes "6BB87A7E6A1") ≡ codes "/q/active/6BB87A7E6A1"
path_in_flat_queue = refl

path_with_missing_levels : path_in_queue (codes "/q") (codes "defer") 4 (codes "AB") ≡ codes "/q/defer/A/B/_/_/AB"
path_with_missing_levels = refl

-- the greatest number of four digits needs six in hexadecimal
text_of_six_digits : folders_text (codes "4C1hTbzzzzz1") ≡ codes "6F90FF"
text_of_six_digits = refl

-- `a` is not a digit of a long id
text_of_no_number : folders_text (codes "4C1hTbaaaaz1") ≡ codes "00000"
text_of_no_number = refl

-- nine bytes before the `z` are too few
text_of_short_id_with_z : folders_text (codes "4C1hTb12z1") ≡ codes "4C1hTb12z1"
text_of_short_id_with_z = refl
