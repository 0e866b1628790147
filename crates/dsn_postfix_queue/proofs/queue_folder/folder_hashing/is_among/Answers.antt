use Rattle.std.proofs.Common.{rules, tests}
use Rattle.std.specs.Str.{str_eq_ignore_ascii_case}
use Rattle.std.proofs.lemmas.Iterator.{YieldsList-from_slice}
use Rattle.std.proofs.lemmas.Iterator.Search.{any_from_yields_List}
use Rattle.dsn_postfix_queue.proofs.queue_folder.folder_hashing.is_among.Goals as goal

pub returns : goal.returns
returns c =
    any_from_yields_List (λ name. str_eq_ignore_ascii_case name c.args.queue.now) _ _ c.any.result c.any.ensures.ran
    (YieldsList-from_slice c.args.queues.now cc) (λ x b q k. search (rules, tests))
