use Rattle.std.proofs.Common.{◌≡◌, arith, length, map}
use Rattle.dsn_postfix_notices.proofs.DeedLemmas.{empty_list}
use Rattle.dsn_postfix_notices.proofs.RequestLetterLemmas.{all_letters}
use Rattle.dsn_postfix_notices.proofs.requests.request_letters.letters_of.Goals as goal

pub returns-clause-letters : goal.returns-clause-letters
returns-clause-letters c =
    let none : length c.loop-rest.rest.now ≡ 0 = omega (arith, c.in_default.len_below) in
    all_letters _ _ _ _ _ c.loop-rest.rest.now _ c.loop-rest.invariant (empty_list c.loop-rest.rest.now none)
