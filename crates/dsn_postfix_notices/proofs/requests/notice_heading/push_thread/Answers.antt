use Rattle.std.proofs.Common.{◌++◌, ◌∙◌, ◌∷◌, [], List, ℕ, ap, codes}
use Rattle.dsn_report.specs.Lines.{text_of_lines}
use Rattle.dsn_postfix_notices.proofs.HeadingLemmas.{thread_pushed}
use Rattle.dsn_postfix_notices.proofs.RequestLetterLemmas.{ok_as}
use Rattle.dsn_postfix_notices.proofs.requests.notice_heading.push_thread.Goals as goal

pub returns : goal.returns
returns c = ok_as c.push_field-2.result _ _ c.push_field-2.ensures (λ done pushed.
    pushed
    ∙ ap (λ (text : List ℕ). text ++ text_of_lines ((codes "In-Reply-To: " ++ c.args.id.now) ∷ [])) c.in_ok-push_field.ensures
    ∙ thread_pushed c.args.front.now.items c.args.id.now)
