use Rattle.std.proofs.Common.{◌++◌, ◌∙◌, List, ap, refl, subst, ℕ}
use Rattle.std.proofs.lemmas.Result.{err_from_is_err_and}
use Rattle.dsn_outcome.specs.Letter.{Letter}
use Rattle.dsn_report.specs.Site.{Site}
use Rattle.dsn_postfix_notices.specs.requests.Deed.{Deed}
use Rattle.dsn_postfix_notices.specs.requests.Finishing.{FinishesAt}
use Rattle.dsn_postfix_notices.specs.requests.Gains.{Gains}
use Rattle.dsn_postfix_notices.specs.requests.Heading.{Heading}
use Rattle.dsn_postfix_notices.specs.requests.HandingIn.{AreAccepted, StopsAtLetter}
use Rattle.dsn_postfix_notices.specs.requests.NoticeDeeds.{stopped, unread}
use Rattle.dsn_postfix_notices.proofs.DeedLemmas.{all_told, gains_as, gains_more, none_made}
use Rattle.dsn_postfix_notices.proofs.requests.notify.tell.Goals as goal

abbrev heading_with : Site → List ℕ → Heading
heading_with site front = record { site = site; front = front }

pub returns-in_err-found : goal.returns-in_err-found
returns-in_err-found g c =
    let exit = err_from_is_err_and c.from_residual.result c.from_residual.ensures.1 in
    rw (exit.1, exit.2) (gains_as g.M.MailSystem.deeds _ _ _ _ c.in_err-found.ensures (λ gained fails. unread refl fails))

pub returns-in_err-made : goal.returns-in_err-made
returns-in_err-made g c =
    let exit = err_from_is_err_and c.from_residual-in_err-made.result c.from_residual-in_err-made.ensures.1 in
    rw (exit.1, exit.2) (gains_as g.M.MailSystem.deeds _ _ _ _ c.in_ok-found.ensures
    (λ gained is. none_made c.args.task.now c.in_ok-found.found c.in_err-made.field-0.0 gained is c.in_err-made.ensures.none))

pub returns-in_err-hand_in_letters : goal.returns-in_err-hand_in_letters
returns-in_err-hand_in_letters g c =
    let exit = err_from_is_err_and c.from_residual-in_err-hand_in_letters.result c.from_residual-in_err-hand_in_letters.ensures.1 in
    let why = c.in_err-hand_in_letters.field-0.0 in
    let listing = c.queue_files_have_one_list.ensures c.in_ok-found.found.file in
    rw (exit.1, exit.2) (gains_more g.M.MailSystem.deeds _ _ _ _ _ _ c.in_ok-found.ensures c.in_err-hand_in_letters.ensures
    (λ one two reads stops. stopped c.in_ok-found.found (heading_with c.site.result.now c.deref.result.now) c.in_ok-made.made.letters.items two why refl (ap (λ (deeds : List Deed). deeds ++ two) reads)
    (record { headed = record { site_is = c.site.ensures; records = listing.records; ending = listing.ending; listed = listing.lists; front_is = c.deref.ensures.value ∙ c.in_ok-made.ensures.front listing.records listing.ending listing.lists }; each = c.in_ok-made.ensures.made })
    (subst (λ (letters : List Letter). StopsAtLetter (heading_with c.site.result.now c.deref.result.now) letters why two) c.deref-2.ensures.value stops)))

pub returns : goal.returns
returns g c =
    let task = c.args.task.now in
    let listing = c.queue_files_have_one_list.ensures c.in_ok-found.found.file in
    let heading : Heading = heading_with c.site.result.now c.deref.result.now in
    all_told g.M.MailSystem.deeds _ _ _ _ task c.in_ok-found.found heading c.in_ok-made.made.letters.items c.finish.result
    (record { headed = record { site_is = c.site.ensures; records = listing.records; ending = listing.ending; listed = listing.lists; front_is = c.deref.ensures.value ∙ c.in_ok-made.ensures.front listing.records listing.ending listing.lists }; each = c.in_ok-made.ensures.made }) c.in_ok-found.ensures
    (subst (λ (letters : List Letter). Gains g.M.MailSystem.deeds c.read_mail.new.system c.hand_in_letters.new.system (AreAccepted heading letters)) c.deref-2.ensures.value c.in_ok-hand_in_letters.ensures)
    (subst (λ (places : List ℕ). Gains g.M.MailSystem.deeds c.hand_in_letters.new.system c.finish.new.system (FinishesAt task c.in_ok-found.found.log places c.finish.result)) (c.deref-3.ensures.value ∙ c.in_ok-made.ensures.places)
    (subst (λ log. Gains g.M.MailSystem.deeds c.hand_in_letters.new.system c.finish.new.system (FinishesAt task log c.deref-3.result.now c.finish.result)) c.log.ensures c.finish.ensures))
