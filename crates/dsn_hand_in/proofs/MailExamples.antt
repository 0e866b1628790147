-- Worked examples of a mail outlet: what becomes of letters by three deeds, of which the verdicts are given.
use Rattle.std.proofs.Common.{◌≡◌, ℕ, [], Some, None, refl}
use Rattle.dsn_outcome.specs.Letter.{Letter}
use Rattle.dsn_submission.specs.Submitter.{concluded}
use Rattle.dsn_submission.specs.Waiting.{Queue, due_place, empty_queue, item_of, letter_at, pushed, taken}
use Rattle.dsn_submission.specs.declared.verdict.Verdict.{Verdict}
use Rattle.dsn_submission.specs.declared.verdict.Verdict.TheVariants.{Accepted, RefusedForGood, PutOff}
use Rattle.std.specs.Option.{option_map}
use Rattle.dsn_hand_in.specs.SitedLetter.{SitedLetter}
use Rattle.dsn_report.specs.Site.{Site}

module _ (site : Site) (first second : Letter) where
  -- the letters after a deed on the first one that is due
  abbrev after_deed : Queue SitedLetter → ℕ → Verdict → Queue SitedLetter
  after_deed queue now verdict = concluded (taken queue (due_place queue now)) now verdict

  -- two letters were passed to an outlet whose mark is 7
  abbrev two_came : Queue SitedLetter
  two_came = pushed (pushed (empty_queue 7) (record { site = site; letter = first }) 100) (record { site = site; letter = second }) 200

  -- the first is put off, and the second is next
  abbrev first_put_off : Queue SitedLetter
  first_put_off = after_deed two_came 300 PutOff

  second_is_next : option_map item_of (letter_at first_put_off.letters (due_place first_put_off 400)) ≡ Some (record { site = site; letter = second })
  second_is_next = refl

  -- the second is accepted: it is settled, but the mark stays before the first
  abbrev second_accepted : Queue SitedLetter
  second_accepted = after_deed first_put_off 400 Accepted

  mark_stays : second_accepted.mark ≡ 7
  mark_stays = refl

  none_due : due_place second_accepted 500 ≡ None
  none_due = refl

  -- a second later the first is refused for good and kept: the mark is past both
  abbrev first_refused : Queue SitedLetter
  first_refused = after_deed second_accepted 1300 RefusedForGood

  first_is_due : option_map item_of (letter_at second_accepted.letters (due_place second_accepted 1300)) ≡ Some (record { site = site; letter = first })
  first_is_due = refl

  mark_rises : first_refused.mark ≡ 9
  mark_rises = refl

  none_waits : first_refused.letters ≡ []
  none_waits = refl
