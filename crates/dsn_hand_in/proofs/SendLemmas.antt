-- A mail outlet, and what is left of it, may be sent to another thread if their parts may be.
use denote.Hole.{as_row}
use denote.Param.Send.{IsSend, IsSync, sendable, shr_send, view_send}
use denote.Param.SendFields.{as_row_send, declared_send}
use denote.RattleType.{RattleType}
use denote.Ref.{NamedLft, ShrRef}
use denote.Struct.Field.{bool-field, row_field, usize-field}
use Rattle.std.proofs.option.Option.TheSendSync as option
use Rattle.dsn_device.specs.declared.drain.Drain
use Rattle.dsn_device.specs.declared.source.Source
use Rattle.dsn_outcome.proofs.SendLemmas.{letter_send}
use Rattle.dsn_outcome.specs.contracts.letter.Letter as Letter
use Rattle.dsn_report.proofs.site.Site.TheSendSync as site
use Rattle.dsn_report.specs.contracts.site.Site as Site
use Rattle.dsn_submission.proofs.submitter.Submitter.TheSendSync as submitter
use Rattle.dsn_submission.specs.contracts.submitter.Submitter as Submitter
use Rattle.dsn_hand_in.proofs.run_clock.RunClock.TheSendSync as run_clock
use Rattle.dsn_hand_in.specs.contracts.mail_outlet.MailOutlet as MailOutlet
use Rattle.dsn_hand_in.specs.contracts.mail_outlet.MailOutlet.TheInside as OutletInside
use Rattle.dsn_hand_in.specs.contracts.mail_parts.MailParts as MailParts
use Rattle.dsn_hand_in.specs.contracts.run_clock.RunClock as RunClock
use Rattle.dsn_hand_in.specs.contracts.sited_letter.SitedLetter as SitedLetter
use Rattle.dsn_hand_in.specs.contracts.sited_letter.SitedLetter.TheInside as SitedInside

-- a reference to the mail system
site_ref_send : (s : NamedLft) → IsSend (ShrRef s.mir s.lft Site.the_row)
site_ref_send s = shr_send _ _ Site.the_row site.the_sync

pub sited_send : (s : NamedLft) → IsSend (SitedLetter.the_row s)
sited_send s =
    view_send (SitedInside.the_row s) _ _ _ _
    (declared_send (SitedInside.the_type s) (site_ref_send s, (as_row_send (row_field Letter.the_row) letter_send, tt)))

flag_send : IsSend (as_row bool-field)
flag_send = search sendable depth 20

count_send : IsSend (as_row usize-field)
count_send = search sendable depth 20

module _ (s : NamedLft) (S C K M : RattleType) (source : Source.Ghosts S.Denot) (drain : Drain.Ghosts S.Denot)
    (stream : IsSend S) (server : IsSend C) (refused : IsSend K) (marks : IsSend M) where
  pub mail_parts_send : IsSend (MailParts.the_row s S C K M source drain)
  mail_parts_send =
      declared_send (MailParts.the_type s S C K M source drain)
      (as_row_send (row_field (Submitter.the_row (SitedLetter.the_row s) S source drain)) (submitter.the_send (SitedLetter.the_row s) S source drain (sited_send s) stream), (as_row_send (row_field C) server, (as_row_send (row_field K) refused, (as_row_send (row_field M) marks, tt))))

  module _ (r : NamedLft) (W R : RattleType) (watcher : IsSend W) (clock : IsSync R) where
    pub mail_outlet_send : IsSend (MailOutlet.the_row s r S C K M W R source drain)
    mail_outlet_send =
        view_send (OutletInside.the_row s r S C K M W R source drain) _ _ _ _
        (declared_send (OutletInside.the_type s r S C K M W R source drain)
        (site_ref_send s, (as_row_send (row_field (MailParts.the_row s S C K M source drain)) mail_parts_send, (flag_send, (count_send, (search (option.the_field_send, sendable) depth 20, (as_row_send (row_field W) watcher, (as_row_send (row_field (RunClock.the_row r R)) (run_clock.the_send r R clock), tt))))))))
