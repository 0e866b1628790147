-- Letters with their outbox may be sent to another thread if the outbox may be.
use denote.Hole.{as_row}
use denote.Param.Send.{IsSend, sendable, view_send}
use denote.Param.SendFields.{as_row_send, declared_send}
use denote.RattleType.{RattleType}
use denote.Struct.Field.{bool-field, row_field}
use Rattle.std.proofs.Crossing.{crosses}
use Rattle.std.proofs.option.Option.TheSendSync as option
use Rattle.dsn_device.proofs.quiet_writer.QuietWriter.TheSendSync as quiet_writer
use Rattle.dsn_device.specs.contracts.quiet_writer.QuietWriter as QuietWriter
use Rattle.dsn_outcome.proofs.SendLemmas.{letters_send}
use Rattle.dsn_outcome.specs.contracts.letters.Letters as Letters
use Rattle.dsn_report.specs.contracts.pending_bytes.PendingBytes as PendingBytes
use Rattle.dsn_report.specs.contracts.line_writer.LineWriter as LineWriter
use Rattle.dsn_report.specs.contracts.outgoing.Outgoing as Outgoing
use Rattle.dsn_report.specs.contracts.outgoing.Outgoing.TheInside as OutgoingInside
use Rattle.dsn_report.specs.contracts.poster.Poster as Poster
use Rattle.dsn_report.specs.contracts.poster.Poster.TheInside as PosterInside
use Rattle.dsn_report.specs.contracts.site.Site as Site
use Rattle.dsn_report.specs.contracts.template.Template as Template
use Rattle.dsn_report.specs.contracts.templates.Templates as Templates

template_send : IsSend Template.the_row
template_send = search (crosses, sendable) depth 20

templates_send : IsSend Templates.the_row
templates_send = search (crosses, template_send, option.the_send, option.the_field_send, sendable) depth 20

pub site_send : IsSend Site.the_row
site_send = search (crosses, templates_send, sendable) depth 20

bool_send : IsSend (as_row bool-field)
bool_send = search sendable depth 20

pending_send : IsSend PendingBytes.the_row
pending_send = search (crosses, sendable) depth 20

module _ (W : RattleType) (send : IsSend W) where
  line_writer_send : IsSend (LineWriter.the_row W)
  line_writer_send = declared_send (LineWriter.the_type W) (as_row_send (row_field (QuietWriter.the_row W)) (quiet_writer.the_send W send), (bool_send, (as_row_send (row_field PendingBytes.the_row) pending_send, tt)))

  poster_send : IsSend (Poster.the_row W)
  poster_send =
      view_send (PosterInside.the_row W) _ _ _ _
      (declared_send (PosterInside.the_type W)
      (as_row_send (row_field Site.the_row) site_send, (as_row_send (row_field (LineWriter.the_row W)) line_writer_send, (bool_send, tt))))

  pub outgoing_send : IsSend (Outgoing.the_row W)
  outgoing_send =
      view_send (OutgoingInside.the_row W) _ _ _ _
      (declared_send (OutgoingInside.the_type W)
      (as_row_send (row_field (Poster.the_row W)) poster_send, (as_row_send (row_field Letters.the_row) letters_send, tt)))
