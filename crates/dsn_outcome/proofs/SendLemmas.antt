-- Requests and letters may be sent to another thread. One proof search for all of it exceeds the search limits, so each
-- small step uses the results of the steps before.
use denote.Param.Send.{IsSend, sendable}
use Rattle.std.proofs.Crossing.{crosses}
use Rattle.std.proofs.option.Option.TheSendSync as option
use Rattle.dsn_outcome.proofs.letter_cell.LetterCell.TheLaws.TheKnot as cells
use Rattle.dsn_outcome.proofs.outcome_node.Node.TheLaws.TheKnot as nodes
use Rattle.dsn_outcome.specs.contracts.letter_cell.LetterCell as LetterCell
use Rattle.dsn_outcome.specs.contracts.letter_cell.Sealed as Sealed
use Rattle.dsn_outcome.specs.contracts.letter_cell.DraftTerms as DraftTerms
use Rattle.dsn_text.specs.contracts.key.Key as Key
use Rattle.dsn_outcome.specs.contracts.letter.Letter as Letter
use Rattle.dsn_outcome.specs.contracts.letters.Letters as Letters
use Rattle.dsn_outcome.specs.contracts.outcome_links.OutcomeLinks as OutcomeLinks
use Rattle.dsn_outcome.specs.contracts.outcome_node.Node as Node
use Rattle.dsn_outcome.specs.contracts.outcome.Outcome as Outcome
use Rattle.dsn_text.specs.contracts.queue_id.QueueId as QueueId
use Rattle.dsn_outcome.specs.contracts.request.Request as Request

id : IsSend QueueId.the_row
id = search sendable depth 20

key_field : IsSend (Key.the_field).row
key_field = search sendable depth 20

outcome : IsSend Outcome.the_row
outcome = search (crosses, sendable) depth 20

node_field : IsSend (Node.the_field).row
node_field = search (crosses, option.the_send, option.the_field_send, outcome, nodes.crosses, sendable) depth 20

node : IsSend Node.the_row
node = search (node_field, sendable) depth 20

links : IsSend OutcomeLinks.the_row
links = search (crosses, node, option.the_field_send, sendable) depth 20

sealed : IsSend (Sealed.the_field).row
sealed = search (links, key_field, sendable) depth 20

terms : IsSend DraftTerms.the_row
terms = search (crosses, option.the_field_send, sendable) depth 20

cell_field : IsSend (LetterCell.the_field).row
cell_field = search (crosses, sealed, terms, option.the_send, option.the_field_send, cells.crosses, sendable) depth 20

cell : IsSend LetterCell.the_row
cell = search (cell_field, sendable) depth 20

pub letter_send : IsSend Letter.the_row
letter_send = search (crosses, cell, sendable) depth 20

pub letters_send : IsSend Letters.the_row
letters_send = search (crosses, cell, option.the_field_send, sendable) depth 20

pub request_send : IsSend Request.the_row
request_send = search (crosses, cell, node, key_field, id, sendable) depth 20
