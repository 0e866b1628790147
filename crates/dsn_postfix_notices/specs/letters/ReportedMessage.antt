-- What a notice says of its message.
use Rattle.std.specs.Prelude.{ℕ, List, Option}
use Rattle.dsn_postfix_notices.specs.declared.letters.reported_message.ReportedMessage.{ReportedMessage}

pub record MessageSaid : Type 0 where
  pub queue_id : List ℕ
  pub arrival : Option ℕ
  pub sender : List ℕ
  pub envelope_id : List ℕ
  pub text : List ℕ
  pub lifetime : ℕ
  pub size_limit : ℕ

-- the texts behind the program's references
abbrev pub message_said_in : ReportedMessage → MessageSaid
message_said_in message = record {
  queue_id = message.queue_id;
  arrival = message.arrival;
  sender = message.sender.now;
  envelope_id = message.envelope_id.now;
  text = message.text.now;
  lifetime = message.lifetime;
  size_limit = message.size_limit;
}
