-- The list of one of Postfix's programs is received: the protocol is announced to it, and it sends a list.
use Rattle.std.specs.Prelude.{◌≡◌, ℕ, List}
use Rattle.dsn_device.specs.declared.drain.Drain
use Rattle.dsn_device.specs.declared.source.Source
use Rattle.dsn_postfix.specs.PostfixAnswer.{announcement_bytes}
use Rattle.dsn_postfix.specs.declared.list_fault.ListFault.{ListFault}
use Rattle.dsn_postfix.specs.ListDialogue.{HearsList, HearsNoList}
use Rattle.dsn_smtp.specs.Dialogue.{FailsToSay, Says}
use Rattle.dsn_postfix_service.specs.declared.clients.client_fault.ClientFault.{ClientFault}
use Rattle.dsn_postfix_service.specs.declared.clients.client_fault.ClientFault.TheVariants.{NoMemory, Unannounced, NoList}

-- this list was received after the announcement
pub record HearsClient {S : Type 0} (source : Source.Ghosts S) (drain : Drain.Ghosts S) (old new : S) (list : List ℕ) : Type 0 where
  pub announced : S
  pub announces : Says drain old announced announcement_bytes
  pub hears : HearsList source announced new list

-- the announcement couldn't be sent, or memory for it was refused
pub data IsUnannounced {S : Type 0} (drain : Drain.Ghosts S) (old new : S) (why : ClientFault) : Type 0 where
  no_memory : why ≡ NoMemory → new ≡ old → IsUnannounced drain old new why
  unsaid : why ≡ Unannounced → FailsToSay drain old new announcement_bytes → IsUnannounced drain old new why

-- no list was received
pub data HearsNoClient {S : Type 0} (source : Source.Ghosts S) (drain : Drain.Ghosts S) (old : S) (why : ClientFault) : Type 0 where
  unannounced : (last : S) → IsUnannounced drain old last why → HearsNoClient source drain old why
  no_list : (announced last : S) (fault : ListFault) → why ≡ NoList fault → Says drain old announced announcement_bytes
      → HearsNoList source announced last fault → HearsNoClient source drain old why
