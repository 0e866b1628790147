-- Lists of attributes that are received over a stream.
use Rattle.std.specs.Prelude.{◌≡◌, ℕ, Bool, false, List, Err}
use Rattle.std.specs.Io.KnownBytes.{Consumes, Keeps}
use Rattle.dsn_device.specs.Failures.{counted}
use Rattle.dsn_device.specs.declared.source.Source
use Rattle.dsn_postfix.specs.ListBuffer.{IsList, ReadsNoList, device_failed}
use Rattle.dsn_postfix.specs.declared.list_fault.ListFault.{ListFault}

-- a stream was read from, and not written to; `failed` says whether it failed once
pub record OnlyHears {S : Type 0} (source : Source.Ghosts S) (failed : Bool) (old new : S) : Type 0 where
  pub held : Keeps (source.holds old) (source.holds new)
  pub no_flush : source.flushes new ≡ source.flushes old
  pub count : source.failures new ≡ counted failed (source.failures old)

-- a list was received, and nothing after it
pub record HearsList {S : Type 0} (source : Source.Ghosts S) (old new : S) (bytes : List ℕ) : Type 0 where
  pub list : IsList bytes
  pub consumed : Consumes (source.remaining old) (source.remaining new) bytes
  pub only : OnlyHears source false old new

-- no list could be received
pub record HearsNoList {S : Type 0} (source : Source.Ghosts S) (old new : S) (fault : ListFault) : Type 0 where
  pub before : ℕ
  pub after : ℕ
  pub none : ReadsNoList (source.remaining old) (source.remaining new) before after fault
  pub only : OnlyHears source (device_failed {T = ℕ} (Err fault)) old new
