-- The number of the fault that requests were not kept.
use Rattle.std.specs.Prelude.{ℕ}
use Rattle.dsn_text.specs.FaultCode.{not_kept_code}
use Rattle.dsn_book.specs.declared.not_kept.NotKept.{NotKept}
use Rattle.dsn_book.specs.declared.not_kept.NotKept.TheVariants.{Memory, Full, Failed}

abbrev pub unkept_code : NotKept → ℕ
unkept_code Memory = not_kept_code
unkept_code Full = not_kept_code
unkept_code Failed = not_kept_code
