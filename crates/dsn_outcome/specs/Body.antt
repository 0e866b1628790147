-- Bodies: the value of a request's body, without memory and links.
use Rattle.dsn_outcome.specs.Request
use Rattle.dsn_outcome.specs.declared.body.Body.{Body}
use Rattle.dsn_outcome.specs.declared.body.Body.TheVariants.{Append, Flush, Discard, Forget, Bye}
use Rattle.dsn_outcome.specs.declared.body.BodyRef.{BodyRef}
use Rattle.dsn_outcome.specs.declared.body.BodyRef.TheVariants as lent

-- the kit supports models for structs only, and `Body` is an enum; so a contract on a `Body` names
-- `body_of`, and one on a `Request` doesn't need it
abbrev pub body_of : Body → Request.Body
body_of (Append id node) = Request.Append id node.value.outcome
body_of (Flush key draft) = Request.Flush key draft
body_of (Discard key) = Request.Discard key
body_of (Forget key) = Request.Forget key
body_of Bye = Request.Bye

-- the value of a body with borrowed parts
abbrev pub body_lent : BodyRef → Request.Body
body_lent (lent.Append id outcome) = Request.Append id.now outcome.now
body_lent (lent.Flush key terms) = Request.Flush key.now terms.now
body_lent (lent.Discard key) = Request.Discard key.now
body_lent (lent.Forget key) = Request.Forget key.now
