use Rattle.std.proofs.Common.{◌≡◌, None, ap, arith}
use Rattle.std.proofs.lemmas.Grind.{common_steps}
use Rattle.dsn_outcome.specs.Body.{body_of}
use Rattle.dsn_frame.specs.inner.BodyParts.{wire_body_in}
use Rattle.dsn_frame.specs.bodies.Request.{first_field_fault}
use Rattle.dsn_frame.specs.bodies.Wire.{Head, head_of}
use Rattle.dsn_frame.proofs.bodies.RequestLaws.{encoded_no_goodbye, whole_encodes}
use Rattle.dsn_frame.proofs.bodies.decode.decode_request.Goals as goal

-- the body was whole, its fields have no fault, and the request is made of them
pub returns-clause-encoded : goal.returns-clause-encoded
returns-clause-encoded c =
    let wire = wire_body_in c.in_ok-parts.parts in
    let accepted : first_field_fault wire ≡ None = grind (arith, common_steps) in
    let number : c.head-head.result.number ≡ (head_of wire).number = ap (λ (head : Head). head.number) c.head-head.ensures in
    rw number (whole_encodes c.args.bytes.now wire (body_of c.in_ok-body.body) (λ i. omega (arith, c.type_inv.bytes i))
    (record { accepted = c.in_ok-parts.ensures.accepted; read = c.in_ok-parts.ensures.read }) accepted c.in_ok-body.ensures.body)

pub returns-clause-no_goodbye : goal.returns-clause-no_goodbye
returns-clause-no_goodbye c = encoded_no_goodbye _ _ _ (returns-clause-encoded c)
