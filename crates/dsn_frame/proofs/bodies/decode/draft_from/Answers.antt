use Rattle.std.proofs.Common.{◌≡◌, ◌&&◌, true, nat_le, rules, arith}
use Rattle.std.proofs.lemmas.Grind.{common_steps}
use Rattle.dsn_text.specs.Stamp.{last_moment}
use Rattle.dsn_frame.specs.inner.BodyParts.{flush_fields_in, wish_fields_in}
use Rattle.dsn_frame.proofs.bodies.EncodingLaws.{draft_refused}
use Rattle.dsn_frame.proofs.bodies.decode.draft_from.Goals as goal

pub returns-in_err-read-clause-refused : goal.returns-in_err-read-clause-refused
returns-in_err-read-clause-refused c =
    let dated : (nat_le c.args.fields.moment last_moment && nat_le c.args.fields.arrival last_moment) ≡ true = search rules in
    let refused = draft_refused (flush_fields_in c.args.fields) (wish_fields_in c.args.wishes) dated in
    grind (arith, common_steps, refused)
