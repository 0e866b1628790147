use Rattle.std.proofs.Common.{arith}
use Rattle.dsn_frame.specs.inner.BodyParts.{flush_fields_in}
use Rattle.dsn_frame.proofs.bodies.EncodingLaws.{flush_length}
use Rattle.dsn_frame.proofs.bodies.write_fields.push_flush.Goals as goal

pub push_moment-requires : goal.push_moment-requires
push_moment-requires c = record { room = omega (arith, flush_length (flush_fields_in c.args.parts), c.requires.room) }

pub push_moment-requires-2 : goal.push_moment-requires-2
push_moment-requires-2 c =
    record { room = omega (arith, flush_length (flush_fields_in c.args.parts), c.requires.room, c.push_moment.ensures.length, c.push_moment.ensures.capacity) }
