-- The bytes fit, or they do not.
use Rattle.std.proofs.Common.{refl}
use Rattle.mesh_arrays.specs.Rooms.{IsHandedOver}
use Rattle.mesh_arrays.proofs.room.hand_over.Goals as goal

pub returns-then-bytes-room-clause-handed : goal.returns-then-bytes-room-clause-handed
returns-then-bytes-room-clause-handed c = IsHandedOver.too_small c.if-bytes-room.true refl

pub returns-clause-handed : goal.returns-clause-handed
returns-clause-handed c = IsHandedOver.whole c.if-bytes-room.false c.put.ensures
