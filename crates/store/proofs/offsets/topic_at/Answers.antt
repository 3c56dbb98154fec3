-- `store::offsets::topic_at` meets its contract: the slots lie in the room of eight, so no sum wraps.
use Prim.Native.Nat.{◌+◌, ◌*◌}
use borrow.Author.Rules.{rules}
use Rattle.store.proofs.Rooms.{room_le}
use Rattle.store.proofs.offsets.topic_at.Goals as goal

pub overflow_mul-result-2 : goal.overflow_mul-result-2
overflow_mul-result-2 c = let k = room_le c.args.t 8 (4 + 4 * c.args.e) c.requires.1 in search rules

pub overflow_add-result-2 : goal.overflow_add-result-2
overflow_add-result-2 c = let k = room_le c.args.t 8 (4 + 4 * c.args.e) c.requires.1 in search rules
