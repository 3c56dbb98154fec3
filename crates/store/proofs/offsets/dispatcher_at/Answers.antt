-- `store::offsets::dispatcher_at` meets its contract: the slots lie in the room of eight, so no sum wraps.
use Prim.Native.Nat.{◌+◌, ◌*◌}
use borrow.Author.Rules.{rules}
use Rattle.store.proofs.Rooms.{room_le}
use Rattle.store.proofs.offsets.dispatcher_at.Goals as goal

pub overflow_mul-result-3 : goal.overflow_mul-result-3
overflow_mul-result-3 c = let k = room_le c.args.d 8 (176 + 9 * c.args.e) c.requires.1 in search rules

pub overflow_add-result-3 : goal.overflow_add-result-3
overflow_add-result-3 c = let k = room_le c.args.d 8 (176 + 9 * c.args.e) c.requires.1 in search rules
