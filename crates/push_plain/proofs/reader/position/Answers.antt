-- `push_plain::reader::position` meets its contract: a nacked position, or one from the cursor on.
use mathlib.Core.Path.{◌∙◌, ap₂}
use Prim.Native.Nat.{ℕ, ◌+◌, ◌-◌, ◌≤◌, ◌<◌}
use native.Mathlib.Omega.{arith}
use lib.ListN.{length}
use Rattle.layout.specs.Layout.{decode}
use Rattle.layout.specs.Fields.{consumer_nth}
use Rattle.push_plain.proofs.Entries.{position_nacked, position_later}
use Rattle.push_plain.proofs.Topics.{cursor_low}
use Rattle.push_plain.proofs.reader.position.Goals as goal

pub overflow_add-result : goal.overflow_add-result
overflow_add-result c =
    let low = cursor_low c.args.i c.requires.0 in
    let from = c.cursor.ensures in
    let few = c.requires.1 in
    record { fits = omega arith }

pub returns-then-j-n : goal.returns-then-j-n
returns-then-j-n c =
    let a = c.args in
    let x = consumer_nth (decode a.store.now) a.i in
    let t : a.j < length x.nacked = rw (← c.nacked_count-n.ensures) c.if-j-n.true in
    c.nacked.ensures ∙ position_nacked x a.j t

pub returns-else-j-n : goal.returns-else-j-n
returns-else-j-n c =
    let a = c.args in
    let x = consumer_nth (decode a.store.now) a.i in
    let t : length x.nacked ≤ a.j = rw (← c.nacked_count-n.ensures) c.if-j-n.false in
    ap₂ (λ (k n : ℕ). k + (a.j - n)) c.cursor.ensures c.nacked_count-n.ensures ∙ position_later x a.j t
