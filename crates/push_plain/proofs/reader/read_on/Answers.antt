-- `push_plain::reader::read_on` meets its contract: the cursor moves on, then nacked positions are taken out.
use mathlib.Core.Path.{◌≡◌, ◌∙◌, ap}
use Prim.Native.Nat.{ℕ, ◌+◌, ◌-◌, ◌≤◌, min}
use native.Mathlib.Omega.{arith}
use lib.ListN.{length}
use Rattle.layout.specs.Layout.{decode}
use Rattle.layout.specs.Fields.{consumer_nth}
use Rattle.push_plain.proofs.Topics.{cursor_low}
use Rattle.push_plain.proofs.Writes.{cursor_set_in, cursor_set_nacked, read_on_done}
use Rattle.push_plain.proofs.reader.read_on.Goals as goal

-- how many nacked positions are taken, by how many there are
taken_by : (n : ℕ) {t k l : ℕ} → t ≡ min n k → k ≡ l → t ≡ min n l
taken_by n e f = e ∙ ap (λ (k : ℕ). min n k) f

-- the smaller of two is no more than the second
least : (n l t : ℕ) → t ≡ min n l → t ≤ l
least n l t e = omega arith

pub overflow_add-from : goal.overflow_add-from
overflow_add-from c =
    let low = cursor_low c.args.i c.requires.0 in
    let from = c.cursor-from.ensures in
    let few = c.requires.1 in
    record { fits = omega arith }

pub drop_nacked-requires : goal.drop_nacked-requires
drop_nacked-requires c =
    let a = c.args in
    let h = c.requires.0.here in
    let to : ℕ = c.cursor-from.result + (a.n - c.min-taken.result) in
    let taken = taken_by a.n c.min-taken.ensures c.nacked_count.ensures in
    let nacked = cursor_set_nacked a.i to h c.set_cursor.ensures in
    (cursor_set_in a.i to h c.set_cursor.ensures, rw nacked (least a.n (length (consumer_nth (decode a.store.now) a.i).nacked) c.min-taken.result taken))

pub returns : goal.returns
returns c =
    let a = c.args in
    let taken = taken_by a.n c.min-taken.ensures c.nacked_count.ensures in
    read_on_done a.i c.cursor-from.result c.min-taken.result a.n c.requires.0.here c.cursor-from.ensures taken c.set_cursor.ensures c.drop_nacked.ensures
