-- `push_plain::due::waiting` meets its contract. What is past the end of the ledger does not wait, also where the cursor is.
use mathlib.Core.Path.{◌≡◌, ap, ◌∙◌}
use Prim.Native.Nat.{ℕ}
use native.Mathlib.Omega.{arith}
use lib.ListN.{length}
use Rattle.rules.specs.State.{Consumer, State, ledger_of}
use Rattle.layout.specs.Layout.{decode}
use Rattle.layout.specs.Fields.{consumer_nth}
use Rattle.topic.proofs.LedgerWords.{ledger_fits}
use Rattle.push_laws.specs.Plain.{ledger_for}
use Rattle.push_plain.proofs.due.waiting.Goals as goal

-- the entries of the ledger that is found by the consumer's topic
entries_are : (s : State) (x : Consumer) {n t : ℕ} → n ≡ length (ledger_of s t) → t ≡ x.pair.topic → n ≡ length (ledger_for s x)
entries_are s x e f = e ∙ ap (λ (t : ℕ). length (ledger_of s t)) f

pub overflow_add-result : goal.overflow_add-result
overflow_add-result c =
    let s = decode c.args.store.now in
    let x = consumer_nth s c.args.i in
    let n = entries_are s x c.ledger_length-n.ensures c.topic.ensures in
    let k = c.nacked_count.ensures in
    let f = c.requires.nacked_fit in
    let g = ledger_fits c.requires.canon x.pair.topic in
    let m = c.requires.canon.E_to in
    omega arith

pub returns : goal.returns
returns c =
    let s = decode c.args.store.now in
    let x = consumer_nth s c.args.i in
    rw (c.nacked_count.ensures, c.saturating_sub.ensures, entries_are s x c.ledger_length-n.ensures c.topic.ensures, c.cursor.ensures)
