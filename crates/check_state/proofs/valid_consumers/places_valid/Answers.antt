-- `check_state::valid_consumers::places_valid` meets its contract: the cursor, then the nacked positions, against the ledger's length.
use mathlib.Core.Path.{◌≡◌, ◌∙◌}
use mathlib.Core.Bool.{◌&&◌}
use mathlib.Core.List.{List}
use Prim.Native.Nat.{ℕ, ◌+◌}
use lib.Dec.{leb}
use lib.ListN.{length, get_or}
use borrow.Author.Tests.{lt-leb, le-leb}
use Rattle.rules.specs.State.{ledger_of}
use Rattle.layout.specs.Layout.{decode}
use Rattle.layout.specs.Offsets.{consumer_at}
use Rattle.layout.specs.Placed.{ConsumerIn}
use Rattle.layout.specs.Fields.{consumer_now}
use Rattle.layout.proofs.Gets.{read_consumer_topic, read_consumer_cursor}
use Rattle.store.proofs.Tests.{fails, passes}
use Rattle.check_state.specs.ValidConsumers.{nacked_valid, places_valid}
use Rattle.check_state.proofs.valid_consumers.places_valid.Goals as goal

-- the two tests, by the words that are read
parts : {e : ℕ} {ws : List ℕ} {i at n w : ℕ} → ConsumerIn e ws i → at ≡ consumer_at i → n ≡ length (ledger_of (decode ws) (get_or ws (at + 1) 0)) → w ≡ get_or ws (at + 5) 0
    → (leb w n && nacked_valid n (consumer_now ws i)) ≡ places_valid (decode ws) (consumer_now ws i)
unfolding places_valid
parts {ws = ws} {i = i} h p q r =
    let cursor : get_or ws (consumer_at i + 5) 0 ≡ (consumer_now ws i).cursor = read_consumer_cursor h.canon i h.there in
    let topic : get_or ws (consumer_at i + 1) 0 ≡ (consumer_now ws i).pair.topic = read_consumer_topic h.canon i h.there in
    rw (r, q, p, cursor, topic)

pub returns-then-word-n : goal.returns-then-word-n
returns-then-word-n c =
    passes (le-leb _ _ c.if-word-n.true) c.nacked_valid.ensures ∙ parts c.requires c.consumer_at-at.ensures c.ledger_length-n.ensures c.word.ensures

pub returns-else-word-n : goal.returns-else-word-n
returns-else-word-n c =
    lt-leb _ _ c.if-word-n.false ∙ fails _ (lt-leb _ _ c.if-word-n.false) ∙ parts c.requires c.consumer_at-at.ensures c.ledger_length-n.ensures c.word.ensures
