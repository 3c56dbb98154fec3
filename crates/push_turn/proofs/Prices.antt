-- The price of an entry that is there: by its stored bits, or by the batch size of its message.
use mathlib.Core.Path.{◌≡◌, refl, ap, ◌∙◌}
use mathlib.Core.Bool.{true, false}
use mathlib.Core.List.{List}
use Prim.Native.Nat.{ℕ, ◌≤◌, ◌<◌, max}
use native.Mathlib.Omega.{arith}
use lib.ListN.{length}
use Rattle.bits.specs.Bits.{bits_empty, bits_cardinality}
use Rattle.bits.specs.Four.{words}
use Rattle.bits.specs.declared.UnackedBits.{UnackedBits}
use Rattle.rules.specs.State.{StoredMessage, Mark}
use Rattle.rules.specs.Ledger.{message_at, no_message}
use Rattle.rules.specs.Dispatcher.{cost, mark_at}
use Rattle.rules.proofs.Demand.Handed.{cost_le}
use Rattle.layout.specs.Layout.{decode}
use Rattle.layout.specs.Fields.{topic_nth, dispatcher_nth}
use Rattle.layout.specs.Placed.{TopicIn}
use Rattle.operation_laws.proofs.Frame.{every_nth}
use Rattle.dispatcher.specs.declared.marks.Mark as declared
use Rattle.dispatcher.specs.Values.{mark_of}
use Rattle.push_laws.specs.Local.{price_of, fixed_of}
use Rattle.push_turn.specs.Turns.{ServedHere, ledger_under}
use Rattle.push_turn.specs.declared.service.Served as places

-- the cost with stored bits
cost_bits : (n : ℕ) (u : UnackedBits) → bits_empty (words u) ≡ false → bits_cardinality (words u) ≡ cost n u
unfolding cost
cost_bits n u f = rw f

-- the cost without
cost_batch : (n : ℕ) (u : UnackedBits) → bits_empty (words u) ≡ true → max n 1 ≡ cost n u
unfolding cost
cost_batch n u f = rw f

module _ {x : places.Served} {ws : List ℕ} (h : ServedHere x ws) (k : ℕ) (within : k < x.n) where
  -- the message of the entry
  abbrev message : StoredMessage
  message = message_at (ledger_under (decode ws) x.d) k

  -- the mark of the entry
  abbrev mark : Mark
  mark = mark_at (dispatcher_nth (decode ws) x.d) k

  -- its price, by message and mark
  priced : cost message.batch_size mark.acked.unacked ≡ price_of (fixed_of (decode ws) (dispatcher_nth (decode ws) x.d)) k
  unfolding price_of fixed_of mark_at
  priced = refl

  -- the topic is there
  pub topic_there : TopicIn x.e ws x.t
  topic_there = h.topic_here (omega arith)

  -- and has the entry
  pub entry_there : k < length (topic_nth (decode ws) x.t).messages
  entry_there =
      let l = ap (λ (m : List StoredMessage). length m) (h.ledger_here (omega arith)) in
      let q = h.ledger_length in omega arith

  -- a batch is small
  batch_small : message.batch_size ≤ 256
  unfolding message_at
  batch_small = let q = h.ledger_length in every_nth (ledger_under (decode ws) x.d) k no_message h.batches (omega arith)

  -- so is a price
  pub price_small : {r : ℕ} → r ≡ price_of (fixed_of (decode ws) (dispatcher_nth (decode ws) x.d)) k → r ≤ 256
  price_small p = let s = cost_le message.batch_size mark.acked.unacked batch_small in let q = priced in omega arith

  module _ (m : declared.Mark) (q : mark_of m ≡ mark) where
    -- the bits that were read are the mark's
    bits_here : m.unacked ≡ mark.acked.unacked
    unfolding mark_of
    bits_here = ap (λ (y : Mark). y.acked.unacked) q

    -- the cost by what was read
    cost_here : cost message.batch_size m.unacked ≡ price_of (fixed_of (decode ws) (dispatcher_nth (decode ws) x.d)) k
    cost_here = ap (λ (u : UnackedBits). cost message.batch_size u) bits_here ∙ priced

    -- by the bits
    pub by_bits : {r : ℕ} → r ≡ bits_cardinality (words m.unacked) → bits_empty (words m.unacked) ≡ false
        → r ≡ price_of (fixed_of (decode ws) (dispatcher_nth (decode ws) x.d)) k
    by_bits p f = p ∙ cost_bits message.batch_size m.unacked f ∙ cost_here

    -- by the batch
    pub by_batch : {b r : ℕ} → b ≡ (message_at (topic_nth (decode ws) x.t).messages k).batch_size → bits_empty (words m.unacked) ≡ true
        → r ≡ max b 1 → r ≡ price_of (fixed_of (decode ws) (dispatcher_nth (decode ws) x.d)) k
    by_batch {b} {r} p f g =
        let s : b ≡ message.batch_size = p ∙ ap (λ (l : List StoredMessage). (message_at l k).batch_size) (h.ledger_here (omega arith)) in
        g ∙ ap (λ (b : ℕ). max b 1) s ∙ cost_batch message.batch_size m.unacked f ∙ cost_here
