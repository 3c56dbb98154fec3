-- A step's record, as it is read from the store: its message, its mark, and what the step says.
use mathlib.Core.Path.{◌≡◌, sym, ap, ap₂, ◌∙◌}
use mathlib.Core.Bool.{cond}
use mathlib.Core.List.{List, [], ◌∷◌, ◌++◌}
use Prim.Native.Nat.{ℕ, ◌+◌, ◌-◌, ◌%◌, ◌^◌, ◌≤◌, ◌<◌}
use native.Mathlib.Omega.{arith}
use lib.ListN.{get_or}
use Rattle.bits.specs.Bits.{bits_empty, word_count}
use Rattle.bits.specs.Four.{words}
use Rattle.words.specs.Act.{lay}
use Rattle.rules.specs.State.{StoredMessage, Mark, State, new_mark}
use Rattle.rules.specs.Ledger.{message_at, no_message}
use Rattle.rules.specs.Dispatcher.{with_places, mark_at}
use Rattle.rules.specs.Push.{flat}
use Rattle.rules.specs.Outcome.{Dispatch}
use Rattle.layout.specs.Layout.{decode, put}
use Rattle.layout.specs.Fields.{consumer_nth, topic_nth, dispatcher_nth, set_dispatcher}
use Rattle.operation_laws.proofs.Frame.{every_nth}
use Rattle.topic.specs.Ids.{message_of}
use Rattle.topic.specs.declared.message.StoredMessage as messages
use Rattle.dispatcher.specs.declared.marks.Mark as marks
use Rattle.dispatcher.specs.Held.{held_of as held}
use Rattle.dispatcher.specs.Values.{mark_of}
use Rattle.push_laws.specs.Local.{Fixed, Step, fixed_of}
use Rattle.push_laws.specs.Applied.{record_to, record_of, held_of}
use Rattle.record.specs.Flat.{filled, record_words}
use Rattle.record.proofs.Filled.{record_flat}
use Rattle.push_turn.specs.declared.turn.Step as steps
use Rattle.push_turn.specs.declared.service.Served as places
use Rattle.push_turn.specs.Turns.{step_of, ServedHere, ledger_under}

-- the record of a step by its message and mark
abbrev recorded : ℕ → StoredMessage → Mark → Step → Dispatch
recorded id m k x =
    record {
      consumer = id;
      message = m;
      ack_set_words = cond (bits_empty (words k.acked.unacked)) 0 (word_count m.batch_size);
      ack_set = k.acked.unacked;
      redelivery_count = k.redelivery_count;
      cost = x.price;
      permits = x.permits;
    }

module _ {p : places.Served} {ws : List ℕ} (h : ServedHere p ws) (k : ℕ) (within : k < p.n)
    (m : messages.StoredMessage) (q : message_of m.ledger m.entry m.handle m.batch_size ≡ message_at (topic_nth (decode ws) p.t).messages k) where
  -- the message that was read is the ledger's
  message_here : message_of m.ledger m.entry m.handle m.batch_size ≡ message_at (ledger_under (decode ws) p.d) k
  message_here = q ∙ ap (λ (l : List StoredMessage). message_at l k) (h.ledger_here (omega arith))

  -- its batch is small
  pub batch_read : m.batch_size ≤ 256
  unfolding message_at
  batch_read =
      let l = h.ledger_length in
      let b : (get_or (ledger_under (decode ws) p.d) k no_message).batch_size ≤ 256 =
      every_nth (ledger_under (decode ws) p.d) k no_message h.batches (omega arith) in
      let s : m.batch_size ≡ (get_or (ledger_under (decode ws) p.d) k no_message).batch_size = ap (λ (x : StoredMessage). x.batch_size) message_here in
      omega arith

  -- the record made of what was read
  pub record_read : (id w left : ℕ) (y : marks.Mark) (x : steps.Step) → x.position ≡ k → mark_of y ≡ mark_at (dispatcher_nth (decode ws) p.d) k
      → w ≡ cond (bits_empty (words y.unacked)) 0 (word_count m.batch_size) → left ≡ (x.permits + (2 ^ 64 - 2 ^ 62)) % 2 ^ 64
      → record_words (record {
        consumer = id;
        ledger = m.ledger;
        entry = m.entry;
        handle = m.handle;
        batch_size = m.batch_size;
        ack_set_words = w;
        ack_set = y.unacked;
        redelivery_count = y.redelivery_count;
        cost = x.price;
        permits = left;
      })
      ≡ flat (record_to id (fixed_of (decode ws) (dispatcher_nth (decode ws) p.d)) (step_of x))
  unfolding record_to fixed_of step_of mark_of mark_at
  record_read id w left y x q r s t =
      record_flat _ x.permits t
      (rw s
      (ap₂ {A = StoredMessage} {B = Mark} {C = Dispatch} (λ a b. recorded id a b (step_of x)) message_here r
      ∙ ap (λ (j : ℕ). recorded id (message_at (ledger_under (decode ws) p.d) j) (get_or (dispatcher_nth (decode ws) p.d).marks j new_mark)
      (step_of x)) (sym q)))

-- one record written
pub one_filled : {us l : List ℕ} (list : List ℕ) (x : Dispatch) → us ≡ (lay l).run 0 list → l ≡ flat x → us ≡ filled list 0 (x ∷ [])
unfolding filled
one_filled list x w e = w ∙ ap (λ (z : List ℕ). (lay z).run 0 list) e

-- the record to a consumer found by its slot
pub record_found : (s : State) (f : Fixed) (id : ℕ) (x : Step) → id ≡ (consumer_nth s x.consumer).id → record_to id f x ≡ record_of s f x
unfolding record_of
record_found s f id x e = ap (λ (i : ℕ). record_to i f x) e

-- its entry in flight
pub flight_found : {us : List ℕ} {k : ℕ} (ws : List ℕ) (s : State) (d id : ℕ) (x : Step) → id ≡ (consumer_nth s x.consumer).id → k ≡ x.position
    → us ≡ put ws (set_dispatcher s d
    (with_places (dispatcher_nth s d) (dispatcher_nth s d).redelivery ((dispatcher_nth s d).in_flight ++ held id k ∷ [])))
    → us ≡ put ws (set_dispatcher s d (with_places (dispatcher_nth s d) (dispatcher_nth s d).redelivery ((dispatcher_nth s d).in_flight ++ held_of s x ∷ [])))
unfolding held_of
flight_found ws s d id x e p w = w
    ∙ ap₂ {A = ℕ} {B = ℕ} {C = List ℕ} (λ i j. put ws (set_dispatcher s d
    (with_places (dispatcher_nth s d) (dispatcher_nth s d).redelivery ((dispatcher_nth s d).in_flight ++ held i j ∷ [])))) e p
