-- What an ack of a live shared consumer finds: its dispatcher may acknowledge, and after the ack it stands in the words as the
-- rules have it, with mark-delete within the marks.
use mathlib.Core.Path.{◌≡◌, sym, ap, ◌∙◌}
use mathlib.Core.List.{List}
use Prim.Native.Nat.{ℕ, ◌≤◌, ◌<◌}
use native.Mathlib.Omega.{arith}
use lib.ListN.{length}
use Rattle.rules.specs.State.{Pair, Dispatcher, by_pair, ledger_of}
use Rattle.rules.specs.Groups.{Group}
use Rattle.rules.specs.Dispatcher.{drop_complete, advance_mark_delete}
use Rattle.rules.specs.Commands.{ack_groups}
use Rattle.rules.specs.Valid.{ValidDispatcher}
use Rattle.layout.specs.Layout.{decode, put}
use Rattle.layout.specs.Whole.{ShapedDispatcher}
use Rattle.layout.specs.Fields.{consumer_nth, dispatcher_nth, set_dispatcher}
use Rattle.layout.specs.Placed.{DispatcherIn}
use Rattle.store.specs.Find.{slot}
use Rattle.operation_laws.proofs.Frame.{dispatcher_found_valid, dispatcher_found_pair}
use Rattle.dispatcher.specs.Completion.{Marked}
use Rattle.consumer.specs.Live.{Live}
use Rattle.consumer.proofs.Found.{live_canon, live_valid}
use Rattle.ack.specs.Ackable.{Ackable}
use Rattle.ack.proofs.Turns.{kept_groups, kept_fits}
use Rattle.ack.proofs.Finish.{advance_fits, advance_within, written_in, written_is}
use Rattle.ack.proofs.Outcomes.{valid_marked, valid_delete, valid_ackable}

module _ {e : ℕ} {ws : List ℕ} (i d topic : ℕ) (h : Live e ws i)
    (f : (d ≡ slot by_pair (consumer_nth (decode ws) i).pair (decode ws).dispatchers) × (d < length (decode ws).dispatchers))
    (n : topic ≡ (consumer_nth (decode ws) i).pair.topic) where
  -- the dispatcher is valid
  valid_one : ValidDispatcher (decode ws) (dispatcher_nth (decode ws) d)
  valid_one = dispatcher_found_valid (decode ws) d _ f.0 (live_valid h) f.1

  -- so its entries in flight have marks
  pub marked : Marked (dispatcher_nth (decode ws) d)
  marked = valid_marked _ _ valid_one

  -- and it may acknowledge
  pub ackable : Ackable e ws d topic
  ackable =
      valid_ackable d topic (live_canon h) f.1 valid_one (ap (λ (q : Pair). q.topic) (dispatcher_found_pair (decode ws) d _ f.0 f.1) ∙ sym n)

  module _ (id : ℕ) (gs : List Group) (few : length (ack_groups (ledger_of (decode ws) topic) (dispatcher_nth (decode ws) d) gs).outside ≤ 64) where
    -- the dispatcher once its groups are acknowledged
    abbrev acked : Dispatcher
    acked = ack_groups (ledger_of (decode ws) topic) (dispatcher_nth (decode ws) d) gs

    -- and at the end of the ack
    abbrev pub ended : Dispatcher
    ended = advance_mark_delete (drop_complete id acked)

    -- it fits its slots
    fits : ShapedDispatcher e ended
    fits = advance_fits id acked (kept_fits (kept_groups (ledger_of (decode ws) topic) (dispatcher_nth (decode ws) d) gs) ackable.within.lists_fit few)

    -- its mark-delete is small
    pub ended_within : ended.mark_delete ≤ 4096
    ended_within =
        let k = kept_groups (ledger_of (decode ws) topic) (dispatcher_nth (decode ws) d) gs in
        let f = ackable.within.lists_fit.marks_fit in
        let e = (live_canon h).E_to in
        let m = valid_delete _ _ valid_one in
        let d = k.same_delete in
        let n = k.same_marks in
        advance_within id acked 4096 (omega arith) (omega arith)

    module _ {us : List ℕ} (w : us ≡ put ws (set_dispatcher (decode ws) d ended)) where
      -- it is there in the words written
      pub ended_in : DispatcherIn e us d
      ended_in = written_in d id ended ackable.within fits w

      -- with that mark-delete
      pub ended_is : (dispatcher_nth (decode us) d).mark_delete ≡ ended.mark_delete
      ended_is = ap (λ (x : Dispatcher). x.mark_delete) (written_is d id ended ackable.within fits w)
