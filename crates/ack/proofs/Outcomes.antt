-- The rule of ack by the consumer's slot: its ways out, one for each return of the code; and what a valid state gives the
-- dispatcher that acknowledges.
use mathlib.Core.Path.{◌≡◌, refl, sym, ap, ◌∙◌, subst}
use mathlib.Core.Logic.{⊎_elim}
use mathlib.Core.Bool.{Bool, true, false, not}
use mathlib.Core.List.Memᴰ
use mathlib.Core.List.{List, [], ◌∷◌, ◌++◌, map, Memᴰ}
use mathlib.Core.Option.{Option, none, some}
use Prim.Native.Nat.{ℕ, ◌+◌, ◌*◌, ◌≤◌, ◌<◌}
use native.Mathlib.Omega.{arith}
use lib.Dec.{eqb, ltb}
use lib.ListN.{length}
use borrow.Author.Tests.{eq-eqb, ne_eqb}
use Rattle.rules.specs.Table.{Every, is_some}
use Rattle.rules.specs.State.{StoredMessage, Pair, Held, Dispatcher, State, by_id, by_pair, ledger_of, put_dispatcher}
use Rattle.rules.specs.State.Kind.{plain, shared}
use Rattle.rules.specs.Groups.{Group, groups}
use Rattle.rules.specs.Outcome.{Value, guard}
use Rattle.rules.specs.Outcome.Outcome.{refused, done}
use Rattle.rules.specs.Outcome.Value.{mark_delete_after}
use Rattle.rules.specs.Dispatcher.{drop_complete, advance_mark_delete}
use Rattle.rules.specs.Commands.{with_groups, ack, ack_groups, ack_shared}
use Rattle.rules.specs.Calls.{rule, bit_of, value_number}
use Rattle.rules.specs.Calls.Call.{Ack}
use Rattle.rules.specs.Valid.{ValidDispatcher}
use Rattle.rules.proofs.Says.{every_head, every_tail}
use Rattle.layout.specs.Layout.{decode}
use Rattle.layout.specs.Canon.{CanonStore}
use Rattle.layout.specs.Fields.{consumer_nth, dispatcher_nth, set_dispatcher}
use Rattle.layout.proofs.Placed.{dispatcher_in}
use Rattle.store.specs.Find.{slot}
use Rattle.operation_laws.proofs.Frame.{guard_stop, guard_pass, kind_plain, kind_shared, live_found, live_missing, dispatcher_found, dispatcher_found_pair, set_dispatcher_put}
use Rattle.dispatcher.specs.Completion.{Marked}
use Rattle.ack.specs.Ackable.{Ackable}
use Rattle.ack.proofs.Turns.{kept_groups}
use Rattle.ack.proofs.Finish.{finish_pair}

-- ---- the value

-- mark-delete, and whether it moved, as a number
pub value_moved : (k : ℕ) (moved : Bool) → value_number (mark_delete_after k moved) ≡ k * 2 + bit_of moved
unfolding value_number
value_moved k moved = refl

-- it did not move
pub stayed : (from to : ℕ) → from ≡ to → to * 2 + bit_of (not (eqb from to)) ≡ to * 2
unfolding bit_of
stayed from to e = rw (eq-eqb from to e) (omega arith)

-- it moved
pub went : (from to : ℕ) → (from ≡ to → ⊥) → to * 2 + bit_of (not (eqb from to)) ≡ to * 2 + 1
unfolding bit_of
went from to f = rw (ne_eqb from to f)

-- a plain ack has no value
pub value_plain : value_number (mark_delete_after 0 false) ≡ 0
unfolding value_number bit_of
value_plain = refl

-- ---- the rule

-- a dispatcher after a shared ack
abbrev pub finished : ℕ → List StoredMessage → Dispatcher → List Group → Dispatcher
finished id ledger x gs = advance_mark_delete (drop_complete id (ack_groups ledger x gs))

-- the value of the ack
abbrev pub value_of : Dispatcher → Dispatcher → Value
value_of x y = mark_delete_after y.mark_delete (not (eqb x.mark_delete y.mark_delete))

-- an id that is not live
pub ack_dead : (s : State) (id : ℕ) (list : List ℕ) → length s.consumers ≤ slot by_id id s.consumers → rule s (Ack id list) ≡ refused 4
unfolding rule ack
ack_dead s id list h = live_missing s (slot by_id id s.consumers) id refl _ h

-- nothing is there
nothing_there : {A : Type 0} (o : Option A) → is_some o ≡ false → o ≡ none
unfolding is_some
nothing_there none e = refl
nothing_there (some a) e = let z : ◌≡◌ {A = ℕ} 0 1 = cc in let no : ⊥ = omega arith in absurd no

module _ (s : State) (i id : ℕ) (list : List ℕ) (e : i ≡ slot by_id id s.consumers) (h : i < length s.consumers) where
  -- a list that is not of the form
  pub ack_formless : is_some (groups list) ≡ false → rule s (Ack id list) ≡ refused 10
  unfolding rule ack with_groups
  ack_formless n = live_found s i id e _ h ∙ rw (nothing_there (groups list) n)

  module _ (gs : List Group) (r : groups list ≡ some gs) where
    -- a plain consumer
    pub ack_plain : (consumer_nth s i).kind ≡ plain → rule s (Ack id list) ≡ done (mark_delete_after 0 false) s
    unfolding rule ack with_groups
    ack_plain k = live_found s i id e _ h ∙ rw r (kind_plain _ _ _ k)

    module _ (k : (consumer_nth s i).kind ≡ shared) (d topic : ℕ) (f : d ≡ slot by_pair (consumer_nth s i).pair s.dispatchers) (g : d < length s.dispatchers)
        (n : topic ≡ (consumer_nth s i).pair.topic) where
      -- the dispatcher has the consumer's topic
      topic_is : (dispatcher_nth s d).pair.topic ≡ topic
      topic_is = ap (λ (p : Pair). p.topic) (dispatcher_found_pair s d (consumer_nth s i).pair f g) ∙ sym n

      -- the rule with the dispatcher at hand
      at_hand : rule s (Ack id list) ≡
          guard (ltb 64 (length (ack_groups (ledger_of s topic) (dispatcher_nth s d) gs).outside)) 11
          (done
          (value_of (dispatcher_nth s d) (finished id (ledger_of s topic) (dispatcher_nth s d) gs))
          (put_dispatcher s (finished id (ledger_of s topic) (dispatcher_nth s d) gs)))
      unfolding rule ack with_groups ack_shared
      at_hand = live_found s i id e _ h ∙ rw r (kind_shared _ _ _ k ∙ rw (dispatcher_found s d (consumer_nth s i).pair f g, ← topic_is))

      -- outside ids would pass 64
      pub ack_over : ltb 64 (length (ack_groups (ledger_of s topic) (dispatcher_nth s d) gs).outside) ≡ true → rule s (Ack id list) ≡ refused 11
      ack_over o = at_hand ∙ guard_stop _ _ _ o

      -- the pair stays
      pair_is : (finished id (ledger_of s topic) (dispatcher_nth s d) gs).pair ≡ (consumer_nth s i).pair
      pair_is =
          finish_pair id (ack_groups (ledger_of s topic) (dispatcher_nth s d) gs)
          ∙ (kept_groups (ledger_of s topic) (dispatcher_nth s d) gs).same_pair
          ∙ dispatcher_found_pair s d (consumer_nth s i).pair f g

      -- done
      pub ack_done : ltb 64 (length (ack_groups (ledger_of s topic) (dispatcher_nth s d) gs).outside) ≡ false
          → rule s (Ack id list) ≡ done
          (value_of (dispatcher_nth s d) (finished id (ledger_of s topic) (dispatcher_nth s d) gs))
          (set_dispatcher s d (finished id (ledger_of s topic) (dispatcher_nth s d) gs))
      ack_done o =
          at_hand ∙ guard_pass _ _ _ o
          ∙ ap (done (value_of (dispatcher_nth s d) (finished id (ledger_of s topic) (dispatcher_nth s d) gs))) (sym (set_dispatcher_put s d (consumer_nth s i).pair f (finished id (ledger_of s topic) (dispatcher_nth s d) gs) g pair_is))

-- ---- what a valid state gives

-- what holds of all places holds of those in flight
in_flight_below : (n : ℕ) (l : List Held) (queue : List ℕ) → Every (λ (k : ℕ). k < n) (map (λ (h : Held). h.position) l ++ queue) → Every (λ (h : Held). h.position < n) l
in_flight_below n [] queue f h m = absurd (Memᴰ.not-nil m)
in_flight_below n (a ∷ l) queue f h m =
    ⊎_elim (λ (q : h ≡ a). subst (λ (x : Held). x.position < n) (sym q) (every_head f))
    (λ (k : Memᴰ h l). in_flight_below n l queue (every_tail f) h k)
    (Memᴰ.cases_cons m)

module _ (s : State) (x : Dispatcher) (v : ValidDispatcher s x) where
  -- every entry in flight has a mark
  pub valid_marked : Marked x
  valid_marked =
      let c = v.cursor_in_ledger in
      let o = v.entry_marks.one_each in
      record {
        each_has_mark = λ h m. let p : h.position < x.cursor = in_flight_below x.cursor x.in_flight x.redelivery v.places.places_below_cursor h m in omega arith;
      }

  -- mark-delete is within the marks
  pub valid_delete : x.mark_delete ≤ length x.marks
  valid_delete = let m = v.mark_delete_in_ledger in let o = v.entry_marks.one_each in omega arith

-- groups may be acknowledged
pub valid_ackable : {e : ℕ} {ws : List ℕ} (d topic : ℕ) → CanonStore e ws → d < length (decode ws).dispatchers
    → ValidDispatcher (decode ws) (dispatcher_nth (decode ws) d) → (dispatcher_nth (decode ws) d).pair.topic ≡ topic → Ackable e ws d topic
valid_ackable {e} {ws} d topic c h w q =
    record {
      within = dispatcher_in c d h;
      one_each = w.entry_marks.one_each ∙ ap (λ (n : ℕ). length (ledger_of (decode ws) n)) q;
    }
