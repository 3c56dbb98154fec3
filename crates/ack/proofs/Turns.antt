-- A dispatcher while the ids of a list are acknowledged: what was written and what is ahead make up the whole. Its marks stay
-- as many, its outside ids are never fewer, and the rest stays as it was.
use mathlib.Core.Path.{◌≡◌, refl, sym, ap, ◌∙◌, subst}
use mathlib.Core.List.{List, [], ◌∷◌}
use Prim.Native.Nat.{ℕ, ◌≤◌}
use native.Mathlib.Omega.{arith}
use lib.Dec.{ltb}
use lib.Seq.{set-get_or}
use lib.ListN.{length, length-set}
use Rattle.rules.specs.State.{Id, StoredMessage, Dispatcher, State, ledger_of, topic_of, with_dispatchers}
use Rattle.rules.specs.Ledger.{position_of, batch_size_of}
use Rattle.rules.specs.Groups.{Group}
use Rattle.rules.specs.Dispatcher.{with_marks, mark_at, ack_mark, ack_id}
use Rattle.rules.specs.Commands.{ack_groups}
use Rattle.rules.proofs.Table.{by_test}
use Rattle.layout.specs.Layout.{decode, put}
use Rattle.layout.specs.Whole.{ShapedDispatcher}
use Rattle.layout.specs.Fields.{zero_dispatcher, dispatcher_nth, set_dispatcher}
use Rattle.layout.specs.Placed.{DispatcherIn}
use Rattle.layout.proofs.Store.{canon_entries, put_decode}
use Rattle.layout.proofs.Placed.{shaped_set_dispatcher}
use Rattle.operation_laws.proofs.Frame.{decode_after, dispatcher_twice, dispatcher_set_in, dispatcher_now_is}
use Rattle.dispatcher.specs.Completion.{Marked}
use Rattle.ack.specs.Ackable.{Ackable}
use Rattle.ack.proofs.Counts.{count_after}

-- ---- what stays

-- dispatcher x is d with other marks, as many, and other outside ids
pub record Kept (d x : Dispatcher) : Type 0 where
  pub same_pair : x.pair ≡ d.pair
  pub same_ring : x.attached ≡ d.attached
  pub same_delete : x.mark_delete ≡ d.mark_delete
  pub same_queue : x.redelivery ≡ d.redelivery
  pub same_flight : x.in_flight ≡ d.in_flight
  pub same_marks : length x.marks ≡ length d.marks

-- a dispatcher as it is
kept_all : (d : Dispatcher) → Kept d d
kept_all d = record { same_pair = refl; same_ring = refl; same_delete = refl; same_queue = refl; same_flight = refl; same_marks = refl }

-- an ack of one id
kept_id : (ledger : List StoredMessage) (d : Dispatcher) (i : Id) (incoming : List ℕ) → Kept d (ack_id ledger d i incoming)
unfolding ack_id with_marks
kept_id ledger d i incoming =
    by_test (ltb (position_of i ledger) (length ledger))
    (λ t. rw t (record {
      same_pair = refl;
      same_ring = refl;
      same_delete = refl;
      same_queue = refl;
      same_flight = refl;
      same_marks = length-set d.marks (position_of i ledger) (ack_mark (batch_size_of i ledger) incoming (mark_at d (position_of i ledger)));
    }))
    (λ t. rw t (record { same_pair = refl; same_ring = refl; same_delete = refl; same_queue = refl; same_flight = refl; same_marks = refl }))

-- one after another
kept_then : {d x y : Dispatcher} → Kept d x → Kept x y → Kept d y
kept_then h k =
    record {
      same_pair = k.same_pair ∙ h.same_pair;
      same_ring = k.same_ring ∙ h.same_ring;
      same_delete = k.same_delete ∙ h.same_delete;
      same_queue = k.same_queue ∙ h.same_queue;
      same_flight = k.same_flight ∙ h.same_flight;
      same_marks = k.same_marks ∙ h.same_marks;
    }

-- an ack of groups
pub kept_groups : (ledger : List StoredMessage) (d : Dispatcher) (gs : List Group) → Kept d (ack_groups ledger d gs)
unfolding ack_groups
kept_groups ledger d [] = kept_all d
kept_groups ledger d (g ∷ gs) = kept_then (kept_id ledger d g.id g.words) (kept_groups ledger (ack_id ledger d g.id g.words) gs)

-- it fits its slots where its outside ids do
pub kept_fits : {e : ℕ} {d x : Dispatcher} → Kept d x → ShapedDispatcher e d → length x.outside ≤ 64 → ShapedDispatcher e x
kept_fits k h o =
    record {
      ring_fits = rw k.same_ring h.ring_fits;
      outside_fits = o;
      queue_fits = rw k.same_queue h.queue_fits;
      flight_fits = rw k.same_flight h.flight_fits;
      marks_fit = rw k.same_marks h.marks_fit;
    }

-- every entry in flight has a mark still
pub kept_marked : {d x : Dispatcher} → Kept d x → Marked d → Marked x
kept_marked k h = record { each_has_mark = rw (k.same_flight, k.same_marks) h.each_has_mark }

-- ---- the loop

-- the words us are ws with another dispatcher d, and that with what is ahead is the whole
pub record Acking (ws us : List ℕ) (d topic : ℕ) (all ahead : List Group) : Type 0 where
  pub kept : Kept (dispatcher_nth (decode ws) d) (dispatcher_nth (decode us) d)
  pub written : us ≡ put ws (set_dispatcher (decode ws) d (dispatcher_nth (decode us) d))
  pub whole : ack_groups (ledger_of (decode ws) topic) (dispatcher_nth (decode us) d) ahead
      ≡ ack_groups (ledger_of (decode ws) topic) (dispatcher_nth (decode ws) d) all

-- at the start
pub acking_start : {e : ℕ} {ws : List ℕ} (d topic : ℕ) (all : List Group) → DispatcherIn e ws d → Acking ws ws d topic all all
unfolding set_dispatcher with_dispatchers
acking_start {e} {ws} d topic all h =
    record {
      kept = kept_all (dispatcher_nth (decode ws) d);
      written = rw (set-get_or (decode ws).dispatchers d zero_dispatcher) (sym (put_decode h.canon));
      whole = refl;
    }

module _ {e : ℕ} {ws us : List ℕ} (d topic : ℕ) (all gs : List Group) (h : Ackable e ws d topic) (j : Acking ws us d topic all gs)
    (b : length (ack_groups (ledger_of (decode ws) topic) (dispatcher_nth (decode ws) d) all).outside ≤ 64) where
  -- the outside ids so far fit
  few : length (dispatcher_nth (decode us) d).outside ≤ 64
  few =
      let q = ap (λ (x : Dispatcher). length x.outside) j.whole in
      let n = count_after (ledger_of (decode ws) topic) (dispatcher_nth (decode us) d) gs in omega arith

  -- so the dispatcher fits
  now_fits : ShapedDispatcher (decode ws).entries (dispatcher_nth (decode us) d)
  now_fits = rw (canon_entries h.within.canon) (kept_fits j.kept h.within.lists_fit few)

  -- the ledger is as it was
  pub same_ledger : ledger_of (decode us) topic ≡ ledger_of (decode ws) topic
  unfolding ledger_of topic_of set_dispatcher with_dispatchers
  same_ledger =
      ap (λ (t : State). ledger_of t topic)
      (decode_after ws (set_dispatcher (decode ws) d (dispatcher_nth (decode us) d)) (shaped_set_dispatcher (decode ws) h.within.canon.shaped d (dispatcher_nth (decode us) d) now_fits) j.written)

  -- the next group may be acknowledged
  pub acking_in : Ackable e us d topic
  acking_in =
      let l = ap (λ (m : List StoredMessage). length m) same_ledger in
      let k = j.kept.same_marks in
      let o = h.one_each in
      record {
        within = dispatcher_set_in ws (decode ws) d (dispatcher_nth (decode us) d) h.within.canon.shaped (canon_entries h.within.canon) now_fits j.written h.within.there;
        one_each = omega arith;
      }

  -- at the end
  pub acking_end : gs ≡ [] → us ≡ put ws (set_dispatcher (decode ws) d (ack_groups (ledger_of (decode ws) topic) (dispatcher_nth (decode ws) d) all))
  unfolding ack_groups
  acking_end l =
      let w : ack_groups (ledger_of (decode ws) topic) (dispatcher_nth (decode us) d) [] ≡ ack_groups (ledger_of (decode ws) topic) (dispatcher_nth (decode ws) d) all =
      ap (λ (gs : List Group). ack_groups (ledger_of (decode ws) topic) (dispatcher_nth (decode us) d) gs) (sym l) ∙ j.whole in
      j.written ∙ ap (λ (x : Dispatcher). put ws (set_dispatcher (decode ws) d x)) w

  module _ (g : Group) (rest : List Group) (k : gs ≡ g ∷ rest) where
    -- the whole from the next group on
    ahead : ack_groups (ledger_of (decode ws) topic) (ack_id (ledger_of (decode ws) topic) (dispatcher_nth (decode us) d) g.id g.words) rest
        ≡ ack_groups (ledger_of (decode ws) topic) (dispatcher_nth (decode ws) d) all
    unfolding ack_groups
    ahead = ap (λ (gs : List Group). ack_groups (ledger_of (decode ws) topic) (dispatcher_nth (decode us) d) gs) (sym k) ∙ j.whole

    -- there is room for what this group adds
    room : length (ack_id (ledger_of (decode ws) topic) (dispatcher_nth (decode us) d) g.id g.words).outside ≤ 64
    room =
        let q = ap (λ (x : Dispatcher). length x.outside) ahead in
        let n = count_after (ledger_of (decode ws) topic) (ack_id (ledger_of (decode ws) topic) (dispatcher_nth (decode us) d) g.id g.words) rest in
        omega arith

    -- in the words as they are
    pub acking_room : length (ack_id (ledger_of (decode us) topic) (dispatcher_nth (decode us) d) g.id g.words).outside ≤ 64
    acking_room = subst (λ (m : List StoredMessage). length (ack_id m (dispatcher_nth (decode us) d) g.id g.words).outside ≤ 64) (sym same_ledger) room

    -- a turn
    pub acking_turn : {vs : List ℕ}
        → vs ≡ put us (set_dispatcher (decode us) d (ack_id (ledger_of (decode us) topic) (dispatcher_nth (decode us) d) g.id g.words))
        → Acking ws vs d topic all rest
    acking_turn {vs} f =
        let l : List StoredMessage = ledger_of (decode ws) topic in
        let x : Dispatcher = dispatcher_nth (decode us) d in
        let f' : vs ≡ put us (set_dispatcher (decode us) d (ack_id l x g.id g.words)) =
        f ∙ ap (λ (m : List StoredMessage). put us (set_dispatcher (decode us) d (ack_id m x g.id g.words))) same_ledger in
        let w : vs ≡ put ws (set_dispatcher (decode ws) d (ack_id l x g.id g.words)) =
        dispatcher_twice ws (decode ws) d x (λ (y : Dispatcher). ack_id l y g.id g.words) h.within.canon.shaped now_fits h.within.there j.written f' in
        let fits : ShapedDispatcher (decode ws).entries (ack_id l x g.id g.words) = kept_fits (kept_id l x g.id g.words) now_fits room in
        let n : dispatcher_nth (decode vs) d ≡ ack_id l x g.id g.words =
        dispatcher_now_is ws (decode ws) d (ack_id l x g.id g.words) h.within.canon.shaped fits w h.within.there in
        record {
          kept = subst (λ (y : Dispatcher). Kept (dispatcher_nth (decode ws) d) y) (sym n) (kept_then j.kept (kept_id l x g.id g.words));
          written = w ∙ ap (λ (y : Dispatcher). put ws (set_dispatcher (decode ws) d y)) (sym n);
          whole = ap (λ (y : Dispatcher). ack_groups l y rest) n ∙ ahead;
        }
