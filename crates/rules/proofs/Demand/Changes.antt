-- Changes that several calls make, each with what it keeps: other consumers, another record of a dispatcher, and permits that
-- a consumer and its dispatcher gain or lose together.
use Prim.Native.Nat.{ℕ, ◌+◌, ◌≤◌}
use mathlib.Core.Path.{◌≡◌, refl, sym, ap, ◌∙◌, subst, subst₂}
use mathlib.Core.Bool.{Bool, true, false, cond}
use mathlib.Core.List.{List, [], ◌∷◌, ◌++◌, map}
use mathlib.Core.Option.{Option, some}
use native.Mathlib.Omega.{arith}
use lib.Dec.{eqb}
use Rattle.rules.specs.Permits.{zero_permits, least_permits}
use Rattle.rules.specs.Table.{find, put, count, is_some}
use Rattle.rules.specs.State.{Id, StoredMessage, Pair, same_pair, Consumer, Acked, Dispatcher, State, by_pair, topic_of, consumer_of, dispatcher_of, ledger_of, dispatcher, insert, with_consumers, with_dispatchers, put_consumer, put_dispatcher}
use Rattle.rules.specs.State.Kind.{plain, shared}
use Rattle.rules.specs.Dispatcher.{with_total}
use Rattle.rules.specs.Commands.{with_permits}
use Rattle.rules.specs.Book.{Book, Who, updated, with_who}
use Rattle.rules.specs.Book.Who.{away, live_plain, attached_to}
use Rattle.rules.specs.Demand.{grants_of, costs_of, sum_over}
use Rattle.rules.proofs.Table.{by_test, decides_numbers, keys_put, once_put}
use Rattle.rules.proofs.State.{decides_pairs, updated_here, updated_elsewhere, consumer_id, each_id, each_pair}
use Rattle.rules.proofs.Demand.Sums.{sum_absent, sum_once}
use Rattle.rules.proofs.Demand.Invariant.{Agree, attached_count, Balanced, Fits, FitsAt, Invariant}
use Rattle.rules.proofs.Demand.Known.{account, Known, not_plain, has_dispatcher}

-- ---- who an id is changes

-- a total stays balanced where the id that changes is not in the ring
balanced_elsewhere : (who : ℕ → Who) (i : ℕ) (w : Who) (ring : List ℕ) (total : ℕ) → count i ring ≡ 0 → Balanced who ring total
    → Balanced (updated eqb who i w) ring total
balanced_elsewhere who i w ring total e h = rw (sum_absent costs_of who i w ring e, sum_absent grants_of who i w ring e) h

-- a total that moves with the account of an id of the ring stays balanced
pub balanced_moved : (who : ℕ → Who) (i : ℕ) (v w : Who) (ring : List ℕ) (total new : ℕ) → count i ring ≡ 1 → who i ≡ v
    → new + costs_of w + grants_of v ≡ total + costs_of v + grants_of w → Balanced who ring total → Balanced (updated eqb who i w) ring new
balanced_moved who i v w ring total new e f g h =
    let k : sum_over costs_of (updated eqb who i w) ring + costs_of v ≡ sum_over costs_of who ring + costs_of w = rw (← f) (sum_once costs_of who i w ring e) in
    let l : sum_over grants_of (updated eqb who i w) ring + grants_of v ≡ sum_over grants_of who ring + grants_of w = rw (← f) (sum_once grants_of who i w ring e) in
    omega arith

-- a dispatcher fits as before where the id that changes is not in its ring
pub fits_elsewhere : {p : Pair} {l : List StoredMessage} {who : ℕ → Who} {ring : List ℕ} {handed : Id → Bool}
    {acked : Id → Acked} {d : Dispatcher} (i : ℕ) (w : Who)
    → count i ring ≡ 0 → Fits p l who ring handed acked d → Fits p l (updated eqb who i w) ring handed acked d
fits_elsewhere {who = who} {ring = ring} {d = d} i w e h =
    let y = h.ringed in
    record {
      ringed = record {
        pair_is = y.pair_is;
        ring_is = y.ring_is;
        ring_size = y.ring_size;
        balanced = balanced_elsewhere who i w ring d.total_available_permits e y.balanced;
      };
      marks_agree = h.marks_agree;
      placed = h.placed;
    }

-- an id stays attached as it is where who it is says so
pub attached_as : (b : Book) (i : ℕ) (w : Who) → ((q : Pair) → count i (b.attached q) ≡ attached_count q w)
    → ((q : Pair) (j : ℕ) → count j (b.attached q) ≡ attached_count q (b.who j))
    → (q : Pair) (j : ℕ) → count j (b.attached q) ≡ attached_count q (updated eqb b.who i w j)
unfolding updated
attached_as b i w e h q j = by_test (eqb j i) (λ t. rw (t, decides_numbers.equal j i t) (e q)) (λ t. rw t (h q j))

-- who is live agrees where the consumer that is put does
pub live_put : (s : State) (b : Book) → Invariant s b → (i : ℕ) (c : Consumer) (w : Who) → i ≡ c.id → Agree (some c) w
    → (j : ℕ) → Agree (consumer_of (put_consumer s c) j) (updated eqb b.who i w j)
live_put s b h i c w e a =
    each_id (λ (j : ℕ) (o : Option Consumer). Agree o (updated eqb b.who i w j)) s i c e
    (rw (updated_here decides_numbers b.who i w) a)
    (λ j t. rw (updated_elsewhere decides_numbers b.who i w j t) (h.live j))

-- ---- consumers change, and perhaps a dispatcher

module _ (s : State) (b : Book) (h : Invariant s b) where
  -- other consumers, and who they are
  pub consumers_keep : (cs : List Consumer) (who : ℕ → Who) → ((i : ℕ) → Agree (consumer_of (with_consumers s cs) i) (who i))
      → ((q : Pair) (i : ℕ) → count i (b.attached q) ≡ attached_count q (who i))
      → ((q : Pair) → Fits q (ledger_of s q.topic) who (b.attached q) (b.handed_out q) (b.acked q) (dispatcher s q))
      → Invariant (with_consumers s cs)
      (record { topics = b.topics; pairs = b.pairs; who = who; attached = b.attached; handed_out = b.handed_out; acked = b.acked })
  unfolding with_consumers ledger_of topic_of dispatcher dispatcher_of
  consumers_keep cs who live once fits = record {
    leak_off = h.leak_off;
    pairs = h.pairs;
    pairs_once = h.pairs_once;
    lists = h.lists;
    ids_once = h.ids_once;
    batches = h.batches;
    live = live;
    attached_once = once;
    fits = fits;
  }

  -- a dispatcher besides; the book may change in all but its lists
  pub put_keeps : (cs : List Consumer) (p : Pair) (d : Dispatcher) (r : Book) → r.topics ≡ b.topics
      → map (λ (y : Dispatcher). y.pair) (put by_pair d s.dispatchers) ≡ r.pairs
      → ((i : ℕ) → Agree (consumer_of (with_consumers s cs) i) (r.who i))
      → ((q : Pair) (i : ℕ) → count i (r.attached q) ≡ attached_count q (r.who i))
      → FitsAt s r p d → ((q : Pair) → same_pair q p ≡ false → FitsAt s r q (dispatcher s q))
      → Invariant (put_dispatcher (with_consumers s cs) d) r
  unfolding put_dispatcher with_dispatchers with_consumers ledger_of topic_of consumer_of dispatcher dispatcher_of
  put_keeps cs p d r e pairs live once here there = record {
    leak_off = h.leak_off;
    pairs = pairs;
    pairs_once = once_put by_pair decides_pairs d s.dispatchers h.pairs_once;
    lists = λ n. ap (λ (f : ℕ → List StoredMessage). f n) e ∙ h.lists n;
    ids_once = h.ids_once;
    batches = h.batches;
    live = live;
    attached_once = once;
    fits = each_pair (FitsAt s r) (with_consumers s cs) p d here.ringed.pair_is here there;
  }

  -- the pairs stay where the dispatcher is one already
  pub same_pairs : (p : Pair) (d : Dispatcher) → d.pair ≡ p → is_some (dispatcher_of s p) ≡ true
      → map (λ (y : Dispatcher). y.pair) (put by_pair d s.dispatchers) ≡ b.pairs
  unfolding dispatcher_of
  same_pairs p d e x =
      let now = map (λ (y : Dispatcher). y.pair) s.dispatchers in
      keys_put by_pair decides_pairs d s.dispatchers
      ∙ ap (λ (t : Bool). cond t now (now ++ d.pair ∷ [])) (ap (λ (q : Pair). is_some (find by_pair q s.dispatchers)) e ∙ x) ∙ h.pairs

  -- a dispatcher with another ring: an id joins or leaves it
  pub ring_keeps : (cs : List Consumer) (p : Pair) (d : Dispatcher) (ps : List Pair) (i : ℕ) (w : Who) (ring : List ℕ)
      → map (λ (y : Dispatcher). y.pair) (put by_pair d s.dispatchers) ≡ ps
      → ((j : ℕ) → Agree (consumer_of (with_consumers s cs) j) (updated eqb b.who i w j))
      → ((q : Pair) (j : ℕ) → count j (updated same_pair b.attached p ring q) ≡ attached_count q (updated eqb b.who i w j))
      → ((q : Pair) → same_pair q p ≡ false → count i (b.attached q) ≡ 0)
      → Fits p (ledger_of s p.topic) (updated eqb b.who i w) ring (b.handed_out p) (b.acked p) d
      → Invariant (put_dispatcher (with_consumers s cs) d)
      (record { topics = b.topics; pairs = ps; who = updated eqb b.who i w; attached = updated same_pair b.attached p ring; handed_out = b.handed_out; acked = b.acked })
  ring_keeps cs p d ps i w ring pairs live once nowhere here =
      let who = updated eqb b.who i w in
      put_keeps cs p d
      (record { topics = b.topics; pairs = ps; who = who; attached = updated same_pair b.attached p ring; handed_out = b.handed_out; acked = b.acked })
      refl pairs live once
      (subst (λ (r : List ℕ). Fits p (ledger_of s p.topic) who r (b.handed_out p) (b.acked p) d)
      (sym (updated_here decides_pairs b.attached p ring)) here)
      (λ q t. subst (λ (r : List ℕ). Fits q (ledger_of s q.topic) who r (b.handed_out q) (b.acked q) (dispatcher s q))
      (sym (updated_elsewhere decides_pairs b.attached p ring q t))
      (fits_elsewhere i w (nowhere q t) (h.fits q)))

-- ---- a consumer's record changes, and not its account

-- a consumer of the same id, kind, pair and permits agrees as the other did
pub same_account : (c d : Consumer) → d.kind ≡ c.kind → d.pair ≡ c.pair → d.permits ≡ c.permits → (w : Who)
    → Agree (some c) w → Agree (some d) w
same_account c d k p n away h = h
same_account c d k p n live_plain h = k ∙ h
same_account c d k p n (attached_to a) h =
    record { kind_is = k ∙ h.kind_is; pair_is = p ∙ h.pair_is; balanced = ap (λ (x : ℕ). x + a.costs) n ∙ h.balanced; least = rw n h.least }

-- a plain consumer agrees with whatever another plain one does
pub same_plain : (c d : Consumer) → c.kind ≡ plain → d.kind ≡ plain → (w : Who) → Agree (some c) w → Agree (some d) w
same_plain c d k e away h = h
same_plain c d k e live_plain h = e
same_plain c d k e (attached_to a) h = not_plain c h.kind_is k

-- a live consumer's record put in place
pub reconsumed : (s : State) (b : Book) → Invariant s b → (i : ℕ) (c d : Consumer) → consumer_of s i ≡ some c → i ≡ d.id
    → ((w : Who) → Agree (some c) w → Agree (some d) w) → Invariant (put_consumer s d) b
unfolding put_consumer
reconsumed s b h i c d e j f =
    consumers_keep s b h (insert d s.consumers) b.who
    (each_id (λ (k : ℕ) (o : Option Consumer). Agree o (b.who k)) s i d j (f (b.who i) (rw e at (h.live i))) (λ k t. h.live k))
    h.attached_once h.fits

-- ---- a dispatcher's record changes, and not its ring or total

-- such a dispatcher put in place; the book may change for its pair in what was handed out and in what is acknowledged
pub replaced : (s : State) (b : Book) → Invariant s b → (p : Pair) (d : Dispatcher) → is_some (dispatcher_of s p) ≡ true
    → (handed : Pair → Id → Bool) → ((q : Pair) → same_pair q p ≡ false → handed q ≡ b.handed_out q)
    → (acked : Pair → Id → Acked) → ((q : Pair) → same_pair q p ≡ false → acked q ≡ b.acked q)
    → Fits p (ledger_of s p.topic) b.who (b.attached p) (handed p) (acked p) d
    → Invariant (put_dispatcher s d)
    (record { topics = b.topics; pairs = b.pairs; who = b.who; attached = b.attached; handed_out = handed; acked = acked })
unfolding with_consumers
replaced s b h p d x handed hs acked fs y =
    put_keeps s b h s.consumers p d
    (record { topics = b.topics; pairs = b.pairs; who = b.who; attached = b.attached; handed_out = handed; acked = acked })
    refl (same_pairs s b h p d y.ringed.pair_is x) h.live h.attached_once y
    (λ q t.
    subst₂ (λ (g : Id → Bool) (f : Id → Acked). Fits q (ledger_of s q.topic) b.who (b.attached q) g f (dispatcher s q))
    (sym (hs q t)) (sym (fs q t)) (h.fits q))

-- ---- permits

-- a shared consumer and its dispatcher gain or lose permits together, as its account does
pub charged : (s : State) (b : Book) → Invariant s b → (i : ℕ) (c : Consumer) → consumer_of s i ≡ some c → c.kind ≡ shared
    → (a : Known b i c) (n total g k : ℕ) → n + k ≡ g + zero_permits → least_permits ≤ n
    → total + k + a.grants ≡ (dispatcher s c.pair).total_available_permits + a.costs + g
    → Invariant (put_dispatcher (put_consumer s (with_permits c n)) (with_total (dispatcher s c.pair) total))
    (with_who b i (account c.pair g k))
unfolding put_consumer with_permits with_total with_who costs_of grants_of
charged s b h i c e kind a n total g k balance least moved =
    let p = c.pair in
    let d = dispatcher s p in
    let w = account p g k in
    let f = h.fits p in
    put_keeps s b h (insert (with_permits c n) s.consumers) p (with_total d total) (with_who b i w)
    refl (same_pairs s b h p (with_total d total) f.ringed.pair_is (has_dispatcher s b h p i (omega (arith, a.in_ring))))
    (live_put s b h i (with_permits c n) w (consumer_id s i c e) (record { kind_is = kind; pair_is = refl; balanced = balance; least = least }))
    (attached_as b i w (λ q. h.attached_once q i ∙ ap (attached_count q) a.who_is) h.attached_once)
    (record {
      ringed = record {
        pair_is = f.ringed.pair_is;
        ring_is = f.ringed.ring_is;
        ring_size = f.ringed.ring_size;
        balanced = balanced_moved b.who i (account p a.grants a.costs) w (b.attached p) d.total_available_permits total
            a.in_ring a.who_is moved f.ringed.balanced;
      };
      marks_agree = f.marks_agree;
      placed = f.placed;
    })
    (λ q t. fits_elsewhere i w (a.in_no_other q t) (h.fits q))
