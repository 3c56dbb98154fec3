-- Close: the consumer leaves. A shared one leaves its ring, its dispatcher loses its permits, and what it held waits in the
-- queue.
use Prim.Native.Nat.{ℕ, ◌+◌, ◌-◌, ◌≤◌}
use mathlib.Core.Path.{◌≡◌, refl, sym, ap, ◌∙◌, subst}
use mathlib.Core.Bool.{Bool, true, not, and-eq-true_iff}
use mathlib.Core.List.{List, ◌++◌, map}
use mathlib.Core.Option.{Option, none, some}
use native.Mathlib.Nat.{le_trans}
use native.Mathlib.Omega.{arith}
use lib.Dec.{eqb, leb}
use borrow.Author.Tests.{leb-true, not-false}
use Rattle.rules.specs.Permits.{zero_permits, less, least_total, most_total, total_in_range}
use Rattle.rules.specs.Table.{keep, count}
use Rattle.rules.specs.State.{Id, StoredMessage, Pair, same_pair, Consumer, Mark, Held, State, consumer_of, ledger_of, dispatcher, put_dispatcher}
use Rattle.rules.specs.Dispatcher.{with_attached, with_next, with_total, with_places, held_by, without_holder}
use Rattle.rules.specs.Outcome.{guard}
use Rattle.rules.specs.Outcome.Outcome.{done}
use Rattle.rules.specs.Outcome.Value.{closed}
use Rattle.rules.specs.Commands.{total_after_close, left_by, without_consumer, close_consumer, close_found, close}
use Rattle.rules.specs.Calls.Call.{Close}
use Rattle.rules.specs.Book.{Book, Who, updated, with_who, with_attached_ids, enter_close, enter_done, records_of}
use Rattle.rules.specs.Book.Who.{away, live_plain, attached_to}
use Rattle.rules.specs.Demand.{grants_of, costs_of}
use Rattle.rules.proofs.Table.{by_test, decides_numbers, turned_round, all_kept, length_keep, count_append, count_keep, count_parted, member_count, count_member}
use Rattle.rules.proofs.State.{decides_pairs, updated_here, updated_elsewhere, consumer_id, each_left}
use Rattle.rules.proofs.Demand.Sums.{sum_without}
use Rattle.rules.proofs.Demand.Invariant.{Agree, attached_count, Balanced, stands, held_in, Placed, Fits, Invariant}
use Rattle.rules.proofs.Demand.Known.{account, Known, known, known_plain, has_dispatcher}
use Rattle.rules.proofs.Demand.Changes.{balanced_moved, fits_elsewhere, attached_as, consumers_keep, ring_keeps, same_pairs}
use Rattle.rules.proofs.Demand.Outcomes.{Keeps, keeps_guard, keeps_kind}

-- ---- what a consumer held

module _ (i : ℕ) (queue : List ℕ) (held : List Held) where
  -- a position stands as often as before
  left_stands : (k : ℕ) → stands k (without_holder i held) (queue ++ held_by i held) ≡ stands k held queue
  unfolding without_holder held_by
  left_stands k =
      let a = count_append k queue (map (λ (x : Held). x.position) (keep (λ (x : Held). eqb i x.holder) held)) in
      let c = count_parted (λ (x : Held). eqb i x.holder) (λ (x : Held). x.position) k held in
      omega arith

  -- so entries stand where they should, over the ring without the consumer
  left_placed : {l : List StoredMessage} {ring : List ℕ} {handed : Id → Bool} {cursor : ℕ} {marks : List Mark}
      → Placed l ring handed cursor queue held marks
      → Placed l (keep (λ (j : ℕ). not (eqb i j)) ring) handed cursor (queue ++ held_by i held) (without_holder i held) marks
  unfolding without_holder
  left_placed {ring = ring} h = record {
    cursor_in_list = h.cursor_in_list;
    handed_below = h.handed_below;
    once = λ k g c. left_stands k ∙ h.once k g c;
    never = λ k g. left_stands k ∙ h.never k g;
    holders = all_kept (held_in ring) (held_in (keep (λ (j : ℕ). not (eqb i j)) ring)) (λ (x : Held). not (eqb i x.holder))
        (λ x e f.
        let a = member_count x.holder ring e in
        let c : count x.holder (keep (λ (j : ℕ). not (eqb i j)) ring) ≡ count x.holder ring = count_keep (λ (j : ℕ). not (eqb i j)) x.holder ring ∙ rw f in
        count_member x.holder (keep (λ (j : ℕ). not (eqb i j)) ring) (omega arith))
        held h.holders;
  }

-- ---- the consumer leaves

module _ (s : State) (b : Book) (h : Invariant s b) (i : ℕ) where
  -- nobody who is left is another
  left_live : (j : ℕ) → Agree (consumer_of (without_consumer s i) j) (updated eqb b.who i away j)
  left_live =
      each_left (λ (j : ℕ) (o : Option Consumer). Agree o (updated eqb b.who i away j)) s i
      (rw (updated_here decides_numbers b.who i away) tt)
      (λ j t. rw (updated_elsewhere decides_numbers b.who i away j t) (h.live j))

  -- a plain consumer
  closed_plain : b.who i ≡ live_plain → Invariant (without_consumer s i) (with_who b i away)
  unfolding without_consumer with_who
  closed_plain e =
      let nowhere : (q : Pair) → count i (b.attached q) ≡ 0 = λ q. h.attached_once q i ∙ ap (attached_count q) e in
      consumers_keep s b h (keep (λ (c : Consumer). not (eqb i c.id)) s.consumers) (updated eqb b.who i away)
      left_live (attached_as b i away nowhere h.attached_once) (λ q. fits_elsewhere i away (nowhere q) (h.fits q))

  module _ (c : Consumer) (a : Known b i c) where
    -- the ring without it
    abbrev ring : List ℕ
    ring = keep (λ (j : ℕ). not (eqb i j)) (b.attached c.pair)

    -- everybody else is attached as before, and it nowhere
    left_once : (q : Pair) (j : ℕ) → count j (updated same_pair b.attached c.pair ring q) ≡ attached_count q (updated eqb b.who i away j)
    unfolding updated
    left_once q j =
        by_test (same_pair q c.pair)
        (λ t. rw (t, count_keep (λ (k : ℕ). not (eqb i k)) j (b.attached c.pair))
        (by_test (eqb j i)
        (λ u. rw (u, decides_numbers.equal j i u, decides_numbers.self i))
        (λ u. rw (u, turned_round decides_numbers j i u, ← (decides_pairs.equal q c.pair t)) (h.attached_once q j))))
        (λ t. rw t
        (by_test (eqb j i)
        (λ u. rw (u, decides_numbers.equal j i u) (a.in_no_other q t))
        (λ u. rw u (h.attached_once q j))))

    -- the total loses its permits
    left_balanced : c.permits ≤ (dispatcher s c.pair).total_available_permits + zero_permits
        → Balanced (updated eqb b.who i away) ring (less (dispatcher s c.pair).total_available_permits c.permits)
    unfolding less costs_of grants_of
    left_balanced g =
        let total = (dispatcher s c.pair).total_available_permits in
        let who = updated eqb b.who i away in
        rw (
          sum_without costs_of who i (ap costs_of (updated_here decides_numbers b.who i away)) (b.attached c.pair),
          sum_without grants_of who i (ap grants_of (updated_here decides_numbers b.who i away)) (b.attached c.pair),
        )
        (balanced_moved b.who i (account c.pair a.grants a.costs) away (b.attached c.pair) total (total + zero_permits - c.permits)
        a.in_ring a.who_is (omega (arith, a.balanced)) (h.fits c.pair).ringed.balanced)

    -- the dispatcher that it leaves
    left_fits : c.permits ≤ (dispatcher s c.pair).total_available_permits + zero_permits
        → Fits c.pair (ledger_of s c.pair.topic) (updated eqb b.who i away) ring (b.handed_out c.pair) (b.acked c.pair)
        (left_by i (less (dispatcher s c.pair).total_available_permits c.permits) (dispatcher s c.pair))
    unfolding left_by with_total with_places with_next with_attached
    left_fits g =
        let d = dispatcher s c.pair in
        let f = h.fits c.pair in
        record {
          ringed = record {
            pair_is = f.ringed.pair_is;
            ring_is = ap (keep (λ (j : ℕ). not (eqb i j))) f.ringed.ring_is;
            ring_size = le_trans (length_keep (λ (j : ℕ). not (eqb i j)) (b.attached c.pair)) f.ringed.ring_size;
            balanced = left_balanced g;
          };
          marks_agree = f.marks_agree;
          placed = left_placed i d.redelivery d.in_flight f.placed;
        }

    -- a shared consumer
    closed_shared : c.permits ≤ (dispatcher s c.pair).total_available_permits + zero_permits
        → Invariant (put_dispatcher (without_consumer s i)
        (left_by i (less (dispatcher s c.pair).total_available_permits c.permits) (dispatcher s c.pair)))
        (with_attached_ids (with_who b i away) c.pair ring)
    unfolding without_consumer with_who with_attached_ids
    closed_shared g =
        let p = c.pair in
        let d = left_by i (less (dispatcher s p).total_available_permits c.permits) (dispatcher s p) in
        let f = left_fits g in
        ring_keeps s b h (keep (λ (x : Consumer). not (eqb i x.id)) s.consumers) p d b.pairs i away ring
        (same_pairs s b h p d f.ringed.pair_is (has_dispatcher s b h p i (omega (arith, a.in_ring)))) left_live left_once a.in_no_other f

-- ---- the call

-- a total in range was not cut off at 0
reached : (total permits : ℕ) → total_in_range (less total permits) ≡ true → permits ≤ total + zero_permits
unfolding total_in_range less
reached total permits e =
    let t = leb-true least_total (total + zero_permits - permits)
    ((and-eq-true_iff (leb least_total (total + zero_permits - permits)) (leb (total + zero_permits - permits) most_total)).0 e).0 in
    omega arith

module _ (s : State) (b : Book) (h : Invariant s b) (c : Consumer) (e : consumer_of s c.id ≡ some c) where
  -- the close of a live consumer
  close_live : Keeps s b (Close c.id) (close_consumer s c)
  unfolding close_consumer enter_done enter_close records_of total_after_close
  close_live =
      let x = Close c.id in
      let d = dispatcher s c.pair in
      keeps_kind s b h x c.kind _ _
      (λ k. rw (known_plain s b h c.id c e k) (closed_plain s b h c.id (known_plain s b h c.id c e k)))
      (λ k.
      let a = known s b h c.id c e k in
      subst (λ (leak : Bool). Keeps s b x (guard (not (total_in_range (total_after_close leak d.total_available_permits c.permits))) 9
      (done (closed true) (put_dispatcher (without_consumer s c.id)
      (left_by c.id (total_after_close leak d.total_available_permits c.permits) d)))))
      (sym h.leak_off)
      (keeps_guard s b h x _ 9 _ (λ t.
      rw a.who_is
      (closed_shared s b h c.id c a (reached d.total_available_permits c.permits
      (not-false (total_in_range (less d.total_available_permits c.permits)) t))))))

-- close keeps the invariant
pub close_keeps : (s : State) (b : Book) → Invariant s b → (i : ℕ) → Keeps s b (Close i) (close s i)
unfolding close close_found enter_done enter_close records_of
close_keeps s b h i = go (consumer_of s i) refl (h.live i)
  where
    -- an id that is not live enters nothing
    nobody : (w : Who) → Agree none w → enter_close b i w ≡ b
    nobody away x = refl
    nobody live_plain x = absurd x
    nobody (attached_to a) x = absurd x

    go : (o : Option Consumer) → consumer_of s i ≡ o → Agree o (b.who i) → Keeps s b (Close i) (close_found s o)
    go none e x = subst (λ (r : Book). Invariant s r) (sym (nobody (b.who i) x)) h
    go (some c) e x =
        let f = consumer_id s i c e in
        subst (λ (j : ℕ). Keeps s b (Close j) (close_consumer s c)) (sym f) (close_live s b h c (subst (λ (j : ℕ). consumer_of s j ≡ some c) f e))
