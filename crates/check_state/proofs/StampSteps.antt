-- Positions told apart by stamps: what the loops of `places_fresh` and `flight_fresh` turn on. A position carries the stamp
-- exactly where it did before or was passed, so that a position that carries it is not fresh.
use mathlib.Core.Path.{◌≡◌, refl, sym, ap, ◌∙◌, subst}
use mathlib.Core.Bool.{Bool, true, false, not, ◌&&◌, ◌||◌, or-false, or-true, or_assoc, and-false, and_assoc, and-eq-true_iff, false≢true}
use mathlib.Core.List.{List}
use Prim.Native.Nat.{ℕ, ◌+◌, ◌≤◌, ◌<◌}
use native.Mathlib.Omega.{arith}
use lib.Dec.{eqb, ltb}
use lib.ListN.{length, get_or, set}
use lib.Seq.{get_or-set_same, get_or-set_other}
use borrow.Author.Tests.{eqb-true, eqb-false, eq-eqb, ne_eqb, ltb-true}
use Rattle.rules.proofs.Table.{by_test}
use Rattle.layout.specs.Offsets.{flight_in, held_in}
use Rattle.check_rows.specs.Below.{each_below, some_below}
use Rattle.check_rows.specs.Rows.{row, among}
use Rattle.check_state.specs.Stamps.{stamped, Under}
use Rattle.check_state.specs.Places.{fresh_place, fresh_places, Unused, Stepped, Placed, Flown, held_right, holders_right, places_right}
use Rattle.check_state.specs.declared.stamps.Stamps.{Stamps}
use Rattle.check_rows.proofs.Below.{each_turn, each_stop, each_same, some_next}
use Rattle.check_rows.proofs.Among.{among_none}
use Rattle.store.proofs.Tests.{fails, passes}

-- the list after a position is stamped: that position carries the stamp, and others as before
set_stamped : (now : List ℕ) (p q stamp : ℕ) → p < length now → stamped (set now p stamp) stamp q ≡ (stamped now stamp q || eqb q p)
unfolding stamped
set_stamped now p q stamp h =
    by_test (eqb q p)
    (λ t. let e = eqb-true q p t in
    rw (t, e) (eq-eqb (get_or (set now p stamp) p 0) stamp (get_or-set_same now p stamp 0 h) ∙ sym (or-true (eqb (get_or now p 0) stamp))))
    (λ t. rw t (ap (λ (v : ℕ). eqb v stamp) (get_or-set_other now p q stamp 0 (eqb-false q p t)) ∙ sym (or-false (eqb (get_or now q 0) stamp))))

-- no stamp is above the one that is put on
pub set_under : (now : List ℕ) (p stamp : ℕ) → p < length now → Under now (stamp + 1) → Under (set now p stamp) (stamp + 1)
set_under now p stamp h u q =
    by_test (eqb q p)
    (λ t. let e = get_or-set_same now p stamp 0 h in rw (eqb-true q p t, e) (omega arith))
    (λ t. rw (get_or-set_other now p q stamp 0 (eqb-false q p t)) (u q))

module _ (ws : List ℕ) (first w cursor : ℕ) (before : Stamps) where
  -- nothing is passed yet
  pub placed_start : Placed ws first w 0 cursor before before true
  unfolding fresh_places each_below
  placed_start =
      record {
        answer = refl;
        seen = λ e p h. sym (rw (among_none ws first w p) (or-false (stamped before.list before.stamp p)));
        same = refl;
      }

  module _ (i : ℕ) {now : Stamps} (so_far : Placed ws first w i cursor before now true)
      {p : ℕ} (here : p ≡ row ws first w i) (room : cursor ≤ 4096) {after : Stamps} {r : Bool} (step : Stepped p cursor now after r) where
    -- what is answered of it is whether it is fresh
    fresh_here : r ≡ fresh_place ws first w cursor (stamped before.list before.stamp) i
    fresh_here =
        step.answer
        ∙ by_test (ltb p cursor)
        (λ t. let l = ltb-true p cursor t in rw (← here, t) (ap not (so_far.seen refl p (omega arith))))
        (λ t. rw (← here, t))

    -- one that is not fresh
    pub placed_stop : (n : ℕ) → i < n → r ≡ false → Placed ws first w n cursor before after false
    unfolding fresh_places
    placed_stop n h f =
        record {
          answer = each_stop (fresh_place ws first w cursor (stamped before.list before.stamp)) n i h (sym fresh_here ∙ f);
          seen = λ e. absurd (false≢true e);
          same = step.same ∙ so_far.same;
        }

    module _ (yes : r ≡ true) where
      -- a fresh one is below the cursor
      below : p < cursor
      below = ltb-true p cursor ((and-eq-true_iff (ltb p cursor) (not (stamped now.list now.stamp p))).0 (sym step.answer ∙ yes)).0

      -- what carries the stamp, one position further
      seen_next : (q : ℕ) → q < 4096 → stamped after.list after.stamp q ≡ (stamped before.list before.stamp q || among ws first w (i + 1) q)
      unfolding among
      seen_next q h =
          let l = now.whole in
          let b = below in
          let inside : p < length now.list = omega arith in
          rw (step.put yes, step.same)
          (set_stamped now.list p q now.stamp inside
          ∙ rw here (ap (λ (t : Bool). t || eqb q (row ws first w i)) (so_far.seen refl q h))
          ∙ or_assoc (stamped before.list before.stamp q) (some_below (λ j. eqb q (row ws first w j)) i) (eqb q (row ws first w i))
          ∙ ap (λ (t : Bool). stamped before.list before.stamp q || t) (sym (some_next (λ j. eqb q (row ws first w j)) i)))

      -- a fresh position is stamped
      pub placed_turn : Placed ws first w (i + 1) cursor before after true
      unfolding fresh_places
      placed_turn =
          record {
            answer = sym (each_turn (fresh_place ws first w cursor (stamped before.list before.stamp)) i (sym so_far.answer) (sym fresh_here ∙ yes));
            seen = λ e. seen_next;
            same = step.same ∙ so_far.same;
          }

  -- all are passed
  pub placed_end : (i n : ℕ) {now : Stamps} → Placed ws first w i cursor before now true → i ≤ n → n ≤ i → Placed ws first w n cursor before now true
  placed_end i n {now} so_far h k =
      let e : i ≡ n = omega arith in subst (λ (m : ℕ). Placed ws first w m cursor before now true) e so_far

-- ---- entries in flight: a holder and a position each

module _ (ws : List ℕ) (ring count first cursor : ℕ) (before : Stamps) where
  -- a holder that is not in the ring
  pub flown_unheld : (n i : ℕ) {now : Stamps} → i < n → held_right ws ring count first i ≡ false
      → Placed ws (first + 1) 2 i cursor before now true → Flown ws ring count first n cursor before now false
  unfolding holders_right
  flown_unheld n i h f so_far =
      record {
        answer = fails _ (sym (each_stop (held_right ws ring count first) n i h f));
        placed = λ e. absurd (false≢true e);
        same = so_far.same;
      }

  -- a position that is not fresh
  pub flown_stale : (n : ℕ) {now : Stamps} → Placed ws (first + 1) 2 n cursor before now false → Flown ws ring count first n cursor before now false
  flown_stale n placed =
      record {
        answer = sym (rw (← placed.answer) (and-false (holders_right ws ring count first n)));
        placed = λ e. absurd (false≢true e);
        same = placed.same;
      }

  -- all are passed
  pub flown_end : (n : ℕ) {now : Stamps} → holders_right ws ring count first n ≡ true → Placed ws (first + 1) 2 n cursor before now true
      → Flown ws ring count first n cursor before now true
  flown_end n held placed = record { answer = passes held placed.answer; placed = λ e. placed; same = placed.same }

-- ---- one pass after another

-- what was seen matters only below the cursor
pub fresh_seen : (ws : List ℕ) (first w n cursor : ℕ) (seen known : ℕ → Bool) → ((p : ℕ) → p < cursor → seen p ≡ known p)
    → fresh_places ws first w n cursor seen ≡ fresh_places ws first w n cursor known
unfolding fresh_places
fresh_seen ws first w n cursor seen known f =
    each_same (fresh_place ws first w cursor seen) (fresh_place ws first w cursor known) n
    (λ j h. by_test (ltb (row ws first w j) cursor) (λ t. rw (t, f (row ws first w j) (ltb-true (row ws first w j) cursor t))) (λ t. rw t))

-- a stamp above all others is carried nowhere
pub not_stamped : (stamps : List ℕ) (stamp p : ℕ) → Under stamps stamp → stamped stamps stamp p ≡ false
unfolding stamped
not_stamped stamps stamp p u = ne_eqb (get_or stamps p 0) stamp (λ e. let h = u p in absurd (omega arith))

-- the places of a dispatcher, its counts read before, tested with a stamp that is not carried yet
module _ (ws : List ℕ) (e at : ℕ) {count n m cursor : ℕ} (ring : count ≡ get_or ws (at + 11) 0) (flight : n ≡ get_or ws (at + flight_in e) 0)
    (queue : m ≡ get_or ws (at + 173) 0) (top : cursor ≡ get_or ws (at + 3) 0)
    {start : ℕ} (starts : start ≡ at + held_in e 0) where
  -- its parts
  parts : places_right ws e at
      ≡ (holders_right ws (at + 12) count start n
      && (fresh_places ws (start + 1) 2 n cursor (λ p. false) && fresh_places ws (at + 174) 1 m cursor (λ p. among ws (start + 1) 2 n p)))
  unfolding places_right
  parts = rw (ring, flight, queue, top, starts)

  module _ {before mid : Stamps} (unused : Unused before) {r : Bool}
      (first : Flown ws (at + 12) count start n cursor before mid r) where
    -- whether they are fresh, and their holders in the ring
    flight_answer : r ≡ (holders_right ws (at + 12) count start n && fresh_places ws (start + 1) 2 n cursor (λ p. false))
    flight_answer =
        first.answer
        ∙ ap (λ (b : Bool). holders_right ws (at + 12) count start n && b)
        (fresh_seen ws (start + 1) 2 n cursor (stamped before.list before.stamp) (λ p. false) (λ p h. not_stamped before.list before.stamp p unused))

    -- the two tests, and that of those queued
    grouped : places_right ws e at
        ≡ (holders_right ws (at + 12) count start n && fresh_places ws (start + 1) 2 n cursor (λ p. false)
        && fresh_places ws (at + 174) 1 m cursor (λ p. among ws (start + 1) 2 n p))
    grouped =
        parts ∙ sym (and_assoc (holders_right ws (at + 12) count start n) (fresh_places ws (start + 1) 2 n cursor (λ p. false))
        (fresh_places ws (at + 174) 1 m cursor (λ p. among ws (start + 1) 2 n p)))

    -- one of the two fails
    pub flight_wrong : r ≡ false → false ≡ places_right ws e at
    flight_wrong f = fails _ (sym flight_answer ∙ f) ∙ sym grouped

    -- both pass: those queued decide
    pub queue_decides : cursor ≤ 4096 → r ≡ true → {after : Stamps} {q : Bool} → Placed ws (at + 174) 1 m cursor mid after q → q ≡ places_right ws e at
    queue_decides room t second =
        passes (sym flight_answer ∙ t)
        (second.answer
        ∙ fresh_seen ws (at + 174) 1 m cursor (stamped mid.list mid.stamp) (λ p. among ws (start + 1) 2 n p)
        (λ p h. (first.placed t).seen refl p (omega arith) ∙ ap (λ (b : Bool). b || among ws (start + 1) 2 n p) (not_stamped before.list before.stamp p unused)))
        ∙ sym grouped
