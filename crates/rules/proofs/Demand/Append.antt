-- Append: the ledger of a topic and the marks of its dispatchers grow by one, and an id that was complete outside the
-- ledger is complete in it.
use Prim.Native.Nat.{ℕ, suc, ◌+◌, ◌<◌, ◌≤◌}
use mathlib.Core.Path.{◌≡◌, refl, sym, ap, ◌∙◌, subst}
use mathlib.Core.Bool.{Bool, true, false, cond, not}
use mathlib.Core.List.{List, [], ◌∷◌, ◌++◌}
use mathlib.Core.Option.{Option, none, some, map}
use native.Mathlib.Omega.{arith}
use lib.Dec.{eqb, ltb}
use lib.ListN.{length, get_or, length-append, replicate-append-replicate, get_or-append, get_or-eq_default}
use lib.Seq.{get_or_at}
use borrow.Author.Tests.{eqb-true, eqb-false, ltb-true, ltb-false, lt-ltb, le-ltb}
use Rattle.rules.specs.Table.{find, keep, any, or_else}
use Rattle.rules.specs.State.{Id, same_id, StoredMessage, Pair, Acked, Mark, Held, Dispatcher, State, completed, unacknowledged, new_mark, new_dispatcher, by_pair, consumer_of, dispatcher_of, ledger_of, dispatcher, with_topics, with_dispatchers}
use Rattle.rules.specs.Ledger.{position_of, holds_id, no_message, message_at}
use Rattle.rules.specs.Dispatcher.{with_marks, is_outside}
use Rattle.rules.specs.Commands.{with_new_entry, append}
use Rattle.rules.specs.Calls.Call.{Append}
use Rattle.rules.specs.Book.{Book, updated, with_list, enter_done, records_of}
use Rattle.rules.proofs.Table.{by_test, decides_numbers, turned_round, same_comm, find_map, keys_map, once_map, any_keep}
use Rattle.rules.proofs.State.{decides_ids, dispatcher_pair}
use Rattle.rules.proofs.Ledger.{position_kept, position_past}
use Rattle.rules.proofs.Appended.{entry_added, ledger_after, entry_pair}
use Rattle.rules.proofs.Demand.Invariant.{acked_by, MarksAgree, Placed, Fits, Invariant}
use Rattle.rules.proofs.Demand.Outcomes.{Keeps, keeps_guard}

-- ---- the state after it

-- a dispatcher with a mark for the new entry
abbrev grown : Id → Dispatcher → Dispatcher
grown i d =
    with_marks d
    (d.marks ++ record { acked = cond (is_outside i d) completed unacknowledged; redelivery_count = 0 } ∷ [])
    (keep (λ (j : Id). not (same_id i j)) d.outside)

module _ (s : State) (topic : ℕ) (m : StoredMessage) where
  -- a pair with no dispatcher, over the ledger that grew
  new_after : (p : Pair) → new_dispatcher p (length (ledger_of (entry_added s topic m) p.topic)) ≡ with_new_entry topic m.id
      (new_dispatcher p (length (ledger_of s p.topic)))
  unfolding with_new_entry with_marks new_dispatcher is_outside any keep
  new_after p =
      by_test (eqb p.topic topic)
      (λ t.
      let f : ledger_of (entry_added s topic m) p.topic ≡ ledger_of s topic ++ m ∷ [] = ledger_after s topic m p.topic ∙ rw t in
      let e : length (ledger_of (entry_added s topic m) p.topic) ≡ length (ledger_of s p.topic) + 1 =
      ap length f ∙ length-append (ledger_of s topic) (m ∷ []) ∙ ap (λ (n : ℕ). length (ledger_of s n) + 1) (sym (eqb-true p.topic topic t)) in
      rw (same_comm decides_numbers topic p.topic, t, e, ← (replicate-append-replicate (length (ledger_of s p.topic)) 1 new_mark)))
      (λ t. rw (same_comm decides_numbers topic p.topic, t, ledger_after s topic m p.topic, t))

  -- the dispatchers after it
  dispatcher_after : (p : Pair) → dispatcher (entry_added s topic m) p ≡ with_new_entry topic m.id (dispatcher s p)
  unfolding dispatcher dispatcher_of with_dispatchers or_else
  dispatcher_after p = rw (find_map by_pair (with_new_entry topic m.id) (entry_pair s topic m) p s.dispatchers) (go (find by_pair p s.dispatchers))
    where
      go : (o : Option Dispatcher) → or_else (map (with_new_entry topic m.id) o)
          (new_dispatcher p (length (ledger_of (entry_added s topic m) p.topic)))
          ≡ with_new_entry topic m.id (or_else o (new_dispatcher p (length (ledger_of s p.topic))))
      go none = new_after p
      go (some d) = refl

  -- something holds of every ledger if it does of the one that grew and of all before
  each_ledger : (P : List StoredMessage → Type 0) → P (ledger_of s topic ++ m ∷ []) → ((n : ℕ) → P (ledger_of s n)) → (n : ℕ)
      → P (ledger_of (entry_added s topic m) n)
  each_ledger P here there n =
      subst P (sym (ledger_after s topic m n)) (by_test (eqb n topic) (λ t. rw t here) (λ t. rw t (there n)))

  -- something holds of every pair's ledger and dispatcher if it does of those that grew and of all before
  each_after : (P : Pair → List StoredMessage → Dispatcher → Type 0)
      → ((p : Pair) → p.topic ≡ topic → P p (ledger_of s p.topic ++ m ∷ []) (grown m.id (dispatcher s p)))
      → ((p : Pair) → P p (ledger_of s p.topic) (dispatcher s p)) → (p : Pair)
      → P p (ledger_of (entry_added s topic m) p.topic) (dispatcher (entry_added s topic m) p)
  unfolding with_new_entry
  each_after P here there p =
      subst (λ (l : List StoredMessage). P p l (dispatcher (entry_added s topic m) p)) (sym (ledger_after s topic m p.topic))
      (subst (λ (d : Dispatcher). P p (cond (eqb p.topic topic) (ledger_of s topic ++ m ∷ []) (ledger_of s p.topic)) d)
      (sym (dispatcher_after p))
      (subst (λ (t : Bool). P p (cond (eqb p.topic topic) (ledger_of s topic ++ m ∷ []) (ledger_of s p.topic))
      (cond t (grown m.id (dispatcher s p)) (dispatcher s p)))
      (same_comm decides_numbers p.topic topic ∙ ap (λ (q : Pair). eqb topic q.topic) (sym (dispatcher_pair s p)))
      (by_test (eqb p.topic topic)
      (λ t. rw t (let e = eqb-true p.topic topic t in subst (λ (n : ℕ). P p (ledger_of s n ++ m ∷ [])
      (grown m.id (dispatcher s p))) e (here p e)))
      (λ t. rw t (there p)))))

-- ---- what the marks and entries are after it

module _ (l : List StoredMessage) (m : StoredMessage) (out : length l ≤ position_of m.id l) where
  -- a longer ledger's length
  one_longer : length (l ++ m ∷ []) ≡ suc (length l)
  one_longer = let e = length-append l (m ∷ []) in omega arith

  -- the messages at the old positions
  message_before : (k : ℕ) → k < length l → message_at (l ++ m ∷ []) k ≡ message_at l k
  unfolding message_at
  message_before k g = get_or-append l (m ∷ []) no_message k g

  -- and at the new one
  message_last : message_at (l ++ m ∷ []) (length l) ≡ m
  unfolding message_at
  message_last = get_or_at l m [] no_message (length l) refl

  -- the position of the new id
  place_new : (i : Id) → same_id i m.id ≡ true → position_of i (l ++ m ∷ []) ≡ length l
  unfolding position_of
  place_new i t =
      let e = position_past i l (m ∷ []) (subst (λ (j : Id). length l ≤ position_of j l) (sym (decides_ids.equal i m.id t)) out) in
      let f : position_of i (m ∷ []) ≡ 0 = rw t in
      omega arith

  -- and of one that is still outside
  place_outside : (i : Id) → same_id i m.id ≡ false → length l ≤ position_of i l → position_of i (l ++ m ∷ []) ≡ suc (length l)
  unfolding position_of
  place_outside i t g =
      let e = position_past i l (m ∷ []) g in
      let f : position_of i (m ∷ []) ≡ 1 = rw t in
      omega arith

  -- no id stands twice
  ids_after : ((k : ℕ) → k < length l → position_of (message_at l k).id l ≡ k)
      → (k : ℕ) → k < length (l ++ m ∷ []) → position_of (message_at (l ++ m ∷ []) k).id (l ++ m ∷ []) ≡ k
  ids_after h k g =
      by_test (ltb k (length l))
      (λ t.
      let x : k < length l = ltb-true k (length l) t in
      let e : position_of (message_at l k).id l ≡ k = h k x in
      rw (message_before k x, position_kept (message_at l k).id l (m ∷ []) (omega arith)) e)
      (λ t.
      let e : k ≡ length l = omega (arith, ltb-false k (length l) t, one_longer) in
      rw (e, message_last) (place_new m.id (decides_ids.self m.id)))

  -- batches are at most 256
  batches_after : m.batch_size ≤ 256 → ((k : ℕ) → (message_at l k).batch_size ≤ 256) → (k : ℕ) → (message_at (l ++ m ∷ []) k).batch_size ≤ 256
  unfolding message_at
  batches_after b h k =
      by_test (ltb k (length l))
      (λ t. rw (get_or-append l (m ∷ []) no_message k (ltb-true k (length l) t)) (h k))
      (λ t. by_test (eqb k (length l))
      (λ u. rw (eqb-true k (length l) u, get_or_at l m [] no_message (length l) refl) b)
      (λ u.
      let g : length (l ++ m ∷ []) ≤ k = omega (arith, ltb-false k (length l) t, eqb-false k (length l) u, one_longer) in
      rw (get_or-eq_default (l ++ m ∷ []) no_message g) (omega arith)))

  module _ (marks : List Mark) (x : Mark) (e : length marks ≡ length l) where
    -- an old mark stays
    mark_before : (k : ℕ) → k < length l → get_or (marks ++ x ∷ []) k new_mark ≡ get_or marks k new_mark
    mark_before k g = get_or-append marks (x ∷ []) new_mark k (omega arith)

    -- every id is as far acknowledged as before
    acked_after : (outside : List Id) → x.acked ≡ cond (any (same_id m.id) outside) completed unacknowledged → (i : Id)
        → acked_by l marks outside i ≡ acked_by (l ++ m ∷ []) (marks ++ x ∷ []) (keep (λ (j : Id). not (same_id m.id j)) outside) i
    unfolding acked_by
    acked_after outside f i =
        by_test (ltb (position_of i l) (length l))
        (λ t.
        let g : position_of i l < length l = ltb-true (position_of i l) (length l) t in
        let y : position_of i l < length (l ++ m ∷ []) = omega (arith, one_longer) in
        rw (t, position_kept i l (m ∷ []) g, lt-ltb (position_of i l) (length (l ++ m ∷ [])) y, mark_before (position_of i l) g))
        (λ t. by_test (same_id i m.id)
        (λ u.
        let y : length l < length (l ++ m ∷ []) = omega (arith, one_longer) in
        rw (t, place_new i u, lt-ltb (length l) (length (l ++ m ∷ [])) y, get_or_at marks x [] new_mark (length l) e, f, decides_ids.equal i m.id u))
        (λ u.
        let y : length (l ++ m ∷ []) ≤ suc (length l) = omega (arith, one_longer) in
        let z = any_keep (same_id i) (λ (j : Id). not (same_id m.id j))
        (λ j v. rw (← (decides_ids.equal i j v), turned_round decides_ids i m.id u)) outside in
        rw (t, place_outside i u (ltb-false (position_of i l) (length l) t), le-ltb (suc (length l)) (length (l ++ m ∷ [])) y, z)))

    -- the marks agree
    marks_after : {acked : Id → Acked} {mark_delete : ℕ} {outside : List Id}
        → x.acked ≡ cond (any (same_id m.id) outside) completed unacknowledged
        → MarksAgree l acked mark_delete marks outside
        → MarksAgree (l ++ m ∷ []) acked mark_delete (marks ++ x ∷ []) (keep (λ (j : Id). not (same_id m.id j)) outside)
    marks_after {outside = outside} f h = record {
      size = omega (arith, length-append marks (x ∷ []), one_longer);
      agree = λ i. h.agree i ∙ acked_after outside f i;
      in_list = let g = h.in_list in omega (arith, one_longer);
      below = λ k g. let y = h.in_list in ap (λ (z : Mark). z.acked.complete) (mark_before k (omega arith)) ∙ h.below k g;
    }

    -- and the entries stand where they did
    placed_after : {ring : List ℕ} {handed : Id → Bool} {cursor : ℕ} {queue : List ℕ} {held : List Held}
        → Placed l ring handed cursor queue held marks
        → Placed (l ++ m ∷ []) ring handed cursor queue held (marks ++ x ∷ [])
    placed_after h = record {
      cursor_in_list = let g = h.cursor_in_list in omega (arith, one_longer);
      handed_below = λ i g. let y = h.cursor_in_list in let z = h.handed_below i g in rw (position_kept i l (m ∷ []) (omega arith)) z;
      once = λ k g c. let y = h.cursor_in_list in h.once k g (ap (λ (z : Mark). z.acked.complete) (sym (mark_before k (omega arith))) ∙ c);
      never = h.never;
      holders = h.holders;
    }

-- ---- the whole

module _ (s : State) (b : Book) (h : Invariant s b) (topic : ℕ) (m : StoredMessage)
    (small : m.batch_size ≤ 256) (out : length (ledger_of s topic) ≤ position_of m.id (ledger_of s topic)) where
  -- the lists of the book
  lists_after : (n : ℕ) → updated eqb b.topics topic (b.topics topic ++ m ∷ []) n ≡ ledger_of (entry_added s topic m) n
  unfolding updated
  lists_after n = rw (ledger_after s topic m n, h.lists topic) (by_test (eqb n topic) (λ t. rw t) (λ t. rw t (h.lists n)))

  -- the id is not in the pair's ledger either
  out_of : (p : Pair) → p.topic ≡ topic → length (ledger_of s p.topic) ≤ position_of m.id (ledger_of s p.topic)
  out_of p e = subst (λ (n : ℕ). length (ledger_of s n) ≤ position_of m.id (ledger_of s n)) (sym e) out

  -- an append that is done
  append_done : Invariant (entry_added s topic m) (enter_done b (Append topic m) [])
  unfolding enter_done with_list with_dispatchers with_topics consumer_of with_marks is_outside
  append_done = record {
    leak_off = h.leak_off;
    pairs = keys_map by_pair (with_new_entry topic m.id) (entry_pair s topic m) s.dispatchers ∙ h.pairs;
    pairs_once = once_map by_pair (with_new_entry topic m.id) (entry_pair s topic m) s.dispatchers h.pairs_once;
    lists = lists_after;
    ids_once = each_ledger s topic m (λ (l : List StoredMessage). (k : ℕ) → k < length l → position_of (message_at l k).id l ≡ k)
        (ids_after (ledger_of s topic) m out (h.ids_once topic)) h.ids_once;
    batches = each_ledger s topic m (λ (l : List StoredMessage). (k : ℕ) → (message_at l k).batch_size ≤ 256)
        (batches_after (ledger_of s topic) m out small (h.batches topic)) h.batches;
    live = h.live;
    attached_once = h.attached_once;
    fits = each_after s topic m (λ (p : Pair) (l : List StoredMessage) (d : Dispatcher). Fits p l b.who (b.attached p)
        (b.handed_out p) (b.acked p) d)
        (λ p e.
        let f = h.fits p in
        record {
          ringed = f.ringed;
          marks_agree = marks_after (ledger_of s p.topic) m (out_of p e) (dispatcher s p).marks _ f.marks_agree.size refl f.marks_agree;
          placed = placed_after (ledger_of s p.topic) m (out_of p e) (dispatcher s p).marks _ f.marks_agree.size f.placed;
        })
        h.fits;
  }

-- append keeps the invariant
pub append_keeps : (s : State) (b : Book) → Invariant s b → (topic : ℕ) (m : StoredMessage) → Keeps s b (Append topic m) (append s topic m)
unfolding append records_of holds_id
append_keeps s b h topic m =
    let x = Append topic m in
    keeps_guard s b h x _ 8 _ (λ t.
    keeps_guard s b h x _ 7 _ (λ u.
    keeps_guard s b h x _ 5 _ (λ v.
    keeps_guard s b h x _ 6 _ (λ w.
    append_done s b h topic m (ltb-false 256 m.batch_size t)
    (ltb-false (position_of m.id (ledger_of s topic)) (length (ledger_of s topic)) u)))))
