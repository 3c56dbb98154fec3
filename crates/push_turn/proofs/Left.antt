-- What is left to hand out, and how a turn changes it: for any loop over the turns of a dispatcher.
use mathlib.Core.Path.{◌≡◌, refl, sym, ap, ◌∙◌, subst}
use mathlib.Core.Bool.{not, ◌||◌}
use mathlib.Core.List.{List, [], ◌∷◌}
use mathlib.Core.Option.{Option, none, some}
use Prim.Native.Nat.{ℕ, zero, suc, ◌+◌, ◌-◌, ◌≤◌, ◌<◌}
use native.Mathlib.Omega.{arith}
use lib.Dec.{ltb, eqb}
use lib.ListN.{length, get_or, take, drop, length-take, length-drop}
use borrow.Author.Tests.{ltb-true}
use Rattle.rules.specs.Permits.{above_zero}
use Rattle.rules.specs.Table.{is_empty, or_else}
use Rattle.rules.specs.Push.{slot_after}
use Rattle.rules.proofs.Table.{by_test}
use Rattle.push_laws.specs.Local.{Fixed, Local, Step, Place, LocalTurn, Steps, first_with_permits, choose_place, hand_over, take_entry, serve_place}
use Rattle.push_laws.specs.Local.{local_turn, then_turns, local_turns}
use Rattle.push_laws.specs.Local.LocalTurn.{stop, move}
use Rattle.push_turn.proofs.Choosing.{some_not_none}

-- how many entries are left: in the queue and in the ledger
abbrev pub left : Fixed → Local → ℕ
left f l = length f.queue - l.taken + (length f.ledger - l.cursor)

-- ---- a turn by its cases

-- something holds of the numbers that a turn leaves, by how it came out
abbrev Leaves : (Local → Type 0) → (Local → Type 0) → LocalTurn → Type 0
Leaves S M (stop m) = S m
Leaves S M (move x m) = M m

-- what holds of the numbers of a stop
of_stop : (S M : Local → Type 0) {t : LocalTurn} {m : Local} → Leaves S M t → t ≡ stop m → S m
of_stop S M h e = subst (λ (t : LocalTurn). Leaves S M t) e h

-- what holds of the numbers of a move
of_move : (S M : Local → Type 0) {t : LocalTurn} {x : Step} {m : Local} → Leaves S M t → t ≡ move x m → M m
of_move S M h e = subst (λ (t : LocalTurn). Leaves S M t) e h

module _ (S M : Local → Type 0) (f : Fixed) (l : Local) where
  -- the cases of an entry
  by_entry : (next c : ℕ)
      → (l.taken < length f.queue → (k : ℕ) → Leaves S M (hand_over f l.permits next l.cursor l.total (suc l.taken) c k))
      → (l.cursor < length f.ledger → (k : ℕ) → Leaves S M (hand_over f l.permits next (suc l.cursor) l.total l.taken c k))
      → S (record { permits = l.permits; next = next; cursor = l.cursor; total = l.total; taken = l.taken })
      → Leaves S M (take_entry f l next c)
  unfolding take_entry
  by_entry next c q w n =
      by_test (ltb l.taken (length f.queue)) (λ t. rw t (q (ltb-true l.taken (length f.queue) t) (get_or f.queue l.taken 0)))
      (λ t. by_test (ltb l.cursor (length f.ledger)) (λ u. rw (t, u) (w (ltb-true l.cursor (length f.ledger) u) l.cursor)) (λ u. rw (t, u) n))

  -- the cases of a place
  by_place : (o : Option Place) → S l
      → ((p : Place) → o ≡ some p → Leaves S M (take_entry f l (slot_after p.place f.ring) p.consumer)) → Leaves S M (serve_place f l o)
  unfolding serve_place
  by_place none s h = s
  by_place (some p) s h = h p refl

  -- the cases of a turn
  by_turn : S l → ((p : Place) → choose_place f l ≡ some p → Leaves S M (take_entry f l (slot_after p.place f.ring) p.consumer))
      → Leaves S M (local_turn f l)
  unfolding local_turn
  by_turn s h =
      by_test (is_empty f.ring || not (above_zero l.total)) (λ t. rw t s) (λ t. rw t (by_place (choose_place f l) s h))

-- ---- the place that is chosen lies in the ring

-- counted from k, the place lies below the end of what is looked at
first_bound : (permits : List ℕ) (p : Place) (b k : ℕ) (ring : List ℕ) (more : Option Place) → (more ≡ some p → p.place < b) → k + length ring ≤ b
    → first_with_permits permits k ring more ≡ some p → p.place < b
unfolding first_with_permits or_else
first_bound permits p b k [] more m h e = m e
first_bound permits p b k (c ∷ ring) more m h e =
    by_test (above_zero (get_or permits c 0))
    (λ t. let g : some (record { place = k; consumer = c }) ≡ some p = rw t at e in
    let q : k ≡ p.place = ap (λ (o : Option Place). (or_else o p).place) g in omega arith)
    (λ t. first_bound permits p b (suc k) ring more m (omega arith) (rw t at e))

-- going round, below the ring's length
chosen_bound : (f : Fixed) (l : Local) (p : Place) → l.next ≤ length f.ring → choose_place f l ≡ some p → p.place < length f.ring
unfolding choose_place
chosen_bound f l p h e =
    let a = length-drop l.next f.ring in
    let b = length-take l.next f.ring in
    first_bound l.permits p (length f.ring) l.next (drop l.next f.ring) (first_with_permits l.permits 0 (take l.next f.ring) none)
    (first_bound l.permits p (length f.ring) 0 (take l.next f.ring) none (λ z. absurd (some_not_none (sym z))) (omega arith))
    (omega arith) e

-- and so does the one after it, going round
after_bound : (r : ℕ) (ring : List ℕ) → r < length ring → slot_after r ring ≤ length ring
unfolding slot_after
after_bound r ring h = by_test (eqb (suc r) (length ring)) (λ t. rw t (omega arith)) (λ t. rw t h)

-- ---- what a turn does

module _ (f : Fixed) (l : Local) where
  -- as much is left
  abbrev AsLeft : Local → Type 0
  AsLeft m = left f m ≡ left f l

  -- one less is left
  abbrev OneLess : Local → Type 0
  OneLess m = suc (left f m) ≡ left f l

  -- a stop keeps, a move lowers
  lowers : Leaves AsLeft OneLess (local_turn f l)
  unfolding hand_over
  lowers =
      by_turn AsLeft OneLess f l refl
      (λ p e. by_entry AsLeft OneLess f l (slot_after p.place f.ring) p.consumer (λ h k. omega arith) (λ h k. omega arith) refl)

  -- a move lowers what is left by 1
  pub turn_lowers : (x : Step) (m : Local) → local_turn f l ≡ move x m → suc (left f m) ≡ left f l
  turn_lowers x m e = of_move AsLeft OneLess lowers e

  -- which is the measure of a loop
  pub turn_less : (x : Step) (m : Local) → local_turn f l ≡ move x m → left f m < left f l
  turn_less x m e = less (left f m) (left f l) (turn_lowers x m e)
    where
      less : (a b : ℕ) → suc a ≡ b → a < b
      less a b q = omega arith

  -- a stop does not
  pub stop_keeps : (m : Local) → local_turn f l ≡ stop m → left f m ≡ left f l
  stop_keeps m e = of_stop AsLeft OneLess lowers e

  -- next lies in the ring
  abbrev InRing : Local → Type 0
  InRing m = m.next ≤ length f.ring

  -- it stays there
  ring_kept : InRing l → Leaves InRing InRing (local_turn f l)
  unfolding hand_over
  ring_kept r =
      by_turn InRing InRing f l r
      (λ p e. let b = after_bound p.place f.ring (chosen_bound f l p r e) in
      by_entry InRing InRing f l (slot_after p.place f.ring) p.consumer (λ h k. b) (λ h k. b) b)

  -- next stays in the ring: after a move
  pub turn_in_ring : (x : Step) (m : Local) → l.next ≤ length f.ring → local_turn f l ≡ move x m → m.next ≤ length f.ring
  turn_in_ring x m r e = of_move InRing InRing (ring_kept r) e

  -- after a stop
  pub stop_in_ring : (m : Local) → l.next ≤ length f.ring → local_turn f l ≡ stop m → m.next ≤ length f.ring
  stop_in_ring m r e = of_stop InRing InRing (ring_kept r) e

  -- queue and cursor are in range
  abbrev InLists : Local → Type 0
  InLists m = (m.taken ≤ length f.queue) × (m.cursor ≤ length f.ledger)

  -- they stay there
  lists_kept : InLists l → Leaves InLists InLists (local_turn f l)
  unfolding hand_over
  lists_kept r =
      by_turn InLists InLists f l r
      (λ p e. by_entry InLists InLists f l (slot_after p.place f.ring) p.consumer (λ h k. (h, r.1)) (λ h k. (r.0, h)) r)

  -- no more is taken off the queue than it has, and the cursor stays in the ledger: after a move
  pub turn_in_lists : (x : Step) (m : Local) → (l.taken ≤ length f.queue) × (l.cursor ≤ length f.ledger) → local_turn f l ≡ move x m
      → (m.taken ≤ length f.queue) × (m.cursor ≤ length f.ledger)
  turn_in_lists x m r e = of_move InLists InLists (lists_kept r) e

  -- after a stop
  pub stop_in_lists : (m : Local) → (l.taken ≤ length f.queue) × (l.cursor ≤ length f.ledger) → local_turn f l ≡ stop m
      → (m.taken ≤ length f.queue) × (m.cursor ≤ length f.ledger)
  stop_in_lists m r e = of_stop InLists InLists (lists_kept r) e

-- ---- the turns one by one

module _ (f : Fixed) (l : Local) (n : ℕ) where
  -- a stop ends the turns
  pub turns_stop : (m : Local) → local_turn f l ≡ stop m → local_turns (suc n) f l ≡ record { made = []; after = m }
  unfolding local_turns then_turns
  turns_stop m e = rw e

  -- a move goes on with what follows it
  pub turns_move : (x : Step) (m : Local) → local_turn f l ≡ move x m
      → local_turns (suc n) f l ≡ record { made = x ∷ (local_turns n f m).made; after = (local_turns n f m).after }
  unfolding local_turns then_turns
  turns_move x m e = rw e

-- there are no more steps than turns
pub made_few : (n : ℕ) (f : Fixed) (l : Local) → length (local_turns n f l).made ≤ n
unfolding local_turns then_turns
made_few zero f l = omega arith
made_few (suc n) f l = go (local_turn f l) (λ (m : Local). made_few n f m)
  where
    go : (t : LocalTurn) → ((m : Local) → length (local_turns n f m).made ≤ n)
        → length (then_turns t (λ (m : Local). local_turns n f m)).made ≤ suc n
    go (stop m) more = omega arith
    go (move x m) more = let h = more m in omega arith

-- ---- a loop over turns

-- all the turns that some numbers have left
abbrev pub all_turns : Fixed → Local → Steps
all_turns f l = local_turns (suc (left f l)) f l

-- what is left from l on, with the steps made since s, is the whole; next is in the ring
pub record Since (f : Fixed) (s l : Local) (count : ℕ) : Type 0 where
  pub steps : count + length (all_turns f l).made ≡ length (all_turns f s).made
  pub ends : (all_turns f l).after ≡ (all_turns f s).after
  pub counted : count + left f l ≡ left f s
  pub in_ring : l.next ≤ length f.ring

-- at the start
pub since_start : (f : Fixed) (s : Local) → s.next ≤ length f.ring → Since f s s 0
since_start f s r = record { steps = omega arith; ends = refl; counted = omega arith; in_ring = r }

module _ (f : Fixed) (s l : Local) (count : ℕ) (h : Since f s l count) where
  -- after a move
  pub since_move : (x : Step) (m : Local) → local_turn f l ≡ move x m → Since f s m (count + 1)
  since_move x m e =
      let n = turn_lowers f l x m e in
      let t : all_turns f l ≡ record { made = x ∷ (all_turns f m).made; after = (all_turns f m).after } = turns_move f l (left f l) x m e ∙ rw n in
      let g = ap (λ (r : Steps). length r.made) t in
      let a = ap (λ (r : Steps). r.after) t in
      let p = h.steps in
      let q = h.counted in
      record { steps = omega arith; ends = sym a ∙ h.ends; counted = omega arith; in_ring = turn_in_ring f l x m h.in_ring e }

  -- at a stop
  pub since_stop : (m : Local) → local_turn f l ≡ stop m → (count ≡ length (all_turns f s).made) × (m ≡ (all_turns f s).after)
  since_stop m e =
      let t = turns_stop f l (left f l) m e in
      let g = ap (λ (r : Steps). length r.made) t in
      let p = h.steps in
      (omega arith, sym (ap (λ (r : Steps). r.after) t) ∙ h.ends)

  -- no more steps were made than there were entries
  pub since_few : count ≤ length f.queue + length f.ledger
  since_few = bound count (left f l) (length f.queue) (length f.ledger) s.taken s.cursor h.counted
    where
      bound : (n k q w a b : ℕ) → n + k ≡ q - a + (w - b) → n ≤ q + w
      bound n k q w a b e = omega arith
