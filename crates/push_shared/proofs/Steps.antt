-- What a turn on local numbers can be: which entry and which consumer a step names, and how the numbers move.
use mathlib.Core.Path.{◌≡◌, refl, sym, ap, ◌∙◌, subst}
use mathlib.Core.Bool.{not, ◌||◌}
use mathlib.Core.List.{List, [], ◌∷◌}
use mathlib.Core.Option.{Option, none, some}
use Prim.Native.Nat.{ℕ, suc, ◌-◌, ◌≤◌, ◌<◌}
use native.Mathlib.Omega.{arith}
use lib.Dec.{ltb}
use lib.ListN.{length, get_or, set, take, drop, length-set}
use borrow.Author.Tests.{ltb-true}
use Rattle.rules.specs.Permits.{above_zero, zero_permits}
use Rattle.rules.specs.Table.{Every, is_empty, or_else}
use Rattle.rules.specs.Push.{slot_after}
use Rattle.rules.proofs.Table.{by_test}
use Rattle.operation_laws.proofs.Frame.{every_nth}
use Rattle.push_laws.specs.Local.{Fixed, Local, Step, Place, LocalTurn, first_with_permits, choose_place, price_of, hand_over, take_entry, serve_place}
use Rattle.push_laws.specs.Local.{local_turn}
use Rattle.push_laws.specs.Local.LocalTurn.{stop, move}
use Rattle.push_turn.proofs.Choosing.{some_not_none}
use Rattle.push_turn.proofs.Handing.{above_in}
use Rattle.push_turn.proofs.Left.{left, all_turns, turn_lowers, turn_in_ring, turn_in_lists, turns_move}

-- the numbers are in range
pub record Ranged (f : Fixed) (l : Local) : Type 0 where
  pub next_in : l.next ≤ length f.ring
  pub lists_in : (l.taken ≤ length f.queue) × (l.cursor ≤ length f.ledger)
  pub queue_in : Every (λ (k : ℕ). k < length f.ledger) f.queue

-- what a step names is there, and as many have permits as before
pub record Moves (f : Fixed) (l : Local) (x : Step) (m : Local) : Type 0 where
  pub consumer_in : x.consumer < length l.permits
  pub position_in : x.position < length f.ledger
  pub sized : length m.permits ≡ length l.permits

-- ---- turns told apart

-- the step of a turn
abbrev step_in : Step → LocalTurn → Step
step_in z (stop l) = z
step_in z (move x l) = x

-- the numbers after a turn
abbrev local_in : LocalTurn → Local
local_in (stop l) = l
local_in (move x l) = l

-- whether a turn is a step
abbrev is_move : LocalTurn → ℕ
is_move (stop l) = 0
is_move (move x l) = 1

not_both : {A : Type 0} {x : Step} {l m : Local} → stop l ≡ move x m → A
not_both e = let z : ◌≡◌ {A = ℕ} 0 1 = ap is_move e in absurd (omega (arith, z))

-- ---- a choice has permits

first_has : (permits : List ℕ) (r : Place) (k : ℕ) (ring : List ℕ) (more : Option Place) → (more ≡ some r → zero_permits < get_or permits r.consumer 0)
    → first_with_permits permits k ring more ≡ some r → zero_permits < get_or permits r.consumer 0
unfolding first_with_permits above_zero or_else
first_has permits r k [] more m e = m e
first_has permits r k (c ∷ ring) more m e =
    by_test (ltb zero_permits (get_or permits c 0))
    (λ t.
    let q : some (record { place = k; consumer = c }) ≡ some r = rw t at e in
    let s : ◌≡◌ {A = ℕ} c r.consumer = ap (λ (o : Option Place). (or_else o r).consumer) q in
    subst (λ (i : ℕ). zero_permits < get_or permits i 0) s (ltb-true zero_permits (get_or permits c 0) t))
    (λ t. first_has permits r (suc k) ring more m (rw t at e))

-- the choice of a turn
chosen_has : (f : Fixed) (l : Local) (r : Place) → choose_place f l ≡ some r → zero_permits < get_or l.permits r.consumer 0
unfolding choose_place
chosen_has f l r e =
    first_has l.permits r l.next (drop l.next f.ring) (first_with_permits l.permits 0 (take l.next f.ring) none)
    (first_has l.permits r 0 (take l.next f.ring) none (λ z. absurd (some_not_none (sym z)))) e

-- ---- the cases of a turn

module _ (f : Fixed) (l : Local) (g : Ranged f l) where
  -- an entry goes to a consumer
  hand_moves : (x : Step) (m : Local) (next cursor taken c k : ℕ) → c < length l.permits → k < length f.ledger
      → hand_over f l.permits next cursor l.total taken c k ≡ move x m → Moves f l x m
  unfolding hand_over
  hand_moves x m next cursor taken c k a b e =
      let price : ℕ = price_of f k in
      let rest : ℕ = get_or l.permits c 0 - price in
      let y : Step = record { consumer = c; position = k; price = price; permits = rest } in
      let n : Local = record { permits = set l.permits c rest; next = next; cursor = cursor; total = l.total - price; taken = taken } in
      let same_step : y ≡ x = ap (step_in y) e in
      let same_local : n ≡ m = ap local_in e in
      let here : Moves f l y n = record { consumer_in = a; position_in = b; sized = length-set l.permits c rest } in
      subst (λ (z : Step). Moves f l z m) same_step (subst (λ (z : Local). Moves f l y z) same_local here)

  take_moves : (x : Step) (m : Local) (next c : ℕ) → c < length l.permits → take_entry f l next c ≡ move x m → Moves f l x m
  unfolding take_entry
  take_moves x m next c a e =
      by_test (ltb l.taken (length f.queue))
      (λ u.
      let i : l.taken < length f.queue = ltb-true l.taken (length f.queue) u in
      hand_moves x m next l.cursor (suc l.taken) c (get_or f.queue l.taken 0) a (every_nth f.queue l.taken 0 g.queue_in i) (rw u at e))
      (λ u.
      by_test (ltb l.cursor (length f.ledger))
      (λ v. hand_moves x m next (suc l.cursor) l.taken c l.cursor a (ltb-true l.cursor (length f.ledger) v) (rw (u, v) at e))
      (λ v. not_both (rw (u, v) at e)))

  place_moves : (o : Option Place) → choose_place f l ≡ o → (x : Step) (m : Local) → serve_place f l o ≡ move x m → Moves f l x m
  unfolding serve_place
  place_moves none c x m e = not_both e
  place_moves (some r) c x m e =
      take_moves x m (slot_after r.place f.ring) r.consumer (above_in l.permits r.consumer (chosen_has f l r c)) e

  -- a turn that hands out an entry
  pub turn_moves : (x : Step) (m : Local) → local_turn f l ≡ move x m → Moves f l x m
  unfolding local_turn
  turn_moves x m e =
      by_test (is_empty f.ring || not (above_zero l.total)) (λ t. not_both (rw t at e)) (λ t. place_moves (choose_place f l) refl x m (rw t at e))

  -- the numbers after it are in range
  pub ranged_on : (x : Step) (m : Local) → local_turn f l ≡ move x m → Ranged f m
  ranged_on x m e =
      record { next_in = turn_in_ring f l x m g.next_in e; lists_in = turn_in_lists f l x m g.lists_in e; queue_in = g.queue_in }

  -- the steps from here on, after it
  pub turns_on : (x : Step) (m : Local) → local_turn f l ≡ move x m → all_turns f l ≡ record { made = x ∷ (all_turns f m).made; after = (all_turns f m).after }
  turns_on x m e = turns_move f l (left f l) x m e ∙ rw (turn_lowers f l x m e)
