-- Redeliver: an entry that the sender holds goes from its held list to the queue, where it stands once all the same.
use Prim.Native.Nat.{ℕ, ◌<◌}
use mathlib.Core.Path.{◌≡◌, refl, sym, ◌∙◌, subst}
use mathlib.Core.Bool.{Bool, true, false, not}
use mathlib.Core.List.{List, [], ◌∷◌, ◌++◌}
use mathlib.Core.Option.{some}
use native.Mathlib.Omega.{arith}
use lib.Dec.{eqb}
use borrow.Author.Tests.{eqb-true, eqb-false}
use Rattle.rules.specs.Table.{keep, any}
use Rattle.rules.specs.State.{Id, StoredMessage, Pair, Consumer, Acked, Mark, Held, Dispatcher, State, consumer_of, ledger_of, dispatcher, put_dispatcher}
use Rattle.rules.specs.State.Kind.{shared}
use Rattle.rules.specs.Ledger.{position_of}
use Rattle.rules.specs.Dispatcher.{with_places, with_marks, is_hold, mark_at}
use Rattle.rules.specs.Groups.{Group}
use Rattle.rules.specs.Commands.{with_reading, raised, redeliver_id, redeliver_groups, found_positions, redeliver_plain, redeliver}
use Rattle.rules.specs.Calls.Call.{Redeliver}
use Rattle.rules.specs.Book.{Book, Who, enter_done, records_of}
use Rattle.rules.proofs.Table.{by_test, all_kept, count_append, count_self, count_other, count_parted, count_kept_none, any_count}
use Rattle.rules.proofs.State.{consumer_id}
use Rattle.rules.proofs.Demand.Invariant.{stands, held_in, Placed, Fits, Invariant}
use Rattle.rules.proofs.Demand.Known.{known, has_dispatcher}
use Rattle.rules.proofs.Demand.Changes.{same_account, reconsumed, replaced}
use Rattle.rules.proofs.Demand.Marks.{alike_set, alike_agree, alike_placed}
use Rattle.rules.proofs.Demand.Outcomes.{Keeps, keeps_guard, keeps_live, keeps_groups, keeps_kind}
use Rattle.rules.proofs.Kept.Redeliver.{hold_position}

-- how often a position stands where the holds of a consumer on one go to the queue's end
module _ (i k : ℕ) (queue : List ℕ) (held : List Held) (x : any (is_hold i k) held ≡ true) where
  -- another position stands as before
  moved_other : (j : ℕ) → eqb j k ≡ false → stands j (keep (λ (h : Held). not (is_hold i k h)) held) (queue ++ k ∷ []) ≡ stands j held queue
  moved_other j t =
      let a = count_parted (is_hold i k) (λ (h : Held). h.position) j held in
      let z = count_kept_none (is_hold i k) (λ (h : Held). h.position) j (λ h e f. eqb-false j k t (f ∙ sym (hold_position i k h e))) held in
      let q = count_append j queue (k ∷ []) in
      let o = count_other j k t in
      omega arith

  -- that position stood, and stands once if it stood once
  moved_one : (0 < stands k held queue) × (stands k held queue ≡ 1 → stands k (keep (λ (h : Held). not (is_hold i k h)) held) (queue ++ k ∷ []) ≡ 1)
  moved_one =
      let a = count_parted (is_hold i k) (λ (h : Held). h.position) k held in
      let z = any_count (is_hold i k) (λ (h : Held). h.position) k (hold_position i k) held x in
      let q = count_append k queue (k ∷ []) in
      let o = count_self k in
      (omega arith, λ e. omega arith)

  -- so entries stand where they should
  moved_placed : {l : List StoredMessage} {ring : List ℕ} {handed : Id → Bool} {cursor : ℕ} {marks : List Mark}
      → Placed l ring handed cursor queue held marks
      → Placed l ring handed cursor (queue ++ k ∷ []) (keep (λ (h : Held). not (is_hold i k h)) held) marks
  moved_placed {ring = ring} h = record {
    cursor_in_list = h.cursor_in_list;
    handed_below = h.handed_below;
    once = λ j g c. by_test (eqb j k)
        (λ t. subst (λ (n : ℕ). stands n (keep (λ (y : Held). not (is_hold i k y)) held) (queue ++ k ∷ []) ≡ 1) (sym (eqb-true j k t))
        (moved_one.1 (subst (λ (n : ℕ). stands n held queue ≡ 1) (eqb-true j k t) (h.once j g c))))
        (λ t. moved_other j t ∙ h.once j g c);
    never = λ j g. by_test (eqb j k)
        (λ t. absurd (let z : stands k held queue ≡ 0 = subst (λ (n : ℕ). stands n held queue ≡ 0) (eqb-true j k t)
        (h.never j g) in omega (arith, moved_one.0)))
        (λ t. moved_other j t ∙ h.never j g);
    holders = all_kept (held_in ring) (held_in ring) (λ (y : Held). not (is_hold i k y)) (λ y e f. e) held h.holders;
  }

module _ {p : Pair} {l : List StoredMessage} {who : ℕ → Who} {ring : List ℕ} {handed : Id → Bool} {acked : Id → Acked} (i : ℕ) where
  -- one id handed back
  redelivered_id : (d : Dispatcher) (j : Id) → Fits p l who ring handed acked d → Fits p l who ring handed acked (redeliver_id l i d j)
  unfolding redeliver_id with_marks with_places raised mark_at
  redelivered_id d j y =
      let k = position_of j l in
      let e = alike_set d.marks k (raised (mark_at d k)) refl in
      by_test (any (is_hold i k) d.in_flight)
      (λ t. rw t
      (record {
        ringed = y.ringed;
        marks_agree = alike_agree e y.marks_agree;
        placed = moved_placed i k d.redelivery d.in_flight t (alike_placed e y.placed);
      }))
      (λ t. rw t y)

  -- and each of a list
  redelivered : (d : Dispatcher) (gs : List Group) → Fits p l who ring handed acked d → Fits p l who ring handed acked (redeliver_groups l i d gs)
  unfolding redeliver_groups
  redelivered d [] y = y
  redelivered d (g ∷ gs) y = redelivered (redeliver_id l i d g.id) gs (redelivered_id d g.id y)

module _ (s : State) (b : Book) (h : Invariant s b) (i : ℕ) (list : List ℕ) (c : Consumer) (e : consumer_of s i ≡ some c) (gs : List Group) where
  -- a plain consumer's nacked entries change alone
  redeliver_plain_keeps : Keeps s b (Redeliver i list) (redeliver_plain s c gs)
  unfolding redeliver_plain enter_done with_reading
  redeliver_plain_keeps =
      keeps_guard s b h (Redeliver i list) _ 11 _ (λ t.
      let d = with_reading c c.cursor (c.nacked ++ found_positions (ledger_of s c.pair.topic) gs) in
      reconsumed s b h i c d e (consumer_id s i c e) (same_account c d refl refl refl))

  -- a shared consumer's dispatcher changes
  redeliver_shared : c.kind ≡ shared
      → Invariant (put_dispatcher s (redeliver_groups (ledger_of s c.pair.topic) i (dispatcher s c.pair) gs))
      (enter_done b (Redeliver i list) [])
  unfolding enter_done
  redeliver_shared k =
      let p = c.pair in
      let a = known s b h i c e k in
      replaced s b h p (redeliver_groups (ledger_of s p.topic) i (dispatcher s p) gs) (has_dispatcher s b h p i (omega (arith, a.in_ring)))
      b.handed_out (λ q t. refl) b.acked (λ q t. refl)
      (redelivered i (dispatcher s p) gs (h.fits p))

-- redeliver keeps the invariant
pub redeliver_keeps : (s : State) (b : Book) → Invariant s b → (i : ℕ) (list : List ℕ) → Keeps s b (Redeliver i list) (redeliver s i list)
unfolding redeliver records_of
redeliver_keeps s b h i list =
    keeps_live s b h (Redeliver i list) i _ (λ c e.
    keeps_groups s b h (Redeliver i list) list _ (λ gs g.
    keeps_kind s b h (Redeliver i list) c.kind _ _
    (λ k. redeliver_plain_keeps s b h i list c e gs)
    (redeliver_shared s b h i list c e gs)))
