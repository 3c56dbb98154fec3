-- Ack: each id is acknowledged in the marks as it is in the book; the acker drops its complete entries, and mark-delete
-- moves over complete ones.
use Prim.Native.Nat.{ℕ, zero, suc, ◌+◌, ◌-◌, ◌<◌, ◌≤◌}
use mathlib.Core.Path.{◌≡◌, refl, sym, ap, ◌∙◌, subst}
use mathlib.Core.Bool.{Bool, true, false, cond, not, ◌&&◌, and-false}
use mathlib.Core.List.{List, [], ◌∷◌}
use mathlib.Core.Option.{some}
use native.Mathlib.Omega.{arith}
use lib.Dec.{eqb, ltb}
use lib.ListN.{length, get_or, set, drop, length-set, length-drop}
use lib.Seq.{get_or-set_same, get_or-set_other, get_or-drop}
use borrow.Author.Tests.{ltb-true, ltb-false}
use Rattle.rules.specs.Table.{any, count, is_empty, or_else}
use Rattle.rules.specs.State.{Id, same_id, StoredMessage, Pair, same_pair, Consumer, Acked, Mark, Held, Dispatcher, State, completed, unacknowledged, new_mark, consumer_of, ledger_of, dispatcher, put_dispatcher}
use Rattle.rules.specs.State.Kind.{plain, shared}
use Rattle.rules.specs.Ledger.{position_of, batch_size_of, insert_id}
use Rattle.rules.specs.Dispatcher.{with_places, with_marks, with_mark_delete, mark_at, complete_at, is_outside, ack_entry, ack_mark, ack_id, drop_complete, leading_complete, advance_mark_delete}
use Rattle.rules.specs.Groups.{Group, groups}
use Rattle.rules.specs.Commands.{ack_groups, ack_shared, ack}
use Rattle.rules.specs.Calls.Call.{Ack}
use Rattle.rules.specs.Book.{Book, Who, updated, ack_listed, with_acked, enter_ack, enter_done, records_of}
use Rattle.rules.proofs.Table.{by_test, never_both, unequal, all_kept, count_parted, count_kept}
use Rattle.rules.proofs.State.{decides_pairs, decides_ids, updated_here, updated_elsewhere, dispatcher_pair}
use Rattle.rules.proofs.Ledger.{position_same, outside_batch}
use Rattle.rules.proofs.Ids.{any_insert_id}
use Rattle.rules.proofs.Demand.Invariant.{complete_in, acked_by, held_in, MarksAgree, Fits, Invariant}
use Rattle.rules.proofs.Demand.Marks.{each_set, acked_inside, acked_outside, placed_marks}
use Rattle.rules.proofs.Demand.Known.{known, known_plain, has_dispatcher}
use Rattle.rules.proofs.Demand.Changes.{replaced}
use Rattle.rules.proofs.Demand.Outcomes.{Keeps, keeps_guard, keeps_live, keeps_groups, keeps_kind}
use Rattle.rules.proofs.Kept.Ack.{leading_le}

-- ---- one id

-- completion lasts
ack_lasts : (batch : ℕ) (ws : List ℕ) (a : Acked) → a.complete ≡ true → (ack_entry batch ws a).complete ≡ true
unfolding ack_entry
ack_lasts batch ws a e =
    by_test (ltb 1 batch && not (is_empty ws))
    (λ t. rw (t, e))
    (λ t. rw t)

-- an id that is not in the ledger becomes complete
ack_outside : (ws : List ℕ) (a : Acked) → ack_entry 0 ws a ≡ completed
unfolding ack_entry
ack_outside ws a = refl

module _ {l : List StoredMessage} {f : Id → Acked} {mark_delete : ℕ} {marks : List Mark} {outside : List Id}
    (h : MarksAgree l f mark_delete marks outside) (j : Id) (ws : List ℕ) where
  -- how far the id is acknowledged afterwards
  abbrev acked_now : Acked
  acked_now = ack_entry (batch_size_of j l) ws (f j)

  module _ (inside : position_of j l < length l) where
    -- an id of the ledger: its mark afterwards
    abbrev mark_now : Mark
    mark_now = ack_mark (batch_size_of j l) ws (get_or marks (position_of j l) new_mark)

    -- its mark is as far acknowledged as the book has it
    mark_is : mark_now.acked ≡ acked_now
    unfolding ack_mark
    mark_is = ap (λ (a : Acked). ack_entry (batch_size_of j l) ws a) (sym (h.agree j ∙ acked_inside l marks outside j inside))

    -- and every other id as before
    agree_inside : (i : Id) → updated same_id f j acked_now i ≡ acked_by l (set marks (position_of j l) mark_now) outside i
    agree_inside i =
        let k = position_of j l in
        let here : k < length marks = omega (arith, h.size) in
        let now = set marks k mark_now in
        by_test (same_id i j)
        (λ t. subst (λ (x : Id). updated same_id f j acked_now x ≡ acked_by l now outside x) (sym (decides_ids.equal i j t))
        (updated_here decides_ids f j acked_now
        ∙ sym (acked_inside l now outside j inside ∙ ap (λ (x : Mark). x.acked) (get_or-set_same marks k mark_now new_mark here) ∙ mark_is)))
        (λ t. updated_elsewhere decides_ids f j acked_now i t ∙ h.agree i
        ∙ by_test (ltb (position_of i l) (length l))
        (λ u.
        let g : position_of i l < length l = ltb-true (position_of i l) (length l) u in
        acked_inside l marks outside i g
        ∙ ap (λ (x : Mark). x.acked) (sym (get_or-set_other marks k (position_of i l) mark_now new_mark (λ e. unequal decides_ids i j t (position_same i j l g e))))
        ∙ sym (acked_inside l now outside i g))
        (λ u.
        let g : length l ≤ position_of i l = ltb-false (position_of i l) (length l) u in
        acked_outside l marks outside i g ∙ sym (acked_outside l now outside i g)))

    -- so the marks agree
    ack_inside : MarksAgree l (updated same_id f j acked_now) mark_delete (set marks (position_of j l) mark_now) outside
    unfolding ack_mark
    ack_inside = record {
      size = length-set marks (position_of j l) mark_now ∙ h.size;
      agree = agree_inside;
      in_list = h.in_list;
      below = each_set (λ (k : ℕ) (x : Mark). k < mark_delete → x.acked.complete ≡ true) marks (position_of j l) mark_now new_mark
          (λ g y. ack_lasts (batch_size_of j l) ws (get_or marks (position_of j l) new_mark).acked (h.below (position_of j l) y)) h.below;
    }

    -- what is not complete afterwards was not before
    incomplete_before : (k : ℕ) → complete_in (set marks (position_of j l) mark_now) k ≡ false → complete_in marks k ≡ false
    unfolding ack_mark
    incomplete_before =
        let old = (get_or marks (position_of j l) new_mark).acked in
        each_set (λ (k : ℕ) (x : Mark). x.acked.complete ≡ false → complete_in marks k ≡ false) marks (position_of j l) mark_now new_mark
        (λ g c. by_test old.complete
        (λ u. never_both (ack_entry (batch_size_of j l) ws old).complete (ack_lasts (batch_size_of j l) ws old u) c) (λ u. u))
        (λ k c. c)

  -- an id outside the ledger: the complete ones afterwards
  abbrev outside_now : List Id
  outside_now = cond (any (same_id j) outside) outside (insert_id j outside)

  -- it is among them
  among : any (same_id j) outside_now ≡ true
  unfolding any
  among =
      by_test (any (same_id j) outside) (λ t. rw t t)
      (λ t. rw t (any_insert_id (same_id j) j outside ∙ rw (decides_ids.self j)))

  -- and no other is that was not
  no_other : (i : Id) → same_id i j ≡ false → any (same_id i) outside_now ≡ any (same_id i) outside
  unfolding any
  no_other i e =
      by_test (any (same_id j) outside) (λ t. rw t)
      (λ t. rw t (any_insert_id (same_id i) j outside ∙ rw e))

  -- so every id is as far acknowledged as the book has it
  agree_outside : length l ≤ position_of j l → (i : Id) → updated same_id f j acked_now i ≡ acked_by l marks outside_now i
  unfolding acked_by
  agree_outside past i =
      by_test (same_id i j)
      (λ t. subst (λ (x : Id). updated same_id f j acked_now x ≡ acked_by l marks outside_now x) (sym (decides_ids.equal i j t))
      (updated_here decides_ids f j acked_now
      ∙ ap (λ (n : ℕ). ack_entry n ws (f j)) (outside_batch j l past) ∙ ack_outside ws (f j)
      ∙ sym (acked_outside l marks outside_now j past ∙ ap (λ (x : Bool). cond x completed unacknowledged) among)))
      (λ t. updated_elsewhere decides_ids f j acked_now i t ∙ h.agree i
      ∙ ap (λ (x : Bool). cond (ltb (position_of i l) (length l)) (get_or marks (position_of i l) new_mark).acked
      (cond x completed unacknowledged)) (sym (no_other i t)))

module _ {p : Pair} {l : List StoredMessage} {who : ℕ → Who} {ring : List ℕ} {handed : Id → Bool} where
  -- one id acknowledged
  acked_id : (f : Id → Acked) (d : Dispatcher) (j : Id) (ws : List ℕ) → Fits p l who ring handed f d
      → Fits p l who ring handed (updated same_id f j (ack_entry (batch_size_of j l) ws (f j))) (ack_id l d j ws)
  unfolding ack_id with_marks mark_at is_outside
  acked_id f d j ws y =
      let k = position_of j l in
      let m = y.marks_agree in
      by_test (ltb k (length l))
      (λ t. rw t
      (let inside = ltb-true k (length l) t in
      record {
        ringed = y.ringed;
        marks_agree = ack_inside m j ws inside;
        placed = placed_marks (incomplete_before m j ws inside) y.placed;
      }))
      (λ t. rw t
      (record {
        ringed = y.ringed;
        marks_agree = record {
          size = m.size;
          agree = agree_outside m j ws (ltb-false k (length l) t);
          in_list = m.in_list;
          below = m.below;
        };
        placed = y.placed;
      }))

  -- and each of a list
  acked_groups : (f : Id → Acked) (d : Dispatcher) (gs : List Group) → Fits p l who ring handed f d
      → Fits p l who ring handed (ack_listed l f gs) (ack_groups l d gs)
  unfolding ack_listed ack_groups
  acked_groups f d [] y = y
  acked_groups f d (g ∷ gs) y =
      acked_groups (updated same_id f g.id (ack_entry (batch_size_of g.id l) g.words (f g.id)))
      (ack_id l d g.id g.words) gs (acked_id f d g.id g.words y)

  -- the acker drops its complete entries; what is not complete stays where it stands
  dropped : {f : Id → Acked} (i : ℕ) (d : Dispatcher) → Fits p l who ring handed f d → Fits p l who ring handed f (drop_complete i d)
  unfolding drop_complete with_places complete_at mark_at
  dropped i d y =
      let z = y.placed in
      let stay : Held → Bool = λ (x : Held). not (eqb i x.holder && complete_in d.marks x.position) in
      record {
        ringed = y.ringed;
        marks_agree = y.marks_agree;
        placed = record {
          cursor_in_list = z.cursor_in_list;
          handed_below = z.handed_below;
          once = λ k g c.
              ap (λ (n : ℕ). n + count k d.redelivery)
              (count_kept stay (λ (x : Held). x.position) k (λ x e. rw (← e, c, and-false (eqb i x.holder))) d.in_flight)
              ∙ z.once k g c;
          never = λ k g. let a = count_parted stay (λ (x : Held). x.position) k d.in_flight in let c = z.never k g in omega arith;
          holders = all_kept (held_in ring) (held_in ring) stay (λ x e t. e) d.in_flight z.holders;
        };
      }

-- ---- mark-delete

-- and they are complete
leading_below : (marks : List Mark) (k : ℕ) → k < leading_complete marks → complete_in marks k ≡ true
unfolding leading_complete
leading_below [] k g = absurd (omega arith)
leading_below (m ∷ marks) zero g = by_test m.acked.complete (λ t. t) (λ t. absurd (let z : 0 < 0 = rw t at g in omega arith))
leading_below (m ∷ marks) (suc k) g =
    by_test m.acked.complete
    (λ t. let z : suc k < suc (leading_complete marks) = rw t at g in leading_below marks k (omega arith))
    (λ t. absurd (let z : suc k < 0 = rw t at g in omega arith))

-- what mark-delete moves over is complete
advanced : {l : List StoredMessage} {f : Id → Acked} {mark_delete : ℕ} {marks : List Mark} {outside : List Id}
    → MarksAgree l f mark_delete marks outside
    → MarksAgree l f (mark_delete + leading_complete (drop mark_delete marks)) marks outside
advanced {mark_delete = mark_delete} {marks = marks} h = record {
  size = h.size;
  agree = h.agree;
  in_list = omega (arith, leading_le (drop mark_delete marks), length-drop mark_delete marks, h.size, h.in_list);
  below = λ k g. by_test (ltb k mark_delete)
      (λ t. h.below k (ltb-true k mark_delete t))
      (λ t.
      let e : mark_delete + (k - mark_delete) ≡ k = omega (arith, ltb-false k mark_delete t) in
      let x : k - mark_delete < leading_complete (drop mark_delete marks) = omega (arith, ltb-false k mark_delete t) in
      subst (λ (n : ℕ). complete_in marks n ≡ true) e
      (ap (λ (m : Mark). m.acked.complete) (sym (get_or-drop mark_delete marks (k - mark_delete) new_mark))
      ∙ leading_below (drop mark_delete marks) (k - mark_delete) x));
}

-- ---- the call

module _ (s : State) (b : Book) (h : Invariant s b) (i : ℕ) (list : List ℕ) (c : Consumer) (e : consumer_of s i ≡ some c)
    (gs : List Group) (read : groups list ≡ some gs) where
  -- a plain ack changes nothing
  ack_plain : c.kind ≡ plain → Invariant s (enter_done b (Ack i list) [])
  unfolding enter_done enter_ack
  ack_plain k = rw (known_plain s b h i c e k) h

  -- the dispatcher after a shared one
  acked_all : Fits c.pair (ledger_of s c.pair.topic) b.who (b.attached c.pair) (b.handed_out c.pair)
      (ack_listed (ledger_of s c.pair.topic) (b.acked c.pair) gs)
      (advance_mark_delete (drop_complete i (ack_groups (ledger_of s c.pair.topic) (dispatcher s c.pair) gs)))
  unfolding advance_mark_delete with_mark_delete
  acked_all =
      let d = dispatcher s c.pair in
      let y = dropped i (ack_groups (ledger_of s c.pair.topic) d gs) (acked_groups (b.acked c.pair) d gs (h.fits c.pair)) in
      record {
        ringed = y.ringed;
        marks_agree = advanced y.marks_agree;
        placed = y.placed;
      }

  -- a shared ack, in the state and in the book
  ack_shared_done : c.kind ≡ shared
      → Invariant (put_dispatcher s (advance_mark_delete (drop_complete i (ack_groups (ledger_of s (dispatcher s c.pair).pair.topic) (dispatcher s c.pair) gs)))) (enter_done b (Ack i list) [])
  unfolding enter_done enter_ack or_else with_acked
  ack_shared_done k =
      let p = c.pair in
      let l = ledger_of s p.topic in
      let a = known s b h i c e k in
      let f = ack_listed l (b.acked p) gs in
      rw (read, a.who_is, h.lists p.topic)
      (subst (λ (m : List StoredMessage). Invariant (put_dispatcher s (advance_mark_delete (drop_complete i (ack_groups m (dispatcher s p) gs)))) (with_acked b p f))
      (ap (λ (q : Pair). ledger_of s q.topic) (sym (dispatcher_pair s p)))
      (replaced s b h p (advance_mark_delete (drop_complete i (ack_groups l (dispatcher s p) gs)))
      (has_dispatcher s b h p i (omega (arith, a.in_ring)))
      b.handed_out (λ q t. refl)
      (updated same_pair b.acked p f) (λ q t. updated_elsewhere decides_pairs b.acked p f q t)
      (rw (updated_here decides_pairs b.acked p f) acked_all)))

-- ack keeps the invariant
pub ack_keeps : (s : State) (b : Book) → Invariant s b → (i : ℕ) (list : List ℕ) → Keeps s b (Ack i list) (ack s i list)
unfolding ack ack_shared records_of
ack_keeps s b h i list =
    keeps_live s b h (Ack i list) i _ (λ c e.
    keeps_groups s b h (Ack i list) list _ (λ gs read.
    keeps_kind s b h (Ack i list) c.kind _ _
    (ack_plain s b h i list c e gs read)
    (λ k. keeps_guard s b h (Ack i list) _ 11 _ (λ t. ack_shared_done s b h i list c e gs read k))))
