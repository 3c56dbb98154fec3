-- A dispatcher's mark, its four numbers and its entries in flight, read and written whole.
use mathlib.Core.Path.{◌≡◌, refl, sym, ap, ◌∙◌}
use mathlib.Core.Bool.{Bool, true, false}
use mathlib.Core.List.{List, [], ◌∷◌, ◌++◌}
use Prim.Native.Nat.{ℕ, suc, ◌+◌, ◌*◌, ◌<◌}
use native.Mathlib.Omega.{arith}
use lib.Dec.{eqb}
use lib.ListN.{length, get_or, set, take, drop}
use Rattle.words.specs.Codec.{bit}
use Rattle.words.specs.Act.{lay}
use Rattle.rules.specs.State.{Id, Dispatcher, new_mark}
use Rattle.rules.specs.Ledger.{after_id, insert_id}
use Rattle.rules.specs.Dispatcher.{with_next, with_cursor, with_mark_delete, with_total, with_places, with_marks, mark_at, complete_at}
use Rattle.rules.proofs.Table.{by_test}
use Rattle.layout.specs.Layout.{decode, put}
use Rattle.layout.specs.Offsets.{dispatcher_at, mark_in, held_in}
use Rattle.layout.specs.Fields.{dispatcher_nth, set_dispatcher}
use Rattle.layout.specs.Placed.{DispatcherIn}
use Rattle.layout.specs.Whole.{ShapedDispatcher}
use Rattle.layout.proofs.Store.{canon_entries}
use Rattle.layout.proofs.GetsDispatcher.{read_mark_complete, read_redelivery_count, read_w0, read_w1, read_w2, read_w3, read_next, read_cursor, read_mark_delete, read_total}
use Rattle.layout.proofs.SetsDispatcher as layout
use Rattle.store.specs.Find.{slot}
use Rattle.operation_laws.proofs.Frame.{dispatcher_twice, dispatcher_set_in}
use Rattle.dispatcher.specs.Held.{held_of}
use Rattle.dispatcher.specs.Outside.{by_order}
use Rattle.dispatcher.specs.Values.{mark_of, head_of, with_head}
use Rattle.dispatcher.specs.declared.marks.Mark as declared
use Rattle.head.specs.declared.Head as numbers
use Rattle.dispatcher.proofs.Places.{two_words}

-- a flag's word is 1 where the flag is set
pub bit_set : (b : Bool) → eqb (bit b) 1 ≡ b
bit_set true = refl
bit_set false = refl

-- six words written one after the other
pub six_words : (a b c d f g to : ℕ) (ws : List ℕ)
    → set (set (set (set (set (set ws to a) (to + 1) b) (to + 2) c) (to + 3) d) (to + 4) f) (to + 5) g ≡ (lay (a ∷ b ∷ c ∷ d ∷ f ∷ g ∷ [])).run to ws
unfolding lay
six_words a b c d f g to ws =
    let one : to + 1 ≡ suc to = omega arith in
    let two : to + 2 ≡ suc (suc to) = omega arith in
    let three : to + 3 ≡ suc (suc (suc to)) = omega arith in
    let four : to + 4 ≡ suc (suc (suc (suc to))) = omega arith in
    let five : to + 5 ≡ suc (suc (suc (suc (suc to)))) = omega arith in
    rw (one, two, three, four, five)

-- an id inserted stands before the first that comes after it
pub placed : (i : Id) (l : List Id) → insert_id i l ≡ take (slot by_order i l) l ++ i ∷ drop (slot by_order i l) l
unfolding insert_id slot
placed i [] = refl
placed i (j ∷ l) = by_test (after_id j i) (λ t. rw t) (λ t. rw t (ap (λ (m : List Id). j ∷ m) (placed i l)))

module _ {e : ℕ} {ws : List ℕ} (d at : ℕ) (h : DispatcherIn e ws d) (a : at ≡ dispatcher_at e d) where
  abbrev D : Dispatcher
  D = dispatcher_nth (decode ws) d

  module _ (k : ℕ) (l : k < length D.marks) where
    -- where mark k stands
    abbrev to : ℕ
    to = at + 176 + 3 * e + k * 6

    there : at + 176 + 3 * e + k * 6 ≡ dispatcher_at e d + mark_in e k
    there = omega arith

    -- whether it is complete
    pub complete_here : eqb (get_or ws to 0) 1 ≡ complete_at D k
    unfolding complete_at mark_at
    complete_here =
        rw there (ap (λ (w : ℕ). eqb w 1) (read_mark_complete h.canon d h.there k l) ∙ bit_set (get_or D.marks k new_mark).acked.complete)

    -- the whole mark
    pub mark_here : mark_of (record { complete = eqb (get_or ws to 0) 1; redelivery_count = get_or ws (to + 1) 0; unacked = record { w0 = get_or ws (to + 2) 0; w1 = get_or ws (to + 3) 0; w2 = get_or ws (to + 4) 0; w3 = get_or ws (to + 5) 0 } }) ≡ mark_at D k
    unfolding mark_of mark_at complete_at
    mark_here =
        let q : eqb (get_or ws to 0) 1 ≡ (get_or D.marks k new_mark).acked.complete = complete_here in
        let c : get_or ws (to + 1) 0 ≡ (get_or D.marks k new_mark).redelivery_count = rw there (read_redelivery_count h.canon d h.there k l) in
        let x0 : get_or ws (to + 2) 0 ≡ (get_or D.marks k new_mark).acked.unacked.w0 = rw there (read_w0 h.canon d h.there k l) in
        let x1 : get_or ws (to + 3) 0 ≡ (get_or D.marks k new_mark).acked.unacked.w1 = rw there (read_w1 h.canon d h.there k l) in
        let x2 : get_or ws (to + 4) 0 ≡ (get_or D.marks k new_mark).acked.unacked.w2 = rw there (read_w2 h.canon d h.there k l) in
        let x3 : get_or ws (to + 5) 0 ≡ (get_or D.marks k new_mark).acked.unacked.w3 = rw there (read_w3 h.canon d h.there k l) in
        rw (q, c, x0, x1, x2, x3)

    -- the whole mark written
    pub marked : (m : declared.Mark)
        → set (set (set (set (set (set ws to (bit m.complete)) (to + 1) m.redelivery_count) (to + 2) m.unacked.w0) (to + 3) m.unacked.w1) (to + 4) m.unacked.w2) (to + 5) m.unacked.w3
        ≡ put ws (set_dispatcher (decode ws) d (with_marks D (set D.marks k (mark_of m)) D.outside))
    unfolding mark_of
    marked m =
        six_words (bit m.complete) m.redelivery_count m.unacked.w0 m.unacked.w1 m.unacked.w2 m.unacked.w3 to ws
        ∙ rw there (ap (λ (vs : List ℕ). (lay vs).run (dispatcher_at e d + mark_in e k) ws) (sym (layout.enc_mark (mark_of m)))
        ∙ layout.write_mark h.canon d h.there k l (mark_of m))

  -- the four numbers
  pub head_here : record { next = get_or ws (at + 2) 0; cursor = get_or ws (at + 3) 0; mark_delete = get_or ws (at + 4) 0; total_available_permits = get_or ws (at + 5) 0 } ≡ head_of D
  unfolding head_of
  head_here =
      rw a (rw (read_next h.canon d h.there, read_cursor h.canon d h.there, read_mark_delete h.canon d h.there, read_total h.canon d h.there))

  -- ---- the four numbers written

  -- they leave the lists alone
  head_fits : (x : numbers.Head) → ShapedDispatcher (decode ws).entries (with_head D x)
  unfolding with_head
  head_fits x =
      let f : ShapedDispatcher (decode ws).entries D = rw (canon_entries h.canon) h.lists_fit in
      record {
        ring_fits = f.ring_fits;
        outside_fits = f.outside_fits;
        queue_fits = f.queue_fits;
        flight_fits = f.flight_fits;
        marks_fit = f.marks_fit;
      }

  -- words that have the dispatcher with other numbers
  abbrev Headed : List ℕ → numbers.Head → Type 0
  Headed us x = us ≡ put ws (set_dispatcher (decode ws) d (with_head D x))

  -- the dispatcher is still there
  headed_in : {us : List ℕ} (x : numbers.Head) → Headed us x → DispatcherIn e us d
  headed_in x w = dispatcher_set_in ws (decode ws) d (with_head D x) h.canon.shaped (canon_entries h.canon) (head_fits x) w h.there

  -- and one more number is written
  headed_then : {us vs : List ℕ} (x : numbers.Head) (g : Dispatcher → Dispatcher) → Headed us x
      → vs ≡ put us (set_dispatcher (decode us) d (g (dispatcher_nth (decode us) d)))
      → vs ≡ put ws (set_dispatcher (decode ws) d (g (with_head D x)))
  headed_then x g w f = dispatcher_twice ws (decode ws) d (with_head D x) g h.canon.shaped (head_fits x) h.there w f

  -- one after the other, where they stand
  headed_at : (x : numbers.Head)
      → set (set (set (set ws (dispatcher_at e d + 2) x.next) (dispatcher_at e d + 3) x.cursor) (dispatcher_at e d + 4) x.mark_delete)
      (dispatcher_at e d + 5) x.total_available_permits
      ≡ put ws (set_dispatcher (decode ws) d (with_head D x))
  unfolding with_head with_next with_cursor with_mark_delete with_total
  headed_at x =
      let one : numbers.Head = record { next = x.next; cursor = D.cursor; mark_delete = D.mark_delete; total_available_permits = D.total_available_permits } in
      let two : numbers.Head = record { next = x.next; cursor = x.cursor; mark_delete = D.mark_delete; total_available_permits = D.total_available_permits } in
      let three : numbers.Head = record { next = x.next; cursor = x.cursor; mark_delete = x.mark_delete; total_available_permits = D.total_available_permits } in
      let u1 : List ℕ = set ws (dispatcher_at e d + 2) x.next in
      let u2 : List ℕ = set u1 (dispatcher_at e d + 3) x.cursor in
      let u3 : List ℕ = set u2 (dispatcher_at e d + 4) x.mark_delete in
      let w1 : Headed u1 one = layout.write_next h.canon d h.there x.next in
      let h1 = headed_in one w1 in
      let w2 : Headed u2 two = headed_then one (λ y. with_cursor y x.cursor) w1 (layout.write_cursor h1.canon d h1.there x.cursor) in
      let h2 = headed_in two w2 in
      let w3 : Headed u3 three = headed_then two (λ y. with_mark_delete y x.mark_delete) w2 (layout.write_mark_delete h2.canon d h2.there x.mark_delete) in
      let h3 = headed_in three w3 in
      headed_then three (λ y. with_total y x.total_available_permits) w3 (layout.write_total h3.canon d h3.there x.total_available_permits)

  pub headed : (x : numbers.Head)
      → set (set (set (set ws (at + 2) x.next) (at + 3) x.cursor) (at + 4) x.mark_delete) (at + 5) x.total_available_permits
      ≡ put ws (set_dispatcher (decode ws) d (with_head D x))
  headed x = rw a (headed_at x)

  -- entry j in flight written whole
  pub held_written : (j i k : ℕ) → j < length D.in_flight
      → set (set ws (at + 175 + e + j * 2) i) (at + 175 + e + j * 2 + 1) k
      ≡ put ws (set_dispatcher (decode ws) d (with_places D D.redelivery (set D.in_flight j (held_of i k))))
  held_written j i k l =
      let to : at + 175 + e + j * 2 ≡ dispatcher_at e d + held_in e j = omega arith in
      rw (two_words i k (at + 175 + e + j * 2) ws, to) (layout.write_held h.canon d h.there j l (held_of i k))
