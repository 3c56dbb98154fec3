-- Marks and rings that change: marks in their redelivery counts alone, or so that what is complete stays complete, and a
-- ring that keeps every holder.
use Prim.Native.Nat.{ℕ, ◌<◌, ◌≤◌}
use mathlib.Core.Path.{◌≡◌, refl, sym, ap, ◌∙◌, subst}
use mathlib.Core.Bool.{Bool, true, false, cond}
use mathlib.Core.List.{List}
use lib.Dec.{eqb, ltb}
use lib.ListN.{length, get_or, set, length-set}
use lib.Seq.{get_or-set_same, get_or-set_other, set_out}
use borrow.Author.Tests.{eqb-true, eqb-false, ltb-true, ltb-false, lt-ltb, le-ltb}
use Rattle.rules.specs.Table.{any, all}
use Rattle.rules.specs.State.{Id, same_id, StoredMessage, Acked, Mark, Held, completed, unacknowledged, new_mark}
use Rattle.rules.specs.Ledger.{position_of}
use Rattle.rules.proofs.Table.{by_test}
use Rattle.rules.proofs.Demand.Invariant.{complete_in, acked_by, MarksAgree, held_in, Placed}

-- something holds of the element at each place of a list with one place set, if it does of the new one and of the old ones
pub each_set : {A : Type 0} (P : ℕ → A → Type 0) (l : List A) (k : ℕ) (a d : A) → (k < length l → P k a)
    → ((j : ℕ) → P j (get_or l j d)) → (j : ℕ) → P j (get_or (set l k a) j d)
each_set {A} P l k a d here there j =
    by_test (eqb j k)
    (λ t. by_test (ltb k (length l))
    (λ u.
    let g : k < length l = ltb-true k (length l) u in
    subst (λ (n : ℕ). P n (get_or (set l k a) n d)) (sym (eqb-true j k t)) (subst (λ (y : A). P k y) (sym (get_or-set_same l k a d g)) (here g)))
    (λ u. subst (λ (m : List A). P j (get_or m j d)) (sym (set_out l k a (ltb-false k (length l) u))) (there j)))
    (λ t. subst (λ (y : A). P j y) (sym (get_or-set_other l k j a d (eqb-false j k t))) (there j))

module _ (l : List StoredMessage) (marks : List Mark) (outside : List Id) (i : Id) where
  -- how far an id of the ledger is acknowledged
  pub acked_inside : position_of i l < length l → acked_by l marks outside i ≡ (get_or marks (position_of i l) new_mark).acked
  unfolding acked_by
  acked_inside h = rw (lt-ltb (position_of i l) (length l) h)

  -- and one outside it
  pub acked_outside : length l ≤ position_of i l → acked_by l marks outside i ≡ cond (any (same_id i) outside) completed unacknowledged
  unfolding acked_by
  acked_outside h = rw (le-ltb (position_of i l) (length l) h)

-- marks that acknowledge alike
pub record Alike (old new : List Mark) : Type 0 where
  -- there are as many
  pub lengths : length new ≡ length old
  -- each is as far acknowledged
  pub ackeds : (k : ℕ) → (get_or new k new_mark).acked ≡ (get_or old k new_mark).acked

-- a mark set to one that acknowledges as the old one did
pub alike_set : (marks : List Mark) (k : ℕ) (m : Mark) → m.acked ≡ (get_or marks k new_mark).acked → Alike marks (set marks k m)
alike_set marks k m e = record {
  lengths = length-set marks k m;
  ackeds = each_set (λ (j : ℕ) (x : Mark). x.acked ≡ (get_or marks j new_mark).acked) marks k m new_mark (λ l. e) (λ j. refl);
}

-- they agree with the book as the old ones did
pub alike_agree : {l : List StoredMessage} {acked : Id → Acked} {mark_delete : ℕ} {old new : List Mark} {outside : List Id}
    → Alike old new → MarksAgree l acked mark_delete old outside → MarksAgree l acked mark_delete new outside
unfolding acked_by
alike_agree {l} {outside = outside} e h = record {
  size = e.lengths ∙ h.size;
  agree = λ i. h.agree i
      ∙ ap (λ (x : Acked). cond (ltb (position_of i l) (length l)) x (cond (any (same_id i) outside) completed unacknowledged))
      (sym (e.ackeds (position_of i l)));
  in_list = h.in_list;
  below = λ k g. ap (λ (x : Acked). x.complete) (e.ackeds k) ∙ h.below k g;
}

module _ {l : List StoredMessage} {handed : Id → Bool} {cursor : ℕ} {queue : List ℕ} {held : List Held} where
  -- entries stand under other marks as they did, where no complete one is complete no more
  pub placed_marks : {ring : List ℕ} {old new : List Mark} → ((k : ℕ) → complete_in new k ≡ false → complete_in old k ≡ false)
      → Placed l ring handed cursor queue held old → Placed l ring handed cursor queue held new
  placed_marks f h = record {
    cursor_in_list = h.cursor_in_list;
    handed_below = h.handed_below;
    once = λ k g c. h.once k g (f k c);
    never = h.never;
    holders = h.holders;
  }

  -- and so under marks that acknowledge alike
  pub alike_placed : {ring : List ℕ} {old new : List Mark} → Alike old new → Placed l ring handed cursor queue held old
      → Placed l ring handed cursor queue held new
  alike_placed e = placed_marks (λ k c. ap (λ (x : Acked). x.complete) (sym (e.ackeds k)) ∙ c)

  -- entries stand as well over another ring that has their holders
  pub placed_ring : {old new : List ℕ} {marks : List Mark} → all (held_in new) held ≡ true
      → Placed l old handed cursor queue held marks → Placed l new handed cursor queue held marks
  placed_ring e h = record { cursor_in_list = h.cursor_in_list; handed_below = h.handed_below; once = h.once; never = h.never; holders = e }
