-- A list thinned in place: the elements that stay move to the front in their order, and what stands behind them is as it
-- was. Nothing here knows what the elements are.
use mathlib.Core.Path.{◌≡◌, refl, sym, ap, ◌∙◌}
use mathlib.Core.Bool.{Bool, true, false}
use mathlib.Core.List.{List, [], ◌∷◌, ◌++◌, append-nil}
use Prim.Native.Nat.{ℕ, suc, ◌+◌, ◌-◌, ◌≤◌, ◌<◌}
use native.Mathlib.Omega.{arith}
use native.Mathlib.Numerals.{add-one}
use lib.ListN.{length, get_or, set, take, drop, length-append, length-drop, drop_of_length-le}
use lib.Seq.{drop-cons, append_snoc, set_at, take_at, get_or-append-add, get_or-drop}
use Rattle.rules.specs.Table.{keep}

-- the list as it is while its places from j on are still to be looked at, and w elements stayed
pub record Thinning {A : Type 0} (p : A → Bool) (l now : List A) (j w : ℕ) : Type 0 where
  pub front : List A
  pub size : length front ≡ w
  pub behind : w ≤ j
  pub is : now ≡ front ++ drop w l
  pub whole : front ++ keep p (drop j l) ≡ keep p l

module _ {A : Type 0} (p : A → Bool) (l : List A) where
  -- at first nothing is looked at
  pub thinning_start : Thinning p l l 0 0
  thinning_start = record { front = []; size = refl; behind = omega arith; is = refl; whole = refl }

  module _ {now : List A} {j w : ℕ} (t : Thinning p l now j w) (z : A) where
    -- what is looked at stands where it stood
    pub thinning_nth : get_or now j z ≡ get_or l j z
    thinning_nth =
        let b = t.behind in
        let s : length t.front ≡ w = t.size in
        let n : length t.front + (j - w) ≡ j = omega arith in
        let m : w + (j - w) ≡ j = omega arith in
        ap (λ (k : ℕ). get_or now k z) (sym n)
        ∙ ap (λ (x : List A). get_or x (length t.front + (j - w)) z) t.is
        ∙ get_or-append-add t.front (drop w l) (j - w) z
        ∙ get_or-drop w l (j - w) z
        ∙ ap (λ (k : ℕ). get_or l k z) m

    -- there are as many as at first
    pub thinning_length : w ≤ length l → length now ≡ length l
    thinning_length h =
        let s : length t.front ≡ w = t.size in
        ap length t.is ∙ length-append t.front (drop w l) ∙ rw (length-drop, s) (omega arith)

    -- it stays: it is written behind those that stayed
    pub thinning_keep : j < length l → p (get_or l j z) ≡ true → Thinning p l (set now w (get_or l j z)) (suc j) (suc w)
    unfolding keep
    thinning_keep h y =
        let b = t.behind in
        record {
          front = t.front ++ get_or l j z ∷ [];
          size = length-append t.front (get_or l j z ∷ []) ∙ rw t.size (add-one w);
          behind = omega arith;
          is =
              ap (λ (x : List A). set x w (get_or l j z)) (t.is ∙ ap (λ (r : List A). t.front ++ r) (drop-cons l w z (omega arith)))
              ∙ set_at t.front (get_or l w z) (drop (suc w) l) (get_or l j z) w t.size
              ∙ sym (append_snoc t.front (get_or l j z) (drop (suc w) l));
          whole =
              append_snoc t.front (get_or l j z) (keep p (drop (suc j) l))
              ∙ sym (ap (λ (r : List A). t.front ++ keep p r) (drop-cons l j z h) ∙ rw y)
              ∙ t.whole;
        }

    -- it goes
    pub thinning_skip : j < length l → p (get_or l j z) ≡ false → Thinning p l now (suc j) w
    unfolding keep
    thinning_skip h y =
        let b = t.behind in
        record {
          front = t.front;
          size = t.size;
          behind = omega arith;
          is = t.is;
          whole = sym (ap (λ (r : List A). t.front ++ keep p r) (drop-cons l j z h) ∙ rw y) ∙ t.whole;
        }

    -- at the end those that stayed are the first
    pub thinning_end : length l ≤ j → take w now ≡ keep p l
    unfolding keep
    thinning_end h =
        ap (λ (x : List A). take w x) t.is ∙ take_at t.front (drop w l) w t.size
        ∙ sym (append-nil t.front) ∙ ap (λ (r : List A). t.front ++ keep p r) (sym (drop_of_length-le l h)) ∙ t.whole
