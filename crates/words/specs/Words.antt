-- Words in a row: a list cut or filled to a length, and the test that a list starts with given words.
-- These are what a fixed-width spelling and the check of one are made of.
use Rattle.std.specs.Prelude.{◌≡◌, refl, Bool, true, false, ◌&&◌, List, [], ◌∷◌, ◌++◌, ℕ, zero, suc, ◌+◌, ◌-◌, ◌*◌, ◌≤◌, eqb, length, take, replicate}
use Rattle.std.proofs.Common.{sym, ap, ◌∙◌, le_of_suc-le-suc, not-suc-le-zero, add-mul, add-sub_of_le, arith, length-append, length-take}
use Rattle.std.proofs.lemmas.List.{length-replicate}
use Rattle.std.proofs.Math.Seq.{take-append-add}

-- ws cut, or filled with zeros, to k words.
unfoldable pub fit : ℕ → List ℕ → List ℕ
fit k ws = take k (ws ++ replicate k 0)

-- ws starts with the words us.
unfoldable pub starts : List ℕ → List ℕ → Bool
starts [] ws = true
starts (u ∷ us) [] = false
starts (u ∷ us) (w ∷ ws) = eqb w u && starts us ws

-- The first k words are there and are all 0.
unfoldable pub blank : ℕ → List ℕ → Bool
blank k ws = starts (replicate k 0) ws

-- it has k words
pub length_fit : (k : ℕ) (ws : List ℕ) → length (fit k ws) ≡ k
unfolding fit
length_fit k ws = simp (length-take, length-append, length-replicate) (omega arith)

take_replicate : {A : Type 0} (a : A) (j k : ℕ) → j ≤ k → take j (replicate k a) ≡ replicate j a
take_replicate a zero k h = refl
take_replicate a (suc j) zero h = absurd (not-suc-le-zero h)
take_replicate {A} a (suc j) (suc k) h = ap {B = List A} (λ r. a ∷ r) (take_replicate a j k (le_of_suc-le-suc h))

-- What is short enough is kept whole and filled with zeros.
pub fit_fill : (ws : List ℕ) (j k : ℕ) → length ws + j ≡ k → fit k ws ≡ ws ++ replicate j 0
unfolding fit
fit_fill ws j k e = rw (← e, take-append-add, take_replicate {A = ℕ} 0 j (length ws + j) (omega arith))

-- n slots and those that are left are all cap slots.
pub slots_left : (n cap w : ℕ) → n ≤ cap → n * w + (cap - n) * w ≡ cap * w
slots_left n cap w h = sym (add-mul n (cap - n) w) ∙ ap (λ (k : ℕ). k * w) (add-sub_of_le h)
