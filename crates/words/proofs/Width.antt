-- How wide each codec is, so that the width of a layout is found by parts and nothing is unfolded.
use mathlib.Core.Path.{◌≡◌, refl, ap, ap₂}
use Prim.Native.Nat.{ℕ, ◌+◌, ◌*◌}
use Rattle.words.specs.Codec.{Codec, Change, word, flag, tag, zeros, pair, via, exactly, upto}

pub width_word : word.width ≡ 1
unfolding word
width_word = refl

pub width_flag : flag.width ≡ 1
unfolding flag via word
width_flag = refl

pub width_tag : (n : ℕ) → (tag n).width ≡ 1
unfolding tag via word
width_tag n = refl

pub width_zeros : (k : ℕ) → (zeros k).width ≡ k
unfolding zeros
width_zeros k = refl

module _ {A B : Type 0} where
  pub width_pair : (c : Codec A) (d : Codec B) {m n : ℕ} → c.width ≡ m → d.width ≡ n → (pair c d).width ≡ m + n
  unfolding pair
  width_pair c d e f = ap₂ ◌+◌ e f

  pub width_via : {c : Codec A} (v : Change c B) {m : ℕ} → c.width ≡ m → (via v).width ≡ m
  unfolding via
  width_via v e = e

module _ {A : Type 0} where
  pub width_exactly : (c : Codec A) {w : ℕ} (n : ℕ) → c.width ≡ w → (exactly c n).width ≡ n * w
  unfolding exactly
  width_exactly c n e = ap (λ (w : ℕ). n * w) e

  pub width_upto : (c : Codec A) {w : ℕ} (cap : ℕ) → c.width ≡ w → (upto c cap).width ≡ 1 + cap * w
  unfolding upto
  width_upto c cap e = ap (λ (w : ℕ). 1 + cap * w) e
