-- Values that are spelt by zeros alone: the empty list, reserved space, and pairs and changes of type of such.
use mathlib.Core.Path.{◌≡◌, refl, sym, ap, ap₂, ◌∙◌}
use mathlib.Core.List.{List, [], ◌∷◌, ◌++◌}
use Prim.Native.Nat.{ℕ, ◌*◌}
use native.Mathlib.Nat.{zero-add, min-zero}
use native.Mathlib.Numerals.{one-add}
use lib.ListN.{replicate, replicate-append-replicate}
use Rattle.words.specs.Words.{fit_fill}
use Rattle.words.specs.Codec.{Codec, Change, zeros, pair, via, upto, spell}

-- a value is spelt by zeros
abbrev pub Zero : {A : Type 0} → Codec A → A → Type 0
Zero c a = c.enc a ≡ replicate c.width 0

module _ {A : Type 0} where
  -- an empty list is a count of 0 and empty slots
  pub zero_upto : (c : Codec A) (n : ℕ) → Zero (upto c n) []
  unfolding upto spell
  zero_upto c n =
      ap₂ {A = ℕ} {B = List ℕ} ◌∷◌ (min-zero n) (fit_fill [] (n * c.width) (n * c.width) (zero-add (n * c.width)))
      ∙ ap (λ (k : ℕ). replicate k 0) (sym (one-add (n * c.width)))

module _ {A B : Type 0} where
  pub zero_pair : (c : Codec A) (d : Codec B) (a : A) (b : B) → Zero c a → Zero d b → Zero (pair c d) (a, b)
  unfolding pair
  zero_pair c d a b p q = ap₂ {A = List ℕ} {B = List ℕ} ◌++◌ p q ∙ replicate-append-replicate c.width d.width 0

  pub zero_via : {c : Codec A} (v : Change c B) (b : B) → Zero c (v.from b) → Zero (via v) b
  unfolding via
  zero_via v b p = p

pub zero_zeros : (k : ℕ) → Zero (zeros k) tt
unfolding zeros
zero_zeros k = refl
