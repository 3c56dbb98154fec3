-- Words compared one after the other.
use mathlib.Core.Path.{◌≡◌, refl, ap}
use mathlib.Core.Bool.{Bool, ◌&&◌}
use mathlib.Core.List.{List, [], ◌∷◌}
use Prim.Native.Nat.{ℕ}
use lib.Dec.{eqb}
use lib.Pointwise.{pointwise}
use Rattle.cases_line.specs.Words.{same_words}

-- so the library compares slices
pub compared : (a b : List ℕ) → pointwise eqb a b ≡ same_words a b
unfolding same_words
compared [] [] = refl
compared [] (y ∷ b) = refl
compared (x ∷ a) [] = refl
compared (x ∷ a) (y ∷ b) = ap (λ (t : Bool). eqb x y && t) (compared a b)
