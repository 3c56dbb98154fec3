-- Counted lists of any kind: two are the same by their numbers, and a record of one word is that word.
use mathlib.Core.Path.{◌≡◌, refl}
use mathlib.Core.List.{List, [], ◌∷◌}
use Prim.Native.Nat.{ℕ}
use lib.ListN.{set}
use Rattle.words.specs.Act.{lay}
use Rattle.store.specs.declared.counted.Counted.{Counted}

-- lists with the same places
pub same_list : {x y : Counted} → x.count_at ≡ y.count_at → x.first ≡ y.first → x.width ≡ y.width → x ≡ y
same_list c f w = λ i. record { count_at = c i; first = f i; width = w i }

-- one word laid
pub one_word : (v to : ℕ) (ws : List ℕ) → (lay (v ∷ [])).run to ws ≡ set ws to v
unfolding lay
one_word v to ws = refl
