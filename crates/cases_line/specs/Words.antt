-- Words in a row, as the runner compares and copies them.
use Rattle.std.specs.Prelude.{ℕ, zero, suc, Bool, true, false, ◌&&◌, List, [], ◌∷◌, eqb}

-- whether two lists of words are the same
unfoldable pub same_words : List ℕ → List ℕ → Bool
same_words [] [] = true
same_words [] (y ∷ b) = false
same_words (x ∷ a) [] = false
same_words (x ∷ a) (y ∷ b) = eqb x y && same_words a b

-- the first n words of a list, 0 past its end
unfoldable pub first_words : ℕ → List ℕ → List ℕ
first_words zero ws = []
first_words (suc n) [] = 0 ∷ first_words n []
first_words (suc n) (w ∷ ws) = w ∷ first_words n ws
