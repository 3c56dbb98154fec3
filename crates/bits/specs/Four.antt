-- The four words of `UnackedBits` as a list, and back: the form in which the rules and the contracts hold a bit set.
use Rattle.std.specs.Prelude.{ℕ, List, [], ◌∷◌, get_or}
use Rattle.bits.specs.declared.UnackedBits.{UnackedBits}

-- the four words, lowest first
abbrev pub words : UnackedBits → List ℕ
words b = b.w0 ∷ b.w1 ∷ b.w2 ∷ b.w3 ∷ []

-- the bit set of a list's first four words, 0 where there is none
abbrev pub four : List ℕ → UnackedBits
four l = record { w0 = get_or l 0 0; w1 = get_or l 1 0; w2 = get_or l 2 0; w3 = get_or l 3 0 }
