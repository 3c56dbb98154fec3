-- Tests of rows of words: n rows of a width stand from an offset on, and each is known by its first word or its first two.
use Rattle.std.specs.Prelude.{ℕ, ◌+◌, ◌-◌, ◌*◌, Bool, ◌&&◌, ◌||◌, Option, List, eqb, ltb, get_or}
use Rattle.check_rows.specs.Alike.{none_alike}
use Rattle.check_rows.specs.Below.{each_below, some_below, first_below}

-- ---- rows known by one word

-- the first word of row j
abbrev pub row : List ℕ → ℕ → ℕ → ℕ → ℕ
row ws first w j = get_or ws (first + j * w) 0

-- whether one of n rows starts with a word
unfoldable pub among : List ℕ → ℕ → ℕ → ℕ → ℕ → Bool
among ws first w n a = some_below (λ j. eqb a (row ws first w j)) n

-- the first of n rows that starts with a word, if one does
unfoldable pub first_row : List ℕ → ℕ → ℕ → ℕ → ℕ → Option ℕ
first_row ws first w n a = first_below (λ j. eqb a (row ws first w j)) n

-- whether rows j and i start with the same word
abbrev pub same_word : List ℕ → ℕ → ℕ → ℕ → ℕ → Bool
same_word ws first w j i = eqb (row ws first w j) (row ws first w i)

-- whether no two of n rows start with the same word
unfoldable pub rows_distinct : List ℕ → ℕ → ℕ → ℕ → Bool
rows_distinct ws first w n = none_alike (same_word ws first w) n

-- ---- rows known by two words

-- the second word of row j
abbrev pub row_second : List ℕ → ℕ → ℕ → ℕ → ℕ
row_second ws first w j = get_or ws (first + j * w + 1) 0

-- whether one of n rows starts with two words; it shares `some_below` with `among`, and the tests of a row are all that differs
unfoldable pub two_among : List ℕ → ℕ → ℕ → ℕ → ℕ → ℕ → Bool
two_among ws first w n a b = some_below (λ j. eqb a (row ws first w j) && eqb b (row_second ws first w j)) n

-- whether rows j and i start with the same two words
abbrev pub same_two : List ℕ → ℕ → ℕ → ℕ → ℕ → Bool
same_two ws first w j i = eqb (row ws first w j) (row ws first w i) && eqb (row_second ws first w j) (row_second ws first w i)

-- whether no two of n rows start with the same two words
unfoldable pub twos_distinct : List ℕ → ℕ → ℕ → ℕ → Bool
twos_distinct ws first w n = none_alike (same_two ws first w) n

-- whether two words are above another two: by the first words, or by the second where the first are the same
unfoldable pub pair_above : ℕ → ℕ → ℕ → ℕ → Bool
pair_above a b c d = ltb c a || (eqb a c && ltb d b)

-- whether two words are above those of row j
abbrev pub above_row : List ℕ → ℕ → ℕ → ℕ → ℕ → ℕ → Bool
above_row ws first w a b j = pair_above a b (row ws first w j) (row_second ws first w j)

-- whether the two words of row j + 1 are above those of row j
abbrev pub two_ascends : List ℕ → ℕ → ℕ → ℕ → Bool
two_ascends ws first w j = above_row ws first w (row ws first w (j + 1)) (row_second ws first w (j + 1)) j

-- whether n rows ascend by their two words
unfoldable pub twos_ascend : List ℕ → ℕ → ℕ → ℕ → Bool
twos_ascend ws first w n = each_below (two_ascends ws first w) (n - 1)

-- whether two words are above those of the last of n rows
unfoldable pub above_last : List ℕ → ℕ → ℕ → ℕ → ℕ → ℕ → Bool
above_last ws first w n a b = ltb 0 n && above_row ws first w a b (n - 1)
