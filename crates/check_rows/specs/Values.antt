-- What is asked of a value of `Rows` or `PairRows`: the tests of rows, of the rows that it stands for.
use Rattle.std.specs.Prelude.{ℕ, Bool, Option}
use Rattle.check_rows.specs.Rows.{row, row_second, among, first_row, rows_distinct, two_among, twos_distinct, twos_ascend, above_last}
use Rattle.check_rows.specs.declared.Rows.{Rows}
use Rattle.check_rows.specs.declared.PairRows.{PairRows}

-- the first word of row i
abbrev pub word_of : Rows → ℕ → ℕ
word_of r i = row r.store.now r.first r.width i

-- whether one of the first n rows starts with a word
abbrev pub word_among : Rows → ℕ → ℕ → Bool
word_among r n a = among r.store.now r.first r.width n a

-- the first row that starts with a word, if one does
abbrev pub first_with : Rows → ℕ → Option ℕ
first_with r a = first_row r.store.now r.first r.width r.count a

-- whether no two rows start with the same word
abbrev pub words_distinct : Rows → Bool
words_distinct r = rows_distinct r.store.now r.first r.width r.count

-- the second word of row i
abbrev pub second_of : PairRows → ℕ → ℕ
second_of p i = row_second p.rows.store.now p.rows.first p.rows.width i

-- whether one of the first n rows starts with two words
abbrev pub pair_among : PairRows → ℕ → ℕ → ℕ → Bool
pair_among p n a b = two_among p.rows.store.now p.rows.first p.rows.width n a b

-- whether no two rows start with the same two words
abbrev pub pairs_distinct : PairRows → Bool
pairs_distinct p = twos_distinct p.rows.store.now p.rows.first p.rows.width p.rows.count

-- whether the rows ascend by their two words
abbrev pub pairs_ascend : PairRows → Bool
pairs_ascend p = twos_ascend p.rows.store.now p.rows.first p.rows.width p.rows.count

-- whether two words are above those of the last row
abbrev pub past_last : PairRows → ℕ → ℕ → Bool
past_last p a b = above_last p.rows.store.now p.rows.first p.rows.width p.rows.count a b
