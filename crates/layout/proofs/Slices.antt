-- Numbers by the widths of their fields, and lent slices of words, as code knows them.
use Prim.Native.Nat.{ℕ, suc, ◌/◌, ◌≤◌, ◌<◌, ◌^◌}
use mathlib.Core.Path.{◌≡◌, refl}
use mathlib.Core.Bool.{true, false}
use mathlib.Core.List.{List, [], ◌∷◌}
use native.Mathlib.Omega.{arith}
use lib.Dec.{ltb}
use lib.ListN.{get_or}
use borrow.Author.Tests.{lt-ltb, le-ltb}
use Rattle.rules.specs.Table.{all}
use Rattle.rules.specs.Valid.{is_byte, is_word}

-- ---- widths

-- past a byte
pub byte_over : (n : ℕ) → 255 < n → is_byte n ≡ false
unfolding is_byte
byte_over n h = le-ltb n 256 (omega arith)

-- a byte
pub byte_fits : (n : ℕ) → n ≤ 255 → is_byte n ≡ true
unfolding is_byte
byte_fits n h = lt-ltb n 256 (omega arith)

-- past 32 bits
pub count_over : (n : ℕ) → 0xffff_ffff < n → ltb n (2 ^ 32) ≡ false
count_over n h = le-ltb n (2 ^ 32) (omega arith)

-- in 32 bits
pub count_fits : (n : ℕ) → n ≤ 0xffff_ffff → ltb n (2 ^ 32) ≡ true
count_fits n h = lt-ltb n (2 ^ 32) (omega arith)

-- a word
pub word : (n : ℕ) → n < 2 ^ 64 → is_word n ≡ true
unfolding is_word
word n h = lt-ltb n (2 ^ 64) h

-- ---- slices

-- the records that a list of so many words holds
pub few_records : (n : ℕ) → n < 2 ^ 64 → n / 13 < 2 ^ 64
few_records n h = omega arith

-- the words of a list, each known by its place
pub all_words : (l : List ℕ) → ((k : ℕ) → get_or l k 0 < 2 ^ 64) → all is_word l ≡ true
unfolding all
all_words [] h = refl
all_words (n ∷ l) h = rw (word n (h 0), all_words l (λ k. h (suc k)))
