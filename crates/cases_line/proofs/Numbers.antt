-- The numbers of a line as the code puts them into words, byte by byte into the word in hand.
use mathlib.Core.Path.{◌≡◌, refl, sym, ap, ◌∙◌}
use mathlib.Core.Bool.{Bool, true, false, cond}
use mathlib.Core.List.{List, [], ◌∷◌, ◌++◌, append-nil}
use Prim.Native.Nat.{ℕ, zero, suc, ◌+◌, ◌≤◌, ◌<◌, min}
use native.Mathlib.Nat.{add-zero}
use native.Mathlib.Numerals.{add-one}
use native.Mathlib.Omega.{arith}
use lib.Dec.{ltb}
use lib.ListN.{length, get_or, set, take, drop, replicate, length-set, take-append-drop, drop_of_length-le}
use lib.Seq.{take_all, drop-cons, append_snoc, get_or-set_same, take-set-le, drop-set-lt, take-suc-set}
use Rattle.cases_line.specs.Line.{with_byte, numbers_from, numbers}
use Rattle.cases_line.specs.Words.{first_words}

-- words into which the rest of a line goes, the first of them begun
unfoldable pub numbers_into : List ℕ → List ℕ → List ℕ
numbers_into [] ws = ws
numbers_into (b ∷ line) [] = []
numbers_into (b ∷ line) (w ∷ ws) = cond (ltb 32 b) (numbers_into line (with_byte w b ∷ ws)) (with_byte w b ∷ numbers_into line ws)

-- 1 for a byte that ends a word
abbrev pub ends : ℕ → ℕ
ends b = cond (ltb 32 b) 0 1

pub ends_small : (b : ℕ) → ends b ≤ 1
ends_small b = at_most (ltb 32 b)
  where
    at_most : (t : Bool) → cond t 0 1 ≤ 1
    at_most true = omega arith
    at_most false = omega arith

-- how many words of a line are ended
unfoldable pub ended : List ℕ → ℕ
ended [] = 0
ended (b ∷ line) = ends b + ended line

into_none : (line : List ℕ) → numbers_into line [] ≡ []
unfolding numbers_into
into_none [] = refl
into_none (b ∷ line) = refl

first_none : (k : ℕ) → first_words k [] ≡ replicate k 0
unfolding first_words
first_none zero = refl
first_none (suc k) = ap (λ (l : List ℕ). 0 ∷ l) (first_none k)

-- into zeros, of which the first is begun
into_zeros : (line : List ℕ) (w k : ℕ) → numbers_into line (w ∷ replicate k 0) ≡ first_words (suc k) (numbers_from w line)
unfolding numbers_into numbers_from first_words
into_zeros [] w k = ap (λ (l : List ℕ). w ∷ l) (sym (first_none k))
into_zeros (b ∷ line) w k = by_end (ltb 32 b) k (λ (j : ℕ). into_zeros line (with_byte w b) j) (λ (j : ℕ). into_zeros line 0 j)
  where
    by_end : (t : Bool) (k : ℕ)
        → ((j : ℕ) → numbers_into line (with_byte w b ∷ replicate j 0) ≡ first_words (suc j) (numbers_from (with_byte w b) line))
        → ((j : ℕ) → numbers_into line (0 ∷ replicate j 0) ≡ first_words (suc j) (numbers_from 0 line))
        → cond t (numbers_into line (with_byte w b ∷ replicate k 0)) (with_byte w b ∷ numbers_into line (replicate k 0))
        ≡ first_words (suc k) (cond t (numbers_from (with_byte w b) line) (with_byte w b ∷ numbers_from 0 line))
    by_end true k more new = more k
    by_end false zero more new = ap (λ (l : List ℕ). with_byte w b ∷ l) (into_none line)
    by_end false (suc k) more new = ap (λ (l : List ℕ). with_byte w b ∷ l) (new k)

into_first : (line : List ℕ) (k : ℕ) → numbers_into line (replicate k 0) ≡ first_words k (numbers line)
unfolding first_words
into_first line zero = into_none line
into_first line (suc k) = into_zeros line 0 k

-- a line has one number more than it has ends
ends_count : (line : List ℕ) (w : ℕ) → length (numbers_from w line) ≡ suc (ended line)
unfolding numbers_from ended
ends_count [] w = refl
ends_count (b ∷ line) w = by_end (ltb 32 b) (ends_count line (with_byte w b)) (ends_count line 0)
  where
    by_end : (t : Bool) → length (numbers_from (with_byte w b) line) ≡ suc (ended line) → length (numbers_from 0 line) ≡ suc (ended line)
        → length (cond t (numbers_from (with_byte w b) line) (with_byte w b ∷ numbers_from 0 line)) ≡ suc (cond t 0 1 + ended line)
    by_end true e f = omega (arith, e)
    by_end false e f = omega (arith, f)

-- what is known at byte i, with n words ended
pub record Reading (line start words : List ℕ) (n i : ℕ) : Type 0 where
  pub left : numbers_into line start ≡ take n words ++ numbers_into (drop i line) (drop n words)
  pub count : ended line ≡ n + ended (drop i line)

pub reading_starts : (line start : List ℕ) → Reading line start start 0 0
reading_starts line start = record { left = refl; count = let e : ended line ≡ 0 + ended line = omega arith in e }

module _ (line start words : List ℕ) (n i : ℕ) where
  abbrev byte : ℕ
  byte = get_or line i 0

  abbrev word : ℕ
  word = with_byte (get_or words n 0) byte

  abbrev next : List ℕ
  next = set words n word

  module _ (h : n < length words) where
    here : drop n next ≡ word ∷ drop (suc n) words
    here =
        drop-cons next n 0 (let e = length-set words n word in let g : n < length next = omega (arith, e, h) in g)
        ∙ ap (λ (w : ℕ). w ∷ drop (suc n) next) (get_or-set_same words n word 0 h)
        ∙ ap (λ (l : List ℕ). word ∷ l) (drop-set-lt (suc n) words n word (let g : n < suc n = omega arith in g))

    by_end : (t : Bool) → take n words ++ cond t (numbers_into (drop (suc i) line) (word ∷ drop (suc n) words)) (word ∷ numbers_into (drop (suc i) line) (drop (suc n) words))
        ≡ take (n + cond t 0 1) next ++ numbers_into (drop (suc i) line) (drop (n + cond t 0 1) next)
    by_end true =
        rw (add-zero n, here, take-set-le n words n word (let g : n ≤ n = omega arith in g))
    by_end false =
        rw (add-one n, take-suc-set words n word h, drop-set-lt (suc n) words n word (let g : n < suc n = omega arith in g))
        (sym (append_snoc (take n words) word (numbers_into (drop (suc i) line) (drop (suc n) words))))

    pub reading_next : Reading line start words n i → i < length line → Reading line start next (n + ends byte) (suc i)
    unfolding numbers_into ended
    reading_next r k =
        record {
          left = r.left ∙ rw (drop-cons line i 0 k, drop-cons words n 0 h) (by_end (ltb 32 byte));
          count = let e : ended (drop i line) ≡ ends byte + ended (drop (suc i) line) = rw (drop-cons line i 0 k) in omega (arith, r.count, e);
        }

-- at the end of the words, or of the line
module _ (line start words : List ℕ) (n i : ℕ) (zeros : start ≡ replicate (length start) 0) (r : Reading line start words n i) where
  abbrev all : List ℕ
  all = first_words (length start) (numbers line)

  whole : numbers_into line start ≡ all
  whole = ap (λ (l : List ℕ). numbers_into line l) zeros ∙ into_first line (length start)

  pub words_full : length words ≤ n → words ≡ all
  words_full h =
      sym (sym whole ∙ r.left
      ∙ rw (take_all n words h, drop_of_length-le words h, into_none (drop i line)) (append-nil words))

  pub line_ended : length line ≤ i → words ≡ all
  unfolding numbers_into
  line_ended h = sym (sym whole ∙ r.left ∙ rw (drop_of_length-le line h) (take-append-drop n words))

  pub count_full : length words ≡ length start → n ≤ length words → length words ≤ n → n ≡ min (length start) (length (numbers line))
  count_full e h k = let c = ends_count line 0 in omega (arith, e, h, k, c, r.count)

  pub count_ended : length words ≡ length start → length line ≤ i → n ≤ length words
      → min (length words) (n + 1) ≡ min (length start) (length (numbers line))
  unfolding ended
  count_ended e h k =
      let c = ends_count line 0 in let d : ended (drop i line) ≡ 0 = rw (drop_of_length-le line h) in omega (arith, e, k, c, d, r.count)
