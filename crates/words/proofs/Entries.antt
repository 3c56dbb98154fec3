-- Lists of plain numbers, a word each: the laws of `Lists.antt` without the width.
use mathlib.Core.Path.{refl}
use mathlib.Core.List.{List, [], ◌∷◌, ◌++◌}
use Prim.Native.Nat.{ℕ, ◌+◌, ◌-◌, ◌*◌, ◌≤◌, ◌<◌}
use native.Mathlib.Nat.{mul-one}
use native.Mathlib.Omega.{arith}
use lib.ListN.{length, get_or, set, take, drop}
use Rattle.words.specs.Act.{Act, store, lay, clear, both, past, up, close}
use Rattle.words.specs.Codec.{word, upto}
use Rattle.words.specs.Field.{Reads, Writes}
use Rattle.words.proofs.Field.{reads_at, writes_at, writes_as, reads_nth, writes_nth, reads_word, writes_word}
use Rattle.words.proofs.Lists.{place_element, writes_append, writes_insert, writes_cut, writes_keep}

module _ (cap : ℕ) (l : List ℕ) where
  pub reads_entry : (i : ℕ) → i < length l → length l ≤ cap → Reads (upto word cap) l (1 + i) (get_or l i 0)
  unfolding word
  reads_entry i h s = reads_at (omega arith) (reads_nth l i 0 (place_element word refl cap l i h s) (reads_word (get_or l i 0)))

  pub writes_entry : (i v : ℕ) → i < length l → length l ≤ cap → Writes (upto word cap) l (1 + i) (store v) (set l i v)
  unfolding word
  writes_entry i v h s = writes_at (omega arith) (writes_nth l i 0 (place_element word refl cap l i h s) (writes_word (get_or l i 0) v))

  pub appends_entry : (v : ℕ) → length l < cap → Writes (upto word cap) l 0 (both (past (1 + length l) (store v)) (store (length l + 1))) (l ++ (v ∷ []))
  unfolding word lay store both past
  appends_entry v h =
      let x : Act = both (past (1 + length l * 1) (lay (v ∷ []))) (store (length l + 1)) in
      writes_as {x = x} (λ ws. rw mul-one) (writes_append word refl cap l v h)

  pub cuts_entries : (i k : ℕ) → i + k ≤ length l → length l ≤ cap
      → Writes (upto word cap) l 0 (both (past (1 + i) (close k (length l - (i + k)))) (store (length l - k))) (take i l ++ drop (i + k) l)
  unfolding word
  cuts_entries i k h s = simp mul-one at (writes_cut word refl cap l i k h s)

  pub inserts_entry : (i v : ℕ) → i ≤ length l → length l < cap
      → Writes (upto word cap) l 0 (both (past (1 + i) (both (up 1 (length l - i)) (store v))) (store (length l + 1))) (take i l ++ v ∷ drop i l)
  unfolding word lay store both past
  inserts_entry i v h s =
      let x : Act = both (past (1 + i * 1) (both (up 1 ((length l - i) * 1)) (lay (v ∷ [])))) (store (length l + 1)) in
      writes_as {x = x} (λ ws. simp mul-one) (writes_insert word refl cap l i v h s)

  pub keeps_entries : (i : ℕ) → i ≤ length l → length l ≤ cap
      → Writes (upto word cap) l 0 (both (past (1 + i) (clear (length l - i))) (store i)) (take i l)
  unfolding word
  keeps_entries i h s = simp mul-one at (writes_keep word refl cap l i h s)
