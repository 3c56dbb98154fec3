-- The marks of a run of entries with one batch size, or-ed together: they fit exactly where each of them does. These are the
-- steps of the loop of `marks_valid`.
use mathlib.Core.Path.{◌≡◌, refl, sym, ap, ap₂, ◌∙◌}
use mathlib.Core.Bool.{Bool, true, false, ◌&&◌}
use mathlib.Core.List.{List, [], ◌∷◌, map}
use Prim.Native.Nat.{ℕ, ◌+◌, ◌-◌, ◌*◌, ◌^◌, ◌≤◌, min}
use native.Mathlib.Omega.{arith}
use lib.Bits.{bit_or, or_lt, or_add_and, and_le_l, and_le_r}
use lib.Dec.{eqb, leb, ltb}
use lib.ListN.{length, get_or, take, drop}
use lib.Seq.{get_or-drop}
use Rattle.std.proofs.lemmas.List.{take_rest}
use lib.Pow.{le_ones, lt_of_le_ones}
use borrow.Author.Tests.{ltb-true, ltb-false, leb-true, leb-false, lt-ltb, le-ltb, le-leb, lt-leb}
use Rattle.bits.specs.Bits.{bits_empty, bits_below}
use Rattle.bits.specs.Four.{words}
use Rattle.bits.specs.declared.UnackedBits.{UnackedBits}
use Rattle.bits.proofs.Word.{or_empty}
use Rattle.rules.proofs.Table.{by_test}
use Rattle.check_rows.specs.Below.{each_below}
use Rattle.check_state.specs.Marks.{bits_at, mark_fits, mark_right, joined, mark_suits}
use Rattle.check_rows.proofs.Below.{each_next, each_less}
use Rattle.check_state.proofs.MarkBits.{bits_clear}
use Rattle.store.proofs.Prefixes.{and_swap}

-- ---- two words or-ed

-- neither is greater than both or-ed
or_least : (a b : ℕ) → (a ≤ bit_or a b) × (b ≤ bit_or a b)
or_least a b = let e = or_add_and a b in let l = and_le_l a b in let r = and_le_r a b in (omega arith, omega arith)

-- they have k bits exactly where both have
or_fits : (k a b : ℕ) → ltb (bit_or a b) (2 ^ k) ≡ (ltb a (2 ^ k) && ltb b (2 ^ k))
or_fits k a b =
    let l = or_least a b in
    by_test (ltb a (2 ^ k))
    (λ s.
    by_test (ltb b (2 ^ k)) (λ t. rw (s, t) (lt-ltb (bit_or a b) (2 ^ k) (or_lt k a b (ltb-true a (2 ^ k) s) (ltb-true b (2 ^ k) t))))
    (λ t. let g = ltb-false b (2 ^ k) t in rw (s, t) (le-ltb (bit_or a b) (2 ^ k) (omega arith))))
    (λ s. let g = ltb-false a (2 ^ k) s in rw s (le-ltb (bit_or a b) (2 ^ k) (omega arith)))

-- the same against k ones
or_within : (k a b : ℕ) → leb (bit_or a b) (2 ^ k - 1) ≡ (leb a (2 ^ k - 1) && leb b (2 ^ k - 1))
or_within k a b =
    let l = or_least a b in
    by_test (leb a (2 ^ k - 1))
    (λ s.
    by_test (leb b (2 ^ k - 1))
    (λ t.
    let o = or_lt k a b (lt_of_le_ones k (leb-true a (2 ^ k - 1) s)) (lt_of_le_ones k (leb-true b (2 ^ k - 1) t)) in
    rw (s, t) (le-leb (bit_or a b) (2 ^ k - 1) (le_ones k o)))
    (λ t. let g = leb-false b (2 ^ k - 1) t in rw (s, t) (lt-leb (bit_or a b) (2 ^ k - 1) (omega arith))))
    (λ s. let g = leb-false a (2 ^ k - 1) s in rw s (lt-leb (bit_or a b) (2 ^ k - 1) (omega arith)))

-- ---- bits or-ed

-- words or-ed pair by pair are bits below a batch size exactly where both sides are
below_pairs : (n : ℕ) (l : List (ℕ × ℕ)) → bits_below n (map (λ p. bit_or p.0 p.1) l) ≡ (bits_below n (map (λ p. p.0) l) && bits_below n (map (λ p. p.1) l))
unfolding bits_below
below_pairs n [] = refl
below_pairs n (p ∷ l) =
    rw (or_within (min n 64) p.0 p.1, below_pairs (n - 64) l)
    (and_swap (leb p.0 (2 ^ min n 64 - 1)) (leb p.1 (2 ^ min n 64 - 1)) (bits_below (n - 64) (map (λ p. p.0) l)) (bits_below (n - 64) (map (λ p. p.1) l)))

-- and clear where both are
empty_pairs : (l : List (ℕ × ℕ)) → bits_empty (map (λ p. bit_or p.0 p.1) l) ≡ (bits_empty (map (λ p. p.0) l) && bits_empty (map (λ p. p.1) l))
unfolding bits_empty
empty_pairs [] = refl
empty_pairs (p ∷ l) =
    rw (or_empty p.0 p.1, empty_pairs l) (and_swap (eqb p.0 0) (eqb p.1 0) (bits_empty (map (λ p. p.0) l)) (bits_empty (map (λ p. p.1) l)))

module _ (ws : List ℕ) (at : ℕ) (b : UnackedBits) where
  -- each word beside the mark's
  abbrev pairs : List (ℕ × ℕ)
  pairs = (b.w0, get_or ws (at + 2) 0) ∷ (b.w1, get_or ws (at + 3) 0) ∷ (b.w2, get_or ws (at + 4) 0) ∷ (b.w3, get_or ws (at + 5) 0) ∷ []

  -- bits joined with a mark's
  below_joined : (n : ℕ) → bits_below n (words (joined b ws at)) ≡ (bits_below n (words b) && bits_below n (bits_at ws at))
  below_joined n = below_pairs n pairs

  empty_joined : bits_empty (words (joined b ws at)) ≡ (bits_empty (words b) && bits_empty (bits_at ws at))
  empty_joined = empty_pairs pairs

  -- they fit exactly where both do
  fits_joined : (count more batch : ℕ)
      → mark_fits (bit_or count more) (words (joined b ws at)) batch ≡ (mark_fits count (words b) batch && mark_fits more (bits_at ws at) batch)
  fits_joined count more batch =
      by_test (ltb 1 batch)
      (λ t. rw (t, or_fits 32 count more, below_joined batch)
      (and_swap (ltb count (2 ^ 32)) (ltb more (2 ^ 32)) (bits_below batch (words b)) (bits_below batch (bits_at ws at))))
      (λ t. rw (t, or_fits 32 count more, empty_joined)
      (and_swap (ltb count (2 ^ 32)) (ltb more (2 ^ 32)) (bits_empty (words b)) (bits_empty (bits_at ws at))))

-- no count and no bits fit any batch size
pub fits_none : (bits : UnackedBits) (batch : ℕ) → (bits.w0 ≡ 0) × ((bits.w1 ≡ 0) × ((bits.w2 ≡ 0) × (bits.w3 ≡ 0))) → mark_fits 0 (words bits) batch ≡ true
unfolding bits_empty
fits_none bits batch e = rw (e.0, e.1.0, e.1.1.0, e.1.1.1) (sym (bits_clear batch (0 ∷ 0 ∷ 0 ∷ 0 ∷ []) refl))

-- ---- a turn of the loop

module _ (ws : List ℕ) (ledger first : ℕ) where
  -- one more mark of the run
  pub run_turn : (i count batch : ℕ) (bits more : UnackedBits) → mark_fits count (words bits) batch ≡ each_below (mark_suits ws ledger first) i
      → batch ≡ get_or ws (ledger + i * 4 + 3) 0 → more ≡ joined bits ws (first + i * 6)
      → mark_fits (bit_or count (get_or ws (first + i * 6 + 1) 0)) (words more) batch ≡ each_below (mark_suits ws ledger first) (i + 1)
  unfolding mark_right
  run_turn i count batch bits more e b m =
      rw m
      (fits_joined ws (first + i * 6) bits count (get_or ws (first + i * 6 + 1) 0) batch
      ∙ ap₂ ◌&&◌ e (rw b)
      ∙ sym (each_next (mark_suits ws ledger first) i))

  -- a run that does not fit: some mark does not suit its entry
  pub run_stop : (n i : ℕ) {t : Bool} → i ≤ n → t ≡ false → t ≡ each_below (mark_suits ws ledger first) i
      → false ≡ each_below (mark_suits ws ledger first) n
  run_stop n i l f e = sym (each_less (mark_suits ws ledger first) n i l (sym e ∙ f))

-- bits joined with a mark that is lent
pub joined_lent : (b : UnackedBits) (ws : List ℕ) (at : ℕ) {r : UnackedBits} → r ≡ joined b (take (length ws - at) (drop at ws)) 0 → r ≡ joined b ws at
joined_lent b ws at q =
    q ∙ ap (λ (us : List ℕ). joined b us 0) (take_rest ws at) ∙ rw (get_or-drop at ws 2 0, get_or-drop at ws 3 0, get_or-drop at ws 4 0, get_or-drop at ws 5 0)
