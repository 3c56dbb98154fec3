-- The tests of `canonical.rt` and what they come to: how each record's and table's test goes by its parts.
use mathlib.Core.Path.{◌≡◌, ap, ◌∙◌}
use mathlib.Core.Bool.{Bool, false, ◌&&◌}
use mathlib.Core.List.{List}
use Prim.Native.Nat.{ℕ, ◌+◌, ◌-◌, ◌*◌, ◌≤◌, ◌<◌}
use native.Mathlib.Nat.{mul-one, add-zero, sub-zero}
use native.Mathlib.Omega.{arith}
use lib.Dec.{leb, eqb}
use lib.ListN.{length, get_or, take, drop}
use Rattle.std.proofs.lemmas.List.{take_rest}
use lib.Seq.{get_or-drop, drop-drop}
use borrow.Author.Tests.{lt-leb, le-leb}
use Rattle.words.specs.Words.{blank}
use Rattle.words.proofs.Check.{blank_none, blank_cons, and_true}
use Rattle.check_words.specs.Canonical.{list_canonical}

-- a count past the room
pub list_over : (ws : List ℕ) (most w : ℕ) {n : ℕ} → n ≡ get_or ws 0 0 → most < n → false ≡ list_canonical ws most w
unfolding list_canonical
list_over ws most w {n} e h = let g : most < get_or ws 0 0 = rw e at h in rw (lt-leb (get_or ws 0 0) most g)

-- a count within it: the rest decides
pub list_within : (ws : List ℕ) (most w : ℕ) {n : ℕ} {r : Bool} → n ≡ get_or ws 0 0 → n ≤ most
    → r ≡ blank ((most - n) * w - 0) (take (length ws - (1 + n * w)) (drop (1 + n * w) ws)) → r ≡ list_canonical ws most w
unfolding list_canonical
list_within ws most w {n} {r} e h q =
    rw (← e, le-leb n most h) (rw (sub-zero ((most - n) * w), take_rest ws (1 + n * w)) at q)

-- the word that a part from a place on begins with
pub first_from : (ws : List ℕ) (at : ℕ) → get_or (drop at ws) 0 0 ≡ get_or ws at 0
first_from ws at = get_or-drop at ws 0 0 ∙ ap (λ (n : ℕ). get_or ws n 0) (add-zero at)

-- a list from a place on
pub list_from : (ws : List ℕ) (at most w : ℕ)
    → list_canonical (drop at ws) most w ≡ (leb (get_or ws at 0) most && blank ((most - get_or ws at 0) * w) (drop (at + 1 + get_or ws at 0 * w) ws))
unfolding list_canonical
list_from ws at most w =
    let past : at + (1 + get_or ws at 0 * w) ≡ at + 1 + get_or ws at 0 * w = omega arith in
    ap (λ (n : ℕ). leb n most && blank ((most - n) * w) (drop (1 + n * w) (drop at ws))) (first_from ws at)
    ∙ ap (λ (us : List ℕ). leb (get_or ws at 0) most && blank ((most - get_or ws at 0) * w) us)
    (drop-drop (1 + get_or ws at 0 * w) at ws ∙ ap (λ (n : ℕ). drop n ws) past)

-- a list of a part that is lent
pub list_lent : (ws : List ℕ) (at most w : ℕ) {r : Bool} → r ≡ list_canonical (take (length ws - at) (drop at ws)) most w → r ≡ list_canonical (drop at ws) most w
list_lent ws at most w q = q ∙ ap (λ (us : List ℕ). list_canonical us most w) (take_rest ws at)

-- a list of single words, its first word named
pub list_of_words : (ws : List ℕ) (at first most : ℕ) → at + 1 ≡ first
    → list_canonical (drop at ws) most 1 ≡ (leb (get_or ws at 0) most && blank (most - get_or ws at 0) (drop (first + get_or ws at 0) ws))
list_of_words ws at first most f = list_from ws at most 1 ∙ rw (mul-one (most - get_or ws at 0), mul-one (get_or ws at 0), f)

-- a list of wider elements
pub list_of_slots : (ws : List ℕ) (at first most w : ℕ) → at + 1 ≡ first
    → list_canonical (drop at ws) most w ≡ (leb (get_or ws at 0) most && blank ((most - get_or ws at 0) * w) (drop (first + get_or ws at 0 * w) ws))
list_of_slots ws at first most w f = list_from ws at most w ∙ rw f

-- ---- tests one after the other

-- a single zero
pub blank_one : (ws : List ℕ) (at : ℕ) → at < length ws → blank 1 (drop at ws) ≡ eqb (get_or ws at 0) 0
blank_one ws at h = blank_cons 0 ws at h ∙ ap (λ (b : Bool). eqb (get_or ws at 0) 0 && b) (blank_none (drop (at + 1) ws)) ∙ and_true (eqb (get_or ws at 0) 0)

-- a stretch of a known length
pub blank_is : (ws : List ℕ) (from to k : ℕ) {r : Bool} → to - from ≡ k → r ≡ blank (to - from) (drop from ws) → r ≡ blank k (drop from ws)
blank_is ws from to k e q = q ∙ ap (λ (n : ℕ). blank n (drop from ws)) e
