-- A stretch of words tested for zeros, word by word and sixteen at a time: what the loops of `rest_blank` and `is_blank` turn
-- on.
use mathlib.Core.Path.{◌≡◌, sym, ap, ◌∙◌}
use mathlib.Core.Bool.{Bool, true, ◌&&◌, and_assoc}
use mathlib.Core.List.{List}
use Prim.Native.Nat.{ℕ, suc, ◌+◌, ◌-◌, ◌<◌, ◌≤◌}
use native.Mathlib.Omega.{arith}
use lib.Bits.{bit_or}
use lib.Dec.{eqb}
use lib.ListN.{length, get_or, drop}
use lib.Seq.{drop-drop}
use Rattle.words.specs.Words.{blank}
use Rattle.words.proofs.Check.{blank_none, blank_cons, blank_add, and_true}
use Rattle.bits.proofs.Word.{or_empty}

-- a stretch up to `to` from i on: the word at i, and the rest
pub blank_next : (ws : List ℕ) (i to : ℕ) → i < to → i < length ws → blank (to - i) (drop i ws) ≡ (eqb (get_or ws i 0) 0 && blank (to - (i + 1)) (drop (i + 1) ws))
blank_next ws i to h l =
    let e : to - i ≡ suc (to - (i + 1)) = omega arith in ap (λ (n : ℕ). blank n (drop i ws)) e ∙ blank_cons (to - (i + 1)) ws i l

-- an empty stretch
pub blank_end : (ws : List ℕ) (i to : ℕ) → to ≤ i → blank (to - i) (drop i ws) ≡ true
blank_end ws i to h = let e : to - i ≡ 0 = omega arith in ap (λ (n : ℕ). blank n (drop i ws)) e ∙ blank_none (drop i ws)

-- ---- words or-ed

-- one word
pub blank_first : (ws : List ℕ) (i : ℕ) → i < length ws → eqb (get_or ws i 0) 0 ≡ blank 1 (drop i ws)
blank_first ws i h = sym (blank_cons 0 ws i h ∙ rw (blank_none (drop (i + 1) ws)) (and_true (eqb (get_or ws i 0) 0)))

-- one more
pub blank_more : (ws : List ℕ) (i k o : ℕ) → i + k < length ws → eqb o 0 ≡ blank k (drop i ws) → eqb (bit_or o (get_or ws (i + k) 0)) 0 ≡ blank (k + 1) (drop i ws)
blank_more ws i k o h e =
    or_empty o (get_or ws (i + k) 0) ∙ rw (e, blank_first ws (i + k) h, blank_add k 1 (drop i ws), drop-drop k i ws)

-- eight words or-ed
abbrev pub eight : List ℕ → ℕ → ℕ
eight ws i =
    let b : ℕ = bit_or (get_or ws i 0) (get_or ws (i + 1) 0) in
    let d : ℕ = bit_or (bit_or b (get_or ws (i + 2) 0)) (get_or ws (i + 3) 0) in
    let f : ℕ = bit_or (bit_or d (get_or ws (i + 4) 0)) (get_or ws (i + 5) 0) in
    bit_or (bit_or f (get_or ws (i + 6) 0)) (get_or ws (i + 7) 0)

-- they are 0 exactly where each is
pub eight_blank : (ws : List ℕ) (i : ℕ) → i + 8 ≤ length ws → eqb (eight ws i) 0 ≡ blank 8 (drop i ws)
eight_blank ws i h =
    let b : ℕ = bit_or (get_or ws i 0) (get_or ws (i + 1) 0) in
    let c : ℕ = bit_or b (get_or ws (i + 2) 0) in
    let d : ℕ = bit_or c (get_or ws (i + 3) 0) in
    let e : ℕ = bit_or d (get_or ws (i + 4) 0) in
    let f : ℕ = bit_or e (get_or ws (i + 5) 0) in
    let g : ℕ = bit_or f (get_or ws (i + 6) 0) in
    let four : eqb d 0 ≡ blank 4 (drop i ws) = blank_more ws i 3 c (omega arith)
    (blank_more ws i 2 b (omega arith) (blank_more ws i 1 (get_or ws i 0) (omega arith) (blank_first ws i (omega arith)))) in
    blank_more ws i 7 g (omega arith)
    (blank_more ws i 6 f (omega arith) (blank_more ws i 5 e (omega arith) (blank_more ws i 4 d (omega arith) four)))

-- sixteen words of a stretch and the rest of it
pub blank_sixteen : (ws : List ℕ) (i to : ℕ) → 16 ≤ to - i
    → blank (to - i) (drop i ws) ≡ (blank 8 (drop i ws) && (blank 8 (drop (i + 8) ws) && blank (to - (i + 16)) (drop (i + 16) ws)))
blank_sixteen ws i to h =
    let e : to - i ≡ 8 + (8 + (to - (i + 16))) = omega arith in
    let f : i + 8 + 8 ≡ i + 16 = omega arith in
    rw (e, blank_add 8 (8 + (to - (i + 16))) (drop i ws), drop-drop 8 i ws, blank_add 8 (to - (i + 16)) (drop (i + 8) ws), drop-drop 8 (i + 8) ws, f)

-- one more word or-ed
pub or_turn : (any w : ℕ) (rest : Bool) → (eqb (bit_or any w) 0 && rest) ≡ (eqb any 0 && (eqb w 0 && rest))
or_turn any w rest = ap (λ (b : Bool). b && rest) (or_empty any w) ∙ and_assoc (eqb any 0) (eqb w 0) rest

-- sixteen more, in two words that were or-ed of eight each
pub or_sixteen : (any a b : ℕ) (ws : List ℕ) (i to : ℕ) → 16 ≤ to - i → eqb a 0 ≡ blank 8 (drop i ws) → eqb b 0 ≡ blank 8 (drop (i + 8) ws)
    → (eqb (bit_or any (bit_or a b)) 0 && blank (to - (i + 16)) (drop (i + 16) ws)) ≡ (eqb any 0 && blank (to - i) (drop i ws))
or_sixteen any a b ws i to h p q =
    let rest : Bool = blank (to - (i + 16)) (drop (i + 16) ws) in
    or_turn any (bit_or a b) rest
    ∙ ap (λ (t : Bool). eqb any 0 && t) (or_turn a b rest ∙ rw (p, q) (sym (blank_sixteen ws i to h)))
