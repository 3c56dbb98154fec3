-- Words moved down or up one after the other, and a part of words: what is done to it is done to the whole from its place on.
use mathlib.Core.Path.{◌≡◌, sym, ap, ◌∙◌}
use mathlib.Core.List.{List, [], ◌++◌, append_assoc, append-nil}
use Prim.Native.Nat.{ℕ, ◌+◌, ◌-◌, ◌≤◌, ◌<◌}
use native.Mathlib.Nat.{zero-add}
use native.Mathlib.Omega.{arith}
use borrow.Rule.Slice.PartMut.{put_mid, mid_of, post_of, put_same}
use lib.ListN.{length, get_or, set, take, drop, replicate, length-drop, length-replicate}
use lib.Seq.{length-take-le}
use Rattle.std.proofs.Common.{take-append-drop}
use Rattle.std.proofs.lemmas.List.{take-append-le}
use Rattle.words.specs.Act.{Act, lay, down, up, close, clear}
use Rattle.words.proofs.Act.{run_at, lay_over, close_words, down_turn, up_none, up_turn}

-- ---- the turns of the loops

-- one more word is moved down
pub down_goes_on : {us : List ℕ} (ws : List ℕ) (w i : ℕ) → us ≡ (down w i).run 0 ws → w + i < length ws
    → set us i (get_or us (w + i) 0) ≡ (down w (i + 1)).run 0 ws
down_goes_on {us} ws w i e h =
    let a : 0 + i ≡ i = omega arith in
    let b : 0 + w + i ≡ w + i = omega arith in
    let t : set us (0 + i) (get_or us (0 + w + i) 0) ≡ (down w (i + 1)).run 0 ws = down_turn w i 0 ws e (omega arith) in
    ap (λ (k : ℕ). set us k (get_or us (w + i) 0)) (sym a) ∙ ap (λ (k : ℕ). set us (0 + i) (get_or us k 0)) (sym b) ∙ t

module _ {us : List ℕ} (ws : List ℕ) (w n : ℕ) where
  -- or up
  pub up_goes_on : (i : ℕ) → 0 < i → i ≤ n → n ≤ length ws → us ≡ (up w (n - i)).run i ws
      → set us (w + (i - 1)) (get_or us (i - 1) 0) ≡ (up w (n - (i - 1))).run (i - 1) ws
  up_goes_on i p q h e =
      let to : w + (i - 1) ≡ i - 1 + w = omega arith in
      let more : n - (i - 1) ≡ n - i + 1 = omega arith in
      let from : i ≡ i - 1 + 1 = omega arith in
      rw (to, more) (up_turn w (n - i) (i - 1) ws (e ∙ ap (λ (k : ℕ). (up w (n - i)).run k ws) from) (omega arith))

  -- all
  pub up_ends : (i : ℕ) → i ≡ 0 → us ≡ (up w (n - i)).run i ws → us ≡ (up w n).run 0 ws
  up_ends i z e = let m : n - i ≡ n = omega arith in e ∙ rw (m, z)

-- none yet
pub up_begins : (ws : List ℕ) (w n : ℕ) → ws ≡ (up w (n - n)).run n ws
up_begins ws w n = let m : n - n ≡ 0 = omega arith in rw m (sym (up_none w n ws))

-- ---- a part

-- an act on the first k words leaves those behind them
abbrev pub Within : ℕ → Act → Type 0
Within k x = (m r : List ℕ) → length m ≡ k → x.run 0 (m ++ r) ≡ x.run 0 m ++ r

-- closing a gap
pub close_within : (w n : ℕ) → Within (w + n) (close w n)
close_within w n m r l =
    let p = take w m in
    let q = drop w m in
    let lp : length p ≡ w = length-take-le w m (omega arith) in
    let lq : length q ≡ n = let a = length-drop w m in omega arith in
    let whole : p ++ q ≡ m = take-append-drop w m in
    let a : (close w n).run 0 (m ++ r) ≡ q ++ (replicate w 0 ++ r) =
    ap (λ (t : List ℕ). (close w n).run 0 (t ++ r)) (sym whole) ∙ ap (λ (t : List ℕ). (close w n).run 0 t) (append_assoc p q r) ∙ close_words p q r w n lp lq in
    let b : (close w n).run 0 m ≡ q ++ (replicate w 0 ++ []) =
    ap (λ (t : List ℕ). (close w n).run 0 t) (sym whole) ∙ ap (λ (t : List ℕ). (close w n).run 0 (p ++ t)) (sym (append-nil q)) ∙ close_words p q [] w n lp lq in
    a ∙ sym (ap (λ (t : List ℕ). t ++ r) b ∙ append_assoc q (replicate w 0 ++ []) r ∙ ap (λ (t : List ℕ). q ++ (t ++ r)) (append-nil (replicate w 0)))

-- opening one
pub open_within : (w n : ℕ) → Within (w + n) (up w n)
unfolding up lay
open_within w n m r l =
    let p = take w m in
    let q = drop w m in
    let v = take n m in
    let lp : length p ≡ w = length-take-le w m (omega arith) in
    let lq : length q ≡ length v = let a = length-drop w m in let b : length v ≡ n = length-take-le n m (omega arith) in omega arith in
    let whole : p ++ q ≡ m = take-append-drop w m in
    let t : take n (m ++ r) ≡ v = take-append-le n m r (omega arith) in
    let laid : (s : List ℕ) → (lay v).run w (p ++ (q ++ s)) ≡ p ++ (v ++ s) = λ s. run_at (lay v) p (q ++ s) w lp ∙ ap (λ (z : List ℕ). p ++ z) (lay_over q v s lq) in
    let a : (lay v).run w (m ++ r) ≡ p ++ (v ++ r) =
    ap (λ (z : List ℕ). (lay v).run w (z ++ r)) (sym whole) ∙ ap (λ (z : List ℕ). (lay v).run w z) (append_assoc p q r) ∙ laid r in
    let b : (lay v).run w m ≡ p ++ (v ++ []) =
    ap (λ (z : List ℕ). (lay v).run w z) (sym whole) ∙ ap (λ (z : List ℕ). (lay v).run w (p ++ z)) (sym (append-nil q)) ∙ laid [] in
    rw (zero-add w, t) (a ∙ sym (ap (λ (z : List ℕ). z ++ r) b ∙ append_assoc p (v ++ []) r ∙ ap (λ (z : List ℕ). p ++ (z ++ r)) (append-nil v)))

-- clearing them
pub clear_within : (k : ℕ) → Within k (clear k)
clear_within k m r l =
    let z : List ℕ = replicate k 0 in
    let lz : length m ≡ length z = l ∙ sym (length-replicate {A = ℕ} k 0) in
    let b : (clear k).run 0 m ≡ z ++ [] = ap (λ (t : List ℕ). (clear k).run 0 t) (sym (append-nil m)) ∙ lay_over m z [] lz in
    lay_over m z r lz ∙ sym (ap (λ (t : List ℕ). t ++ r) (b ∙ append-nil z))

-- zeros there are the words cleared
pub zeros : (k : ℕ) (m : List ℕ) → length m ≡ k → replicate k 0 ≡ (clear k).run 0 m
zeros k m l =
    let z : List ℕ = replicate k 0 in
    let lz : length m ≡ length z = l ∙ sym (length-replicate {A = ℕ} k 0) in
    sym (ap (λ (t : List ℕ). (clear k).run 0 t) (sym (append-nil m)) ∙ lay_over m z [] lz ∙ append-nil z)

-- so it is one of the whole
pub in_part : (x : Act) {us : List ℕ} (ws : List ℕ) (a k : ℕ) → Within k x → a + k ≤ length ws → us ≡ x.run 0 (mid_of a k ws)
    → put_mid a k ws us ≡ x.run a ws
in_part x ws a k f h e =
    let l = take a ws in
    let m = mid_of a k ws in
    let r = post_of a k ws in
    let lm : length m ≡ k = let b = length-drop a ws in length-take-le k (drop a ws) (omega arith) in
    ap (λ (t : List ℕ). l ++ (t ++ r)) e
    ∙ ap (λ (t : List ℕ). l ++ t) (sym (f m r lm))
    ∙ sym (run_at x l (m ++ r) a (length-take-le a ws (omega arith)))
    ∙ ap (x.run a) (put_same a k ws)

-- a part of so many words
pub part_length : (a k : ℕ) (ws : List ℕ) → a + k ≤ length ws → length (mid_of a k ws) ≡ k
part_length a k ws h = let b = length-drop a ws in length-take-le k (drop a ws) (omega arith)

-- with a gap closed, opened, or cleared, in a whole
pub close_part : {us : List ℕ} (ws : List ℕ) (a k w n : ℕ) → k ≡ w + n → a + k ≤ length ws
    → us ≡ (close w (length (mid_of a k ws) - w)).run 0 (mid_of a k ws) → put_mid a k ws us ≡ (close w n).run a ws
close_part ws a k w n q h e =
    let m : length (mid_of a k ws) - w ≡ n = let b = part_length a k ws h in omega arith in
    in_part (close w n) ws a k (rw q (close_within w n)) h (e ∙ ap (λ (i : ℕ). (close w i).run 0 (mid_of a k ws)) m)

pub open_part : {us : List ℕ} (ws : List ℕ) (a k w n : ℕ) → k ≡ w + n → a + k ≤ length ws
    → us ≡ (up w (length (mid_of a k ws) - w)).run 0 (mid_of a k ws) → put_mid a k ws us ≡ (up w n).run a ws
open_part ws a k w n q h e =
    let m : length (mid_of a k ws) - w ≡ n = let b = part_length a k ws h in omega arith in
    in_part (up w n) ws a k (rw q (open_within w n)) h (e ∙ ap (λ (i : ℕ). (up w i).run 0 (mid_of a k ws)) m)

pub clear_part : {us : List ℕ} (ws : List ℕ) (a k : ℕ) → a + k ≤ length ws → us ≡ replicate (length (mid_of a k ws)) 0
    → put_mid a k ws us ≡ (clear k).run a ws
clear_part ws a k h e =
    let b = part_length a k ws h in
    in_part (clear k) ws a k (clear_within k) h (e ∙ ap (λ (i : ℕ). replicate i 0) b ∙ zeros k (mid_of a k ws) b)
