-- Acts: what a piece of code does to the words of a store from an offset on.
-- An act neither reads nor changes the words before its offset, so what it does to a part says what it does to the whole.
-- A store of one word, a run of stores, a move of words and sequences of these are acts, and a loop's contract is one act.
use Rattle.std.specs.Prelude.{◌≡◌, refl, List, [], ◌∷◌, ◌++◌, ℕ, suc, ◌+◌, length, set, take, drop, replicate}
use Rattle.std.proofs.Common.{ap, ◌∙◌, zero-add, suc-add, add-suc, add_assoc, length-set}
use Rattle.std.proofs.lemmas.List.Edits.{sets}
use Rattle.std.proofs.Math.Seq.{length-sets, drop-append-add}

-- What is done to the words from an offset on: `local`, it neither reads nor changes what stands before; `even`, the length stays.
pub record Act : Type 0 where
  pub run : ℕ → List ℕ → List ℕ
  pub local : (off : ℕ) (l r : List ℕ) → run (length l + off) (l ++ r) ≡ l ++ run off r
  pub even : (off : ℕ) (ws : List ℕ) → length (run off ws) ≡ length ws

-- a store after some words leaves them as they are
pub set_local : (v off : ℕ) (l r : List ℕ) → set (l ++ r) (length l + off) v ≡ l ++ set r off v
set_local v off [] r = rw zero-add
set_local v off (x ∷ l) r = rw suc-add (ap {B = List ℕ} (λ t. x ∷ t) (set_local v off l r))

-- Write the one word v.
unfoldable pub store : ℕ → Act
store v = record { run = λ off ws. set ws off v; local = set_local v; even = λ off ws. length-set ws off v }

-- and so does a run of stores
pub sets_local : (vs : List ℕ) (off : ℕ) (l r : List ℕ) → sets (l ++ r) (length l + off) vs ≡ l ++ sets r off vs
sets_local [] off l r = refl
sets_local (v ∷ vs) off l r = rw (set_local v off l r, ← add-suc (length l) off) (sets_local vs (suc off) l (set r off v))

-- Write the words vs, one after another.
unfoldable pub lay : List ℕ → Act
lay vs = record { run = λ off ws. sets ws off vs; local = sets_local vs; even = λ off ws. length-sets ws off vs }

-- Write k words of 0.
abbrev pub clear : ℕ → Act
clear k = lay (replicate k 0)

-- One act and then another, from the same offset.
unfoldable pub both : Act → Act → Act
both x y =
    record {
      run = λ off ws. y.run off (x.run off ws);
      local = λ off l r. ap (y.run (length l + off)) (x.local off l r) ∙ y.local off l (x.run off r);
      even = λ off ws. y.even off (x.run off ws) ∙ x.even off ws;
    }

-- The same act, i words further on.
unfoldable pub past : ℕ → Act → Act
past i x =
    record {
      run = λ off ws. x.run (off + i) ws;
      local = λ off l r. ap (λ (k : ℕ). x.run k (l ++ r)) (add_assoc (length l) off i) ∙ x.local (off + i) l r;
      even = λ off ws. x.even (off + i) ws;
    }

-- Move n words down by w: to here, from w words further on.
unfoldable pub down : ℕ → ℕ → Act
down w n =
    record {
      run = λ off ws. sets ws off (take n (drop (off + w) ws));
      local = λ off l r. rw (add_assoc (length l) off w, drop-append-add l r (off + w)) (sets_local (take n (drop (off + w) r)) off l r);
      even = λ off ws. length-sets ws off (take n (drop (off + w) ws));
    }

-- Move n words up by w: from here, to w words further on. The first w words stay as they are.
unfoldable pub up : ℕ → ℕ → Act
up w n =
    record {
      run = λ off ws. sets ws (off + w) (take n (drop off ws));
      local = λ off l r. rw (add_assoc (length l) off w, drop-append-add l r off) (sets_local (take n (drop off r)) (off + w) l r);
      even = λ off ws. length-sets ws (off + w) (take n (drop off ws));
    }

-- Close a gap of w words: the n words after it move down, and the w words that they leave become 0.
abbrev pub close : ℕ → ℕ → Act
close w n = both (down w n) (past n (clear w))
