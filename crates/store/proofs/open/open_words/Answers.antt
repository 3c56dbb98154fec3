-- `store::open::open_words` meets its contract: the stretch is cleared, then four words are stored.
use mathlib.Core.Path.{◌≡◌, ap, ◌∙◌}
use mathlib.Core.List.{◌++◌}
use Prim.Native.Nat.{ℕ}
use native.Mathlib.Omega.{arith}
use lib.ListN.{length, take, drop, replicate, length-set, length-replicate}
use lib.Seq.{length-take-le}
use Rattle.words.specs.Act.{clear}
use Rattle.words.proofs.Act.{lay_front}
use Rattle.store.specs.Open.{opened_words}
use Rattle.store.proofs.open.open_words.Goals as goal

pub bounds-store-1 : goal.bounds-store-1
bounds-store-1 c = simp length-set (omega arith)

pub bounds-store-2 : goal.bounds-store-2
bounds-store-2 c = simp length-set (omega arith)

pub bounds-store-3 : goal.bounds-store-3
bounds-store-3 c = simp length-set (omega arith)

pub returns : goal.returns
unfolding opened_words
returns c =
    let ws = c.args.store.now in
    let n = c.args.needed in
    let l : length (take n ws) ≡ n = length-take-le n ws (omega arith) in
    let z : c.fill.new.self ≡ replicate n 0 = c.fill.ensures.after (λ y h. h) ∙ ap (λ (k : ℕ). replicate k 0) l in
    let k : length (replicate {A = ℕ} n 0) ≡ n = length-replicate n 0 in
    let f : (clear n).run 0 ws ≡ replicate n 0 ++ drop n ws = lay_front (replicate n 0) ws (omega arith) ∙ ap (λ (i : ℕ). replicate n 0 ++ drop i ws) k in
    rw (z, f)
