-- `UnackedBits::fresh_unacked_bits` meets its contract: the table passes its test, so what is read from it is the mask of
-- the remainder, and each word is that of the fresh list at its place.
use Rattle.std.proofs.Common.{◌≡◌, refl, sym, ◌∙◌, ℕ, ◌-◌, ◌*◌, ◌%◌, ◌^◌, ◌<◌}
use Prim.Native.Nat.{min}
use native.Mathlib.Nat.{mod-lt}
use lib.Dec.{lit<, lit≤}
use lib.ListN.{get_or}
use Rattle.bits.specs.Bits.{fresh_unacked_bits}
use Rattle.bits.specs.Masks.{mask, masks}
use Rattle.bits.proofs.Sets.{fresh_word}
use Rattle.bits.proofs.Masks.{mask_at}
use Rattle.bits.proofs.Fours.{is_four}
use Rattle.bits.proofs.UnackedBits.fresh_unacked_bits.Goals as goal

-- a word of as many ones as word q has room for is word q of the fresh list
at_place : (n q : ℕ) → q < 4 → {r : ℕ} → r ≡ 2 ^ min (n - 64 * q) 64 - 1 → r ≡ get_or (fresh_unacked_bits 4 n) q 0
at_place n q h e = e ∙ sym (fresh_word 4 n q h)

-- what is read from the table is the mask of what the size leaves; the test of the whole table is computed here, once
masked : (n : ℕ) → get_or masks (n % 64) 0 ≡ mask (n % 64)
unfolding mask masks
masked n = mask_at (n % 64) (mod-lt n (lit< tt))

pub fresh_word-requires : goal.fresh_word-requires
unfolding mask masks
fresh_word-requires c = (refl, lit≤ tt, masked c.args.batch_size)

pub fresh_word-requires-2 : goal.fresh_word-requires-2
unfolding mask masks
fresh_word-requires-2 c = (refl, lit≤ tt, masked c.args.batch_size)

pub fresh_word-requires-3 : goal.fresh_word-requires-3
unfolding mask masks
fresh_word-requires-3 c = (refl, lit≤ tt, masked c.args.batch_size)

pub fresh_word-requires-4 : goal.fresh_word-requires-4
unfolding mask masks
fresh_word-requires-4 c = (refl, lit≤ tt, masked c.args.batch_size)

pub returns : goal.returns
returns c =
    let n : ℕ = c.args.batch_size in
    is_four _ (fresh_unacked_bits 4 n) (at_place n 0 (lit< tt) c.fresh_word.ensures)
    (at_place n 1 (lit< tt) c.fresh_word-2.ensures) (at_place n 2 (lit< tt) c.fresh_word-3.ensures)
    (at_place n 3 (lit< tt) c.fresh_word-4.ensures)
