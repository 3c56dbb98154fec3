-- Rows of words looked at one after another: what the methods of `Rows` turn on.
use mathlib.Core.Path.{◌≡◌, refl, sym}
use mathlib.Core.Bool.{true, false, ◌&&◌}
use mathlib.Core.List.{List}
use Prim.Native.Nat.{ℕ, ◌<◌}
use lib.Dec.{eqb}
use Rattle.std.proofs.Common.{Option, Some, None, is_some, IfSome}
use borrow.Author.Tests.{eq-eqb}
use Rattle.check_rows.specs.Below.{some_below}
use Rattle.check_rows.specs.Rows.{row, row_second, among, first_row, two_among}
use Rattle.check_rows.proofs.Below.{some_found, first_some, first_less}

module _ (ws : List ℕ) (first w : ℕ) where
  -- ---- one word

  -- no row starts with a word yet
  pub among_none : (a : ℕ) → among ws first w 0 a ≡ false
  unfolding among some_below
  among_none a = refl

  -- a row does
  pub among_found : (n i a : ℕ) → i < n → row ws first w i ≡ a → among ws first w n a ≡ true
  unfolding among
  among_found n i a h e = some_found (λ j. eqb a (row ws first w j)) n i h (eq-eqb a (row ws first w i) (sym e))

  -- there is a first one where the word is among them
  pub first_among : (n a : ℕ) → is_some (first_row ws first w n a) ≡ among ws first w n a
  unfolding among first_row
  first_among n a = first_some (λ j. eqb a (row ws first w j)) n

  -- and it is one of the rows
  pub first_inside : (n a : ℕ) (o : Option ℕ) → o ≡ first_row ws first w n a → IfSome o (λ i. i < n)
  unfolding first_row
  first_inside n a None e = tt
  first_inside n a (Some i) e = first_less (λ j. eqb a (row ws first w j)) n i (sym e)

  -- ---- two words

  -- a row starts with two words
  pub two_found : (n i a b : ℕ) → i < n → row ws first w i ≡ a → row_second ws first w i ≡ b → two_among ws first w n a b ≡ true
  unfolding two_among
  two_found n i a b h e f =
      some_found (λ j. eqb a (row ws first w j) && eqb b (row_second ws first w j)) n i h
      (rw (eq-eqb a (row ws first w i) (sym e)) (eq-eqb b (row_second ws first w i) (sym f)))
