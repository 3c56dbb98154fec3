-- A local array of 32 zeros, of which the first n are lent: n is the length m of a list that has at most 32 elements.
use mathlib.Core.Path.{◌≡◌, sym, ◌∙◌}
use mathlib.Core.List.{List}
use Prim.Native.Nat.{ℕ, ◌≤◌}
use native.Mathlib.Omega.{arith}
use lib.ListN.{length, take, replicate}
use lib.Seq.{length-take-le}

-- the array
abbrev pub zeros : List ℕ
zeros = replicate 32 0

module _ {n m : ℕ} (counted : n ≡ m) (fits : m ≤ 32) where
  -- the array has as many
  pub zeros_enough : n ≤ 32
  zeros_enough = omega arith

  -- the part lent has n elements
  pub zeros_lent : n ≡ length (take n zeros)
  zeros_lent = sym (length-take-le n zeros zeros_enough)

  -- as many as the list
  pub zeros_sized : length (take n zeros) ≡ m
  zeros_sized = sym zeros_lent ∙ counted
