-- The first number that passes a test.
use Rattle.std.specs.Prelude.{ℕ, ◌<◌, Bool, true, false, MatchOption}
use Rattle.std.specs.declared.option.Option.{Option}

-- of the numbers below a count this one is the first that passes, by what a test says of each; without one all fail
pub record First (count : ℕ) (Says : ℕ → Bool → Type 0) (r : Option ℕ) : Type 0 where
  pub is :
      MatchOption r ((k : ℕ) → k < count → Says k false)
      (λ i. (i < count) × Says i true × ((k : ℕ) → k < i → Says k false))
