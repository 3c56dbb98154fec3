-- What an operation knows of its store once E is read.
use Rattle.std.specs.Prelude.{ℕ, ◌≡◌, true, List}
use Rattle.layout.specs.Layout.{decode, spells}

-- the words spell a state of E entries
pub record Opened (e : ℕ) (ws : List ℕ) : Type 0 where
  pub spelt : spells ws ≡ true
  pub E : e ≡ (decode ws).entries
