-- A store is a list of words of which a codec's spelling stands first; what follows the first `width` words is never looked at.
-- `Canon` is the fact, and `canonical` the test, that the store is the one spelling of what it decodes to.
use Rattle.std.specs.Prelude.{◌≡◌, Bool, true, ◌&&◌, List, ◌++◌, ℕ, zero, suc, ◌+◌, ◌-◌, ◌*◌, ◌≤◌, ◌<◌, length, get_or, drop}
use Rattle.words.specs.Codec.{Codec}
use Rattle.words.specs.Words.{starts, blank}

module _ {A : Type 0} where
  -- The store ws with the spelling of a in place of its first words.
  unfoldable pub put : Codec A → List ℕ → A → List ℕ
  put c ws a = c.enc a ++ drop c.width ws

  -- The store begins with the spelling of what it decodes to.
  pub record Canon (c : Codec A) (ws : List ℕ) : Type 0 where
    pub long : c.width ≤ length ws
    pub spelt : ws ≡ c.enc (c.dec ws) ++ drop c.width ws

  -- The same as a test.
  unfoldable pub canonical : Codec A → List ℕ → Bool
  canonical c ws = starts (c.enc (c.dec ws)) ws

  -- Each of n slots, one after another, is canonical.
  unfoldable pub canonicals : Codec A → ℕ → List ℕ → Bool
  canonicals c zero ws = true
  canonicals c (suc n) ws = canonical c ws && canonicals c n (drop c.width ws)

  -- A count within cap, as many canonical slots, and the others 0: what a canonical list comes to.
  pub record Slotted (c : Codec A) (cap : ℕ) (ws : List ℕ) : Type 0 where
    pub long : 0 < length ws
    pub count : get_or ws 0 0 ≤ cap
    pub each : (i : ℕ) → i < get_or ws 0 0 → Canon c (drop (1 + i * c.width) ws)
    pub rest : blank ((cap - get_or ws 0 0) * c.width) (drop (1 + get_or ws 0 0 * c.width) ws) ≡ true
