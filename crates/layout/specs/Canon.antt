-- What code that reads and writes a store may take for granted: the words are the spelling of what they decode to, E is in
-- its range, the store is long enough, and every list fits its slots. Not that the state is valid: between two writes of
-- one call it need not be.
use Rattle.std.specs.Prelude.{ℕ, ◌+◌, ◌*◌, ◌≤◌, ◌≡◌, List, length, get_or, drop}
use Rattle.words.specs.Store.{Canon}
use Rattle.rules.specs.Calls.{needed}
use Rattle.layout.specs.Layout.{header_codec, body_codec, entries_in, decode}
use Rattle.layout.specs.Whole.{Shaped}

-- a store of E entries that is spelt as it should be
pub record CanonStore (e : ℕ) (ws : List ℕ) : Type 0 where
  pub E_word : get_or ws 1 0 ≡ e
  pub E_in : entries_in ws ≡ e
  pub E_from : 1 ≤ e
  pub E_to : e ≤ 4096
  pub long : 4096 + 128 * e ≤ length ws
  pub long_needed : needed e ≤ length ws
  pub header : Canon header_codec ws
  pub body : Canon (body_codec e) (drop 16 ws)
  pub shaped : Shaped (decode ws)
