-- Refusal 1: words that spell no state, and what a call on them comes to.
use Rattle.std.specs.Prelude.{ℕ, ◌<◌, ◌≡◌, false, List, [], eqb, length, get_or, replicate}
use Rattle.rules.specs.Calls.{Call}
use Rattle.layout.specs.Layout.{layout_tag}
use Rattle.layout.specs.Calls.{answer, after}

-- every call on the words answers 1 and leaves them
pub record Refused1 (ws : List ℕ) : Type 0 where
  pub answers_1 : (x : Call) → answer ws x ≡ 1
  pub leaves : (x : Call) → after ws x ≡ ws

-- examples: no words, 8,192 words of 0, words fewer than E = 1 needs, words with another tag
pub record RefusedExamples : Type 0 where
  pub no_words : Refused1 []
  pub all_zero : Refused1 (replicate 8192 0)
  pub too_short : (ws : List ℕ) → length ws < 4224 → Refused1 ws
  pub other_tag : (ws : List ℕ) → eqb (get_or ws 0 0) layout_tag ≡ false → Refused1 ws
