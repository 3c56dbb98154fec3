-- What opening writes.
use Rattle.std.specs.Prelude.{ℕ, List, set}
use Rattle.words.specs.Act.{clear}
use Rattle.layout.specs.Layout.{layout_tag}

-- words of which the first n are cleared, and the header's four words written
unfoldable pub opened_words : List ℕ → ℕ → ℕ → ℕ → ℕ → List ℕ
opened_words ws e n leak noop = set (set (set (set ((clear n).run 0 ws) 0 layout_tag) 1 e) 2 leak) 3 noop
