-- A list of records in a store, with a word for how many there are: what code does to its words.
use Rattle.std.specs.Prelude.{ℕ, ◌+◌, ◌-◌, ◌*◌, ◌≤◌, ◌<◌, List, length, get_or, set}
use Rattle.words.specs.Act.{clear, close, up, lay, both}
use Rattle.store.specs.declared.counted.Counted.{Counted}

-- how many records there are
abbrev pub size : Counted → List ℕ → ℕ
size l ws = get_or ws l.count_at 0

-- the words of a list lie in the store
pub record Inside (l : Counted) (ws : List ℕ) : Type 0 where
  pub counted : l.count_at < length ws
  pub inside : l.first + size l ws * l.width ≤ length ws

-- and those of one record more
pub record HasRoom (l : Counted) (ws : List ℕ) : Type 0 where
  pub counted : l.count_at < length ws
  pub few : size l ws < length ws
  pub inside : l.first + size l ws * l.width + l.width ≤ length ws

-- record j left out
abbrev pub without : Counted → ℕ → List ℕ → List ℕ
without l j ws =
    set ((close l.width ((size l ws - (j + 1)) * l.width)).run (l.first + j * l.width) ws) l.count_at (size l ws - 1)

-- the first k records left out
abbrev pub without_first : Counted → ℕ → List ℕ → List ℕ
without_first l k ws = set ((close (k * l.width) ((size l ws - k) * l.width)).run l.first ws) l.count_at (size l ws - k)

-- the first k records alone
abbrev pub cut_to : Counted → ℕ → List ℕ → List ℕ
cut_to l k ws =
    set ((clear (l.first + size l ws * l.width - (l.first + k * l.width))).run (l.first + k * l.width) ws) l.count_at k

-- a record more at the end
abbrev pub with_last : Counted → List ℕ → List ℕ → List ℕ
with_last l words ws = set ((lay words).run (l.first + size l ws * l.width) ws) l.count_at (size l ws + 1)

-- a record put in at j
abbrev pub with_inserted : Counted → ℕ → List ℕ → List ℕ → List ℕ
with_inserted l j words ws =
    set ((both (up l.width ((size l ws - j) * l.width)) (lay words)).run (l.first + j * l.width) ws) l.count_at (size l ws + 1)

-- one record more, whose words stand there
abbrev pub one_more : Counted → List ℕ → List ℕ
one_more l ws = set ws l.count_at (size l ws + 1)
