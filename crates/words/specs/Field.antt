-- Fields: where the words of a part stand in the spelling of a whole, and what reading and writing them means.
-- `Reads` and `Writes` hold whatever words follow the spelling, so they serve in any larger layout and in a longer store.
use Rattle.std.specs.Prelude.{◌≡◌, List, ◌++◌, ℕ, length, get_or, drop}
use Rattle.words.specs.Act.{Act}
use Rattle.words.specs.Codec.{Codec}

module _ {A : Type 0} where
  -- The word at `off` of the spelling of a is v.
  pub record Reads (c : Codec A) (a : A) (off v : ℕ) : Type 0 where
    pub got : (r : List ℕ) → get_or (c.enc a ++ r) off 0 ≡ v

  -- The act at `off` turns the spelling of a into that of b.
  pub record Writes (c : Codec A) (a : A) (off : ℕ) (act : Act) (b : A) : Type 0 where
    pub done : (r : List ℕ) → act.run off (c.enc a ++ r) ≡ c.enc b ++ r

module _ {A B : Type 0} where
  -- The spelling of `whole b` holds that of b at `off`, and all its other words do not depend on b.
  pub record Place (c : Codec A) (d : Codec B) (off : ℕ) (whole : B → A) : Type 0 where
    pub before : List ℕ
    pub after : List ℕ
    pub there : length before ≡ off
    pub spelt : (b : B) → c.enc (whole b) ≡ before ++ (d.enc b ++ after)

  -- The spelling of a by c holds at `off` that of b by d.
  pub record Holds (c : Codec A) (a : A) (off : ℕ) (d : Codec B) (b : B) : Type 0 where
    pub after : List ℕ → List ℕ
    pub found : (r : List ℕ) → drop off (c.enc a ++ r) ≡ d.enc b ++ after r
