-- The ids of an Ack or a Redeliver: what their reader knows after they were tested and their words counted.
use Prim.Native.Nat.{ℕ}
use mathlib.Core.Path.{◌≡◌, sym, ◌∙◌}
use mathlib.Core.List.{List}
use mathlib.Core.Option.{none, some, bind}
use lib.ListN.{length}
use Rattle.rules.specs.Groups.{Group}
use Rattle.wire.specs.Fields.{Field, fields}
use Rattle.wire.specs.Select.{numbered}
use Rattle.wire.specs.Ids.{id_list, list_words}
use Rattle.std.specs.Prelude.{Some, None}
use Rattle.wire_fields.specs.Found.{answered}
use Rattle.wire_fields.proofs.Answered.{from_some, from_none}
use Rattle.wire_ids.specs.Sizes.{ids_of, size_of}

-- the ids under a number of some fields take this many words
pub record Sized (m : List ℕ) (fs : List Field) (number size : ℕ) : Type 0 where
  pub ids : List Group
  pub are : id_list m (numbered number fs) ≡ some ids
  pub many : length (list_words ids) ≡ size

module _ (m : List ℕ) (number : ℕ) {fs : List Field} (p : fields m ≡ some fs) where
  ids_by : ids_of m number ≡ id_list m (numbered number fs)
  unfolding ids_of bind
  ids_by = rw p

  -- they are right
  pub size_is : {n : ℕ} → Some n ≡ answered size_of (ids_of m number) → Sized m fs number n
  size_is e =
      let t = from_some size_of (ids_of m number) e in
      record { ids = t.x; are = sym ids_by ∙ t.is; many = sym t.same }

  -- or not
  pub size_bad : None ≡ answered size_of (ids_of m number) → id_list m (numbered number fs) ≡ none
  size_bad e = sym ids_by ∙ from_none size_of (ids_of m number) e
