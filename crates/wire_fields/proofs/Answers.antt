-- What is answered where a number has to be there.
use Prim.Native.Nat.{ℕ}
use mathlib.Core.Path.{◌≡◌}
use mathlib.Core.Bool.{Bool, true, false}
use Rattle.std.specs.Prelude.{Some, None}
use Rattle.wire_fields.specs.Selected.{is_one, number}
use Rattle.wire_fields.specs.declared.pick.Seen.{Seen}

module _ (fits : ℕ → Bool) (s : Seen) where
  -- none was seen, or several, or one of another wire type
  pub not_one_bad : is_one s ≡ false → None ≡ number fits s
  unfolding number
  not_one_bad e = rw e

  -- one, of its width
  pub one_fits : is_one s ≡ true → fits s.content ≡ true → Some s.content ≡ number fits s
  unfolding number
  one_fits e t = rw (e, t)

  -- one that is too wide
  pub one_unfit : is_one s ≡ true → fits s.content ≡ false → None ≡ number fits s
  unfolding number
  one_unfit e t = rw (e, t)
