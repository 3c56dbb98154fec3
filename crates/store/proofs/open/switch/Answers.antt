-- `store::open::switch` meets its contract: the test as a number.
use mathlib.Core.Path.{◌≡◌, refl, ◌∙◌}
use mathlib.Core.Bool.{Bool, true, false}
use mir.Val.{bool_byte}
use Rattle.words.specs.Codec.{bit}
use Rattle.store.proofs.open.switch.Goals as goal

-- a test as the library writes it
told : (b : Bool) → bool_byte b ≡ bit b
told true = refl
told false = refl

pub returns : goal.returns
returns c = c.from.ensures ∙ told _
