-- Tests made one after the other: which decides, and what a call that answered says of its test.
use mathlib.Core.Path.{◌≡◌, sym, ◌∙◌}
use mathlib.Core.Bool.{Bool, true, false, ◌&&◌}

-- a test that fails decides
pub fails : {t : Bool} (u : Bool) → t ≡ false → false ≡ (t && u)
fails u e = rw e

-- after one that passes the rest decides
pub passes : {t u r : Bool} → t ≡ true → r ≡ u → r ≡ (t && u)
passes e q = rw e q

-- what a call that answered false, or true, says of its test
pub answered_no : {r t : Bool} → r ≡ t → r ≡ false → t ≡ false
answered_no e h = sym e ∙ h

pub answered_yes : {r t : Bool} → r ≡ t → r ≡ true → t ≡ true
answered_yes e h = sym e ∙ h
