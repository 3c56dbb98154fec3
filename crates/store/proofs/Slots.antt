-- Records of a counted list by their places: from one to another are so many words.
use mathlib.Core.Path.{◌≡◌, ap}
use Prim.Native.Nat.{ℕ, suc, ◌+◌, ◌-◌, ◌*◌, ◌≤◌, ◌<◌}
use native.Mathlib.Nat.{suc-mul}
use native.Mathlib.Omega.{arith}
use Rattle.words.specs.Words.{slots_left}

-- from record j to record n
pub between : (first j n w : ℕ) → j ≤ n → first + n * w - (first + j * w) ≡ (n - j) * w
between first j n w h = let s = slots_left j n w h in omega arith

-- record j and those behind it
pub from_one : (first j n w : ℕ) → j < n → first + n * w - (first + j * w) ≡ w + (n - (j + 1)) * w
from_one first j n w h =
    let b = between first j n w (omega arith) in
    let e : n - j ≡ suc (n - (j + 1)) = omega arith in
    let t : (n - j) * w ≡ suc (n - (j + 1)) * w = ap (λ (k : ℕ). k * w) e in
    let s = suc-mul (n - (j + 1)) w in
    omega arith
