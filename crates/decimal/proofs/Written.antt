-- The laws of decimal text: a number's digits are those of its tenth and then its last digit, there are at most 20, and they read back
-- as the number. So they can be laid from the last to the first.
use mathlib.Core.Path.{◌≡◌, refl, sym, ap, ◌∙◌}
use mathlib.Core.Bool.{Bool, true, false}
use mathlib.Core.List.{List, [], ◌∷◌, ◌++◌}
use Prim.Native.Nat.{ℕ, zero, suc, ◌+◌, ◌-◌, ◌*◌, ◌/◌, ◌%◌, ◌^◌, ◌≤◌, ◌<◌}
use native.Mathlib.Nat.{pow-suc, one-le-pow, div-lt_iff_lt-mul, div-add-mod'}
use native.Mathlib.Omega.{arith}
use lib.Dec.{ltb}
use lib.IntN.{sub_ℕ}
use lib.ListN.{length, get_or, set, length-append, length-set, get_or-append}
use borrow.Author.Tests.{ltb-true, ltb-false, lt-ltb, le-ltb}
use Rattle.words.specs.Act.{lay}
use Rattle.words.specs.Codec.{All}
use Rattle.words.specs.Wrote.{Wrote}
use Rattle.words.proofs.Act.{lay_snoc, lay_set_past}
use Rattle.words.proofs.Each.{all_append}
use Rattle.words.proofs.Writers.{wrote_byte, wrote_within, and_then}
use Rattle.decimal.specs.Decimal.{digit, decimal_within, decimal, integer, decimal_from, decimal_read}
use Rattle.decimal.specs.Promises.{ReadBack, AtMost20, DigitsOnly, No0InFront}

-- either below 10 or not
by_10 : {P : Type 0} (n : ℕ) → (n < 10 → P) → (10 ≤ n → P) → P
by_10 {P} n low high = go (ltb n 10) refl
  where
    go : (t : Bool) → ltb n 10 ≡ t → P
    go true t = low (ltb-true n 10 t)
    go false t = high (ltb-false n 10 t)

-- a number below 10 is one digit
one_within : (k n : ℕ) → n < 10 → decimal_within k n ≡ digit n ∷ []
unfolding decimal_within
one_within zero n h = refl
one_within (suc k) n h = rw (lt-ltb n 10 h)

-- another is the digits of its tenth, and then its last digit
last_within : (k n : ℕ) → 10 ≤ n → decimal_within (suc k) n ≡ decimal_within k (n / 10) ++ digit (n % 10) ∷ []
unfolding decimal_within
last_within k n h = rw (le-ltb n 10 h)

-- what holds of the text in either case holds of it
by_last : (P : List ℕ → Type 0) (k n : ℕ) → (n < 10 → P (digit n ∷ [])) → (10 ≤ n → P (decimal_within k (n / 10) ++ digit (n % 10) ∷ []))
    → P (decimal_within (suc k) n)
by_last P k n one more = go (ltb n 10) refl
  where
    go : (t : Bool) → ltb n 10 ≡ t → P (decimal_within (suc k) n)
    go true t = rw (one_within (suc k) n (ltb-true n 10 t)) (one (ltb-true n 10 t))
    go false t = rw (last_within k n (ltb-false n 10 t)) (more (ltb-false n 10 t))

-- room for more digits changes nothing
more_within : (k n : ℕ) → n < 10 ^ suc k → decimal_within (suc k) n ≡ decimal_within k n
more_within zero n h = one_within 1 n h ∙ sym (one_within 0 n h)
more_within (suc k) n h =
    by_last (λ t. t ≡ decimal_within (suc k) n) (suc k) n
    (λ g. sym (one_within (suc k) n g))
    (λ g.
    let l : n / 10 < 10 ^ suc k = (div-lt_iff_lt-mul {k = 10} (omega arith)).1 (rw (← (pow-suc 10 (suc k))) h) in
    rw (last_within k n g, more_within k (n / 10) l))

-- at most as many digits as there is room for
short_within : (k n : ℕ) → length (decimal_within k n) ≤ suc k
unfolding decimal_within
short_within zero n = omega arith
short_within (suc k) n =
    let r = short_within k (n / 10) in
    by_last (λ t. length t ≤ suc (suc k)) k n (λ h. omega arith) (λ h. rw length-append (omega arith))

-- ---- numbers of 64 bits

-- a number below 10 is one digit
pub one_digit : (n : ℕ) → n < 10 → decimal n ≡ digit n ∷ []
unfolding decimal
one_digit n h = one_within 19 n h

-- another is the digits of its tenth, and then its last digit
pub last_digit : (n : ℕ) → n < 2 ^ 64 → 10 ≤ n → decimal n ≡ decimal (n / 10) ++ digit (n % 10) ∷ []
unfolding decimal
last_digit n h g =
    let l : n / 10 < 10 ^ 19 = omega arith in
    rw (more_within 18 (n / 10) l) (last_within 18 n g)

-- so it has a digit more than its tenth
pub one_longer : (n : ℕ) → n < 2 ^ 64 → 10 ≤ n → length (decimal n) ≡ length (decimal (n / 10)) + 1
one_longer n h g = rw (last_digit n h g, length-append)

-- at most 20 digits
pub short : (n : ℕ) → length (decimal n) ≤ 20
unfolding decimal
short n = short_within 19 n

-- a text has a character
some_within : (k n : ℕ) → 1 ≤ length (decimal_within k n)
unfolding decimal_within
some_within zero n = omega arith
some_within (suc k) n = by_last (λ t. 1 ≤ length t) k n (λ h. omega arith) (λ h. rw length-append (omega arith))

-- one digit is a number below 10
pub below_10 : (n : ℕ) → n < 2 ^ 64 → length (decimal n) ≤ 1 → n < 10
unfolding decimal
below_10 n h l =
    by_10 n (λ t. t) (λ t. let s = some_within 19 (n / 10) in absurd (omega (arith, one_longer n h t)))

-- more are of another
pub from_10 : (n : ℕ) → 2 ≤ length (decimal n) → 10 ≤ n
from_10 n l = by_10 n (λ t. absurd (omega (arith, ap length (one_digit n t)))) (λ t. t)

-- from a power of ten on, and below the next
pub by_power : (k n : ℕ) → n < 2 ^ 64 → 10 ^ k ≤ n → n < 10 * 10 ^ k → length (decimal n) ≡ k + 1
by_power zero n h l u = ap length (one_digit n (omega arith))
by_power (suc k) n h l u =
    let e = pow-suc 10 k in
    let p : 10 * 10 ^ k ≤ n = omega arith in
    let q : n < 10 * (10 * 10 ^ k) = omega arith in
    let one : 1 ≤ 10 ^ k = one-le-pow k 10 (omega arith) in
    let r = by_power k (n / 10) (omega arith) (omega arith) (omega arith) in
    omega (arith, one_longer n h (omega arith))

-- ---- laid from the last digit to the first

-- Of a number the digits from here on are laid, and laying those of the rest before them finishes it.
pub record Partly (before : List ℕ) (at number : ℕ) (now : List ℕ) (here rest : ℕ) : Type 0 where
  pub fits : rest < 2 ^ 64
  pub laid : (lay (decimal rest)).run at now ≡ (lay (decimal number)).run at before
  pub ends : here ≡ at + length (decimal rest)
  pub few : here ≤ at + 20
  pub long : length now ≡ length before

-- none at first
pub partly_start : {before : List ℕ} {at number here : ℕ} → number < 2 ^ 64 → here ≡ at + length (decimal number)
    → Partly before at number before here number
partly_start {number = number} h e =
    record { fits = h; laid = refl; ends = e; few = omega (arith, short number); long = refl }

-- one digit more
pub partly_on : {before now : List ℕ} {at number here rest : ℕ} → Partly before at number now here rest → 10 ≤ rest
    → Partly before at number (set now (here - 1) (digit (rest % 10))) (here - 1) (rest / 10)
partly_on {now = now} {at = at} {here = here} {rest = rest} p g =
    let d = digit (rest % 10) in
    let t = decimal (rest / 10) in
    let e : here - 1 ≡ at + length t = omega (arith, one_longer rest p.fits g) in
    record {
      fits = omega arith;
      laid =
          rw e
          (lay_set_past t at (at + length t) d now (omega arith)
          ∙ sym (lay_snoc t d at now)
          ∙ rw (← (last_digit rest p.fits g)) p.laid);
      ends = e;
      few = omega arith;
      long = rw length-set p.long;
    }

-- the first digit
pub partly_end : {before now : List ℕ} {at number here rest end : ℕ} → Partly before at number now here rest → rest < 10
    → end ≡ at + length (decimal number) → Wrote 20 before at (decimal number) (set now at (digit rest)) end
unfolding lay
partly_end {number = number} {rest = rest} p h e =
    record { laid = rw (one_digit rest h) at p.laid; ends = e; short = short number; long = rw length-set p.long }

-- ---- integers

module _ {before after : List ℕ} {at next : ℕ} (a b : ℕ) where
  -- a difference that is not negative is written as it is
  pub positive : b ≤ a → Wrote 20 before at (decimal (a - b)) after next → Wrote 21 before at (integer (sub_ℕ a b)) after next
  unfolding integer
  positive h w = rw (le-ltb a b h) (wrote_within (omega arith) w)

  -- another is a minus, and then how much is lacking
  pub negative : a < b → Wrote 20 (set before at 45) (at + 1) (decimal (b - a)) after next
      → Wrote 21 before at (integer (sub_ℕ a b)) after next
  unfolding integer
  negative h w =
      let e : suc (b - suc a) ≡ b - a = omega arith in
      rw (lt-ltb a b h, e) (and_then (wrote_byte before at 45) w)

-- ---- read back

-- a digit after others is read after them
read_last : (high : ℕ) (xs : List ℕ) (d : ℕ) → decimal_from high (xs ++ digit d ∷ []) ≡ decimal_from high xs * 10 + d
unfolding decimal_from digit
read_last high [] d = omega arith
read_last high (x ∷ xs) d = read_last (high * 10 + (x - 48)) xs d

-- one digit is read as its number
read_one : (n : ℕ) → decimal_read (digit n ∷ []) ≡ n
unfolding decimal_read decimal_from digit
read_one n = omega arith

-- a number is read back
read_within : (k n : ℕ) → decimal_read (decimal_within k n) ≡ n
unfolding decimal_read decimal_within
read_within zero n = read_one n
read_within (suc k) n =
    by_last (λ t. decimal_read t ≡ n) k n
    (λ h. read_one n)
    (λ h. read_last 0 (decimal_within k (n / 10)) (n % 10) ∙ rw (read_within k (n / 10)) (div-add-mod' n 10))

-- ---- digits only

-- the character of a digit
is_digit : (d : ℕ) → d < 10 → (48 ≤ digit d) × (digit d ≤ 57)
unfolding digit
is_digit d h = (omega arith, omega arith)

-- a number that fits has digits only
digits_within : (k n : ℕ) → n < 10 ^ suc k → All (λ (c : ℕ). (48 ≤ c) × (c ≤ 57)) (decimal_within k n)
unfolding decimal_within
digits_within zero n h = (is_digit n h, tt)
digits_within (suc k) n h =
    by_last (All (λ (c : ℕ). (48 ≤ c) × (c ≤ 57))) k n (λ g. (is_digit n g, tt))
    (λ g.
    let l : n / 10 < 10 ^ suc k = (div-lt_iff_lt-mul {k = 10} (omega arith)).1 (rw (← (pow-suc 10 (suc k))) h) in
    all_append (λ (c : ℕ). (48 ≤ c) × (c ≤ 57)) (decimal_within k (n / 10)) (digit (n % 10) ∷ []) (digits_within k (n / 10) l)
    (is_digit (n % 10) (omega arith), tt))

-- and its first one is no 0
front_within : (k n : ℕ) → 1 ≤ n → 49 ≤ get_or (decimal_within k n) 0 0
unfolding decimal_within digit
front_within zero n h = omega arith
front_within (suc k) n h =
    let r = some_within k (n / 10) in
    by_last (λ t. 49 ≤ get_or t 0 0) k n (λ g. omega arith)
    (λ g. rw (get_or-append (decimal_within k (n / 10)) (digit (n % 10) ∷ []) 0 0 (omega arith)) (front_within k (n / 10) (omega arith)))

-- ---- the promises

-- what is written of a number is read back as it
pub read_back : ReadBack
unfolding ReadBack decimal
read_back n h = read_within 19 n

-- and has at most 20 digits
pub at_most_20 : AtMost20
unfolding AtMost20
at_most_20 = short

-- all of them digits
pub digits_only : DigitsOnly
unfolding DigitsOnly decimal
digits_only n h = digits_within 19 n (omega arith)

-- with no 0 in front
pub no_0_in_front : No0InFront
unfolding No0InFront decimal
no_0_in_front n h g = front_within 19 n h
