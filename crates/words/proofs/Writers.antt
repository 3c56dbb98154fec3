-- Laws of writers: one after another they lay their bytes one after another, and a loop of writers goes by what is left to lay.
use mathlib.Core.Path.{◌≡◌, refl, sym, ap, ◌∙◌}
use mathlib.Core.List.{List, [], ◌∷◌, ◌++◌}
use Prim.Native.Nat.{ℕ, ◌+◌, ◌≤◌, ◌<◌}
use native.Mathlib.Omega.{arith}
use lib.ListN.{length, set, length-append, length-set}
use Rattle.words.specs.Act.{lay}
use Rattle.words.proofs.Act.{lay_append, lay_none, lay_set}
use Rattle.words.specs.Wrote.{Wrote}

-- one byte stored
pub wrote_byte : (before : List ℕ) (at byte : ℕ) → Wrote 1 before at (byte ∷ []) (set before at byte) (at + 1)
unfolding lay
wrote_byte before at byte =
    record { laid = refl; ends = refl; short = omega arith; long = length-set before at byte }

-- at most so many bytes are at most more
pub wrote_within : {m n : ℕ} {a b xs : List ℕ} {at next : ℕ} → m ≤ n → Wrote m a at xs b next → Wrote n a at xs b next
wrote_within h w = record { laid = w.laid; ends = w.ends; short = omega arith; long = w.long }

-- a writer and then another from where it ended
pub and_then : {m n : ℕ} {a b c xs ys : List ℕ} {at next end : ℕ} → Wrote m a at xs b next → Wrote n b next ys c end
    → Wrote (m + n) a at (xs ++ ys) c end
and_then {a = a} {xs = xs} {ys = ys} {at = at} v w =
    let e = length-append xs ys in
    record {
      laid = w.laid ∙ rw (v.laid, v.ends) (sym (lay_append xs ys at a));
      ends = omega arith;
      short = omega arith;
      long = omega arith;
    }

-- a byte before the place of a writer may as well be stored after it
pub byte_before : {m : ℕ} {a b xs : List ℕ} {at next : ℕ} (i byte : ℕ) → i < at → Wrote m a at xs b next
    → Wrote m (set a i byte) at xs (set b i byte) next
byte_before {a = a} {b = b} {xs = xs} {at = at} i byte h w =
    let e = length-set a i byte in
    let f = length-set b i byte in
    record {
      laid = ap (λ (l : List ℕ). set l i byte) w.laid ∙ sym (lay_set xs at i byte a h);
      ends = w.ends;
      short = w.short;
      long = omega arith;
    }

-- ---- loops

-- Laying what is left from here on finishes what was begun.
pub record Left (before : List ℕ) (at : ℕ) (bytes now : List ℕ) (here : ℕ) (rest : List ℕ) : Type 0 where
  pub laid : (lay rest).run here now ≡ (lay bytes).run at before
  pub ends : here + length rest ≡ at + length bytes
  pub long : length now ≡ length before

-- at the start all is left
pub left_start : (before : List ℕ) (at : ℕ) (bytes : List ℕ) → Left before at bytes before at bytes
left_start before at bytes = record { laid = refl; ends = refl; long = refl }

-- a writer takes its bytes off what is left
pub left_on : {m : ℕ} {before bytes now xs ys after : List ℕ} {at here next : ℕ}
    → Left before at bytes now here (xs ++ ys) → Wrote m now here xs after next → Left before at bytes after next ys
left_on {now = now} {xs = xs} {ys = ys} {here = here} l w =
    let e = length-append xs ys in
    record {
      laid = rw (w.laid, w.ends) (sym (lay_append xs ys here now) ∙ l.laid);
      ends = omega arith;
      long = omega arith;
    }

-- at the end nothing is left
pub left_end : {before bytes now : List ℕ} {at here : ℕ} (most : ℕ) → length bytes ≤ most → Left before at bytes now here []
    → Wrote most before at bytes now here
left_end {now = now} {here = here} most h l =
    record { laid = sym (lay_none here now) ∙ l.laid; ends = omega arith; short = h; long = l.long }
