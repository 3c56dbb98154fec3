-- The kinds of a consumer by their flags and their words.
use mathlib.Core.Path.{◌≡◌, refl, sym, ap, ◌∙◌}
use mathlib.Core.Bool.{true, false}
use Prim.Native.Nat.{ℕ}
use native.Mathlib.Omega.{arith}
use Rattle.words.specs.Codec.{bit}
use Rattle.rules.specs.State.{Kind}
use Rattle.rules.specs.State.Kind.{plain, shared}
use Rattle.rules.specs.Calls.{kind_from}
use Rattle.layout.specs.Records.{flag_of}
use Rattle.command_parts.specs.Parts.{kind_of}
use Rattle.command_parts.specs.contracts.Kind.{the_type}
use Rattle.command_parts.specs.declared.Kind as code
use Rattle.command_parts.specs.declared.Kind.TheVariants as kinds
use denote.Enum.Bare.{sameb}

-- the kinds by their flags
pub flag_shared : (k : Kind) → flag_of k ≡ true → k ≡ shared
flag_shared plain e = let z : ◌≡◌ {A = ℕ} 0 1 = cc in let none : ⊥ = omega arith in absurd none
flag_shared shared e = refl

pub flag_plain : (k : Kind) → flag_of k ≡ false → k ≡ plain
flag_plain plain e = refl
flag_plain shared e = let z : ◌≡◌ {A = ℕ} 0 1 = cc in let none : ⊥ = omega arith in absurd none

-- whether it is shared, asked of the code's kind
pub same_shared : (k : code.Kind) → sameb the_type k kinds.Shared ≡ flag_of (kind_of k)
unfolding kind_of
same_shared kinds.Plain = refl
same_shared kinds.Shared = refl

-- the kind that a test of the code's kind tells
pub told_plain : {k : code.Kind} {r : Kind} → k ≡ kinds.Plain → kind_of k ≡ r → r ≡ plain
unfolding kind_of
told_plain e f = sym f ∙ ap kind_of e

pub told_shared : {k : code.Kind} {r : Kind} → k ≡ kinds.Shared → kind_of k ≡ r → r ≡ shared
unfolding kind_of
told_shared e f = sym f ∙ ap kind_of e

-- the kind read from its word
pub kind_back : (k : Kind) → kind_from (bit (flag_of k)) ≡ k
unfolding kind_from
kind_back plain = refl
kind_back shared = refl
