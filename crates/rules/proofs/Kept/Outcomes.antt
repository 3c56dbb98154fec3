-- What it is for an outcome to keep something of the state, and the refusals and lookups that stand before every change.
use Prim.Native.Nat.{ℕ, ◌<◌}
use mathlib.Core.Path.{◌≡◌, refl, subst}
use mathlib.Core.Bool.{Bool, true, false, not, ◌&&◌, true≢false}
use mathlib.Core.List.{List}
use mathlib.Core.Option.{Option, none, some}
use native.Mathlib.Omega.{arith}
use lib.Dec.{leb}
use borrow.Author.Tests.{leb-false}
use Rattle.rules.specs.State.{Kind, by_kind, Consumer, State, consumer_of}
use Rattle.rules.specs.State.Kind.{plain, shared}
use Rattle.rules.specs.Groups.{Group, groups}
use Rattle.rules.specs.Outcome.{Value, Outcome, guard, found_or_4, with_live}
use Rattle.rules.specs.Outcome.Outcome.{refused, short, done}
use Rattle.rules.specs.Commands.{with_groups}
use Rattle.rules.specs.Calls.{state_after}

-- something holds of the state after an outcome: of the old one where it is a refusal
abbrev pub Keeps : (State → Type 0) → State → Outcome → Type 0
Keeps P s (refused n) = P s
Keeps P s (short n) = P s
Keeps P s (done v t) = P t

-- that is the state after it
pub keeps_after : (P : State → Type 0) (s : State) (o : Outcome) → Keeps P s o → P (state_after s o)
unfolding state_after
keeps_after P s (refused n) h = h
keeps_after P s (short n) h = h
keeps_after P s (done v t) h = h

-- and the new state where it is done
pub keeps_done : (P : State → Type 0) (s : State) (o : Outcome) (v : Value) (t : State) → Keeps P s o → o ≡ done v t → P t
keeps_done P s o v t h e = subst (Keeps P s) e h

module _ (P : State → Type 0) (s : State) (h : P s) where
  -- a refusal changes nothing; what follows it has passed its test
  pub keeps_guard : (t : Bool) (n : ℕ) (o : Outcome) → (t ≡ false → Keeps P s o) → Keeps P s (guard t n o)
  unfolding guard
  keeps_guard true n o f = h
  keeps_guard false n o f = f refl

  -- refusal 4, or the live consumer
  pub keeps_live : (i : ℕ) (f : Consumer → Outcome) → ((c : Consumer) → consumer_of s i ≡ some c → Keeps P s (f c)) → Keeps P s (with_live s i f)
  unfolding with_live found_or_4
  keeps_live i f g = go (consumer_of s i) g
    where
      go : (o : Option Consumer) → ((c : Consumer) → o ≡ some c → Keeps P s (f c)) → Keeps P s (found_or_4 f o)
      go none k = h
      go (some c) k = k c refl

  -- refusal 10, or the groups of the list
  pub keeps_groups : (list : List ℕ) (f : List Group → Outcome) → ((gs : List Group) → groups list ≡ some gs → Keeps P s (f gs))
      → Keeps P s (with_groups (groups list) f)
  unfolding with_groups
  keeps_groups list f g = go (groups list) g
    where
      go : (o : Option (List Group)) → ((gs : List Group) → o ≡ some gs → Keeps P s (f gs)) → Keeps P s (with_groups o f)
      go none k = h
      go (some gs) k = k gs refl

  -- a plain consumer or a shared one
  pub keeps_kind : (k : Kind) (o r : Outcome) → (k ≡ plain → Keeps P s o) → (k ≡ shared → Keeps P s r) → Keeps P s (by_kind k o r)
  unfolding by_kind
  keeps_kind plain o r f g = f refl
  keeps_kind shared o r f g = g refl

-- a plain consumer is not shared
pub plain_not_shared : plain ≡ shared → ⊥
plain_not_shared e = let z : ◌≡◌ {A = ℕ} 0 1 = cc in omega arith

-- a guard that refuses what is new where n are there: past it, what is new finds room
pub room_left : (there : Bool) (n m : ℕ) → (not there && leb n m) ≡ false → there ≡ false → m < n
room_left true n m t e = absurd (true≢false e)
room_left false n m t e = leb-false n m t
