-- What it is for an outcome to keep the invariant, and the refusals and lookups that stand before every change.
use Prim.Native.Nat.{ℕ}
use mathlib.Core.Path.{◌≡◌, refl}
use mathlib.Core.Bool.{Bool, true, false, cond, true≢false}
use mathlib.Core.List.{List}
use mathlib.Core.Option.{Option, none, some}
use Rattle.rules.specs.State.{Kind, by_kind, Consumer, State, consumer_of}
use Rattle.rules.specs.State.Kind.{plain, shared}
use Rattle.rules.specs.Groups.{Group, groups}
use Rattle.rules.specs.Outcome.{Outcome, guard, found_or_4, with_live}
use Rattle.rules.specs.Outcome.Outcome.{refused, short, done}
use Rattle.rules.specs.Commands.{with_groups}
use Rattle.rules.specs.Calls.{Call, state_after}
use Rattle.rules.specs.Book.{Book, records_of, enter_done, enter, told}
use Rattle.rules.specs.Demand.{is_done}
use Rattle.rules.proofs.Demand.Invariant.{Invariant}

-- the invariant holds after a call that came to this outcome
abbrev pub Keeps : State → Book → Call → Outcome → Type 0
Keeps s b x (refused n) = Invariant s b
Keeps s b x (short n) = Invariant s b
Keeps s b x (done v t) = Invariant t (enter_done b x (records_of v))

-- that is the state and the book after the call
pub keeps_after : (s : State) (b : Book) (x : Call) (o : Outcome) → Keeps s b x o → Invariant (state_after s o) (enter b x (told o))
unfolding state_after enter told
keeps_after s b x (refused n) h = h
keeps_after s b x (short n) h = h
keeps_after s b x (done v t) h = h

module _ (s : State) (b : Book) (h : Invariant s b) (x : Call) where
  -- a refusal changes nothing; what follows it has passed its test
  pub keeps_guard : (t : Bool) (n : ℕ) (o : Outcome) → (t ≡ false → Keeps s b x o) → Keeps s b x (guard t n o)
  unfolding guard
  keeps_guard true n o f = h
  keeps_guard false n o f = f refl

  -- neither does an outcome that is not done
  pub keeps_undone : (o : Outcome) → is_done o ≡ false → Keeps s b x o
  unfolding is_done
  keeps_undone (refused n) e = h
  keeps_undone (short n) e = h
  keeps_undone (done v t) e = absurd (true≢false e)

  -- one of two, by a test
  pub keeps_cond : (t : Bool) (o r : Outcome) → (t ≡ true → Keeps s b x o) → (t ≡ false → Keeps s b x r) → Keeps s b x (cond t o r)
  keeps_cond true o r f g = f refl
  keeps_cond false o r f g = g refl

  -- refusal 4, or the live consumer
  pub keeps_live : (i : ℕ) (f : Consumer → Outcome) → ((c : Consumer) → consumer_of s i ≡ some c → Keeps s b x (f c)) → Keeps s b x (with_live s i f)
  unfolding with_live found_or_4
  keeps_live i f g = go (consumer_of s i) g
    where
      go : (o : Option Consumer) → ((c : Consumer) → o ≡ some c → Keeps s b x (f c)) → Keeps s b x (found_or_4 f o)
      go none k = h
      go (some c) k = k c refl

  -- refusal 10, or the groups of the list
  pub keeps_groups : (list : List ℕ) (f : List Group → Outcome) → ((gs : List Group) → groups list ≡ some gs → Keeps s b x (f gs))
      → Keeps s b x (with_groups (groups list) f)
  unfolding with_groups
  keeps_groups list f g = go (groups list) g
    where
      go : (o : Option (List Group)) → ((gs : List Group) → o ≡ some gs → Keeps s b x (f gs)) → Keeps s b x (with_groups o f)
      go none k = h
      go (some gs) k = k gs refl

  -- a plain consumer or a shared one
  pub keeps_kind : (k : Kind) (o r : Outcome) → (k ≡ plain → Keeps s b x o) → (k ≡ shared → Keeps s b x r) → Keeps s b x (by_kind k o r)
  unfolding by_kind
  keeps_kind plain o r f g = f refl
  keeps_kind shared o r f g = g refl
