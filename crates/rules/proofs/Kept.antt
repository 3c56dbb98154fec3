-- Every call of the rules keeps a state valid: "the words spell a state" survives each of the eight operations, done or
-- refused. Each has its own theorem, and `kept` is all of them; the check that computes follows by proofs/Valid.antt.
use Prim.Native.Nat.{ℕ, ◌≤◌}
use mathlib.Core.Path.{◌≡◌, refl}
use mathlib.Core.Bool.{Bool, true}
use mathlib.Core.List.Memᴰ
use mathlib.Core.List.{List, [], ◌∷◌}
use native.Mathlib.Omega.{arith}
use Rattle.rules.specs.Table.{all, Distinct}
use Rattle.rules.specs.State.{StoredMessage, Pair, Kind, State}
use Rattle.rules.specs.Outcome.{Value}
use Rattle.rules.specs.Outcome.Outcome.{refused, short, done}
use Rattle.rules.specs.Commands.{append, subscribe, flow, ack, Target, seek, redeliver, close}
use Rattle.rules.specs.Push.{push}
use Rattle.rules.specs.Calls.{opened, Call, rule, state_after, run, fits}
use Rattle.rules.specs.Valid.{Ascending, Sound, valid, Valid}
use Rattle.rules.proofs.Valid.{says_valid}
use Rattle.rules.proofs.Table.{all_parts}
use Rattle.rules.proofs.Kept.Outcomes.{Keeps, keeps_after, keeps_done}
use Rattle.rules.proofs.Kept.Consumers.{flow_keeps, seek_keeps, subscribe_keeps}
use Rattle.rules.proofs.Kept.Ack.{ack_keeps}
use Rattle.rules.proofs.Kept.Redeliver.{redeliver_keeps}
use Rattle.rules.proofs.Kept.Close.{close_keeps}
use Rattle.rules.proofs.Kept.Append.{append_keeps}
use Rattle.rules.proofs.Kept.Push.{push_keeps}
pub use Rattle.rules.proofs.Kept.Records.{Ranged}
pub use Rattle.rules.proofs.Kept.Push.{records_ranged}
use Rattle.rules.proofs.Kept.Range.{valid_of, opened_in_range, call_valid}
pub use Rattle.rules.proofs.Kept.Settings.{settings_kept, entries_kept}
pub use Rattle.rules.proofs.Kept.Range.{shared_turn_valid, plain_turn_valid}
pub mod Every
pub mod Counts
pub mod Frame
pub mod Parts
pub mod Outcomes
pub mod Consumers
pub mod Marks
pub mod Groups
pub mod Ack
pub mod Redeliver
pub mod Close
pub mod Append
pub mod Turns
pub mod Closed
pub mod Records
pub mod Choice
pub mod Shared
pub mod Plain
pub mod Push
pub mod Range
pub mod Settings

-- a state just opened has sound tables
opened_sound : (e : ℕ) (leak noop : Bool) → Sound (opened e leak noop)
unfolding opened Distinct Ascending
opened_sound e leak noop =
    record {
      topic_count = omega arith;
      topics_distinct = tt;
      each_topic = λ a m. absurd (Memᴰ.not-nil m);
      consumer_count = omega arith;
      consumers_ascending = tt;
      each_consumer = λ a m. absurd (Memᴰ.not-nil m);
      dispatcher_count = omega arith;
      pairs_distinct = tt;
      each_dispatcher = λ a m. absurd (Memᴰ.not-nil m);
    }

-- and is valid
pub opened_valid : (e : ℕ) (leak noop : Bool) → 1 ≤ e → e ≤ 4096 → Valid (opened e leak noop)
opened_valid e leak noop h k = valid_of (opened_in_range e leak noop h k) (opened_sound e leak noop)

-- ---- every call

-- a refused call yields the state that it was given
pub refused_unchanged : (s : State) (n : ℕ) → state_after s (refused n) ≡ s
unfolding state_after
refused_unchanged s n = refl

-- and so does a push whose list is too short
pub short_unchanged : (s : State) (n : ℕ) → state_after s (short n) ≡ s
unfolding state_after
short_unchanged s n = refl

-- any call's outcome keeps the tables sound
rule_sound : (s : State) (x : Call) → Sound s → fits x ≡ true → Keeps Sound s (rule s x)
unfolding rule
rule_sound s (Call.Append topic m) v f = append_keeps s topic m v f
rule_sound s (Call.Subscribe i kind p) v f = subscribe_keeps s i kind p v f
rule_sound s (Call.Flow i grant) v f = flow_keeps s i grant v
rule_sound s (Call.Ack i list) v f = ack_keeps s i list v f
rule_sound s (Call.Seek i target) v f = seek_keeps s i target v
rule_sound s (Call.Redeliver i list) v f = redeliver_keeps s i list v
rule_sound s (Call.Close i) v f = close_keeps s i v
rule_sound s (Call.Push room) v f = push_keeps s room v

-- so it keeps the state valid
pub rule_keeps : (s : State) (x : Call) → Valid s → fits x ≡ true → Keeps Valid s (rule s x)
rule_keeps s x v f = call_valid s x v (rule_sound s x v.tables f)

-- and the state after it is valid
pub kept : (s : State) (x : Call) → Valid s → fits x ≡ true → Valid (state_after s (rule s x))
kept s x v f = keeps_after Valid s (rule s x) (rule_keeps s x v f)

-- the same of the check that computes
pub valid_kept : (s : State) (x : Call) → valid s ≡ true → fits x ≡ true → valid (state_after s (rule s x)) ≡ true
valid_kept s x v f = (says_valid (state_after s (rule s x))).given (kept s x ((says_valid s).gives v) f)

-- and of any list of calls
pub run_kept : (s : State) (calls : List Call) → Valid s → all fits calls ≡ true → Valid (run s calls)
unfolding run
run_kept s [] v f = v
run_kept s (x ∷ calls) v f =
    let parts = all_parts fits x calls f in
    run_kept (state_after s (rule s x)) calls (kept s x v parts.0) parts.1

-- ---- each operation, where it is done

module _ (s : State) (v : Valid s) (x : Value) (t : State) where
  -- a call that is done
  done_kept : (y : Call) → fits y ≡ true → rule s y ≡ done x t → Valid t
  done_kept y f = keeps_done Valid s (rule s y) x t (rule_keeps s y v f)

  -- an append
  pub append_kept : (topic : ℕ) (m : StoredMessage) → fits (Call.Append topic m) ≡ true → append s topic m ≡ done x t → Valid t
  unfolding rule
  append_kept topic m f = done_kept (Call.Append topic m) f

  -- a subscribe
  pub subscribe_kept : (i : ℕ) (kind : Kind) (p : Pair) → fits (Call.Subscribe i kind p) ≡ true → subscribe s i kind p ≡ done x t → Valid t
  unfolding rule
  subscribe_kept i kind p f = done_kept (Call.Subscribe i kind p) f

  -- a flow
  pub flow_kept : (i grant : ℕ) → fits (Call.Flow i grant) ≡ true → flow s i grant ≡ done x t → Valid t
  unfolding rule
  flow_kept i grant f = done_kept (Call.Flow i grant) f

  -- an ack
  pub ack_kept : (i : ℕ) (list : List ℕ) → fits (Call.Ack i list) ≡ true → ack s i list ≡ done x t → Valid t
  unfolding rule
  ack_kept i list f = done_kept (Call.Ack i list) f

  -- a seek
  pub seek_kept : (i : ℕ) (target : Target) → fits (Call.Seek i target) ≡ true → seek s i target ≡ done x t → Valid t
  unfolding rule
  seek_kept i target f = done_kept (Call.Seek i target) f

  -- a redeliver
  pub redeliver_kept : (i : ℕ) (list : List ℕ) → fits (Call.Redeliver i list) ≡ true → redeliver s i list ≡ done x t → Valid t
  unfolding rule
  redeliver_kept i list f = done_kept (Call.Redeliver i list) f

  -- a close
  pub close_kept : (i : ℕ) → fits (Call.Close i) ≡ true → close s i ≡ done x t → Valid t
  unfolding rule
  close_kept i f = done_kept (Call.Close i) f

  -- a push
  pub push_kept : (room : ℕ) → fits (Call.Push room) ≡ true → push s room ≡ done x t → Valid t
  unfolding rule
  push_kept room f = done_kept (Call.Push room) f
