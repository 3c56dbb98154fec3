-- A step of the program's as a step of a player: the words of the store are its state, the bytes held are its own, and what it
-- prints is laid at the start of a lent buffer.
use Rattle.std.specs.Prelude.{ℕ, zero, suc, ◌≤◌, ◌≡◌, true, cond, List, length}
use Rattle.std.proofs.Math.Option.{Option, none}
use Rattle.words.specs.Act.{lay}
use Rattle.words.specs.Wrote.{Wrote}
use Rattle.rules.specs.State.{State}
use Rattle.rules.specs.Calls.{Call}
use Rattle.layout.specs.Layout.{decode, spells}
use Rattle.trace.specs.Format.{Reach, record_in}
use Rattle.trace.specs.Format.Reach.{ends, cut_off, wrong}
use Rattle.trace.specs.Text.{bad_line}
use Rattle.trace.specs.Played.{record_call}
use Rattle.trace.specs.Steps.{Player, reach, step, player_at}
use Rattle.trace_call.specs.Made.{words_made}
use Rattle.trace_lines.specs.Told.{lines_bytes}
use Rattle.trace_step.specs.declared.Did as declared
use Rattle.trace_step.specs.declared.Did.TheVariants as variants

-- the player after the step of one whose state words spell
abbrev pub player_after : List ℕ → ℕ → List ℕ → Player
player_after ws number held = step (player_at (decode ws) number held)

-- the answer of a step, by how far what was held reaches and by the player after it: nothing, or how much it printed and
-- whether that was the last
unfoldable pub step_answer : Reach → Player → declared.Did
step_answer (ends size) p = cond p.stopped (variants.Bad (length p.printed)) (variants.Went size (length p.printed))
step_answer cut_off p = variants.Waits
step_answer wrong p = variants.Bad (length p.printed)

-- the call of its step: that of a record that is whole
unfoldable pub step_call : ℕ → List ℕ → Reach → Option Call
step_call zero held r = none
step_call (suc k) held (ends size) = record_call (record_in held)
step_call (suc k) held cut_off = none
step_call (suc k) held wrong = none

-- that it takes no more than is held, and writes no more than the lines of a record may take
unfoldable pub Within : ℕ → declared.Did → Type 0
Within held variants.Waits = Unit {0}
Within held (variants.Bad written) = written ≤ lines_bytes
Within held (variants.Went size written) = (size ≤ held) × (written ≤ lines_bytes)

-- the bad line of a number was written at the start of a buffer, and the answer tells its length
pub record WroteBad (number : ℕ) (out : List ℕ) (r : declared.Did) (out' : List ℕ) : Type 0 where
  pub written : ℕ
  pub is : r ≡ variants.Bad written
  pub wrote : Wrote 25 out 0 (bad_line number) out' written

-- what a step answers and leaves in the store and in the buffer
pub record Stepped (ws : List ℕ) (number : ℕ) (held out : List ℕ) (r : declared.Did) (ws' out' : List ℕ) : Type 0 where
  pub answer : r ≡ step_answer (reach number held) (player_after ws number held)
  pub within : Within (length held) r
  pub text : out' ≡ (lay (player_after ws number held).printed).run 0 out
  pub words : ws' ≡ words_made ws (step_call number held (reach number held))
  -- so the store spells the player's state
  pub spelt : spells ws' ≡ true
  pub state : decode ws' ≡ (player_after ws number held).state

-- a step at the header, which takes no store: what a player with any state does there
pub record HeaderStepped (held out : List ℕ) (r : declared.Did) (out' : List ℕ) : Type 0 where
  pub answer : (s : State) → r ≡ step_answer (reach 0 held) (step (player_at s 0 held))
  pub within : Within (length held) r
  pub text : (s : State) → out' ≡ (lay (step (player_at s 0 held)).printed).run 0 out
