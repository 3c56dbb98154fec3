-- Playing step by step, as a program does that is given its input in blocks of any length: what it holds of the input, and
-- what it has printed.
use Rattle.std.specs.Prelude.{ℕ, zero, suc, Bool, true, false, cond, ◌||◌, List, [], ◌∷◌, ◌++◌, drop}
use Rattle.std.proofs.Math.Option.{Option, none, some}
use Rattle.rules.specs.State.{State}
use Rattle.rules.specs.Calls.{Call, rule, state_after}
use Rattle.trace.specs.Format.{Reach, header_reach, record_reach, record_in}
use Rattle.trace.specs.Format.Reach.{ends, cut_off, wrong}
use Rattle.trace.specs.Text.{outcome_text, bad_line}
use Rattle.trace.specs.Played.{at_first, record_call}

-- a player: the bytes that it was given and has not played, the number of the record that stands at their front (0 for the
-- header), the state after the records before it, the text printed, and whether it has stopped
pub record Player : Type 0 where
  pub held : List ℕ
  pub number : ℕ
  pub state : State
  pub printed : List ℕ
  pub stopped : Bool

-- at first
unfoldable pub new_player : Player
new_player = record { held = []; number = 0; state = at_first; printed = []; stopped = false }

-- given a block of bytes
unfoldable pub given : Player → List ℕ → Player
given p block =
    record { held = p.held ++ block; number = p.number; state = p.state; printed = p.printed; stopped = p.stopped }

-- stopped with a bad line
unfoldable pub at_bad : Player → Player
at_bad p =
    record {
      held = p.held;
      number = p.number;
      state = p.state;
      printed = p.printed ++ bad_line p.number;
      stopped = true;
    }

-- how far the header or the record reaches that stands at the front
unfoldable pub reach : ℕ → List ℕ → Reach
reach zero bytes = header_reach bytes
reach (suc k) bytes = record_reach bytes

-- past the header
unfoldable pub past_header : Player → ℕ → Player
past_header p size =
    record { held = drop size p.held; number = 1; state = p.state; printed = p.printed; stopped = false }

-- past a record: a call that is made, or none
unfoldable pub past_record : Player → ℕ → Option Call → Player
past_record p size none = at_bad p
past_record p size (some x) =
    record {
      held = drop size p.held;
      number = suc p.number;
      state = state_after p.state (rule p.state x);
      printed = p.printed ++ outcome_text p.number x (rule p.state x);
      stopped = false;
    }

-- past what stands at the front
unfoldable pub past : Player → ℕ → ℕ → Player
past p zero size = past_header p size
past p (suc k) size = past_record p size (record_call (record_in p.held))

-- by how far that reaches: where it is cut off, a player waits
unfoldable pub step_by : Player → Reach → Player
step_by p (ends size) = past p p.number size
step_by p cut_off = p
step_by p wrong = at_bad p

-- a step; a player that has stopped makes none
unfoldable pub step : Player → Player
step p = cond p.stopped p (step_by p (reach p.number p.held))

-- what is printed at the end of the input: without a header it is bad, and so is a record that is begun
unfoldable pub end_text : ℕ → List ℕ → List ℕ
end_text zero held = bad_line 0
end_text (suc k) [] = []
end_text (suc k) (b ∷ held) = bad_line (suc k)

-- at the end of the input
unfoldable pub at_end : Player → Player
at_end p =
    cond p.stopped p
    (record {
      held = p.held;
      number = p.number;
      state = p.state;
      printed = p.printed ++ end_text p.number p.held;
      stopped = true;
    })

-- ---- a step alone

-- a player at work that has printed nothing yet
unfoldable pub player_at : State → ℕ → List ℕ → Player
player_at s number held = record { held = held; number = number; state = s; printed = []; stopped = false }

-- a player that printed some text before
unfoldable pub after_text : List ℕ → Player → Player
after_text text p =
    record {
      held = p.held;
      number = p.number;
      state = p.state;
      printed = text ++ p.printed;
      stopped = p.stopped;
    }

-- ---- a run

-- what happens to a player: it is given a block, or makes a step
pub data Move : Type 0 where
  block : List ℕ → Move
  stepping : Move

-- after one of these
unfoldable pub moved : Player → Move → Player
moved p (block bytes) = given p bytes
moved p stepping = step p

-- after some of them
unfoldable pub after_moves : Player → List Move → Player
after_moves p [] = p
after_moves p (m ∷ moves) = after_moves (moved p m) moves

-- the input that they give, all blocks in a row
unfoldable pub input_of : List Move → List ℕ
input_of [] = []
input_of (block bytes ∷ moves) = bytes ++ input_of moves
input_of (stepping ∷ moves) = input_of moves

-- whether something is cut off
unfoldable pub is_cut_off : Reach → Bool
is_cut_off (ends size) = false
is_cut_off cut_off = true
is_cut_off wrong = false

-- whether a player has no step to make: it has stopped, or what it holds is cut off
unfoldable pub waits : Player → Bool
waits p = p.stopped || is_cut_off (reach p.number p.held)
