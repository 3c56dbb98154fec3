-- What is promised of traces, for every input and every list of calls. The proofs are in `proofs/`: of what is read back in
-- ReadBack.antt, of steps in Steps.antt, of demand 3 in Demand.antt.
use Rattle.std.specs.Prelude.{ℕ, ◌≡◌, true, false, List}
use Rattle.rules.specs.Table.{all}
use Rattle.rules.specs.Calls.{Call, run}
use Rattle.rules.specs.Demand.{Reached, at_opening, after_calls, never_replaces, Accounted}
use Rattle.trace.specs.Calls.{trace_bytes, recordable}
use Rattle.trace.specs.Played.{ROOM, at_first, played, calls_played}
use Rattle.trace.specs.Steps.{Player, new_player, step, at_end, player_at, after_text, Move, after_moves, input_of, waits}

-- what a recorder writes of calls is read back as these calls, all of them and no more
unfoldable pub TracesReadBack : Type 0
TracesReadBack = (calls : List Call) → all (recordable ROOM) calls ≡ true → calls_played (trace_bytes calls) ≡ calls

-- a player at the end of an input: it has printed what the whole input gives, and its state is that of the calls in a row
pub record HasPlayed (input : List ℕ) (p : Player) : Type 0 where
  pub text : p.printed ≡ played input
  pub calls : p.state ≡ run at_first (calls_played input)

-- steps one after the other give that, whatever the blocks of the input and whenever a step is made, once none is left to make
unfoldable pub StepsGivePlayed : Type 0
StepsGivePlayed =
    (moves : List Move) → waits (after_moves new_player moves) ≡ true
    → HasPlayed (input_of moves) (at_end (after_moves new_player moves))

-- what a step does, and the end of the input, does not hang on what was printed before: it is that of a player that has
-- printed nothing, with its text behind
pub record Alone (p : Player) : Type 0 where
  pub steps : step p ≡ after_text p.printed (step (player_at p.state p.number p.held))
  pub ends : at_end p ≡ after_text p.printed (at_end (player_at p.state p.number p.held))

-- so of every player that has not stopped
unfoldable pub StepsAlone : Type 0
StepsAlone = (p : Player) → p.stopped ≡ false → Alone p

-- the state after the calls of a trace, and the book of these calls
unfoldable pub traced : List ℕ → Reached
traced input =
    record {
      state = run at_first (calls_played input);
      book = (after_calls (at_opening 32 false false) (calls_played input)).book;
    }

-- demand 3 of every trace in which no live id is subscribed again: every permit and every message is accounted for in the
-- state after it
unfoldable pub Demand3Traces : Type 0
Demand3Traces =
    (input : List ℕ) → never_replaces (at_opening 32 false false) (calls_played input) ≡ true → Accounted (traced input)
