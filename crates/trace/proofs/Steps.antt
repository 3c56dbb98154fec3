-- Steps one after the other give what the whole input gives: at every move what is printed, and what the bytes that are held
-- and those still to come will print, is the text of the whole; and so is the state.
use Prim.Native.Nat.{ℕ, zero, suc}
use mathlib.Core.Path.{◌≡◌, refl, sym, ap, ◌∙◌}
use mathlib.Core.Bool.{Bool, true, false, cond, true≢false}
use mathlib.Core.List.{List, [], ◌∷◌, ◌++◌, append-nil, append_assoc}
use mathlib.Core.Option.{Option, none, some}
use lib.ListN.{drop}
use Rattle.words.specs.Words.{starts}
use Rattle.rules.specs.State.{State}
use Rattle.rules.specs.Calls.{Call, rule, state_after, run}
use Rattle.trace.specs.Format.{header, HEADER_BYTES, Reach, header_reach, record_reach, record_in}
use Rattle.trace.specs.Format.Reach.{ends, cut_off, wrong}
use Rattle.trace.specs.Text.{outcome_text, bad_line}
use Rattle.trace.specs.Played.{at_first, record_call, calls_in, played_from, played, before_bad, calls_played}
use Rattle.trace.specs.Steps.{Player, new_player, given, at_bad, reach, past_header, past_record, past, step_by, step, end_text, at_end}
use Rattle.trace.specs.Steps.{player_at, after_text}
use Rattle.trace.specs.Steps.{Move, moved, after_moves, input_of, is_cut_off, waits}
use Rattle.trace.specs.Steps.Move.{block, stepping}
use Rattle.trace.specs.Promises.{StepsGivePlayed, Alone, StepsAlone}
use Rattle.trace.proofs.Format.{ends_before, record_before, rest_before, wrong_before}
use Rattle.trace.proofs.Format.{records_wrong, records_cut, header_right, header_wrong, header_cut, calls_first, calls_bad, calls_none}

-- ---- text and state together

-- what playing comes to: the text, and the state after
record Play : Type 0 where
  text : List ℕ
  state : State

-- of nothing
abbrev nothing_played : State → Play
nothing_played s = record { text = []; state = s }

-- of a bad record
abbrev bad_played : ℕ → State → Play
bad_played number s = record { text = bad_line number; state = s }

-- with a text before it
abbrev play_after : List ℕ → Play → Play
play_after t p = record { text = t ++ p.text; state = p.state }

-- of calls
unfoldable plays : ℕ → State → List (Option Call) → Play
plays number s [] = nothing_played s
plays number s (none ∷ calls) = bad_played number s
plays number s (some x ∷ calls) =
    play_after (outcome_text number x (rule s x)) (plays (suc number) (state_after s (rule s x)) calls)

-- it is the text of the calls, and the state after those before the first bad one
plays_calls : (number : ℕ) (s : State) (calls : List (Option Call))
    → plays number s calls ≡ record { text = played_from number s calls; state = run s (before_bad calls) }
unfolding plays played_from before_bad run
plays_calls number s [] = refl
plays_calls number s (none ∷ calls) = refl
plays_calls number s (some x ∷ calls) =
    ap (play_after (outcome_text number x (rule s x))) (plays_calls (suc number) (state_after s (rule s x)) calls)

-- ---- what is to come of a player

-- of the bytes at whose front a header or a record stands
unfoldable ahead_by : ℕ → State → List ℕ → Play
ahead_by zero s bytes = cond (starts header bytes) (plays 1 s (calls_in (drop HEADER_BYTES bytes))) (bad_played 0 s)
ahead_by (suc k) s bytes = plays (suc k) s (calls_in bytes)

-- all that a player prints, if more bytes come
unfoldable total : Player → List ℕ → Play
total p more =
    play_after p.printed
    (cond p.stopped (nothing_played p.state) (ahead_by p.number p.state (p.held ++ more)))

-- texts one after the other
after_after : (t u : List ℕ) (p : Play) → play_after (t ++ u) p ≡ play_after t (play_after u p)
after_after t u p = ap (λ (l : List ℕ). record { text = l; state = p.state }) (append_assoc t u p.text)

-- a bad line, and then nothing
bad_and_nothing : (t : List ℕ) (number : ℕ) (s : State) → play_after (t ++ bad_line number) (nothing_played s) ≡ play_after t (bad_played number s)
bad_and_nothing t number s = ap (λ (l : List ℕ). record { text = l; state = s }) (append-nil (t ++ bad_line number))

-- ---- a block changes nothing of it

-- bytes that are given are no longer to come
given_total : (p : Player) (bytes more : List ℕ) → total (given p bytes) more ≡ total p (bytes ++ more)
unfolding total given
given_total p bytes more =
    ap (λ (l : List ℕ). play_after p.printed (cond p.stopped (nothing_played p.state) (ahead_by p.number p.state l)))
    (append_assoc p.held bytes more)

-- ---- a step changes nothing of it

-- a player with these parts, which has not stopped
abbrev at_work : List ℕ → ℕ → State → List ℕ → Player
at_work held number s printed = record { held = held; number = number; state = s; printed = printed; stopped = false }

module _ (held : List ℕ) (s : State) (printed more : List ℕ) where
  -- past the header
  header_total : (size : ℕ) → header_reach held ≡ ends size
      → total (at_work (drop size held) 1 s printed) more ≡ total (at_work held 0 s printed) more
  unfolding total ahead_by
  header_total size e = let h = header_right held more size e in rw (h.0, h.1)

  -- a wrong header
  header_bad_total : header_reach held ≡ wrong → total (at_bad (at_work held 0 s printed)) more ≡ total (at_work held 0 s printed) more
  unfolding total ahead_by at_bad
  header_bad_total e = rw (header_wrong held more e) (bad_and_nothing printed 0 s)

  -- a record that is a call, or none
  record_total : (k size : ℕ) (o : Option Call) → record_reach held ≡ ends size → record_call (record_in held) ≡ o
      → total (past_record (at_work held (suc k) s printed) size o) more ≡ total (at_work held (suc k) s printed) more
  unfolding total ahead_by past_record at_bad plays
  record_total k size none e f =
      rw (calls_first (held ++ more) size (ends_before held more size e), record_before held more size e, f) (bad_and_nothing printed (suc k) s)
  record_total k size (some x) e f =
      rw (
        calls_first (held ++ more) size (ends_before held more size e),
        record_before held more size e,
        f,
        rest_before held more size e,
      )
      (after_after printed (outcome_text (suc k) x (rule s x)) (plays (suc (suc k)) (state_after s (rule s x)) (calls_in (drop size held ++ more))))

  -- a wrong record
  record_bad_total : (k : ℕ) → record_reach held ≡ wrong
      → total (at_bad (at_work held (suc k) s printed)) more ≡ total (at_work held (suc k) s printed) more
  unfolding total ahead_by at_bad plays
  record_bad_total k e =
      rw (calls_bad (held ++ more) (records_wrong (held ++ more) (wrong_before held more e))) (bad_and_nothing printed (suc k) s)

  -- any step of a player that has not stopped, by how far what it holds reaches
  by_reach : (number : ℕ) (r : Reach) → reach number held ≡ r
      → total (step_by (at_work held number s printed) r) more ≡ total (at_work held number s printed) more
  unfolding reach step_by past past_header
  by_reach number cut_off e = refl
  by_reach zero (ends size) e = header_total size e
  by_reach zero wrong e = header_bad_total e
  by_reach (suc k) (ends size) e = record_total k size (record_call (record_in held)) e refl
  by_reach (suc k) wrong e = record_bad_total k e

-- a step, of a player with these parts
parts_total : (held : List ℕ) (number : ℕ) (s : State) (printed : List ℕ) (stopped : Bool) (more : List ℕ)
    → let p : Player = record { held = held; number = number; state = s; printed = printed; stopped = stopped } in total (step p) more ≡ total p more
unfolding step
parts_total held number s printed true more = refl
parts_total held number s printed false more = by_reach held s printed more number (reach number held) refl

-- moves in a row
moves_total : (p : Player) (moves : List Move) (more : List ℕ) → total (after_moves p moves) more ≡ total p (input_of moves ++ more)
unfolding after_moves moved input_of
moves_total p [] more = refl
moves_total p (block bytes ∷ moves) more =
    moves_total (given p bytes) moves more ∙ given_total p bytes (input_of moves ++ more)
    ∙ ap (total p) (sym (append_assoc bytes (input_of moves) more))
moves_total p (stepping ∷ moves) more =
    moves_total (step p) moves more ∙ parts_total p.held p.number p.state p.printed p.stopped (input_of moves ++ more)

-- ---- at the end of the input

-- the parts of a play
abbrev now_played : Player → Play
now_played p = record { text = p.printed; state = p.state }

-- with nothing after it
with_nothing : (t : List ℕ) (s : State) → record { text = t; state = s } ≡ play_after t (nothing_played s)
with_nothing t s = ap (λ (l : List ℕ). record { text = l; state = s }) (sym (append-nil t))

-- nothing, the header or a record is cut off
end_total : (s : State) (printed : List ℕ) (number : ℕ) (held : List ℕ) → reach number held ≡ cut_off
    → record { text = printed ++ end_text number held; state = s } ≡ play_after printed (ahead_by number s held)
unfolding end_text ahead_by reach plays
end_total s printed zero held e = rw (header_cut held e)
end_total s printed (suc k) [] e = rw calls_none
end_total s printed (suc k) (b ∷ held) e = rw (calls_bad (b ∷ held) (records_cut b held e))

-- something that is cut off is
cut_so : (r : Reach) → is_cut_off r ≡ true → r ≡ cut_off
unfolding is_cut_off
cut_so (ends size) e = absurd (true≢false (sym e))
cut_so cut_off e = refl
cut_so wrong e = absurd (true≢false (sym e))

-- a player that waits, with these parts
waits_total : (held : List ℕ) (number : ℕ) (s : State) (printed : List ℕ) (stopped : Bool)
    → let p : Player = record { held = held; number = number; state = s; printed = printed; stopped = stopped } in
    waits p ≡ true → now_played (at_end p) ≡ total p []
unfolding waits at_end total
waits_total held number s printed true e = with_nothing printed s
waits_total held number s printed false e =
    end_total s printed number held (cut_so (reach number held) e)
    ∙ ap (λ (l : List ℕ). play_after printed (ahead_by number s l)) (sym (append-nil held))

-- what a new player prints of an input is what the input gives
new_total : (input : List ℕ) → total new_player input ≡ record { text = played input; state = run at_first (calls_played input) }
unfolding total new_player ahead_by played calls_played run
new_total input = go (starts header input)
  where
    go : (t : Bool) → cond t (plays 1 at_first (calls_in (drop HEADER_BYTES input))) (bad_played 0 at_first)
        ≡ record {
          text = cond t (played_from 1 at_first (calls_in (drop HEADER_BYTES input))) (bad_line 0);
          state = run at_first (cond t (before_bad (calls_in (drop HEADER_BYTES input))) []);
        }
    go true = plays_calls 1 at_first (calls_in (drop HEADER_BYTES input))
    go false = refl

-- steps give the text and the state of the whole input
pub steps_give_played : StepsGivePlayed
unfolding StepsGivePlayed
steps_give_played moves h =
    let p : Player = after_moves new_player moves in
    let e : now_played (at_end p) ≡ record { text = played (input_of moves); state = run at_first (calls_played (input_of moves)) } =
    waits_total p.held p.number p.state p.printed p.stopped h ∙ moves_total new_player moves []
    ∙ ap (total new_player) (append-nil (input_of moves)) ∙ new_total (input_of moves) in
    record { text = ap (λ (x : Play). x.text) e; calls = ap (λ (x : Play). x.state) e }

-- ---- a step alone

module _ (held : List ℕ) (s : State) (text : List ℕ) where
  -- nothing is printed
  nothing_behind : (number : ℕ) → at_work held number s text ≡ after_text text (at_work held number s [])
  unfolding after_text
  nothing_behind number = ap (λ (l : List ℕ). at_work held number s l) (sym (append-nil text))

  -- a step, by how far what is held reaches
  alone_by : (number : ℕ) (r : Reach) → step_by (at_work held number s text) r ≡ after_text text (step_by (at_work held number s []) r)
  unfolding after_text step_by past past_header past_record at_bad
  alone_by number cut_off = nothing_behind number
  alone_by number wrong = refl
  alone_by zero (ends size) = ap (λ (l : List ℕ). at_work (drop size held) 1 s l) (sym (append-nil text))
  alone_by (suc k) (ends size) = by_call (record_call (record_in held))
    where
      by_call : (o : Option Call) → past_record (at_work held (suc k) s text) size o ≡ after_text text (past_record (at_work held (suc k) s []) size o)
      by_call none = refl
      by_call (some x) = refl

-- of a player with these parts
parts_alone : (held : List ℕ) (number : ℕ) (s : State) (text : List ℕ) (stopped : Bool) → stopped ≡ false
    → Alone (record { held = held; number = number; state = s; printed = text; stopped = stopped })
unfolding step at_end player_at after_text
parts_alone held number s text true e = absurd (true≢false e)
parts_alone held number s text false e =
    record { steps = alone_by held s text number (reach number held); ends = refl }

-- of every player that has not stopped
pub steps_alone : StepsAlone
unfolding StepsAlone
steps_alone p e = parts_alone p.held p.number p.state p.printed p.stopped e
