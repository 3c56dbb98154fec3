-- The turns of a dispatcher's service are the turns on the numbers, applied.
use mathlib.Core.Path.{◌≡◌, refl, sym, ap, ◌∙◌}
use mathlib.Core.Bool.{not, ◌||◌}
use mathlib.Core.List.{List, [], ◌∷◌, ◌++◌, map, append_assoc, append-nil}
use mathlib.Core.Option.{Option, none, some}
use Prim.Native.Nat.{ℕ, zero, suc}
use lib.Dec.{ltb}
use lib.ListN.{length, length-set}
use Rattle.rules.specs.Permits.{above_zero}
use Rattle.rules.specs.Table.{is_empty}
use Rattle.rules.specs.State.{Held, Dispatcher, State}
use Rattle.rules.specs.Valid.{Ascending}
use Rattle.rules.specs.Outcome.{Dispatch}
use Rattle.rules.specs.Push.{Turn, Pushed, after_turn, turns, shared_turn}
use Rattle.rules.proofs.Table.{by_test}
use Rattle.push_laws.specs.Local.{Fixed, Local, Place, LocalTurn, Steps, choose_place, hand_over, take_entry, serve_place, local_turn, then_turns}
use Rattle.push_laws.specs.Local.{local_turns, fixed_of}
use Rattle.push_laws.specs.Local.LocalTurn.{stop, move}
use Rattle.push_laws.specs.Applied.{record_of, held_of, applied}
use Rattle.push_laws.proofs.Turn.{lifted, turn_same}

-- ---- a turn keeps the number of permits

-- the permits after a turn
abbrev permits_of : LocalTurn → List ℕ
permits_of (stop l) = l.permits
permits_of (move x l) = l.permits

taken_sized : (f : Fixed) (l : Local) (next c : ℕ) → length (permits_of (take_entry f l next c)) ≡ length l.permits
unfolding take_entry hand_over
taken_sized f l next c =
    by_test (ltb l.taken (length f.queue)) (λ t. rw t (length-set l.permits c _))
    (λ t. by_test (ltb l.cursor (length f.ledger)) (λ u. rw (t, u) (length-set l.permits c _)) (λ u. rw (t, u)))

served_sized : (f : Fixed) (l : Local) (o : Option Place) → length (permits_of (serve_place f l o)) ≡ length l.permits
unfolding serve_place
served_sized f l none = refl
served_sized f l (some r) = taken_sized f l _ r.consumer

turn_sized : (f : Fixed) (l : Local) → length (permits_of (local_turn f l)) ≡ length l.permits
unfolding local_turn
turn_sized f l =
    by_test (is_empty f.ring || not (above_zero l.total)) (λ t. rw t) (λ t. rw t (served_sized f l (choose_place f l)))

-- the number of permits after some turns
pub turns_sized : (n : ℕ) (f : Fixed) (l : Local) → length (local_turns n f l).after.permits ≡ length l.permits
unfolding local_turns then_turns
turns_sized zero f l = refl
turns_sized (suc n) f l = go (local_turn f l) (turn_sized f l) (λ (m : Local). turns_sized n f m)
  where
    go : (t : LocalTurn) → length (permits_of t) ≡ length l.permits → ((m : Local) → length (local_turns n f m).after.permits ≡ length m.permits)
        → length (then_turns t (λ (m : Local). local_turns n f m)).after.permits ≡ length l.permits
    go (stop m) e more = e
    go (move x m) e more = more m ∙ e

module _ (s : State) (d : Dispatcher) (a : Ascending s.consumers) where
  -- steps applied: their records, and the state
  abbrev applied_steps : List Held → Steps → Pushed
  applied_steps added r =
      record {
        dispatched = map (record_of s (fixed_of s d)) r.made;
        state = applied s d r.after (added ++ map (held_of s) r.made);
      }

  pub turns_same : (n : ℕ) (l : Local) (added : List Held) → length l.permits ≡ length s.consumers
      → turns n (shared_turn d.pair) (applied s d l added) ≡ applied_steps added (local_turns n (fixed_of s d) l)
  unfolding turns local_turns after_turn lifted then_turns
  turns_same zero l added e = ap (λ (m : List Held). record { dispatched = []; state = applied s d l m }) (sym (append-nil added))
  turns_same (suc n) l added e =
      ap (λ (t : Turn). after_turn t (λ (x : State). turns n (shared_turn d.pair) x)) (turn_same s d l added e a)
      ∙ go (local_turn (fixed_of s d) l) (turn_sized (fixed_of s d) l) (λ (m : Local) (more : List Held). turns_same n m more)
    where
      go : (t : LocalTurn) → length (permits_of t) ≡ length l.permits
          → ((m : Local) (more : List Held) → length m.permits ≡ length s.consumers
          → turns n (shared_turn d.pair) (applied s d m more) ≡ applied_steps more (local_turns n (fixed_of s d) m))
          → after_turn (lifted s d added t) (λ (x : State). turns n (shared_turn d.pair) x)
          ≡ applied_steps added (then_turns t (λ (m : Local). local_turns n (fixed_of s d) m))
      go (stop m) q ih = ap (λ (k : List Held). record { dispatched = []; state = applied s d m k }) (sym (append-nil added))
      go (move x m) q ih =
          let rest : Steps = local_turns n (fixed_of s d) m in
          let first : Dispatch = record_of s (fixed_of s d) x in
          ap (λ (r : Pushed). record { dispatched = first ∷ r.dispatched; state = r.state }) (ih m (added ++ held_of s x ∷ []) (q ∙ e))
          ∙ ap
          (λ (k : List Held). record { dispatched = first ∷ map (record_of s (fixed_of s d)) rest.made; state = applied s d rest.after k })
          (append_assoc added (held_of s x ∷ []) (map (held_of s) rest.made))
