-- What the invariant says of each dispatcher is what demand 3 asks for.
use Prim.Native.Nat.{ℕ, ◌+◌, ◌≤◌, ◌<◌}
use mathlib.Core.Path.{◌≡◌, sym, ap, ◌∙◌, subst}
use mathlib.Core.Bool.{true, false}
use mathlib.Core.List.{List, map, Memᴰ}
use native.Mathlib.Omega.{arith}
use lib.ListN.{length, get_or}
use borrow.Author.Tests.{lt-ltb}
use Rattle.rules.specs.Table.{count, or_else}
use Rattle.rules.specs.State.{Id, StoredMessage, Acked, Held, Dispatcher, State, new_mark, by_pair, dispatcher_of, dispatcher, ledger_of}
use Rattle.rules.specs.Ledger.{position_of, holds_id, message_at}
use Rattle.rules.specs.Book.{Book}
use Rattle.rules.specs.Demand.{Reached, sum_over, grants_of, costs_of, held_by_any, id_at, NoLeak, Accounted}
use Rattle.rules.proofs.Permits.{reading_balance}
use Rattle.rules.proofs.Table.{once_found, keep_all}
use Rattle.rules.proofs.State.{decides_pairs}
use Rattle.rules.proofs.Demand.Invariant.{complete_in, held_in, FitsAt, Invariant}
use Rattle.rules.proofs.Demand.Marks.{acked_inside}

-- a dispatcher of the state is the one of its pair
pub own : (s : State) (b : Book) → Invariant s b → (d : Dispatcher) → Memᴰ d s.dispatchers → dispatcher s d.pair ≡ d
unfolding dispatcher dispatcher_of or_else
own s b h d m = rw (once_found by_pair decides_pairs d s.dispatchers h.pairs_once m)

module _ (s : State) (b : Book) (h : Invariant s b) (d : Dispatcher) (e : dispatcher s d.pair ≡ d) where
  -- the pair's ledger
  abbrev l : List StoredMessage
  l = ledger_of s d.pair.topic

  -- the book's list of its topic is the ledger
  same_list : b.topics d.pair.topic ≡ l
  same_list = h.lists d.pair.topic

  -- the dispatcher is as the book has it
  its_fit : FitsAt s b d.pair d
  its_fit = subst (λ (x : Dispatcher). FitsAt s b d.pair x) e (h.fits d.pair)

  -- a position of the book's list is its id's position
  its_position : (k : ℕ) → k < length l → position_of (id_at b d.pair k) l ≡ k
  unfolding id_at
  its_position k g = ap (λ (x : List StoredMessage). position_of (message_at x k).id l) same_list ∙ h.ids_once d.pair.topic k g

  -- and that id is acknowledged as its mark is
  its_ack : (k : ℕ) → k < length l → (b.acked d.pair (id_at b d.pair k)).complete ≡ complete_in d.marks k
  its_ack k g =
      let i = id_at b d.pair k in
      let o = its_position k g in
      ap (λ (x : Acked). x.complete)
      (its_fit.marks_agree.agree i ∙ acked_inside l d.marks d.outside i (omega arith) ∙ ap (λ (n : ℕ). (get_or d.marks n new_mark).acked) o)

  -- an id that was handed out is in the ledger
  its_place : (i : Id) → b.handed_out d.pair i ≡ true → position_of i l < length l
  its_place i x = omega (arith, its_fit.placed.handed_below i x, its_fit.placed.cursor_in_list)

  -- and where it is not complete, its position stands once
  its_once : (i : Id) → b.handed_out d.pair i ≡ true → (b.acked d.pair i).complete ≡ false
      → count (position_of i l) (held_by_any (b.attached d.pair) d.in_flight) + count (position_of i l) d.redelivery ≡ 1
  unfolding held_by_any
  its_once i x y =
      let k = position_of i l in
      let own_ack = its_fit.marks_agree.agree i ∙ acked_inside l d.marks d.outside i (its_place i x) in
      ap (λ (f : List Held). count k (map (λ (z : Held). z.position) f) + count k d.redelivery)
      (keep_all (held_in (b.attached d.pair)) d.in_flight its_fit.placed.holders)
      ∙ its_fit.placed.once k (its_fit.placed.handed_below i x) (sym (ap (λ (a : Acked). a.complete) own_ack) ∙ y)

  -- all that demand 3 says of it
  pub no_leak : NoLeak b d
  unfolding holds_id
  no_leak = record {
    ring = its_fit.ringed.ring_is;
    balance = its_fit.ringed.balanced;
    balance_reading = reading_balance d.total_available_permits (sum_over costs_of b.who (b.attached d.pair))
        (sum_over grants_of b.who (b.attached d.pair)) its_fit.ringed.balanced;
    in_list = λ i x y. lt-ltb _ _ (subst (λ (z : List StoredMessage). position_of i z < length z) (sym same_list) (its_place i x));
    once = λ i x y. subst
        (λ (z : List StoredMessage). count (position_of i z) (held_by_any (b.attached d.pair) d.in_flight) + count (position_of i z) d.redelivery ≡ 1)
        (sym same_list) (its_once i x y);
    mark_delete_in_list = subst (λ (x : List StoredMessage). d.mark_delete ≤ length x) (sym same_list) its_fit.marks_agree.in_list;
    below_mark_delete = λ k g. its_ack k (omega (arith, its_fit.marks_agree.in_list)) ∙ its_fit.marks_agree.below k g;
  }

-- so everything is accounted for wherever the invariant holds
pub accounted : (r : Reached) → Invariant r.state r.book → Accounted r
accounted r h = record { pairs = h.pairs; dispatchers = λ d m. no_leak r.state r.book h d (own r.state r.book h d m) }
