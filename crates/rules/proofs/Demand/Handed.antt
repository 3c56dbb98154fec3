-- What a dispatch costs at most, and where entries stand after one is handed out.
use Prim.Native.Nat.{ℕ, zero, suc, ◌+◌, ◌*◌, ◌/◌, ◌<◌, ◌≤◌}
use mathlib.Core.Path.{◌≡◌, sym, ◌∙◌}
use mathlib.Core.Bool.{Bool, true, false}
use mathlib.Core.List.{List, [], ◌∷◌, ◌++◌, map}
use native.Mathlib.Nat.{le_refl}
use native.Mathlib.Omega.{arith}
use lib.Dec.{eqb, ltb}
use lib.Count.{ones_in}
use lib.ListN.{length}
use borrow.Author.Tests.{eqb-true, eqb-false, ne_eqb, ltb-true, ltb-false}
use Rattle.bits.specs.declared.UnackedBits.{UnackedBits}
use Rattle.bits.specs.Bits.{count_ones, bits_empty, bits_cardinality}
use Rattle.bits.specs.Four.{words}
use Rattle.bits.proofs.Sets.{cardinality_nil, cardinality_cons}
use Rattle.rules.specs.Table.{all, count}
use Rattle.rules.specs.State.{Id, same_id, StoredMessage, Mark, Held}
use Rattle.rules.specs.Ledger.{position_of, message_at}
use Rattle.rules.specs.Dispatcher.{cost}
use Rattle.rules.specs.Book.{updated}
use Rattle.rules.proofs.Table.{by_test, all_append, count_append, count_map_append, count_self, count_other, count_member}
use Rattle.rules.proofs.State.{decides_ids, updated_elsewhere}
use Rattle.rules.proofs.Demand.Invariant.{stands, held_in, Placed}

-- ---- costs

-- a number has at most as many ones as digits are looked at
ones_le : (n w : ℕ) → ones_in n w ≤ n
unfolding ones_in
ones_le zero w = omega arith
ones_le (suc n) w = let h = ones_le n (w / 2) in omega arith

-- so a word has at most 64
word_le : (w : ℕ) → count_ones w ≤ 64
unfolding count_ones
word_le w = ones_le 64 w

-- and a set at most 64 for each word
set_le : (ws : List ℕ) → bits_cardinality ws ≤ 64 * length ws
set_le [] = omega (arith, cardinality_nil)
set_le (w ∷ ws) = let h = set_le ws in omega (arith, cardinality_cons w ws, word_le w)

-- a dispatch costs at most 256
pub cost_le : (batch : ℕ) (u : UnackedBits) → batch ≤ 256 → cost batch u ≤ 256
unfolding cost
cost_le batch u h = by_test (bits_empty (words u)) (λ t. rw t (omega arith)) (λ t. rw t (set_le (words u)))

-- ---- where entries stand after one is handed out

-- what is in flight with one more
abbrev pub held_now : ℕ → ℕ → List Held → List Held
held_now i k held = held ++ record { holder = i; position = k } ∷ []

-- how often a position stands in flight
flying : (i k : ℕ) (held : List Held) (n : ℕ)
    → count n (map (λ (x : Held). x.position) (held_now i k held)) ≡ count n (map (λ (x : Held). x.position) held) + count n (k ∷ [])
flying i k held n = count_map_append (λ (x : Held). x.position) n held (record { holder = i; position = k } ∷ [])

-- the holder is in the ring
holders_now : (i k : ℕ) (held : List Held) (ring : List ℕ) → 0 < count i ring → all (held_in ring) held ≡ true
    → all (held_in ring) (held_now i k held) ≡ true
unfolding all
holders_now i k held ring g f = all_append (held_in ring) held (record { holder = i; position = k } ∷ []) f (rw (count_member i ring g))

-- what was handed out lies below a cursor past its position
handed_now : (l : List StoredMessage) (handed : Id → Bool) (j : Id) (c : ℕ) → position_of j l < c → ((x : Id) → handed x ≡ true → position_of x l < c)
    → (x : Id) → updated same_id handed j true x ≡ true → position_of x l < c
handed_now l handed j c g f x e =
    by_test (same_id x j)
    (λ t. rw (decides_ids.equal x j t) g)
    (λ t. f x (sym (updated_elsewhere decides_ids handed j true x t) ∙ e))

module _ {l : List StoredMessage} {ring : List ℕ} {handed : Id → Bool} {cursor : ℕ} {held : List Held} {marks : List Mark}
    (i : ℕ) (has : 0 < count i ring)
    (ids_once : (n : ℕ) → n < length l → position_of (message_at l n).id l ≡ n) where
  -- the first of the queue
  pub from_queue : (k : ℕ) (queue : List ℕ) → Placed l ring handed cursor (k ∷ queue) held marks
      → (k < length l) × Placed l ring (updated same_id handed (message_at l k).id true) cursor queue (held_now i k held) marks
  from_queue k queue h =
      let below : k < cursor = by_test (ltb k cursor) (λ t. ltb-true k cursor t)
      (λ t. absurd (omega (arith, h.never k (ltb-false k cursor t), count_append k (k ∷ []) queue, count_self k))) in
      let inside : k < length l = omega (arith, h.cursor_in_list) in
      let same : (n : ℕ) → stands n (held_now i k held) queue ≡ stands n held (k ∷ queue) = λ n. omega (arith, flying i k held n, count_append n (k ∷ []) queue) in (
        inside,
        record {
          cursor_in_list = h.cursor_in_list;
          handed_below = handed_now l handed (message_at l k).id cursor (rw (ids_once k inside) below) h.handed_below;
          once = λ n x c. same n ∙ h.once n x c;
          never = λ n x. same n ∙ h.never n x;
          holders = holders_now i k held ring has h.holders;
        },
      )

  -- the next of the ledger
  pub from_ledger : {queue : List ℕ} → cursor < length l → Placed l ring handed cursor queue held marks
      → Placed l ring (updated same_id handed (message_at l cursor).id true) (suc cursor) queue (held_now i cursor held) marks
  from_ledger {queue} inside h =
      let same : (n : ℕ) → eqb n cursor ≡ false → stands n (held_now i cursor held) queue ≡ stands n held queue =
      λ n t. omega (arith, flying i cursor held n, count_other n cursor t) in
      record {
        cursor_in_list = inside;
        handed_below = handed_now l handed (message_at l cursor).id (suc cursor) (rw (ids_once cursor inside) (omega arith))
            (λ j e. let y = h.handed_below j e in omega arith);
        once = λ n y c. by_test (eqb n cursor)
            (λ t. rw (eqb-true n cursor t) (omega (arith, flying i cursor held cursor, count_self cursor, h.never cursor (le_refl cursor))))
            (λ t. same n t ∙ h.once n (omega (arith, eqb-false n cursor t)) c);
        never = λ n y. let z : cursor ≤ n = omega arith in same n (ne_eqb n cursor (λ e. omega arith)) ∙ h.never n z;
        holders = holders_now i cursor held ring has h.holders;
      }
