-- A table tested slot by slot: what the loops of `canonical.rt` turn on, for any codec of a slot.
use mathlib.Core.Path.{◌≡◌, sym, ap, ◌∙◌}
use mathlib.Core.Bool.{Bool, true, false, ◌&&◌, and_assoc, and_comm, and-eq-true_iff}
use mathlib.Core.List.{List}
use Prim.Native.Nat.{ℕ, zero, suc, ◌+◌, ◌-◌, ◌*◌, ◌≤◌, ◌<◌}
use native.Mathlib.Nat.{sub-zero, zero-mul, add-zero}
use native.Mathlib.Omega.{arith}
use lib.Dec.{leb}
use lib.ListN.{length, get_or, take, drop}
use Rattle.std.proofs.lemmas.List.{take_rest}
use borrow.Author.Tests.{leb-true}
use native.Mathlib.Numerals.{add-one}
use Rattle.rules.proofs.Table.{by_test}
use Rattle.words.specs.Words.{blank}
use Rattle.words.specs.Codec.{Codec, upto}
use Rattle.words.specs.Store.{canonical, canonicals}
use Rattle.words.proofs.Check.{canonical_upto, canonicals_none, canonicals_turn}
use Rattle.check_rows.specs.Below.{each_below}
use Rattle.check_words.specs.Canonical.{list_canonical, table_canonical}
use Rattle.check_words.proofs.Spelt.{first_from, list_of_slots}

-- a list that is spelt as it should be counts no more than its room
pub list_few : (ws : List ℕ) (most w : ℕ) → list_canonical ws most w ≡ true → get_or ws 0 0 ≤ most
unfolding list_canonical
list_few ws most w e =
    leb-true (get_or ws 0 0) most ((and-eq-true_iff (leb (get_or ws 0 0) most) (blank ((most - get_or ws 0 0) * w) (drop (1 + get_or ws 0 0 * w) ws))).0 e).0

-- the slots decide before the rest of the room does, which the definition has first
pub slots_first : (ws : List ℕ) (most w : ℕ) (right : ℕ → Bool) {r : Bool} → r ≡ (each_below right (get_or ws 0 0) && list_canonical ws most w)
    → r ≡ table_canonical ws most w right
unfolding table_canonical
slots_first ws most w right q = q ∙ and_comm (each_below right (get_or ws 0 0)) (list_canonical ws most w)

-- the slots from i on are canonical exactly where all n are
abbrev pub Left : {A : Type 0} → Codec A → ℕ → List ℕ → ℕ → ℕ → ℕ → Type 0
Left c w ws first n i = canonicals c (n - i) (drop (first + i * w) ws) ≡ canonicals c n (drop first ws)

module _ {A : Type 0} (c : Codec A) {w : ℕ} (sized : c.width ≡ w) (ws : List ℕ) (off first most : ℕ) (next : off + 1 ≡ first) (inside : off < length ws) where
  parts : canonical (upto c most) (drop off ws)
      ≡ (leb (get_or ws off 0) most && canonicals c (get_or ws off 0) (drop first ws) && blank ((most - get_or ws off 0) * w) (drop (first + get_or ws off 0 * w) ws))
  parts = rw (← next) (canonical_upto c sized most off ws inside)

  module _ (n : ℕ) where
    -- each slot before i is right, so those from i on decide
    so_far : (i : ℕ) → i ≤ n → each_below (λ j. canonical c (drop (first + j * w) ws)) i ≡ true → Left c w ws first n i
    unfolding each_below
    so_far zero h e = rw (sub-zero n, zero-mul w, add-zero first)
    so_far (suc i) h e =
        let t = (and-eq-true_iff (each_below (λ j. canonical c (drop (first + j * w) ws)) i) (canonical c (drop (first + i * w) ws))).0 e in
        let k : Left c w ws first n i = so_far i (omega arith) t.0 in
        let q : Left c w ws first n (i + 1) =
        sym (canonicals_turn c sized n i first ws (omega arith) ∙ ap (λ (b : Bool). b && canonicals c (n - (i + 1)) (drop (first + (i + 1) * w) ws)) t.1) ∙ k in
        rw add-one at q

    -- one before i is not
    stopped : (i : ℕ) → i ≤ n → each_below (λ j. canonical c (drop (first + j * w) ws)) i ≡ false → canonicals c n (drop first ws) ≡ false
    unfolding each_below
    stopped zero h e = absurd (cc)
    stopped (suc i) h e =
        by_test (each_below (λ j. canonical c (drop (first + j * w) ws)) i)
        (λ t.
        let f : canonical c (drop (first + i * w) ws) ≡ false = rw t at e in
        sym (so_far i (omega arith) t) ∙ canonicals_turn c sized n i first ws (omega arith) ∙ ap (λ (b : Bool). b && canonicals c (n - (i + 1)) (drop (first + (i + 1) * w) ws)) f)
        (stopped i (omega arith))

    -- the slots one after the other
    slots : canonicals c n (drop first ws) ≡ each_below (λ j. canonical c (drop (first + j * w) ws)) n
    slots =
        by_test (each_below (λ j. canonical c (drop (first + j * w) ws)) n)
        (λ t.
        let gone : n - n ≡ 0 = omega arith in
        rw t
        (sym (so_far n (omega arith) t) ∙ ap (λ (m : ℕ). canonicals c m (drop (first + n * w) ws)) gone ∙ canonicals_none c (drop (first + n * w) ws)))
        (λ t. rw t (stopped n (omega arith) t))

  -- a table whose slots are tested one by one
  pub table_answer : {r : Bool} → r ≡ table_canonical (drop off ws) most w (λ j. canonical c (drop (first + j * w) ws)) → r ≡ canonical (upto c most) (drop off ws)
  unfolding table_canonical
  table_answer q =
      q ∙ ap (λ (n : ℕ). list_canonical (drop off ws) most w && each_below (λ j. canonical c (drop (first + j * w) ws)) n) (first_from ws off)
      ∙ rw (list_of_slots ws off first most w next, parts, slots (get_or ws off 0))
      (let count = leb (get_or ws off 0) most in
      let rest = blank ((most - get_or ws off 0) * w) (drop (first + get_or ws off 0 * w) ws) in
      let each = each_below (λ j. canonical c (drop (first + j * w) ws)) (get_or ws off 0) in
      and_assoc count rest each ∙ ap (λ (b : Bool). count && b) (and_comm rest each) ∙ sym (and_assoc count each rest))

  -- a table of a part that is lent, each slot of which is lent too
  pub table_lent : {r : Bool} → r ≡ table_canonical (take (length ws - off) (drop off ws)) most w (λ j. canonical c (drop (first + j * w) ws)) → r ≡ canonical (upto c most) (drop off ws)
  table_lent q = table_answer (q ∙ ap (λ (us : List ℕ). table_canonical us most w (λ j. canonical c (drop (first + j * w) ws))) (take_rest ws off))

-- a slot that is lent
pub slot_lent : {A : Type 0} (c : Codec A) (ws : List ℕ) (at : ℕ) {r : Bool} → r ≡ canonical c (take (length ws - at) (drop at ws)) → r ≡ canonical c (drop at ws)
slot_lent c ws at q = q ∙ ap (canonical c) (take_rest ws at)
