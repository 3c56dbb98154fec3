-- The number of a refusal is not 0, so that only a push that is done tells of dispatches, and of fewer than 2^56.
use Rattle.std.proofs.Common.{◌≡◌, ℕ, Bool, true, ◌&&◌, cond, ◌+◌, ◌*◌, ◌/◌, ◌%◌, ◌^◌, ◌<◌}
use Rattle.std.proofs.Common.{false, Result, Ok, Err, arith, refl, eq-eqb, ne_eqb}
use lib.Dec.{eqb}
use Rattle.rules.specs.Calls.{number_in, value_in}
use Rattle.trace.specs.Calls.{PUSH}
use Rattle.refusal.specs.Words.{valued, refusal_word, word_of}
use Rattle.refusal.specs.declared.Refusal.{Refusal}
use Rattle.refusal.specs.declared.Refusal.TheVariants.{NoState, BadEntries, StoreShort, NotLive, TopicsFull, EntriesFull, IdTaken, BadBatch}
use Rattle.refusal.specs.declared.Refusal.TheVariants.{PermitsRange, BadList, IdsFull, ConsumersFull}
use Rattle.refusal.specs.declared.Refusal.TheVariants.{DispatchersFull, RingFull, ListShort, NoCall, AnswersShort}
use Rattle.told.specs.Told.{made_told, dispatches_told}

-- of a refusal
refused_number : (r : Refusal) → refusal_word r % 256 ≡ 0 → ⊥
refused_number NoState e = omega arith
refused_number BadEntries e = omega arith
refused_number StoreShort e = omega arith
refused_number NotLive e = omega arith
refused_number TopicsFull e = omega arith
refused_number EntriesFull e = omega arith
refused_number IdTaken e = omega arith
refused_number BadBatch e = omega arith
refused_number PermitsRange e = omega arith
refused_number BadList e = omega arith
refused_number IdsFull e = omega arith
refused_number ConsumersFull e = omega arith
refused_number DispatchersFull e = omega arith
refused_number RingFull e = omega arith
refused_number (ListShort n) e = let m : ℕ = n % 2 ^ 56 in let f : (m * 256 + 15) % 256 ≡ 15 = omega arith in omega arith
refused_number NoCall e = omega arith
refused_number (AnswersShort n) e = let m : ℕ = n % 2 ^ 56 in let f : (m * 256 + 64) % 256 ≡ 64 = omega arith in omega arith

refusal_number : (r : Refusal) → eqb (number_in (refusal_word r)) 0 ≡ false
unfolding number_in
refusal_number r = ne_eqb (refusal_word r % 256) 0 (refused_number r)

-- ---- dispatches

-- another kind tells of none
pub other_told : (kind word : ℕ) → (kind ≡ PUSH → ⊥) → 0 ≡ dispatches_told kind word
unfolding dispatches_told
other_told kind word h = rw (ne_eqb kind PUSH h)

-- a push tells of those that its answer does
pub push_told : (kind word : ℕ) → kind ≡ PUSH → made_told word ≡ dispatches_told kind word
unfolding dispatches_told made_told
push_told kind word h = rw (eq-eqb kind PUSH h)

-- one that is refused tells of none
refused_told : {a : Result ℕ Refusal} {r : Refusal} (kind : ℕ) → a ≡ Err r → 0 ≡ dispatches_told kind (word_of a)
unfolding dispatches_told
refused_told {r = r} kind is = rw (is, refusal_number r) (go (eqb kind PUSH))
  where
    go : (t : Bool) → 0 ≡ cond (t && false) (value_in (refusal_word r)) 0
    go true = refl
    go false = refl

-- so many at most
pub few_told : (kind : ℕ) (a : Result ℕ Refusal) → dispatches_told kind (word_of a) < 2 ^ 56
unfolding dispatches_told value_in
few_told kind (Ok v) = go (eqb kind PUSH && eqb (number_in (valued v)) 0)
  where
    go : (t : Bool) → cond t (valued v / 256) 0 < 2 ^ 56
    go true = let m : ℕ = v % 2 ^ 56 in let l : m < 2 ^ 56 = omega arith in let e : m * 256 / 256 ≡ m = omega arith in omega arith
    go false = omega arith
few_told kind (Err r) = let e = refused_told {a = Err r} {r = r} kind refl in omega arith
