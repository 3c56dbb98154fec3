-- A refusal is told from what is done by its word.
use Rattle.std.proofs.Common.{◌≡◌, arith}
use Rattle.refusal.specs.Words.{refusal_word}
use Rattle.refusal.specs.declared.Refusal.{Refusal}
use Rattle.refusal.specs.declared.Refusal.TheVariants.{NoState, BadEntries, StoreShort, NotLive, TopicsFull, EntriesFull, IdTaken, BadBatch, PermitsRange, BadList, IdsFull, ConsumersFull, DispatchersFull, RingFull, ListShort, NoCall, AnswersShort}

-- no refusal has the word of what is done with the value 0
pub refusal_not_0 : (r : Refusal) → refusal_word r ≡ 0 → ⊥
refusal_not_0 NoState e = omega arith
refusal_not_0 BadEntries e = omega arith
refusal_not_0 StoreShort e = omega arith
refusal_not_0 NotLive e = omega arith
refusal_not_0 TopicsFull e = omega arith
refusal_not_0 EntriesFull e = omega arith
refusal_not_0 IdTaken e = omega arith
refusal_not_0 BadBatch e = omega arith
refusal_not_0 PermitsRange e = omega arith
refusal_not_0 BadList e = omega arith
refusal_not_0 IdsFull e = omega arith
refusal_not_0 ConsumersFull e = omega arith
refusal_not_0 DispatchersFull e = omega arith
refusal_not_0 RingFull e = omega arith
refusal_not_0 (ListShort n) e = omega arith
refusal_not_0 NoCall e = omega arith
refusal_not_0 (AnswersShort n) e = omega arith
