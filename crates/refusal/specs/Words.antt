-- What a call answers, as one word.
use Rattle.std.specs.Prelude.{ℕ, ◌+◌, ◌*◌, ◌%◌, ◌^◌, Result, Ok, Err}
use Rattle.refusal.specs.declared.Refusal.{Refusal}
use Rattle.refusal.specs.declared.Refusal.TheVariants.{NoState, BadEntries, StoreShort, NotLive, TopicsFull, EntriesFull, IdTaken, BadBatch, PermitsRange, BadList, IdsFull, ConsumersFull, DispatchersFull, RingFull, ListShort, NoCall, AnswersShort}

-- a value modulo 2 ^ 56, times 256
abbrev pub valued : ℕ → ℕ
valued v = v % 2 ^ 56 * 256

-- a refusal: its number, and behind it the value that it tells
abbrev pub refusal_word : Refusal → ℕ
refusal_word NoState = 1
refusal_word BadEntries = 2
refusal_word StoreShort = 3
refusal_word NotLive = 4
refusal_word TopicsFull = 5
refusal_word EntriesFull = 6
refusal_word IdTaken = 7
refusal_word BadBatch = 8
refusal_word PermitsRange = 9
refusal_word BadList = 10
refusal_word IdsFull = 11
refusal_word ConsumersFull = 12
refusal_word DispatchersFull = 13
refusal_word RingFull = 14
refusal_word (ListShort due) = valued due + 15
refusal_word NoCall = 18
refusal_word (AnswersShort calls) = valued calls + 64

-- the value that is done, or the refusal
abbrev pub word_of : Result ℕ Refusal → ℕ
word_of (Ok v) = valued v
word_of (Err r) = refusal_word r

-- the word of a refusal, 0 where there is none
abbrev pub refusal_or_0 : Result Unit Refusal → ℕ
refusal_or_0 (Ok u) = 0
refusal_or_0 (Err r) = refusal_word r
