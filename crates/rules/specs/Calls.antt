-- Opening, the eight calls with their rule, and lists of calls. Exported functions' contracts and demand 3 speak of these.
use Rattle.std.specs.Prelude.{ℕ, ◌+◌, ◌*◌, ◌/◌, ◌%◌, ◌^◌, Bool, true, false, cond, not, ◌&&◌, List, [], ◌∷◌, eqb, leb, ltb, length}
use Rattle.rules.specs.Table.{all}
use Rattle.rules.specs.State.{StoredMessage, Pair, Kind, State, state_with}
use Rattle.rules.specs.State.Kind.{plain, shared}
use Rattle.rules.specs.Valid.{is_byte, is_word, valid_id}
use Rattle.rules.specs.Outcome.{Value, Outcome, guard}
use Rattle.rules.specs.Outcome.Outcome.{refused, short, done}
use Rattle.rules.specs.Outcome.Value.{nothing, permits_after, mark_delete_after, cursor_after, closed, dispatches}
use Rattle.rules.specs.Commands.{Target, append, subscribe, flow, ack, seek, redeliver, close}
use Rattle.rules.specs.Commands.Target.{start, to_id}
use Rattle.rules.specs.Push.{push}

-- ---- opening

-- the words that a store of E entries per topic needs
unfoldable pub needed : ℕ → ℕ
needed e = 4096 + 128 * e

-- a store just opened: no topic, consumer or dispatcher
unfoldable pub opened : ℕ → Bool → Bool → State
opened e leak noop = state_with e leak noop [] [] []

-- opening a store of some words: 2 if E is not 1 to 4,096. 3 if the store is too short.
unfoldable pub opening : ℕ → ℕ → Bool → Bool → Outcome
opening words e leak noop =
    guard (not (leb 1 e && leb e 4096)) 2 (guard (ltb words (needed e)) 3 (done nothing (opened e leak noop)))

-- ---- calls

-- the eight operations with their arguments; push's is how many records its list holds
pub data Call : Type 0 where
  Append : ℕ → StoredMessage → Call
  Subscribe : ℕ → Kind → Pair → Call
  Flow : ℕ → ℕ → Call
  Ack : ℕ → List ℕ → Call
  Seek : ℕ → Target → Call
  Redeliver : ℕ → List ℕ → Call
  Close : ℕ → Call
  Push : ℕ → Call

-- what a call comes to
unfoldable pub rule : State → Call → Outcome
rule s (Append topic m) = append s topic m
rule s (Subscribe i kind p) = subscribe s i kind p
rule s (Flow i grant) = flow s i grant
rule s (Ack i list) = ack s i list
rule s (Seek i target) = seek s i target
rule s (Redeliver i list) = redeliver s i list
rule s (Close i) = close s i
rule s (Push room) = push s room

-- the state after an outcome: a refusal changes nothing
unfoldable pub state_after : State → Outcome → State
state_after s (refused n) = s
state_after s (short n) = s
state_after s (done v t) = t

-- the state after a list of calls, each given the state as the last one left it
unfoldable pub run : State → List Call → State
run s [] = s
run s (x ∷ calls) = run (state_after s (rule s x)) calls

-- ---- from numbers

-- a subscribe's kind: 0 is plain, anything else shared
unfoldable pub kind_from : ℕ → Kind
kind_from kind = cond (eqb kind 0) plain shared

-- a seek's target: 0 is the start, anything else the id
unfoldable pub target_from : ℕ → ℕ → ℕ → Target
target_from target ledger entry =
    cond (eqb target 0) start (to_id (record { ledger = ledger; entry = entry }))

-- ---- widths

-- whether the numbers of a target are 64-bit
unfoldable pub target_fits : Target → Bool
target_fits start = true
target_fits (to_id i) = valid_id i

-- whether a call's arguments have the widths that an export gives them: bytes for topic and subscription, 32 bits for a
-- grant, 64 for the rest
unfoldable pub fits : Call → Bool
fits (Append topic m) = is_byte topic && valid_id m.id && is_word m.handle && is_word m.batch_size
fits (Subscribe i kind p) = is_word i && is_byte p.topic && is_byte p.subscription
fits (Flow i grant) = is_word i && ltb grant (2 ^ 32)
fits (Ack i list) = is_word i && all is_word list
fits (Seek i target) = is_word i && target_fits target
fits (Redeliver i list) = is_word i && all is_word list
fits (Close i) = is_word i
fits (Push room) = is_word room

-- ---- answers in one word

-- 1 or 0
unfoldable pub bit_of : Bool → ℕ
bit_of true = 1
bit_of false = 0

-- a value as a number. 2 ^ 62 is a multiple of 2 ^ 56, so permits in excess form are their two's complement modulo 2 ^ 56.
unfoldable pub value_number : Value → ℕ
value_number nothing = 0
value_number (permits_after p) = p
value_number (mark_delete_after k moved) = k * 2 + bit_of moved
value_number (cursor_after k) = k
value_number (closed b) = bit_of b
value_number (dispatches l) = length l

-- an outcome as the exports answer it: the value modulo 2 ^ 56, times 256, plus the refusal's number, 0 when done
unfoldable pub answer_word : Outcome → ℕ
answer_word (refused n) = n
answer_word (short n) = n % 2 ^ 56 * 256 + 15
answer_word (done v s) = value_number v % 2 ^ 56 * 256

-- the refusal's number in an answer, 0 when done
unfoldable pub number_in : ℕ → ℕ
number_in a = a % 256

-- the value in an answer, modulo 2 ^ 56
unfoldable pub value_in : ℕ → ℕ
value_in a = a / 256
