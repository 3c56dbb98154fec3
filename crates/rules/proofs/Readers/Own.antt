-- A reader's own turns: each takes the first of what is ahead of it, while it has permits; what is left then is nothing that
-- its permits allow.
use Prim.Native.Nat.{ℕ, zero, suc, ◌+◌, ◌-◌, ◌≤◌, ◌<◌}
use mathlib.Core.Path.{◌≡◌, refl, sym, ap, ap₂, ◌∙◌, subst}
use mathlib.Core.Bool.{true, false, cond}
use mathlib.Core.List.Memᴰ
use mathlib.Core.List.{List, [], ◌∷◌, ◌++◌, map}
use native.Mathlib.Omega.{arith}
use lib.Dec.{eqb, ltb}
use lib.ListN.{length, take, drop, drop_of_length-le}
use lib.Seq.{drop-cons, take-nil}
use borrow.Author.Tests.{ltb-true, ltb-false, lt-ltb, le-ltb, eq-eqb}
use Rattle.rules.specs.Permits.{zero_permits, above_zero}
use Rattle.rules.specs.Table.{Every}
use Rattle.rules.specs.State.{StoredMessage, Kind, by_kind, Consumer, State, ledger_of, put_consumer}
use Rattle.rules.specs.Ledger.{no_message, message_at}
use Rattle.rules.specs.Outcome.{Dispatch}
use Rattle.rules.specs.Commands.{with_permits, with_reading}
use Rattle.rules.specs.Push.{Turn, send_plain, send_plain_next, plain_turn_of, plain_turn, Pushed, after_turn, turns}
use Rattle.rules.specs.Push.Turn.{halt, sent}
use Rattle.rules.specs.Readers.{ahead}
use Rattle.rules.proofs.Says.{every_cons}
use Rattle.rules.proofs.Table.{by_test}
use Rattle.rules.proofs.State.{consumer_id}
use Rattle.rules.proofs.Readers.Others.{Stands, self_put}

-- what is ahead of a reader, as much as its permits allow
abbrev pub allowed : List StoredMessage → Consumer → List StoredMessage
allowed l c = take (c.permits - zero_permits) (ahead l c)

-- with permits the first of some messages is allowed
allowed_first : (p : ℕ) (m : StoredMessage) (ms : List StoredMessage) → above_zero p ≡ true
    → take (p - zero_permits) (m ∷ ms) ≡ m ∷ take (p - 1 - zero_permits) ms
unfolding above_zero
allowed_first p m ms u =
    let h = ltb-true zero_permits p u in
    let e : p - zero_permits ≡ suc (p - 1 - zero_permits) = omega arith in
    rw e

-- without any nothing is
allowed_none : (p : ℕ) (ms : List StoredMessage) → above_zero p ≡ false → take (p - zero_permits) ms ≡ []
unfolding above_zero
allowed_none p ms u = let h = ltb-false zero_permits p u in let e : p - zero_permits ≡ 0 = omega arith in rw e

module _ (i n : ℕ) (l : List StoredMessage) where
  -- it was sent what its permits allowed, and stands there with nothing left that they allow
  pub record Read (c : Consumer) (x : Pushed) : Type 0 where
    pub messages : map (λ (d : Dispatch). d.message) x.dispatched ≡ allowed l c
    pub its_own : Every (λ (d : Dispatch). eqb i d.consumer ≡ true) x.dispatched
    pub rest : Consumer
    pub rest_stands : Stands i n l rest x.state
    pub rest_none : allowed l rest ≡ []

  -- a turn that halts
  halted : (c : Consumer) (t : State) → Stands i n l c t → allowed l c ≡ [] → Read c (record { dispatched = []; state = t })
  halted c t h e =
      record { messages = sym e; its_own = λ d m. absurd (Memᴰ.not-nil m); rest = c; rest_stands = h; rest_none = e }

  -- a turn that sends the first of it, and those that follow
  sends : (c d : Consumer) (x : Dispatch) (p : Pushed) → eqb i x.consumer ≡ true → allowed l c ≡ x.message ∷ allowed l d → Read d p
      → Read c (record { dispatched = x ∷ p.dispatched; state = p.state })
  sends c d x p o e r =
      record {
        messages = ap (λ (ms : List StoredMessage). x.message ∷ ms) r.messages ∙ sym e;
        its_own = every_cons o r.its_own;
        rest = r.rest;
        rest_stands = r.rest_stands;
        rest_none = r.rest_none;
      }

  -- its turn
  own_turn : (c : Consumer) (t : State) → Stands i n l c t → plain_turn i t ≡ cond (above_zero c.permits) (send_plain_next t c c.nacked) (halt t)
  unfolding plain_turn plain_turn_of by_kind
  own_turn c t h =
      ap (plain_turn_of t) h.reader.live
      ∙ ap (λ (k : Kind). cond (by_kind k (above_zero c.permits) false) (send_plain_next t c c.nacked) (halt t)) h.reader.is_plain

  -- the ledger it reads
  pub own_ledger : (c : Consumer) (t : State) → Stands i n l c t → ledger_of t c.pair.topic ≡ l
  own_ledger c t h = ap (ledger_of t) h.its_topic ∙ h.its_ledger

  -- a run of at most b turns, and one that halts
  abbrev ReadsIn : ℕ → Type 0
  ReadsIn b = (c : Consumer) (t : State) → length c.nacked + (length l - c.cursor) ≤ b → Stands i n l c t → Read c (turns (suc b) (plain_turn i) t)

  module _ (c : Consumer) (t : State) (h : Stands i n l c t) (u : above_zero c.permits ≡ true) where
    -- nothing is ahead
    end_turn : (more : State → Pushed) → c.nacked ≡ [] → length l ≤ c.cursor → Read c (after_turn (send_plain_next t c []) more)
    unfolding after_turn send_plain_next ahead
    end_turn more e f =
        rw (own_ledger c t h, le-ltb c.cursor (length l) f)
        (halted c t h
        (ap (take (c.permits - zero_permits)) (ap₂ (λ (ns : List ℕ) (ms : List StoredMessage). map (message_at l) ns ++ ms) e (drop_of_length-le l f))
        ∙ take-nil (c.permits - zero_permits)))

    -- an entry goes to it, and it goes on as d
    gone : (b : ℕ) (d : Consumer) (k : ℕ) → d.id ≡ c.id → d.kind ≡ c.kind → d.pair ≡ c.pair → d.permits ≡ c.permits - 1
        → ahead l c ≡ message_at l k ∷ ahead l d → length d.nacked + (length l - d.cursor) ≤ b → ReadsIn b → (x : Dispatch) → x.consumer ≡ c.id
        → x.message ≡ message_at l k → Read c (after_turn (sent x (put_consumer t d)) (λ (t : State). turns (suc b) (plain_turn i) t))
    unfolding after_turn
    gone b d k id kind pair permits first g more x to what =
        sends c d x (turns (suc b) (plain_turn i) (put_consumer t d)) (eq-eqb i x.consumer (consumer_id t i c h.reader.live ∙ sym to))
        (ap (take (c.permits - zero_permits)) first ∙ allowed_first c.permits (message_at l k) (ahead l d) u
        ∙ ap₂ (λ (m : StoredMessage) (p : ℕ). m ∷ take (p - zero_permits) (ahead l d)) (sym what) (sym permits))
        (more d (put_consumer t d) g (self_put i n l c d t id kind pair h))

    -- the entry at its cursor
    next_turn : (b : ℕ) → c.nacked ≡ [] → c.cursor < length l → length l - suc c.cursor ≤ b → ReadsIn b
        → Read c (after_turn (send_plain_next t c []) (λ (t : State). turns (suc b) (plain_turn i) t))
    unfolding send_plain_next send_plain with_reading with_permits ahead message_at
    next_turn b e f g more =
        rw (own_ledger c t h, lt-ltb c.cursor (length l) f)
        (gone b (with_permits (with_reading c (suc c.cursor) []) (c.permits - 1)) c.cursor refl refl refl refl
        (ap (λ (ns : List ℕ). map (message_at l) ns ++ drop c.cursor l) e ∙ drop-cons l c.cursor no_message f) (omega arith) more _ refl refl)

    -- an entry that it handed back
    back_turn : (b k : ℕ) (nacked : List ℕ) → c.nacked ≡ k ∷ nacked → length nacked + (length l - c.cursor) ≤ b → ReadsIn b
        → Read c (after_turn (send_plain_next t c (k ∷ nacked)) (λ (t : State). turns (suc b) (plain_turn i) t))
    unfolding send_plain_next send_plain with_reading with_permits ahead
    back_turn b k nacked e g more =
        gone b (with_permits (with_reading c c.cursor nacked) (c.permits - 1)) k refl refl refl refl
        (ap (λ (ns : List ℕ). map (message_at l) ns ++ drop c.cursor l) e) g more _ refl
        (ap (λ (r : List StoredMessage). message_at r k) (own_ledger c t h))

    -- its last turn, which halts
    last_turn : (nacked : List ℕ) → c.nacked ≡ nacked → length nacked + (length l - c.cursor) ≤ 0
        → Read c (after_turn (send_plain_next t c nacked) (λ (t : State). turns 0 (plain_turn i) t))
    last_turn [] e g = end_turn _ e (omega arith)
    last_turn (k ∷ nacked) e g = absurd (omega arith)

    -- one before it
    one_turn : (b : ℕ) (nacked : List ℕ) → c.nacked ≡ nacked → length nacked + (length l - c.cursor) ≤ suc b → ReadsIn b
        → Read c (after_turn (send_plain_next t c nacked) (λ (t : State). turns (suc b) (plain_turn i) t))
    one_turn b [] e g more =
        by_test (ltb c.cursor (length l))
        (λ v. let f = ltb-true c.cursor (length l) v in next_turn b e f (omega arith) more)
        (λ v. end_turn _ e (ltb-false c.cursor (length l) v))
    one_turn b (k ∷ nacked) e g more = back_turn b k nacked e (omega arith) more

  -- its first turn and those that follow: without permits the first halts
  first_turn : (b : ℕ) (c : Consumer) (t : State) → Stands i n l c t
      → (above_zero c.permits ≡ true → Read c (after_turn (send_plain_next t c c.nacked) (λ (t : State). turns b (plain_turn i) t)))
      → Read c (turns (suc b) (plain_turn i) t)
  unfolding turns after_turn
  first_turn b c t h sent_one =
      subst (λ (x : Turn). Read c (after_turn x (λ (t : State). turns b (plain_turn i) t))) (sym (own_turn c t h))
      (by_test (above_zero c.permits)
      (λ u. rw u (sent_one u))
      (λ u. rw u (halted c t h (allowed_none c.permits (ahead l c) u))))

  -- its turns until one halts
  pub own_turns : (b : ℕ) → ReadsIn b
  own_turns zero c t f h = first_turn 0 c t h (λ u. last_turn c t h u c.nacked refl f)
  own_turns (suc b) c t f h = first_turn (suc b) c t h (λ u. one_turn c t h u b c.nacked refl f (own_turns b))
