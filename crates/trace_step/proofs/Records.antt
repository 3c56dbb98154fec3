-- A record's bytes as its call: the words that were read are lent on, and what is made of them is made of the record.
use Prim.Native.Nat.{ℕ, ◌*◌, ◌/◌, ◌≤◌}
use mathlib.Core.Path.{◌≡◌, refl, sym, ap, ◌∙◌, subst}
use mathlib.Core.Bool.{true}
use mathlib.Core.List.{List, []}
use mathlib.Core.Option.{Option, none, some}
use native.Mathlib.Omega.{arith}
use lib.ListN.{length, take}
use lib.Seq.{take_at}
use Rattle.words.specs.Wrote.{Wrote}
use Rattle.words.proofs.Act.{lay_eq}
use Rattle.rules.specs.Calls.{Call, rule, answer_word}
use Rattle.rules.proofs.Valid.{says_valid}
use Rattle.layout.specs.Layout.{decode, spells}
use Rattle.layout.specs.Calls.{answer, list_after}
use Rattle.layout.proofs.Store.{spells_valid}
use Rattle.layout.proofs.Calls.{outcome_is, answer_is}
use Rattle.trace.specs.Format.{Record, record_reach, record_in}
use Rattle.trace.specs.Format.Reach.{ends}
use Rattle.trace.specs.Calls.{call_of, kind_of, room_is}
use Rattle.trace.specs.Text.{outcome_text, bad_line}
use Rattle.trace.specs.Played.{ROOM, record_call}
use Rattle.trace.proofs.Calls.{if_call, call_kind, call_room}
use Rattle.trace.proofs.Format.{taken_record}
use Rattle.std.proofs.Common.{None, Some}
use Rattle.trace_call.specs.Made.{made, words_made, list_made}
use Rattle.told.specs.Told.{dispatches_told}
use Rattle.trace_lines.specs.Told.{lines_bytes, text_told}
use Rattle.trace_step.specs.declared.Did.TheVariants as did
use Rattle.trace_step.specs.Stepped.{Stepped}
use Rattle.trace_step.proofs.Answered.{Answered, answered}
use Rattle.trace_step.proofs.Steps.{call_at, no_call_at}

-- what was laid at the start is there
pub first_words : {most n : ℕ} {a b xs : List ℕ} → Wrote most a 0 xs b n → most ≤ length a → take n b ≡ xs
first_words {n = n} {a = a} {b = b} {xs = xs} w m =
    let s = w.short in
    let e = w.ends in
    ap (take n) (w.laid ∙ lay_eq xs 0 a (omega arith)) ∙ take_at xs _ n (omega arith)

-- the call of a kind and of these words is the record's, with the player's list
pub of_record : (r : Record) (kind n : ℕ) (words : List ℕ) → kind ≡ r.kind → take n words ≡ r.words → (long : ℕ) → long ≡ ROOM * 13
    → call_of (long / 13) kind (take n words) ≡ record_call r
unfolding record_call
of_record r kind n words k w long l = rw (l, k, w)

-- ---- what was made of it

-- an answer is that of a call
pub record IsCall (ws : List ℕ) (o : Option Call) (a : ℕ) : Type 0 where
  pub call : Call
  pub is : o ≡ some call
  pub answers : a ≡ answer ws call

-- where a call was made
told_call : (ws : List ℕ) (o : Option Call) (a : ℕ) → Some a ≡ made ws o → IsCall ws o a
unfolding made
told_call ws none a e = absurd (let z : ◌≡◌ {A = ℕ} 0 1 = cc in omega arith)
told_call ws (some x) a e = record { call = x; is = refl; answers = cc }

-- where there was none
told_none : (ws : List ℕ) (o : Option Call) → None ≡ made ws o → o ≡ none
unfolding made
told_none ws none e = refl
told_none ws (some x) e = absurd (let z : ◌≡◌ {A = ℕ} 0 1 = cc in omega arith)

-- what a record is has the record's kind, and the player's room
record_kind : (r : Record) (x : Call) → record_call r ≡ some x → kind_of x ≡ r.kind
unfolding record_call
record_kind r x e = if_call (λ (y : Call). kind_of y ≡ r.kind) _ x (call_kind ROOM r.kind r.words) e

record_room : (r : Record) (x : Call) → record_call r ≡ some x → room_is ROOM x ≡ true
unfolding record_call
record_room r x e = if_call (λ (y : Call). room_is ROOM y ≡ true) _ x (call_room ROOM r.kind r.words) e

module _ (ws : List ℕ) (h : spells ws ≡ true) (r : Record) (kind a : ℕ) (k : kind ≡ r.kind) (e : Some a ≡ made ws (record_call r)) where
  -- the call
  pub the_call : IsCall ws (record_call r) a
  the_call = told_call ws (record_call r) a e

  -- its answer is the rule's
  the_answer : a ≡ answer_word (rule (decode ws) the_call.call)
  the_answer = the_call.answers ∙ answer_is ws the_call.call h

  -- what is printed of it
  the_text : (number : ℕ) (list : List ℕ) → Answered number (decode ws) the_call.call list
  the_text number list = answered number (decode ws) the_call.call list ((says_valid (decode ws)).gives (spells_valid ws h)) (record_room r the_call.call the_call.is)

  -- its kind
  the_kind : kind_of the_call.call ≡ kind
  the_kind = record_kind r the_call.call the_call.is ∙ sym k

  -- it tells of no more dispatches than the list holds
  pub few_told : dispatches_told kind a ≤ ROOM
  few_told =
      subst (λ (n : ℕ). dispatches_told n a ≤ ROOM) the_kind
      (subst (λ (n : ℕ). dispatches_told (kind_of the_call.call) n ≤ ROOM) (sym the_answer) (the_text 0 []).few)

  -- what is printed from its answer and its list is what it is printed as
  text_made : (number : ℕ) (list list' : List ℕ) → list' ≡ list_made ws list (record_call r)
      → text_told number kind a list' ≡ outcome_text number the_call.call (rule (decode ws) the_call.call)
  unfolding list_made
  text_made number list list' l =
      let x = the_call.call in
      let left : list' ≡ list_after list (rule (decode ws) x) =
      l ∙ ap (list_made ws list) the_call.is ∙ ap (list_after list) (outcome_is ws x h) in
      ap (text_told number kind a) left
      ∙ ap (λ (n : ℕ). text_told number kind n (list_after list (rule (decode ws) x))) the_answer
      ∙ ap (λ (n : ℕ). text_told number n (answer_word (rule (decode ws) x)) (list_after list (rule (decode ws) x))) (sym the_kind)
      ∙ (the_text number list).text

-- ---- the step that it is

module _ (ws : List ℕ) (number : ℕ) (held out : List ℕ) (h : spells ws ≡ true) (Some_number : 1 ≤ number) (size : ℕ) (e : record_reach held ≡ ends size) where
  -- the record alone
  abbrev alone : Record
  alone = record_in (take size held)

  -- a call was made
  pub played_call : {n a kind : ℕ} {ws' list' out' : List ℕ} (list : List ℕ) → kind ≡ alone.kind → Some a ≡ made ws (record_call alone)
      → ws' ≡ words_made ws (record_call alone) → list' ≡ list_made ws list (record_call alone)
      → Wrote lines_bytes out 0 (text_told number kind a list') out' n → Stepped ws number held out (did.Went size n) ws' out'
  unfolding words_made
  played_call {n} {a} {kind} {ws'} {list'} {out'} list k m g l w =
      let i = the_call ws h alone kind a k m in
      let same : record_call (record_in held) ≡ some i.call = ap record_call (sym (taken_record held size e)) ∙ i.is in
      call_at ws number held out h Some_number size i.call e same (g ∙ ap (words_made ws) i.is) (omega arith)
      (subst (λ (t : List ℕ). Wrote lines_bytes out 0 t out' n) (text_made ws h alone kind a k m number list list' l) w)

  -- none was
  pub played_none : {most n : ℕ} {ws' out' : List ℕ} → None ≡ made ws (record_call alone)
      → ws' ≡ words_made ws (record_call alone) → most ≤ lines_bytes → Wrote most out 0 (bad_line number) out' n
      → Stepped ws number held out (did.Bad n) ws' out'
  unfolding words_made
  played_none {n = n} {ws' = ws'} {out' = out'} m g few w =
      let o = told_none ws (record_call alone) m in
      let left : ws' ≡ ws = g ∙ ap (words_made ws) o in
      subst (λ (l : List ℕ). Stepped ws number held out (did.Bad n) l out') (sym left)
      (no_call_at ws number held out h Some_number few w size e (ap record_call (sym (taken_record held size e)) ∙ o))
