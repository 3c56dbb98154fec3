-- What a step of the program comes to in each case, as a step of a player.
use Prim.Native.Nat.{ℕ, zero, suc, ◌-◌, ◌≤◌}
use mathlib.Core.Path.{◌≡◌, refl, sym, ap, ap₂, ◌∙◌, subst}
use mathlib.Core.Bool.{true, false}
use mathlib.Core.List.{List, [], ◌∷◌}
use mathlib.Core.Option.{Option, none, some}
use native.Mathlib.Omega.{arith}
use lib.ListN.{length, drop}
use Rattle.words.specs.Act.{lay}
use Rattle.words.specs.Wrote.{Wrote}
use Rattle.words.proofs.Act.{lay_none}
use Rattle.rules.specs.State.{State}
use Rattle.rules.specs.Calls.{Call, fits, rule, state_after}
use Rattle.layout.specs.Layout.{decode, spells}
use Rattle.layout.specs.Calls.{after}
use Rattle.layout.proofs.Calls.{decode_after, spells_after}
use Rattle.trace.specs.Format.{Record, Reach, header_reach, record_reach, record_in}
use Rattle.trace.specs.Format.Reach.{ends, cut_off, wrong}
use Rattle.trace.specs.Text.{outcome_text, bad_line}
use Rattle.trace.specs.Played.{ROOM, record_call}
use Rattle.trace.specs.Steps.{Player, at_bad, reach, past_header, past_record, past, step_by, step, end_text, player_at}
use Rattle.trace.proofs.Calls.{call_fits, if_call}
use Rattle.trace.proofs.Format.{whole, header_inside}
use Rattle.trace_call.specs.Made.{words_made}
use Rattle.trace_lines.specs.Told.{lines_bytes}
use Rattle.trace_step.specs.declared.Did as declared
use Rattle.trace_step.specs.declared.Did.TheVariants as variants
use Rattle.trace_step.specs.Stepped.{step_answer, Within, step_call, Stepped, HeaderStepped}

-- a call that is read fits
record_fits : (r : Record) (x : Call) → record_call r ≡ some x → fits x ≡ true
unfolding record_call
record_fits r x e = if_call (λ (y : Call). fits y ≡ true) _ x (call_fits ROOM r.kind r.words) e

-- what is written at the start of a buffer has the length that the writer answers
at_start : {most next : ℕ} {before after bytes : List ℕ} → Wrote most before 0 bytes after next → next ≡ length bytes
at_start w = omega (arith, w.ends)

-- and at most what it may write
at_most : {most next : ℕ} {before after bytes : List ℕ} → most ≤ lines_bytes → Wrote most before 0 bytes after next → next ≤ lines_bytes
at_most m w = omega (arith, w.ends, w.short)

-- a record that is whole lies in what is held
whole_inside : (held : List ℕ) (size : ℕ) → record_reach held ≡ ends size → size ≤ length held
whole_inside held size e = let w = whole held size e in rw w.is_size w.inside

-- a step whose player comes to q
module _ (ws : List ℕ) (number : ℕ) (held out : List ℕ) (reached : Reach) (q : Player) (o : Option Call) where
  stepped_to : {r : declared.Did} {ws' out' : List ℕ} → reach number held ≡ reached → step (player_at (decode ws) number held) ≡ q
      → step_call number held reached ≡ o → r ≡ step_answer reached q → Within (length held) r → out' ≡ (lay q.printed).run 0 out → ws' ≡ words_made ws o
      → spells ws' ≡ true → decode ws' ≡ q.state → Stepped ws number held out r ws' out'
  stepped_to e f g answer within text words spelt state =
      record {
        answer = answer ∙ sym (ap₂ step_answer e f);
        within = within;
        text = text ∙ ap (λ (p : Player). (lay p.printed).run 0 out) (sym f);
        words = words ∙ ap (words_made ws) (sym (ap (step_call number held) e ∙ g));
        spelt = spelt;
        state = state ∙ ap (λ (p : Player). p.state) (sym f);
      }

-- a player that has stopped at what it holds
abbrev bad_at : State → ℕ → List ℕ → Player
bad_at s number held = record { held = held; number = number; state = s; printed = bad_line number; stopped = true }

-- ---- at a record

module _ (ws : List ℕ) (k : ℕ) (held out : List ℕ) (h : spells ws ≡ true) where
  -- it is cut off
  record_waits : record_reach held ≡ cut_off → Stepped ws (suc k) held out variants.Waits ws out
  unfolding step_answer Within step_call words_made player_at reach step step_by
  record_waits e =
      stepped_to ws (suc k) held out cut_off (player_at (decode ws) (suc k) held) none e (rw e) refl refl tt (sym (lay_none 0 out)) refl h refl

  module _ {most n : ℕ} {out' : List ℕ} (m : most ≤ lines_bytes) (w : Wrote most out 0 (bad_line (suc k)) out' n) where
    -- it has too many words
    record_wrong : record_reach held ≡ wrong → Stepped ws (suc k) held out (variants.Bad n) ws out'
    unfolding step_answer Within step_call words_made player_at reach step step_by at_bad
    record_wrong e =
        stepped_to ws (suc k) held out wrong (bad_at (decode ws) (suc k) held) none e (rw e) refl (ap variants.Bad (at_start w)) (at_most m w) w.laid refl h refl

    -- it is no call
    record_bad : (size : ℕ) → record_reach held ≡ ends size → record_call (record_in held) ≡ none
        → Stepped ws (suc k) held out (variants.Bad n) ws out'
    unfolding step_answer Within step_call words_made player_at reach step step_by past past_record at_bad
    record_bad size e f =
        stepped_to ws (suc k) held out (ends size) (bad_at (decode ws) (suc k) held) none e (rw (e, f)) f (ap variants.Bad (at_start w)) (at_most m w) w.laid refl h refl

  -- it is a call
  record_went : {most n : ℕ} {ws' out' : List ℕ} (size : ℕ) (x : Call) → record_reach held ≡ ends size → record_call (record_in held) ≡ some x
      → ws' ≡ after ws x → most ≤ lines_bytes → Wrote most out 0 (outcome_text (suc k) x (rule (decode ws) x)) out' n
      → Stepped ws (suc k) held out (variants.Went size n) ws' out'
  unfolding step_answer Within step_call words_made player_at reach step step_by past past_record
  record_went size x e f g m w =
      let fit : fits x ≡ true = record_fits (record_in held) x f in
      let q : Player =
      record {
        held = drop size held;
        number = suc (suc k);
        state = state_after (decode ws) (rule (decode ws) x);
        printed = outcome_text (suc k) x (rule (decode ws) x);
        stopped = false;
      } in
      stepped_to ws (suc k) held out (ends size) q (some x) e (rw (e, f)) f (ap (variants.Went size) (at_start w)) (whole_inside held size e, at_most m w) w.laid g
      (ap spells g ∙ spells_after ws x h fit) (ap decode g ∙ decode_after ws x h fit)

-- a record's number is not 0
module _ (ws : List ℕ) (number : ℕ) (held out : List ℕ) (h : spells ws ≡ true) (Some_number : 1 ≤ number) where
  -- so it is the number after one
  abbrev before_number : ℕ
  before_number = number - 1

  is_after : suc before_number ≡ number
  is_after = omega arith

  -- it is cut off
  pub cut_at : record_reach held ≡ cut_off → Stepped ws number held out variants.Waits ws out
  cut_at e = subst (λ (n : ℕ). Stepped ws n held out variants.Waits ws out) is_after (record_waits ws before_number held out h e)

  module _ {most n : ℕ} {out' : List ℕ} (m : most ≤ lines_bytes) (w : Wrote most out 0 (bad_line number) out' n) where
    -- the bad line is that of the number after one
    same_line : Wrote most out 0 (bad_line (suc before_number)) out' n
    same_line = subst (λ (k : ℕ). Wrote most out 0 (bad_line k) out' n) (sym is_after) w

    -- it has too many words
    pub wrong_at : record_reach held ≡ wrong → Stepped ws number held out (variants.Bad n) ws out'
    wrong_at e = subst (λ (k : ℕ). Stepped ws k held out (variants.Bad n) ws out') is_after (record_wrong ws before_number held out h m same_line e)

    -- it is no call
    pub no_call_at : (size : ℕ) → record_reach held ≡ ends size → record_call (record_in held) ≡ none
        → Stepped ws number held out (variants.Bad n) ws out'
    no_call_at size e f =
        subst (λ (k : ℕ). Stepped ws k held out (variants.Bad n) ws out') is_after (record_bad ws before_number held out h m same_line size e f)

  -- it is a call
  pub call_at : {most n : ℕ} {ws' out' : List ℕ} (size : ℕ) (x : Call) → record_reach held ≡ ends size → record_call (record_in held) ≡ some x
      → ws' ≡ after ws x → most ≤ lines_bytes → Wrote most out 0 (outcome_text number x (rule (decode ws) x)) out' n
      → Stepped ws number held out (variants.Went size n) ws' out'
  call_at {most} {n} {ws'} {out'} size x e f g m w =
      subst (λ (k : ℕ). Stepped ws k held out (variants.Went size n) ws' out') is_after
      (record_went ws before_number held out h size x e f g m
      (subst (λ (k : ℕ). Wrote most out 0 (outcome_text k x (rule (decode ws) x)) out' n) (sym is_after) w))

-- ---- at the header

module _ (held out : List ℕ) where
  -- a step whose player comes to q, whatever the state
  header_to : {r : declared.Did} {out' : List ℕ} (reached : Reach) (q : State → Player) → header_reach held ≡ reached
      → ((s : State) → step (player_at s 0 held) ≡ q s) → ((s : State) → r ≡ step_answer reached (q s)) → Within (length held) r
      → ((s : State) → out' ≡ (lay (q s).printed).run 0 out) → HeaderStepped held out r out'
  unfolding reach
  header_to reached q e f answer within text =
      record {
        answer = λ s. answer s ∙ sym (ap₂ step_answer e (f s));
        within = within;
        text = λ s. text s ∙ ap (λ (p : Player). (lay p.printed).run 0 out) (sym (f s));
      }

  -- it is there
  pub header_went : (size : ℕ) → header_reach held ≡ ends size → HeaderStepped held out (variants.Went size 0) out
  unfolding step_answer Within player_at reach step step_by past past_header
  header_went size e =
      header_to (ends size) (λ s. record { held = drop size held; number = 1; state = s; printed = []; stopped = false }) e
      (λ s. rw e) (λ s. refl) (header_inside held size e, omega arith) (λ s. sym (lay_none 0 out))

  -- it is cut off
  pub header_waits : header_reach held ≡ cut_off → HeaderStepped held out variants.Waits out
  unfolding step_answer Within player_at reach step step_by
  header_waits e = header_to cut_off (λ s. player_at s 0 held) e (λ s. rw e) (λ s. refl) tt (λ s. sym (lay_none 0 out))

  -- it is wrong
  pub header_bad : {most n : ℕ} {out' : List ℕ} → most ≤ lines_bytes → Wrote most out 0 (bad_line 0) out' n → header_reach held ≡ wrong
      → HeaderStepped held out (variants.Bad n) out'
  unfolding step_answer Within player_at reach step step_by at_bad
  header_bad m w e =
      header_to wrong (λ s. bad_at s 0 held) e (λ s. rw e) (λ s. ap variants.Bad (at_start w)) (at_most m w) (λ s. w.laid)

-- no call is made at a header
header_state : (s : State) (held : List ℕ) (r : Reach) → reach 0 held ≡ r → s ≡ (step (player_at s 0 held)).state
unfolding step step_by player_at reach past past_header at_bad
header_state s held (ends size) e = rw e
header_state s held cut_off e = rw e
header_state s held wrong e = rw e

-- so with any store it is a step
pub with_store : {held out out' : List ℕ} {r : declared.Did} (ws : List ℕ) (number : ℕ) → number ≡ 0 → spells ws ≡ true
    → HeaderStepped held out r out' → Stepped ws number held out r ws out'
unfolding step_call words_made
with_store {held} ws (suc k) n h e = absurd (omega arith)
with_store {held} ws zero n h e =
    record {
      answer = e.answer (decode ws);
      within = e.within;
      text = e.text (decode ws);
      words = refl;
      spelt = h;
      state = header_state (decode ws) held (reach 0 held) refl;
    }

-- ---- at the end

-- what is printed at the end, and how much
abbrev Ended : ℕ → List ℕ → List ℕ → ℕ → List ℕ → Type 0
Ended number held out r out' = (r ≡ length (end_text number held)) × (out' ≡ (lay (end_text number held)).run 0 out) × (r ≤ lines_bytes)

-- the header is read, and nothing is held
pub ended_well : (number : ℕ) (held out : List ℕ) → 1 ≤ number → length held ≡ 0 → Ended number held out 0 out
unfolding end_text
ended_well zero held out h e = absurd (omega arith)
ended_well (suc k) [] out h e = (refl, sym (lay_none 0 out), omega arith)
ended_well (suc k) (b ∷ held) out h e = absurd (omega arith)

module _ {most n : ℕ} {out out' : List ℕ} (m : most ≤ lines_bytes) where
  -- there is no header
  pub ended_early : (number : ℕ) (held : List ℕ) → number ≡ 0 → Wrote most out 0 (bad_line 0) out' n → Ended number held out n out'
  unfolding end_text
  ended_early zero held e w = (at_start w, w.laid, at_most m w)
  ended_early (suc k) held e w = absurd (omega arith)

  -- a record is begun
  pub ended_inside : (number : ℕ) (held : List ℕ) → 1 ≤ number → 1 ≤ length held → Wrote most out 0 (bad_line number) out' n
      → Ended number held out n out'
  unfolding end_text
  ended_inside zero held g h w = absurd (omega arith)
  ended_inside (suc k) [] g h w = absurd (omega arith)
  ended_inside (suc k) (b ∷ held) g h w = (at_start w, w.laid, at_most m w)
