-- The calls over words are the calls over states: what a call leaves in a store decodes to the state after it by the rule,
-- and spells a state again.
use mathlib.Core.Path.{◌≡◌, refl, sym, ap, ◌∙◌, subst}
use mathlib.Core.Bool.{Bool, true, false, not}
use mathlib.Core.List.{List, [], ◌∷◌}
use Prim.Native.Nat.{ℕ, ◌≤◌}
use lib.Dec.{eqb}
use lib.ListN.{length, drop}
use borrow.Author.Tests.{le-leb, le-ltb}
use Rattle.words.proofs.Check.{and_left, and_right}
use Rattle.rules.specs.Table.{all}
use Rattle.rules.specs.State.{State}
use Rattle.rules.specs.Outcome.{Outcome, guard}
use Rattle.rules.specs.Outcome.Outcome.{refused, short, done}
use Rattle.rules.specs.Outcome.Value.{nothing}
use Rattle.rules.specs.Valid.{valid}
use Rattle.rules.specs.Calls as rules
use Rattle.rules.specs.Calls.{Call, needed, opened, opening, rule, state_after, fits, answer_word}
use Rattle.rules.proofs.Valid.{says_valid}
use Rattle.rules.proofs.Kept.{opened_valid, valid_kept, entries_kept}
use Rattle.layout.specs.Layout.{decode, spells, put}
use Rattle.layout.specs.Calls.{outcome, words_after, answer, after, run, open_outcome, open_after}
use Rattle.layout.proofs.Body.{valid_shaped}
use Rattle.layout.proofs.Store.{put_decode, decode_put, put_spells, spells_canon, spells_valid, length_put, drop_put}

-- ---- one call

-- words that spell no state: refusal 1, and nothing changes
pub answer_none : (ws : List ℕ) (x : Call) → spells ws ≡ false → answer ws x ≡ 1
unfolding answer outcome answer_word
answer_none ws x h = rw h

-- and every word stays
pub after_none : (ws : List ℕ) (x : Call) → spells ws ≡ false → after ws x ≡ ws
unfolding after outcome words_after
after_none ws x h = rw h

-- words that spell a state: the rule
pub outcome_is : (ws : List ℕ) (x : Call) → spells ws ≡ true → outcome ws x ≡ rule (decode ws) x
unfolding outcome
outcome_is ws x h = rw h

-- what an outcome leaves is a put of the state after it
pub words_after_put : (ws : List ℕ) (o : Outcome) → spells ws ≡ true → words_after ws o ≡ put ws (state_after (decode ws) o)
unfolding words_after state_after
words_after_put ws (refused n) h = sym (put_decode (spells_canon h))
words_after_put ws (short n) h = sym (put_decode (spells_canon h))
words_after_put ws (done v t) h = refl

-- the words after a call are a put of the state after it by the rule
pub after_put : (ws : List ℕ) (x : Call) → spells ws ≡ true → after ws x ≡ put ws (state_after (decode ws) (rule (decode ws) x))
unfolding after
after_put ws x h = ap (words_after ws) (outcome_is ws x h) ∙ words_after_put ws (rule (decode ws) x) h

-- and the answer is the rule's
pub answer_is : (ws : List ℕ) (x : Call) → spells ws ≡ true → answer ws x ≡ answer_word (rule (decode ws) x)
unfolding answer
answer_is ws x h = ap answer_word (outcome_is ws x h)

module _ (ws : List ℕ) (x : Call) (h : spells ws ≡ true) where
  -- a call keeps the length of the store
  pub length_after : length (after ws x) ≡ length ws
  length_after =
      ap length (after_put ws x h)
      ∙ length_put ws (state_after (decode ws) (rule (decode ws) x))
      (subst (λ (n : ℕ). needed n ≤ length ws) (sym (entries_kept (decode ws) x)) (spells_canon h).long_needed)

  -- and the words past the needed ones
  pub drop_after : drop (needed (decode ws).entries) (after ws x) ≡ drop (needed (decode ws).entries) ws
  drop_after =
      let t : State = state_after (decode ws) (rule (decode ws) x) in
      ap (drop (needed (decode ws).entries)) (after_put ws x h)
      ∙ subst (λ (n : ℕ). drop (needed n) (put ws t) ≡ drop (needed n) ws) (entries_kept (decode ws) x) (drop_put ws t)

  module _ (f : fits x ≡ true) where
    -- the state after a call
    pub decode_after : decode (after ws x) ≡ state_after (decode ws) (rule (decode ws) x)
    decode_after =
        let t : State = state_after (decode ws) (rule (decode ws) x) in
        ap decode (after_put ws x h) ∙ decode_put ws t (valid_shaped t (valid_kept (decode ws) x (spells_valid ws h) f))

    -- the words after a call spell a state
    pub spells_after : spells (after ws x) ≡ true
    spells_after =
        ap spells (after_put ws x h)
        ∙ put_spells ws (state_after (decode ws) (rule (decode ws) x)) (valid_kept (decode ws) x (spells_valid ws h) f)

-- ---- a list of calls

-- the state after a list of calls
pub decode_run : (ws : List ℕ) (calls : List Call) → spells ws ≡ true → all fits calls ≡ true
    → decode (run ws calls) ≡ rules.run (decode ws) calls
unfolding run rules.run all
decode_run ws [] h f = refl
decode_run ws (x ∷ calls) h f =
    let g : fits x ≡ true = and_left (fits x) (all fits calls) f in
    decode_run (after ws x) calls (spells_after ws x h g) (and_right (fits x) (all fits calls) f)
    ∙ ap (λ (s : State). rules.run s calls) (decode_after ws x h g)

-- the words after it spell a state
pub spells_run : (ws : List ℕ) (calls : List Call) → spells ws ≡ true → all fits calls ≡ true → spells (run ws calls) ≡ true
unfolding run all
spells_run ws [] h f = h
spells_run ws (x ∷ calls) h f =
    spells_run (after ws x) calls (spells_after ws x h (and_left (fits x) (all fits calls) f)) (and_right (fits x) (all fits calls) f)

-- and are as many
pub length_run : (ws : List ℕ) (calls : List Call) → spells ws ≡ true → all fits calls ≡ true → length (run ws calls) ≡ length ws
unfolding run all
length_run ws [] h f = refl
length_run ws (x ∷ calls) h f =
    length_run (after ws x) calls (spells_after ws x h (and_left (fits x) (all fits calls) f)) (and_right (fits x) (all fits calls) f)
    ∙ length_after ws x h

-- ---- opening

-- a store just opened is valid
just_opened : (e : ℕ) (leak noop : Bool) → 1 ≤ e → e ≤ 4096 → valid (opened e leak noop) ≡ true
just_opened e leak noop h k = (says_valid (opened e leak noop)).given (opened_valid e leak noop h k)

module _ (ws : List ℕ) (e leak noop : ℕ) (h : 1 ≤ e) (k : e ≤ 4096) (l : needed e ≤ length ws) where
  -- opening is done
  pub open_done : open_outcome ws e leak noop ≡ done nothing (opened e (not (eqb leak 0)) (not (eqb noop 0)))
  unfolding open_outcome opening guard
  open_done = rw (le-leb 1 e h, le-leb e 4096 k, le-ltb (length ws) (needed e) l)

  -- and puts the state just opened
  pub open_put : open_after ws e leak noop ≡ put ws (opened e (not (eqb leak 0)) (not (eqb noop 0)))
  unfolding open_after words_after
  open_put = ap (words_after ws) open_done

  -- what is decoded is that state
  pub open_decode : decode (open_after ws e leak noop) ≡ opened e (not (eqb leak 0)) (not (eqb noop 0))
  open_decode =
      let t : State = opened e (not (eqb leak 0)) (not (eqb noop 0)) in
      ap decode open_put ∙ decode_put ws t (valid_shaped t (just_opened e (not (eqb leak 0)) (not (eqb noop 0)) h k))

  -- and the words spell it
  pub open_spells : spells (open_after ws e leak noop) ≡ true
  open_spells =
      ap spells open_put
      ∙ put_spells ws (opened e (not (eqb leak 0)) (not (eqb noop 0))) (just_opened e (not (eqb leak 0)) (not (eqb noop 0)) h k)
