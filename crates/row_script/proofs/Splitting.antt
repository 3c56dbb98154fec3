-- The first call of a script: its front, its count and its words are looked for in this order, then it is read.
use Prim.Native.Nat.{ℕ, ◌-◌, ◌≤◌, ◌<◌}
use mathlib.Core.Path.{◌≡◌, sym, ap, ap₂, ◌∙◌}
use mathlib.Core.List.{List, [], ◌∷◌}
use mathlib.Core.Option.{Option, none, some}
use native.Mathlib.Omega.{arith}
use lib.ListN.{length, get_or, take, drop, length-drop}
use lib.Seq.{drop-drop}
use borrow.Author.Tests.{lt-ltb, le-ltb}
use Rattle.std.proofs.lemmas.List.{take_rest}
use Rattle.rules.specs.Calls.{Call}
use Rattle.trace.specs.Format.{MOST_WORDS}
use Rattle.trace.specs.Format.Reach.{ends, cut_off, wrong}
use Rattle.trace.specs.Calls.{call_of}
use Rattle.trace.proofs.Records.{reaches_in}
use Rattle.trace_form.specs.declared.Call as declared
use Rattle.trace_form.specs.Calls.{as_call}
use Rattle.row.specs.Script.{FRONT_WORDS, call_size, call_reach, call_record, script_call, script_calls}
use Rattle.row.proofs.Script.{joined, script_first, script_cut, script_wrong}
use Rattle.row_script.specs.Split.{with_first, NoneThere, CallThere}

module _ (ws : List ℕ) where
  -- the words behind a call's front
  abbrev pub behind : List ℕ
  behind = take (length ws - FRONT_WORDS) (drop FRONT_WORDS ws)

  -- the count of its words, and those of them that stand there
  abbrev count : ℕ
  count = get_or ws 1 0

  -- it is cut off
  cut : call_reach ws ≡ cut_off → NoneThere ws
  cut e h = go ws h e
    where
      go : (l : List ℕ) → 1 ≤ length l → call_reach l ≡ cut_off → script_calls l ≡ none
      go [] k f = absurd (omega arith)
      go (w ∷ l) k f = script_cut w l f

  -- it has too many words
  too_many : call_reach ws ≡ wrong → NoneThere ws
  too_many e h = go ws h e
    where
      go : (l : List ℕ) → 1 ≤ length l → call_reach l ≡ wrong → script_calls l ≡ none
      go [] k f = absurd (omega arith)
      go (w ∷ l) k f = script_wrong w l f

  -- its front is not there
  pub no_front : length ws < FRONT_WORDS → NoneThere ws
  unfolding call_reach
  no_front h = cut (rw (lt-ltb (length ws) FRONT_WORDS h))

  module _ (front : FRONT_WORDS ≤ length ws) where
    -- its count is too large
    pub too_long : MOST_WORDS < count → NoneThere ws
    unfolding call_reach
    too_long h = too_many (rw (le-ltb (length ws) FRONT_WORDS front, lt-ltb MOST_WORDS count h))

    -- so many words are behind it
    many_behind : length behind ≡ length ws - FRONT_WORDS
    many_behind = ap length (take_rest ws FRONT_WORDS) ∙ length-drop FRONT_WORDS ws

    module _ (few : count ≤ MOST_WORDS) where
      -- its words are not there
      pub no_words : length behind < count → NoneThere ws
      unfolding call_reach
      no_words h =
          let b = many_behind in
          cut
          (rw (
            le-ltb (length ws) FRONT_WORDS front,
            le-ltb MOST_WORDS count few,
            lt-ltb (length ws) (call_size count) (omega arith),
          ))

      module _ (there : count ≤ length behind) where
        -- it ends there
        it_ends : call_reach ws ≡ ends (call_size count)
        unfolding call_reach
        it_ends = let b = many_behind in reaches_in (length ws) FRONT_WORDS count (call_size count) front few (omega arith)

        -- what its kind and its words are read as is its call
        its_call : {o : Option Call} → o ≡ call_of 0 (get_or ws 0 0) (take count behind) → script_call (call_record ws) ≡ o
        unfolding script_call call_record
        its_call e = ap (λ l. call_of 0 (get_or ws 0 0) (take count l)) (sym (take_rest ws FRONT_WORDS)) ∙ sym e

        -- it is none
        pub no_call : none ≡ call_of 0 (get_or ws 0 0) (take count behind) → NoneThere ws
        unfolding joined
        no_call e h =
            script_first ws (call_size count) it_ends ∙ ap (λ o. joined o (script_calls (drop (call_size count) ws))) (its_call e)

        -- it is one, and the rest stands after it
        pub a_call : (x : declared.Call) → some (as_call 0 x) ≡ call_of 0 (get_or ws 0 0) (take count behind)
            → {rest : List ℕ} → rest ≡ drop count behind → CallThere ws x rest
        unfolding joined with_first
        a_call x e {rest} r =
            let b = many_behind in
            let after : rest ≡ drop (call_size count) ws = r ∙ ap (drop count) (take_rest ws FRONT_WORDS) ∙ drop-drop count FRONT_WORDS ws in
            let l = length-drop (call_size count) ws in
            record {
              are =
                  script_first ws (call_size count) it_ends
                  ∙ ap₂ (λ o l. joined o (script_calls l)) (its_call e) (sym after);
              shorter = omega (arith, ap length after);
            }
