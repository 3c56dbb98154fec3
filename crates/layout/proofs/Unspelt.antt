-- The examples of refusal 1.
use Prim.Native.Nat.{ℕ, ◌<◌}
use mathlib.Core.Path.{◌≡◌, sym, ap, ◌∙◌}
use mathlib.Core.Bool.{false, false≢true}
use mathlib.Core.List.{List, []}
use native.Mathlib.Omega.{arith}
use lib.Dec.{eqb, lit<}
use lib.ListN.{length, get_or, replicate, get_or-replicate}
use borrow.Author.Tests.{eq-eqb}
use Rattle.rules.specs.Calls.{answer_word}
use Rattle.rules.proofs.Table.{by_test}
use Rattle.layout.specs.Layout.{layout_tag, header_of, decode, spells}
use Rattle.layout.specs.Calls.{outcome, words_after, answer, after}
use Rattle.layout.specs.Unspelt.{Refused1, RefusedExamples}
use Rattle.layout.proofs.Store.{spells_canon}
use Rattle.layout.proofs.Header.{reads_layout_tag}
use Rattle.layout.proofs.Gets.{read_header}

-- words that spell no state
refused_1 : (ws : List ℕ) → spells ws ≡ false → Refused1 ws
unfolding answer after outcome words_after answer_word
refused_1 ws e = record { answers_1 = λ x. rw e; leaves = λ x. rw e }

-- too few words
short : (ws : List ℕ) → length ws < 4224 → Refused1 ws
short ws h =
    refused_1 ws
    (by_test (spells ws)
    (λ t. let l = (spells_canon t).long in let e = (spells_canon t).E_from in absurd (omega arith))
    (λ t. t))

-- another tag
tagged : (ws : List ℕ) → eqb (get_or ws 0 0) layout_tag ≡ false → Refused1 ws
tagged ws h =
    refused_1 ws
    (by_test (spells ws)
    (λ t.
    let e : get_or ws 0 0 ≡ layout_tag = read_header (spells_canon t) (reads_layout_tag (header_of (decode ws))) in
    absurd (false≢true (sym h ∙ eq-eqb (get_or ws 0 0) layout_tag e)))
    (λ t. t))

-- all of them
pub refused_examples : RefusedExamples
refused_examples =
    record {
      no_words = short [] (lit< tt);
      all_zero = tagged (replicate 8192 0) (ap (λ (n : ℕ). eqb n layout_tag) (get_or-replicate {A = ℕ} 8192 0 0 0 (lit< tt)));
      too_short = short;
      other_tag = tagged;
    }
