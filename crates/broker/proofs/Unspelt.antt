-- A call on words: 1 where they spell no state, and then they stay; else what is answered by the operation.
use mathlib.Core.Path.{◌≡◌, refl}
use mathlib.Core.Bool.{Bool, true, false}
use mathlib.Core.List.{List}
use Prim.Native.Nat.{ℕ}
use Rattle.rules.specs.Calls.{Call, answer_word}
use Rattle.layout.specs.Layout.{spells}
use Rattle.layout.specs.Calls.{outcome, words_after, answer, after, with_records, made_words, list_after}

-- the answer and the words
pub unspelt : (ws : List ℕ) (x : Call) → spells ws ≡ false → record { answer : 1 ≡ answer ws x; words : ws ≡ after ws x }
unfolding answer after outcome words_after answer_word
unspelt ws x e = rw e record { answer = refl; words = refl }

-- and a lent list
pub unspelt_list : (ws : List ℕ) (x : Call) {list left : List ℕ} → spells ws ≡ false → left ≡ list → left ≡ list_after list (outcome ws x)
unfolding outcome made_words with_records list_after
unspelt_list ws x e stays = rw (stays, e)

-- words spell a state or they spell none
pub by_spells : (ws : List ℕ) {Left : Type 0} → (spells ws ≡ true → Left) → (spells ws ≡ false → Left) → Left
by_spells ws {Left} spelt none = go (spells ws) spelt none
  where
    go : (t : Bool) → (t ≡ true → Left) → (t ≡ false → Left) → Left
    go true f g = f refl
    go false f g = g refl

-- what a call answers and leaves, from both cases
pub answered : {ws us : List ℕ} {r : ℕ} {Call_left : Type 0} (x : Call)
    → (spells ws ≡ true → record { answer : r ≡ answer ws x; words : us ≡ after ws x })
    → (spells ws ≡ false → (r ≡ 1) × (us ≡ ws) × Call_left)
    → record { answer : r ≡ answer ws x; words : us ≡ after ws x }
answered {ws} x spelt none = by_spells ws spelt (λ e. let s = none e in rw (s.0, s.1) (unspelt ws x e))
