-- Each record of a store tested by parts, as the functions of `canonical.rt` do it: the equations of the layout, said with
-- the tests that the code calls.
use mathlib.Core.Path.{◌≡◌, refl, sym, ap, ap₂, ◌∙◌}
use mathlib.Core.Bool.{Bool, ◌&&◌, and_assoc}
use mathlib.Core.List.{List}
use Prim.Native.Nat.{ℕ, ◌+◌, ◌*◌, ◌≤◌}
use native.Mathlib.Omega.{arith}
use lib.Dec.{leb, eqb}
use lib.ListN.{length, get_or, drop}
use Rattle.words.specs.Words.{blank}
use Rattle.words.specs.Codec.{upto}
use Rattle.words.specs.Store.{canonical}
use Rattle.layout.specs.Records.{consumer_codec, topic_codec, dispatcher_codec, mark_codec}
use Rattle.layout.specs.Offsets.{flight_in, held_in, marks_in}
use Rattle.layout.proofs.Check.{check_consumer, check_topic, check_dispatcher}
use Rattle.check_words.specs.Canonical.{list_canonical, lists_canonical}
use Rattle.check_words.proofs.Spelt.{list_of_words, list_of_slots, blank_one}

-- a consumer
pub consumer_parts : (ws : List ℕ) → 72 ≤ length ws
    → canonical consumer_codec ws ≡ (leb (get_or ws 3 0) 1 && (list_canonical (drop 6 ws) 64 1 && eqb (get_or ws 71 0) 0))
consumer_parts ws h =
    check_consumer 0 ws h
    ∙ ap₂ {A = Bool} {B = Bool} (λ x y. leb (get_or ws 3 0) 1 && (x && y)) (sym (list_of_words ws 6 7 64 refl)) (blank_one ws 71 (omega arith))

-- a topic
pub topic_parts : (ws : List ℕ) (e : ℕ) → 4 + 4 * e ≤ length ws
    → canonical (topic_codec e) ws ≡ (blank 2 (drop 1 ws) && list_canonical (drop 3 ws) e 4)
topic_parts ws e h =
    check_topic e 0 ws (omega arith) ∙ ap (λ (x : Bool). blank 2 (drop 1 ws) && x) (sym (list_of_slots ws 3 4 e 4 refl))

-- a dispatcher
pub dispatcher_parts : (ws : List ℕ) (e : ℕ) → 176 + 9 * e ≤ length ws
    → canonical (dispatcher_codec e) ws
    ≡ (blank 5 (drop 6 ws) && (lists_canonical ws e && canonical (upto mark_codec e) (drop (175 + 3 * e) ws)))
unfolding lists_canonical
dispatcher_parts ws e h =
    let m : 0 + marks_in e ≡ 175 + 3 * e = omega arith in
    let f : 0 + flight_in e ≡ flight_in e = omega arith in
    check_dispatcher e 0 ws (omega arith)
    ∙ ap (λ (x : Bool). blank 5 (drop 6 ws) && x)
    (ap₂ {A = Bool} {B = Bool} ◌&&◌ (sym (list_of_words ws 11 12 32 refl))
    (ap₂ {A = Bool} {B = Bool} ◌&&◌ (sym (list_of_slots ws 44 45 64 2 refl))
    (ap₂ {A = Bool} {B = Bool} ◌&&◌ (sym (list_of_words ws 173 174 e refl))
    (ap₂ {A = Bool} {B = Bool} ◌&&◌
    (sym (list_of_slots ws (0 + flight_in e) (0 + held_in e 0) e 2 (omega arith)) ∙ ap (λ (k : ℕ). list_canonical (drop k ws) e 2) f)
    (ap (λ (k : ℕ). canonical (upto mark_codec e) (drop k ws)) m))))
    ∙ simp and_assoc refl)
