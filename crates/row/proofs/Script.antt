-- A script read call by call: its calls are the first one and those of the rest, and it has none where its first record is cut
-- off, too long or no call.
use Prim.Native.Nat.{ℕ, ◌≤◌}
use mathlib.Core.Path.{◌≡◌, refl, sym, ap, ◌∙◌}
use mathlib.Core.List.{List, [], ◌∷◌, map}
use mathlib.Core.Option.{Option, none, some, bind}
use native.Mathlib.Omega.{arith}
use lib.ListN.{length, get_or, drop}
use Rattle.rules.specs.Calls.{Call}
use Rattle.trace.specs.Format.{Record, Reach, records_within, records_by}
use Rattle.trace.specs.Format.Reach.{ends, cut_off, wrong}
use Rattle.trace.proofs.Records.{EndsIn, ends_in, by_first, by_wrong, by_cut}
use Rattle.row.specs.Script.{FRONT_WORDS, call_size, call_reach, call_record, in_words, script_call, all_there, script_calls}

-- ---- how far a call reaches

-- what is told of one that ends
abbrev pub WholeCall : List ℕ → ℕ → Type 0
WholeCall ws size = EndsIn (length ws) FRONT_WORDS (get_or ws 1 0) (call_size (get_or ws 1 0)) size

-- one that ends
pub whole_call : (ws : List ℕ) (size : ℕ) → call_reach ws ≡ ends size → WholeCall ws size
unfolding call_reach
whole_call ws size e = ends_in (length ws) FRONT_WORDS (get_or ws 1 0) (call_size (get_or ws 1 0)) size e

-- is not empty, and is there
pub call_inside : (ws : List ℕ) (size : ℕ) → call_reach ws ≡ ends size → (1 ≤ size) × (size ≤ length ws)
call_inside ws size e =
    let w = whole_call ws size e in
    (omega (arith, w.is_size), omega (arith, w.is_size, w.inside))

-- ---- the calls of a script

-- the first, if there is one, and the others, if they are all there
unfoldable pub joined : {A : Type 0} → Option A → Option (List A) → Option (List A)
joined none l = none
joined (some a) l = bind l (λ t. some (a ∷ t))

-- all are there if the first and the others are
pub all_joined : {A : Type 0} (o : Option A) (l : List (Option A)) → all_there (o ∷ l) ≡ joined o (all_there l)
unfolding all_there joined
all_joined none l = refl
all_joined (some a) l = refl

-- no words, no calls
pub script_empty : script_calls [] ≡ some []
unfolding script_calls all_there records_by records_within
script_empty = refl

-- the first call, and those after it
pub script_first : (ws : List ℕ) (size : ℕ) → call_reach ws ≡ ends size
    → script_calls ws ≡ joined (script_call (call_record ws)) (script_calls (drop size ws))
unfolding script_calls bind
script_first ws size e =
    ap (λ (l : List (Option Record)). all_there (map (λ (r : Option Record). bind r script_call) l)) (by_first in_words call_inside ws size e)
    ∙ all_joined (script_call (call_record ws)) _

-- none where the first record is not there whole
pub script_cut : (w : ℕ) (ws : List ℕ) → call_reach (w ∷ ws) ≡ cut_off → script_calls (w ∷ ws) ≡ none
unfolding script_calls all_there bind
script_cut w ws e =
    ap (λ (l : List (Option Record)). all_there (map (λ (r : Option Record). bind r script_call) l)) (by_cut in_words call_inside w ws e)

-- nor where it has too many words
pub script_wrong : (w : ℕ) (ws : List ℕ) → call_reach (w ∷ ws) ≡ wrong → script_calls (w ∷ ws) ≡ none
unfolding script_calls all_there bind
script_wrong w ws e =
    ap (λ (l : List (Option Record)). all_there (map (λ (r : Option Record). bind r script_call) l)) (by_wrong in_words call_inside w ws e)

-- ---- a script that is right

-- its first call, where it ends, and those after it
pub record FirstCall (ws : List ℕ) (calls : List Call) : Type 0 where
  pub first : Call
  pub others : List Call
  pub size : ℕ
  pub are : calls ≡ first ∷ others
  pub ends_there : call_reach ws ≡ ends size
  pub is_call : script_call (call_record ws) ≡ some first
  pub follow : script_calls (drop size ws) ≡ some others

-- there is no call where there is none
no_calls : {A : Type 0} (o : Option (List Call)) (calls : List Call) → o ≡ none → o ≡ some calls → A
no_calls o calls e f = absurd (let z : ◌≡◌ {A = ℕ} 0 1 = cc in omega arith)

-- every script that is right and not empty has one
pub first_call : (ws : List ℕ) (calls : List Call) → 1 ≤ length ws → script_calls ws ≡ some calls → FirstCall ws calls
unfolding joined bind
first_call [] calls h e = absurd (omega arith)
first_call (w ∷ ws) calls h e = go (call_reach (w ∷ ws)) refl
  where
    joined_is : (o : Option Call) (l : Option (List Call)) (size : ℕ) → call_reach (w ∷ ws) ≡ ends size
        → script_call (call_record (w ∷ ws)) ≡ o → script_calls (drop size (w ∷ ws)) ≡ l → joined o l ≡ some calls → FirstCall (w ∷ ws) calls
    joined_is none l size r p q j = absurd (let z : ◌≡◌ {A = ℕ} 0 1 = cc in omega arith)
    joined_is (some x) none size r p q j = absurd (let z : ◌≡◌ {A = ℕ} 0 1 = cc in omega arith)
    joined_is (some x) (some others) size r p q j =
        record { first = x; others = others; size = size; are = cc; ends_there = r; is_call = p; follow = q }

    go : (r : Reach) → call_reach (w ∷ ws) ≡ r → FirstCall (w ∷ ws) calls
    go (ends size) r = joined_is _ _ size r refl refl (sym (script_first (w ∷ ws) size r) ∙ e)
    go cut_off r = no_calls (script_calls (w ∷ ws)) calls (script_cut w ws r) e
    go wrong r = no_calls (script_calls (w ∷ ws)) calls (script_wrong w ws r) e
