-- Codecs: how a value is spelt in a fixed number of words, and read back from words.
-- A layout is put together from the codecs here, each of which comes with its three laws, so that no layout proves them again.
-- `enc` always gives exactly `width` words, `dec` reads any words, and an `Ok` value comes back as it was.
use Rattle.std.specs.Prelude.{◌≡◌, Bool, true, false, length, get_or, drop, replicate}
use Rattle.std.proofs.Math.Path.{refl, ap}
use Rattle.std.proofs.Common.{sym, ap₂, ◌∙◌, length-append}
use mathlib.Core.List.{List, [], ◌∷◌, ◌++◌, append_assoc}
use Prim.Native.Nat.{ℕ, zero, suc, ◌+◌, ◌-◌, ◌*◌, ◌≤◌, min}
use native.Mathlib.Omega.{arith}
use Rattle.std.proofs.lemmas.List.{length-replicate}
use Rattle.std.proofs.Math.Seq.{drop_at}
use Rattle.words.specs.Words.{fit, length_fit, fit_fill, slots_left}

-- How a value of A is spelt in `width` words, and read back.
pub record Codec (A : Type 0) : Type 1 where
  pub width : ℕ
  pub enc : A → List ℕ
  pub dec : List ℕ → A
  pub Ok : A → Type 0
  pub len : (a : A) → length (enc a) ≡ width
  pub round : (a : A) (r : List ℕ) → Ok a → dec (enc a ++ r) ≡ a
  pub sound : (ws : List ℕ) → Ok (dec ws)

-- One word: any number.
unfoldable pub word : Codec ℕ
word = record { width = 1; enc = λ n. n ∷ []; dec = λ ws. get_or ws 0 0; Ok = λ n. Unit {0}; len = λ n. refl; round = λ n r h. refl; sound = λ ws. tt }

-- Reserved space: k words of 0.
unfoldable pub zeros : ℕ → Codec (Unit {0})
zeros k =
    record {
      width = k;
      enc = λ u. replicate k 0;
      dec = λ ws. tt;
      Ok = λ u. Unit {0};
      len = λ u. length-replicate k 0;
      round = λ u r h. refl;
      sound = λ ws. tt;
    }

module _ {A B : Type 0} where
  pub pair_round : (c : Codec A) (d : Codec B) (p : A × B) (r : List ℕ) (h : c.Ok p.0 × d.Ok p.1)
      → ◌≡◌ {A = A × B} (c.dec (c.enc p.0 ++ d.enc p.1 ++ r), d.dec (drop c.width (c.enc p.0 ++ d.enc p.1 ++ r))) p
  pair_round c d p r h =
      rw (
        append_assoc (c.enc p.0) (d.enc p.1) r,
        drop_at (c.enc p.0) (d.enc p.1 ++ r) c.width (c.len p.0),
        c.round p.0 (d.enc p.1 ++ r) h.0,
        d.round p.1 r h.1,
      )

  -- Two values, the words of the first and then those of the second.
  unfoldable pub pair : Codec A → Codec B → Codec (A × B)
  pair c d =
      record {
        width = c.width + d.width;
        enc = λ p. c.enc p.0 ++ d.enc p.1;
        dec = λ ws. (c.dec ws, d.dec (drop c.width ws));
        Ok = λ p. c.Ok p.0 × d.Ok p.1;
        len = λ p. length-append (c.enc p.0) (d.enc p.1) ∙ ap₂ ◌+◌ (c.len p.0) (d.len p.1);
        round = pair_round c d;
        sound = λ ws. (c.sound ws, d.sound (drop c.width ws));
      }

module _ {A : Type 0} where
  -- A change of type: b is spelt by c as `from b`, and read back by `to`.
  -- Asked: `to (from b)` is b, and an Ok a is Ok again as `from (to a)`; that this is a itself is not asked.
  pub record Change (c : Codec A) (B : Type 0) : Type 0 where
    pub to : A → B
    pub from : B → A
    pub back : (b : B) → to (from b) ≡ b
    pub keeps : (a : A) → c.Ok a → c.Ok (from (to a))

module _ {A B : Type 0} {c : Codec A} where
  -- A value of B, by a change of type.
  unfoldable pub via : Change c B → Codec B
  via v =
      record {
        width = c.width;
        enc = λ b. c.enc (v.from b);
        dec = λ ws. v.to (c.dec ws);
        Ok = λ b. c.Ok (v.from b);
        len = λ b. c.len (v.from b);
        round = λ b r h. ap v.to (c.round (v.from b) r h) ∙ v.back b;
        sound = λ ws. v.keeps (c.dec ws) (c.sound ws);
      }

-- 0 is false, any other word is true.
abbrev pub is_set : ℕ → Bool
is_set zero = false
is_set (suc n) = true

-- true is 1, false is 0.
abbrev pub bit : Bool → ℕ
bit false = 0
bit true = 1

-- a Bool comes back as it was
pub isSet_bit : (b : Bool) → is_set (bit b) ≡ b
isSet_bit false = refl
isSet_bit true = refl

-- A Bool as 0 or 1; any word but 0 reads as true.
unfoldable pub asFlag : Change word Bool
unfolding word
asFlag = record { to = is_set; from = bit; back = isSet_bit; keeps = λ n h. tt }

-- One word: a Bool.
unfoldable pub flag : Codec Bool
flag = via asFlag

-- Nothing, as the word n.
unfoldable pub asTag : ℕ → Change word (Unit {0})
unfolding word
asTag n = record { to = λ w. tt; from = λ u. n; back = λ u. refl; keeps = λ w h. tt }

-- One word that is always n.
unfoldable pub tag : ℕ → Codec (Unit {0})
tag n = via (asTag n)

module _ {A : Type 0} where
  -- P holds of each element.
  abbrev pub All : (A → Type 0) → List A → Type 0
  All P [] = Unit {0}
  All P (a ∷ l) = P a × All P l

  -- A list of at most cap elements, each of which has P.
  pub record Fits (P : A → Type 0) (cap : ℕ) (l : List A) : Type 0 where
    pub short : length l ≤ cap
    pub each : All P l

  -- A list of n elements, each of which has P.
  pub record Fills (P : A → Type 0) (n : ℕ) (l : List A) : Type 0 where
    pub full : length l ≡ n
    pub each : All P l

  -- The spellings of the elements, one after another.
  unfoldable pub spell : Codec A → List A → List ℕ
  spell c [] = []
  spell c (a ∷ l) = c.enc a ++ spell c l

  -- The values that n slots hold, one after another.
  unfoldable pub slots : Codec A → ℕ → List ℕ → List A
  slots c zero ws = []
  slots c (suc n) ws = c.dec ws ∷ slots c n (drop c.width ws)

  pub length_spell : (c : Codec A) (l : List A) → length (spell c l) ≡ length l * c.width
  unfolding spell
  length_spell c [] = omega arith
  length_spell c (a ∷ l) = rw (length-append (c.enc a) (spell c l), c.len a, length_spell c l) (omega arith)

  pub length_slots : (c : Codec A) (n : ℕ) (ws : List ℕ) → length (slots c n ws) ≡ n
  unfolding slots
  length_slots c zero ws = refl
  length_slots c (suc n) ws = ap suc (length_slots c n (drop c.width ws))

  pub slots_sound : (c : Codec A) (n : ℕ) (ws : List ℕ) → All c.Ok (slots c n ws)
  unfolding slots
  slots_sound c zero ws = tt
  slots_sound c (suc n) ws = (c.sound ws, slots_sound c n (drop c.width ws))

  pub slots_spell : (c : Codec A) (l : List A) (r : List ℕ) → All c.Ok l → slots c (length l) (spell c l ++ r) ≡ l
  unfolding slots spell
  slots_spell c [] r h = refl
  slots_spell c (a ∷ l) r h =
      rw (
        append_assoc (c.enc a) (spell c l) r,
        drop_at (c.enc a) (spell c l ++ r) c.width (c.len a),
        c.round a (spell c l ++ r) h.0,
        slots_spell c l r h.1,
      )

  -- What is short enough for n slots is spelt whole, and the slots that are left are 0.
  pub spell_fit : (c : Codec A) (n : ℕ) (l : List A) → length l ≤ n
      → fit (n * c.width) (spell c l) ≡ spell c l ++ replicate ((n - length l) * c.width) 0
  spell_fit c n l h = fit_fill (spell c l) ((n - length l) * c.width) (n * c.width) (rw length_spell (slots_left (length l) n c.width h))

  pub slots_fit : (c : Codec A) (n k : ℕ) (l : List A) (r : List ℕ) → k ≡ length l → length l ≤ n → All c.Ok l
      → slots c k (fit (n * c.width) (spell c l) ++ r) ≡ l
  slots_fit c n k l r e h ok =
      rw (e, spell_fit c n l h, append_assoc (spell c l)) (slots_spell c l (replicate ((n - length l) * c.width) 0 ++ r) ok)

  -- A list of n values in n slots. A shorter one is filled with zeros, a longer one is cut.
  unfoldable pub exactly : Codec A → ℕ → Codec (List A)
  exactly c n =
      record {
        width = n * c.width;
        enc = λ l. fit (n * c.width) (spell c l);
        dec = λ ws. slots c n ws;
        Ok = λ l. Fills c.Ok n l;
        len = λ l. length_fit (n * c.width) (spell c l);
        round = λ l r h. slots_fit c n n l r (sym h.full) (omega arith) h.each;
        sound = λ ws. record { full = length_slots c n ws; each = slots_sound c n ws };
      }

  -- A list of at most cap values: a count, then cap slots, of which those past the count are 0. A longer one is cut.
  unfoldable pub upto : Codec A → ℕ → Codec (List A)
  upto c cap =
      record {
        width = 1 + cap * c.width;
        enc = λ l. min cap (length l) ∷ fit (cap * c.width) (spell c l);
        dec = λ ws. slots c (min cap (get_or ws 0 0)) (drop 1 ws);
        Ok = λ l. Fits c.Ok cap l;
        len = λ l. rw length_fit (omega arith);
        round = λ l r h. slots_fit c cap (min cap (min cap (length l))) l r (omega arith) h.short h.each;
        sound = λ ws. record { short = rw length_slots (omega arith); each = slots_sound c (min cap (get_or ws 0 0)) (drop 1 ws) };
      }
