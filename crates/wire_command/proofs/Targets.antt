-- A seek's target: what the readers of `seek.rt` know of it after each of their steps.
use Prim.Native.Nat.{ℕ, ◌-◌, ◌≤◌}
use mathlib.Core.Path.{◌≡◌, refl, sym, ◌∙◌}
use mathlib.Core.List.{List, [], ◌∷◌}
use mathlib.Core.Option.{none, some, bind}
use native.Mathlib.Omega.{arith}
use lib.ListN.{length, get_or, take, drop}
use Rattle.rules.specs.Commands as rules
use Rattle.wire.specs.Fields.{Field, fields}
use Rattle.wire.specs.Select.{numbered, part}
use Rattle.wire.specs.Commands.{target_of}
use Rattle.wire_fields.specs.Picked.{nothing_seen, picked}
use Rattle.wire_fields.specs.Selected.{place}
use Rattle.wire_fields.specs.declared.pick.Seen.{Seen}
use Rattle.wire_fields.specs.declared.select.Place.{Place}
use Rattle.wire_fields.proofs.Selections.{Saw, PartAt, count_after, none_counted, walked, at_a, part_is}
use Rattle.std.specs.Prelude.{Some, None}
use Rattle.wire_fields.specs.Found.{answered}
use Rattle.wire_fields.proofs.Answered.{from_some, from_none}
use Rattle.wire_command.proofs.Steps.{part_inside}
use Rattle.wire_command.specs.Found.{target_in, target_of_bytes, as_target}
use Rattle.command_parts.specs.declared.Target.{Target}

-- none was seen: there is none
pub none_there : {wire : ℕ} {l : List Field} {s : Seen} → Saw wire l s → s.count ≡ 0 → l ≡ []
none_there {l = []} w e = refl
none_there {wire = wire} {l = f ∷ l} {s = s} w e = absurd (omega (arith, none_counted wire f l s w))

-- one was seen, and no part is right: the target is not
pub target_none : {wire : ℕ} (m : List ℕ) {l : List Field} {s : Seen} → Saw wire l s → (s.count ≡ 0 → ⊥) → part l ≡ none
    → target_of m l ≡ none
unfolding target_of bind count_after
target_none m {l = []} w h e = absurd (h w.count)
target_none m {l = f ∷ l} w h e = rw e

-- the target is the part's
pub target_part : (m : List ℕ) {l : List Field} {start next : ℕ} → PartAt l start next
    → target_of m l ≡ target_in (take (next - start) (drop start m))
unfolding part target_of target_in bind
target_part m {l = []} p = let e = p.is in let z : ◌≡◌ {A = ℕ} 0 1 = cc in absurd (omega arith)
target_part m {l = f ∷ l} p = rw (p.is, p.starts, p.ends)

-- the part that was found of an id lies inside the message
pub id_inside : (m : List ℕ) {seen : List Seen} {p : Place} → Some seen ≡ picked m (26 ∷ []) → Some p ≡ place (get_or seen 0 nothing_seen)
    → (p.start ≤ p.next) × (p.next ≤ length m)
id_inside m e f = let w = walked m _ _ e in part_inside m 3 w.all_fields (part_is (at_a w) f)

-- the target of a message, as the code has it
pub record TargetAs (m : List ℕ) (fs : List Field) (t : Target) : Type 0 where
  pub target : rules.Target
  pub is : target_of m (numbered 3 fs) ≡ some target
  pub told : as_target target ≡ t

module _ (m : List ℕ) (fs : List Field) (p : fields m ≡ some fs) where
  target_by : target_of_bytes m ≡ target_of m (numbered 3 fs)
  unfolding target_of_bytes bind
  target_by = rw p

  -- it was read
  pub target_is : {t : Target} → Some t ≡ answered as_target (target_of_bytes m) → TargetAs m fs t
  target_is e =
      let t = from_some as_target (target_of_bytes m) e in
      record { target = t.x; is = sym target_by ∙ t.is; told = sym t.same }

  -- or is not right
  pub target_bad : None ≡ answered as_target (target_of_bytes m) → target_of m (numbered 3 fs) ≡ none
  target_bad e = sym target_by ∙ from_none as_target (target_of_bytes m) e
