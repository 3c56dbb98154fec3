-- What the plain part of a push takes from a state: the ledgers, which are those of its topics, and the consumers. So a state
-- whose dispatchers alone changed is readable where the first one was, and gives the same records and the same consumers.
use mathlib.Core.Path.{◌≡◌, refl, sym, ap, ap₂, subst}
use mathlib.Core.Bool.{true}
use mathlib.Core.List.{List, [], ◌∷◌, ◌++◌, map, Memᴰ}
use mathlib.Core.Option
use Prim.Native.Nat.{ℕ, ◌≤◌, ◌<◌}
use lib.ListN.{length}
use Rattle.rules.specs.Table.{find, Every, or_else}
use Rattle.rules.specs.State.{StoredMessage, Topic, Consumer, State, by_number, ledger_of, topic_of}
use Rattle.rules.specs.Valid.{Valid}
use Rattle.rules.specs.Outcome.{Dispatch}
use Rattle.layout.specs.Layout.{decode, spells}
use Rattle.operation_laws.proofs.Frame.{valid_now}
use Rattle.push_laws.specs.Plain.{plain_due, plain_records, after_entries, ledger_for, plain_served, all_plain_records}
use Rattle.push_plain.specs.Reading.{ReadableConsumer, Readable}

-- a consumer is readable in a state with the same ledger for it
pub readable_by : (s t : State) (c : Consumer) → ledger_for t c ≡ ledger_for s c → ReadableConsumer s c → ReadableConsumer t c
readable_by s t c e r =
    record {
      cursor_in = subst (λ (k : List StoredMessage). c.cursor ≤ length k) (sym e) r.cursor_in;
      nacked_in = subst (λ (k : List StoredMessage). Every (λ (j : ℕ). j < length k) c.nacked) (sym e) r.nacked_in;
    }

-- a valid state is readable
pub readable_valid : (s : State) → Valid s → Readable s
readable_valid s v =
    record {
      each = λ c m. record { cursor_in = (v.tables.each_consumer c m).cursor_in_ledger; nacked_in = (v.tables.each_consumer c m).nacked_in_ledger };
    }

-- and so is one that words spell
pub readable_now : (ws : List ℕ) → spells ws ≡ true → Readable (decode ws)
readable_now ws h = readable_valid (decode ws) (valid_now ws h)

module _ (s t : State) (e : t.topics ≡ s.topics) where
  -- the same ledgers
  pub ledger_same : (c : Consumer) → ledger_for t c ≡ ledger_for s c
  unfolding ledger_of topic_of
  ledger_same c = ap (λ (l : List Topic). or_else (Option.map (λ (x : Topic). x.messages) (find by_number c.pair.topic l)) []) e

  -- a state with the same consumers is readable too
  pub readable_same : t.consumers ≡ s.consumers → Readable s → Readable t
  readable_same f r =
      record {
        each = λ c m. readable_by s t c (ledger_same c) (r.each c (subst (λ (l : List Consumer). Memᴰ c l) f m));
      }

  -- a consumer's part is the same
  pub served_same : (c : Consumer) → plain_served t c ≡ plain_served s c
  unfolding plain_served
  served_same c = ap (λ (g : List StoredMessage). after_entries c (plain_due g c)) (ledger_same c)

  pub all_served_same : (l : List Consumer) → map (plain_served t) l ≡ map (plain_served s) l
  all_served_same [] = refl
  all_served_same (c ∷ l) = ap₂ (λ (x : Consumer) (r : List Consumer). x ∷ r) (served_same c) (all_served_same l)

  -- and so are the records
  pub all_records_same : (l : List Consumer) → all_plain_records t l ≡ all_plain_records s l
  unfolding all_plain_records
  all_records_same [] = refl
  all_records_same (c ∷ l) =
      ap₂ (λ (a b : List Dispatch). a ++ b) (ap (λ (g : List StoredMessage). plain_records g c (plain_due g c)) (ledger_same c)) (all_records_same l)
