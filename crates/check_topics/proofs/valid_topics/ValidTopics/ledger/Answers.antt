-- `check_topics::valid_topics::ValidTopics::ledger` meets its contract: the words of the topic's slot, or no rows where there is none.
use mathlib.Core.Path.{◌≡◌, refl}
use Prim.Native.Nat.{ℕ}
use mathlib.Core.List.{List}
use native.Mathlib.Omega.{arith}
use Rattle.std.proofs.Common.{Some}
use Rattle.rules.specs.State.{by_number}
use Rattle.layout.specs.Layout.{decode}
use Rattle.layout.specs.Canon.{CanonStore}
use Rattle.layout.specs.Placed.{TopicIn}
use Rattle.layout.proofs.Placed.{topic_in}
use Rattle.store.specs.Found.{found}
use Rattle.store.proofs.Founds.{found_some, found_none}
use Rattle.check_topics.proofs.Ledgers.{ledger_absent, ledger_inside, ledger_rows}
use Rattle.check_topics.proofs.valid_topics.ValidTopics.ledger.Goals as goal

-- the topic that was found
topic_there : {e t : ℕ} {ws : List ℕ} (topic : ℕ) → CanonStore e ws → Some t ≡ found by_number topic (decode ws).topics → TopicIn e ws t
topic_there {t = t} {ws = ws} topic h f = topic_in h t (found_some by_number topic (decode ws).topics f).1

pub returns-in_default : goal.returns-in_default
returns-in_default c =
    let ws = c.args.self.now.store.now in
    let s = ledger_absent ws c.args.topic (found_none by_number c.args.topic (decode ws).topics c.in_default.ensures) in
    record { same_store = refl; width = refl; count = s.0; spelt = s.1 }

pub topic_at-at-requires : goal.topic_at-at-requires
topic_at-at-requires c = let t = topic_there c.args.topic c.requires c.in-Some.ensures in let few = t.few in (c.requires.E_to, omega arith)

pub overflow_add-rows : goal.overflow_add-rows
overflow_add-rows c = let t = topic_there c.args.topic c.requires c.in-Some.ensures in let a = t.inside in let e = c.requires.E_to in omega arith

pub overflow_add-at : goal.overflow_add-at
overflow_add-at c = let t = topic_there c.args.topic c.requires c.in-Some.ensures in let a = t.inside in let e = c.requires.E_to in omega arith

pub word-requires : goal.word-requires
word-requires c =
    let t = topic_there c.args.topic c.requires c.in-Some.ensures in
    let a = t.inside in
    let long = c.requires.long in
    omega arith

pub bounds-self-t : goal.bounds-self-t
bounds-self-t c = let t = topic_there c.args.topic c.requires c.in-Some.ensures in let few = t.few in omega arith

pub invariant_of-rows-2 : goal.invariant_of-rows-2
invariant_of-rows-2 c =
    record {
      some = omega arith;
      inside = ledger_inside (topic_there c.args.topic c.requires c.in-Some.ensures) c.topic_at-at.ensures c.word.ensures;
    }

pub returns : goal.returns
returns c =
    let ws = c.args.self.now.store.now in
    let f = found_some by_number c.args.topic (decode ws).topics c.in-Some.ensures in
    let s = ledger_rows (topic_there c.args.topic c.requires c.in-Some.ensures) c.topic_at-at.ensures c.word.ensures c.args.topic f.0 in
    record { same_store = refl; width = refl; count = s.0; spelt = s.1 }
