-- `check_state::valid_dispatchers::dispatcher_valid` meets its contract: the tests of its words are the rules' test of it.
use mathlib.Core.Path.{◌≡◌, sym, ap, ◌∙◌}
use mathlib.Core.List.{List}
use Prim.Native.Nat.{ℕ, ◌+◌}
use native.Mathlib.Omega.{arith}
use lib.ListN.{get_or}
use Rattle.layout.specs.Offsets.{dispatcher_at}
use Rattle.layout.specs.Placed.{DispatcherIn}
use Rattle.store.proofs.Tests.{fails, passes}
use Rattle.topic.proofs.LedgerWords.{ledger_fits}
use Rattle.check_state.specs.Dispatchers.{DispatcherRoom}
use Rattle.check_state.proofs.DispatcherWords.{dispatcher_room}
use Rattle.check_state.proofs.MarkWords.{words_decide}
use Rattle.check_state.proofs.valid_dispatchers.dispatcher_valid.Goals as goal

-- the dispatcher has room where it begins
room_at : {e : ℕ} {ws : List ℕ} {d : ℕ} → DispatcherIn e ws d → {at : ℕ} → at ≡ dispatcher_at e d → DispatcherRoom e ws at
room_at h p = rw p (dispatcher_room h.canon _ h.there)

pub invariant_of-dispatcher : goal.invariant_of-dispatcher
invariant_of-dispatcher c =
    let r = c.ledger.ensures in
    let f = ledger_fits c.requires.there.canon (get_or c.args.topics.now.store.now c.dispatcher_at-at.result 0) in
    let n = r.count in
    record {
      room = room_at c.requires.there c.dispatcher_at-at.ensures;
      ledger_in = record { same_store = r.same_store; width = r.width; few = omega arith };
    }

pub returns-then-front_valid : goal.returns-then-front_valid
returns-then-front_valid c =
    let h = c.requires.there in
    record {
      answer =
          passes (sym c.front_valid.ensures.answer ∙ c.if-front_valid.true) c.rest_valid.ensures
          ∙ words_decide h.canon c.args.d h.there c.args.topics.now.words _ c.dispatcher_at-at.ensures c.ledger.ensures.count c.ledger.ensures.spelt;
      stamp = c.front_valid.ensures.same ∙ c.advance.ensures.0 ∙ ap (λ (k : ℕ). k + 1) c.requires.stamp;
    }

pub returns-else-front_valid : goal.returns-else-front_valid
returns-else-front_valid c =
    let h = c.requires.there in
    record {
      answer =
          c.if-front_valid.false
          ∙ fails _ (sym c.front_valid.ensures.answer ∙ c.if-front_valid.false)
          ∙ words_decide h.canon c.args.d h.there c.args.topics.now.words _ c.dispatcher_at-at.ensures c.ledger.ensures.count c.ledger.ensures.spelt;
      stamp = c.front_valid.ensures.same ∙ c.advance.ensures.0 ∙ ap (λ (k : ℕ). k + 1) c.requires.stamp;
    }
