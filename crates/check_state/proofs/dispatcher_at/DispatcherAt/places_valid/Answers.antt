-- `check_state::dispatcher_at::DispatcherAt::places_valid` meets its contract: the entries in flight, then the positions queued.
use mathlib.Core.Path.{◌≡◌, refl, ◌∙◌}
use Prim.Native.Nat.{◌+◌}
use native.Mathlib.Omega.{arith}
use Rattle.layout.specs.Offsets.{held_in}
use Rattle.check_state.proofs.StampSteps.{flight_wrong, queue_decides}
use Rattle.check_state.proofs.dispatcher_at.DispatcherAt.places_valid.Goals as goal

pub returns-then-not-flight_fresh : goal.returns-then-not-flight_fresh
returns-then-not-flight_fresh c =
    let s = c.args.self.now in
    let start : s.at + (175 + s.e) ≡ s.at + held_in s.e 0 = omega arith in
    record {
      answer =
          flight_wrong s.store.now s.e s.at c.word.ensures c.word-2.ensures refl c.word-cursor.ensures start c.requires.unused
          c.flight_fresh.ensures c.if-not-flight_fresh.true;
      same = c.flight_fresh.ensures.same;
    }

pub returns : goal.returns
returns c =
    let s = c.args.self.now in
    let m = c.word-cursor.ensures in
    let r = c.requires.cursor in
    let start : s.at + (175 + s.e) ≡ s.at + held_in s.e 0 = omega arith in
    record {
      answer =
          queue_decides s.store.now s.e s.at c.word.ensures c.word-2.ensures c.word-3.ensures m start c.requires.unused
          c.flight_fresh.ensures (omega arith) c.if-not-flight_fresh.false c.places_fresh.ensures;
      same = c.places_fresh.ensures.same ∙ c.flight_fresh.ensures.same;
    }
