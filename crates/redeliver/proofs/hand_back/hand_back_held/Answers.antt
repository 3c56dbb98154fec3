-- `redeliver::hand_back::hand_back_held` meets its contract: the position is queued, its entry is no longer in flight, and its count rises.
use Rattle.redeliver.proofs.Handing.{queued_in, landed_in, handed_words}
use Rattle.redeliver.proofs.hand_back.hand_back_held.Goals as goal

pub remove_flight-requires : goal.remove_flight-requires
remove_flight-requires c =
    let a = c.args in
    let p = c.requires in
    queued_in a.d a.j a.k p.0 p.1 p.2 p.3 c.append_queue.ensures

pub raise_count-requires : goal.raise_count-requires
raise_count-requires c =
    let a = c.args in
    let p = c.requires in
    landed_in a.d a.j a.k p.0 p.1 p.2 p.3 c.append_queue.ensures c.remove_flight.ensures

pub returns : goal.returns
returns c =
    let a = c.args in
    let p = c.requires in
    handed_words a.d a.j a.k p.0 p.1 p.2 p.3 c.append_queue.ensures c.remove_flight.ensures c.raise_count.ensures
