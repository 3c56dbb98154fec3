-- `close::leave::leave` meets its contract: what it holds goes back, then it leaves the ring, then the total is set.
use Rattle.close.proofs.Rings.{back_in, out_in, left_words}
use Rattle.close.proofs.leave.leave.Goals as goal

pub leave_ring-requires : goal.leave_ring-requires
leave_ring-requires c = back_in c.args.id c.args.d c.requires.0 c.requires.1 c.requires.2 c.return_held.ensures

pub set_total_available_permits-requires : goal.set_total_available_permits-requires
set_total_available_permits-requires c = out_in c.args.id c.args.d c.requires.0 c.requires.1 c.requires.2 c.return_held.ensures c.leave_ring.ensures

pub returns : goal.returns
returns c = left_words c.args.id c.args.d c.requires.0 c.requires.1 c.requires.2 c.return_held.ensures c.leave_ring.ensures c.args.total c.set_total_available_permits.ensures
