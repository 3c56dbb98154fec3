-- `push_plain::serve::take_entries` meets its contract: the permits, then what is read.
use Prim.Native.Nat.{◌-◌}
use Rattle.push_plain.proofs.Writes.{permits_set_readable, take_done}
use Rattle.push_plain.proofs.serve.take_entries.Goals as goal

pub set_permits-requires : goal.set_permits-requires
set_permits-requires c = c.requires.0.here

pub read_on-requires : goal.read_on-requires
read_on-requires c =
    let h = c.requires.0 in
    let r = c.args.reader in
    (permits_set_readable r.i (r.permits - c.args.n) h.here c.set_permits.ensures h.readable, c.requires.1)

pub returns : goal.returns
returns c = take_done c.args.reader.i c.args.reader.permits c.args.n c.requires.0.here c.set_permits.ensures c.read_on.ensures
