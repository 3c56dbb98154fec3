-- `trace_read::read_words` meets its contract: each turn reads one word more, and at the end all are read.
use Rattle.std.proofs.Common.{◌≡◌, ◌+◌, ◌-◌, ◌*◌, ◌/◌, length, arith}
use Rattle.trace.proofs.Format.{whole}
use Rattle.trace_read.proofs.Words.{begun_start, as_many, begun_on, begun_end}
use Rattle.trace_read.proofs.read_words.Goals as goal

pub overflow_sub-count : goal.overflow_sub-count
overflow_sub-count c = omega (arith, whole _ _ c.requires.0)

pub bounds-words-n : goal.bounds-words-n
bounds-words-n c = omega (arith, whole _ _ c.requires.0, as_many _ c.requires.0)

pub loop-n-init : goal.loop-n-init
loop-n-init c = begun_start _ _ c.requires.0

pub loop-n-preserved : goal.loop-n-preserved
loop-n-preserved c =
    let many = as_many _ c.requires.0 in
    let width : 3 + 8 * c.loop-n.n + 8 - (3 + 8 * c.loop-n.n) ≡ 8 = omega arith in
    begun_on c.loop-n.invariant (omega arith) (rw width at c.number.ensures)

pub returns : goal.returns
returns c =
    let many = as_many _ c.requires.0 in
    let n : c.loop-n.n ≡ (length c.args.bytes.now - 3) / 8 = omega arith in
    rw (← n) (begun_end c.loop-n.invariant (omega arith))
