-- `record::read_record` meets its contract: each field is the word in its place.
use Rattle.std.proofs.Common.{refl}
use Rattle.record.specs.Flat.{record_at}
use Rattle.record.proofs.read_record.Goals as goal

pub returns : goal.returns
unfolding record_at
returns c = refl
