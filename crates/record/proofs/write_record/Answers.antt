-- `record::write_record` meets its contract: the thirteen words at the start.
use Rattle.std.proofs.Common.{refl}
use Rattle.words.specs.Act.{lay}
use Rattle.record.specs.Flat.{record_words}
use Rattle.record.proofs.write_record.Goals as goal

pub returns : goal.returns
unfolding lay record_words
returns c = refl
