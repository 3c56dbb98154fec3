-- How far something reaches, as the code's enum has it.
use Rattle.trace.specs.Format.{Reach}
use Rattle.trace.specs.Format.Reach.{ends, cut_off, wrong}
use Rattle.trace_read.specs.declared.Reach as declared
use Rattle.trace_read.specs.declared.Reach.TheVariants as variants

-- the code's answer
unfoldable pub reached : Reach → declared.Reach
reached (ends size) = variants.Ends size
reached cut_off = variants.CutOff
reached wrong = variants.Wrong
