use Rattle.snap_codec.proofs.BookBytes.{earlier_reads, earlier_written}
use Rattle.snap_codec.proofs.laws.reads_earlier_snapshots.Goals as goal

pub returns-clause-read : goal.returns-clause-read
returns-clause-read c = earlier_reads

pub returns-clause-written : goal.returns-clause-written
returns-clause-written c = earlier_written
