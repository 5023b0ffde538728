use Rattle.cmd_codec.proofs.RecordBytes.{commands_again, one_again}
use Rattle.cmd_codec.proofs.laws.reads_what_it_writes.Goals as goal

pub returns-clause-one : goal.returns-clause-one
returns-clause-one c = one_again

pub returns-clause-all : goal.returns-clause-all
returns-clause-all c = commands_again
