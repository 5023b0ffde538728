use Rattle.seg_names.proofs.Encodings.{no_name}
use Rattle.seg_names.proofs.name.Name.new.Goals as goal

pub returns-in-None-clause-bad : goal.returns-in-None-clause-bad
returns-in-None-clause-bad c _ = no_name _ c.in-None.ensures
