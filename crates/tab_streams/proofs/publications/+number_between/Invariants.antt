use Rattle.std.proofs.Common.{◌-◌}
use Rattle.tab_streams.proofs.publications.+number_between.Given as goal

abbrev pub decreases-number_between : goal.decreases-number_between
decreases-number_between l = l.high - l.low
