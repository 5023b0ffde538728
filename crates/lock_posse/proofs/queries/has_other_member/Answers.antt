use Rattle.std.proofs.Common.{not}
use Rattle.std.specs.Str.{bytes_eq}
use Rattle.lock_posse.proofs.Departures.{any_left}
use Rattle.lock_posse.proofs.queries.has_other_member.Goals as goal

pub returns : goal.returns
returns c = rw (c.has_other.ensures, c.as_slice.ensures) (any_left (λ m. not (bytes_eq m c.args.task.now)) c.args.row.now.members)
