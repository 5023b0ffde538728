use Rattle.std.proofs.Common.{Err, Ok, ap}
use Rattle.book_rows.specs.Grant.{granted_of}
use Rattle.lockbox.proofs.OneRequest.{fault_of}
use Rattle.lockbox.proofs.granting.grant.Goals as goal

pub returns-in-Ok : goal.returns-in-Ok
returns-in-Ok c = ap granted_of c.in-Ok.ensures

pub returns-in-Err : goal.returns-in-Err
returns-in-Err c = fault_of c.in-Err.fault _ c.in-Err.ensures
