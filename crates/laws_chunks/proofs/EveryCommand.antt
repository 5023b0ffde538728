-- Every command keeps the rules on chunks.
use Rattle.std.proofs.Common.{[], cond, ◌++◌, ◌==◌, ◌∷◌}
use Rattle.book_rows.specs.declared.rows.Book.{Book}
use Rattle.laws_locks.specs.LockShape.{IsLockShape}
use Rattle.laws_chunks.specs.ChunksSound.{AreChunksSound}
use Rattle.laws_chunks.specs.EveryCommand.{EveryCommandKeeps}
use Rattle.laws_chunks.proofs.AllocatedIds.{allocated_keeps}
use Rattle.laws_chunks.proofs.AppendCommand.{appended_keeps}
use Rattle.laws_chunks.proofs.CheckedCommands.{checked_insert_keeps, checked_replace_keeps}
use Rattle.laws_chunks.proofs.DropCommand.{dropped_keeps}
use Rattle.laws_chunks.proofs.GrantedRequests.{granted_keeps}
use Rattle.laws_chunks.proofs.LeavingAll.{leave_all_keeps}
use Rattle.laws_chunks.proofs.LockSteps.{IsKeptByLocks}
use Rattle.laws_chunks.proofs.LosingLocks.{leave_keeps, members_keep}
use Rattle.laws_chunks.proofs.OtherTables.{others_keep}
use Rattle.laws_chunks.proofs.PublishSteps.{IsKeptByPublishing, every_command}
use Rattle.laws_chunks.proofs.PushingPublications.{push_keeps}
use Rattle.laws_chunks.proofs.SeveralRequests.{all_granted_keeps}

kept_by_locks : IsKeptByLocks AreChunksSound
kept_by_locks = record {
  others = others_keep;
  left = leave_keeps;
  left_all = leave_all_keeps;
  joined = λ lock task b h. members_keep (λ q. cond (q.number == lock) (q.members ++ task ∷ []) q.members) b h;
  granted = granted_keeps;
  all_granted = all_granted_keeps;
}

kept_by_publishing : (b : Book) → IsLockShape b → AreChunksSound b → IsKeptByPublishing AreChunksSound b
kept_by_publishing b shape h = record {
  pushed = λ m none clean free. push_keeps m b none clean free h;
  allocated = λ r t x l other fresh found e. allocated_keeps b r t x l other found e h;
  appended = λ t ids ranges distinct among fault. appended_keeps b t ids ranges distinct among fault shape.members shape.tasks.keys h;
  inserted = λ t given xs proper ids_once tombs_once ok. checked_insert_keeps b t given xs proper ok h;
  replaced = λ t given xs proper ids_once tombs_once ok. checked_replace_keeps b t given xs proper ok h;
  dropped = λ source span fault. dropped_keeps source span b fault h;
}

pub every_command_keeps : EveryCommandKeeps
every_command_keeps c b form shape h = every_command AreChunksSound kept_by_locks b h (kept_by_publishing b shape h) c form
