-- Members of locks: what each change of the tasks and of the locks keeps.
use Rattle.std.proofs.Common.{◌≡◌, ℕ, Bool, true, false, cond, not, ◌==◌, ◌&&◌, List, ◌++◌, map, filter, refl, sym, subst, bytes_eq}
use Rattle.std.proofs.lemmas.Bool.{false≢true, not-true}
use Rattle.book_rows.specs.Lists.{In, is_empty}
use Rattle.book_rows.specs.Locks.{after_leave, is_member, left, stays}
use Rattle.book_rows.specs.Shape.{AreDistinct, HasMembers, HaveMembers, IsMemberTask}
use Rattle.book_rows.specs.TaskSteps.{status_set}
use Rattle.book_rows.specs.declared.kinds.TaskStatus.{TaskStatus}
use Rattle.book_rows.specs.declared.kinds.TaskStatus.TheVariants as Statuses
use Rattle.book_rows.specs.declared.rows.PosseRow.{PosseRow}
use Rattle.book_rows.specs.declared.rows.TaskRow.{TaskRow}
use Rattle.laws_locks.proofs.Lists.{In-filter, In-left, In-map, map_In, none_In, pairs_filter}

-- ---- one member

-- the members' task, where the list of tasks is longer
member_more : (ts us : List TaskRow) (q : PosseRow) (task : List ℕ) → IsMemberTask ts q task → IsMemberTask (ts ++ us) q task
member_more ts us q task m = record {
  row = m.row;
  among = In-left m.row ts us m.among;
  task_is = m.task_is;
  runs = m.runs;
  group_is = m.group_is;
  source_is = m.source_is;
  priority_is = m.priority_is;
}

still_runs : (b : Bool) (s : TaskStatus) → s ≡ Statuses.Running → cond b Statuses.Running s ≡ Statuses.Running
still_runs true s e = refl
still_runs false s e = e

-- where whichever task runs
member_run : (task : List ℕ) (ts : List TaskRow) (q : PosseRow) (m : List ℕ) → IsMemberTask ts q m → IsMemberTask (map (status_set task Statuses.Running) ts) q m
member_run task ts q m h = record {
  row = status_set task Statuses.Running h.row;
  among = map_In (status_set task Statuses.Running) h.row ts h.among;
  task_is = h.task_is;
  runs = still_runs (bytes_eq h.row.task task) h.row.status h.runs;
  group_is = h.group_is;
  source_is = h.source_is;
  priority_is = h.priority_is;
}

kept_status : (b : Bool) (s status : TaskStatus) → b ≡ false → s ≡ Statuses.Running → cond b status s ≡ Statuses.Running
kept_status true s status off e = absurd (false≢true (sym off))
kept_status false s status off e = e

-- where another task gets another status
member_other : (task : List ℕ) (status : TaskStatus) (ts : List TaskRow) (q : PosseRow) (m : List ℕ) → bytes_eq m task ≡ false → IsMemberTask ts q m → IsMemberTask (map (status_set task status) ts) q m
member_other task status ts q m off h = record {
  row = status_set task status h.row;
  among = map_In (status_set task status) h.row ts h.among;
  task_is = h.task_is;
  runs = kept_status (bytes_eq h.row.task task) h.row.status status (subst (λ (x : List ℕ). bytes_eq x task ≡ false) (sym h.task_is) off) h.runs;
  group_is = h.group_is;
  source_is = h.source_is;
  priority_is = h.priority_is;
}

-- ---- other tasks

pub members_more : (ts us : List TaskRow) (qs : List PosseRow) → HaveMembers ts qs → HaveMembers (ts ++ us) qs
members_more ts us qs h q i = let m = h q i in record { some = m.some; distinct = m.distinct; tasks = λ task j. member_more ts us q task (m.tasks task j) }

pub members_run : (task : List ℕ) (ts : List TaskRow) (qs : List PosseRow) → HaveMembers ts qs → HaveMembers (map (status_set task Statuses.Running) ts) qs
members_run task ts qs h q i = let m = h q i in record { some = m.some; distinct = m.distinct; tasks = λ x j. member_run task ts q x (m.tasks x j) }

-- a task that is a member of no lock gets another status
pub members_ended : (task : List ℕ) (status : TaskStatus) (ts : List TaskRow) (qs : List PosseRow) → ((q : PosseRow) → In q qs → is_member task q ≡ false) → HaveMembers ts qs → HaveMembers (map (status_set task status) ts) qs
members_ended task status ts qs none h q i =
    let m = h q i in
    record { some = m.some; distinct = m.distinct; tasks = λ x j. member_other task status ts q x (none_In (λ x. bytes_eq x task) x q.members j (none q i)) (m.tasks x j) }

-- ---- a task leaves a lock

abbrev others : List ℕ → List (List ℕ) → List (List ℕ)
others task ms = filter (λ m. not (bytes_eq m task)) ms

-- what is left of the members
left_in : (b : Bool) (task : List ℕ) (ms : List (List ℕ)) (x : List ℕ) → In x (cond b (others task ms) ms) → In x ms
left_in true task ms x i = (In-filter (λ m. not (bytes_eq m task)) x ms i).0
left_in false task ms x i = i

left_distinct : (b : Bool) (task : List ℕ) (ms : List (List ℕ)) → AreDistinct bytes_eq ms → AreDistinct bytes_eq (cond b (others task ms) ms)
left_distinct true task ms h = pairs_filter _ (λ m. not (bytes_eq m task)) ms h
left_distinct false task ms h = h

left_some : (b : Bool) (task : List ℕ) (ms : List (List ℕ)) → is_empty ms ≡ false → not (b && is_empty (cond b (others task ms) ms)) ≡ true → is_empty (cond b (others task ms) ms) ≡ false
left_some true task ms some stay = not-true _ stay
left_some false task ms some stay = some

has_left : (n : ℕ) (task : List ℕ) (ts : List TaskRow) (q : PosseRow) → stays n (left n task q) ≡ true → HasMembers ts q → HasMembers ts (left n task q)
has_left n task ts q stay m = record {
  some = left_some (q.number == n) task q.members m.some stay;
  distinct = left_distinct (q.number == n) task q.members m.distinct;
  tasks = λ x i. (let t = m.tasks x (left_in (q.number == n) task q.members x i) in record {
    row = t.row;
    among = t.among;
    task_is = t.task_is;
    runs = t.runs;
    group_is = t.group_is;
    source_is = t.source_is;
    priority_is = t.priority_is;
  });
}

-- a lock that is there after a task left one is a lock from before
pub record IsLeft (n : ℕ) (task : List ℕ) (qs : List PosseRow) (q : PosseRow) : Type 0 where
  pub before : PosseRow
  pub among : In before qs
  pub same : q ≡ left n task before
  pub stay : stays n q ≡ true

pub is_left : (n : ℕ) (task : List ℕ) (qs : List PosseRow) (q : PosseRow) → In q (after_leave n task qs) → IsLeft n task qs q
is_left n task qs q i =
    let kept = In-filter (stays n) q (map (left n task) qs) i in
    let from = In-map (left n task) q qs kept.0 in
    record { before = from.0; among = from.1; same = from.2; stay = kept.1 }

pub members_left : (n : ℕ) (task : List ℕ) (ts : List TaskRow) (qs : List PosseRow) → HaveMembers ts qs → HaveMembers ts (after_leave n task qs)
members_left n task ts qs h q i =
    let l = is_left n task qs q i in
    subst (λ (x : PosseRow). HasMembers ts x) (sym l.same)
    (has_left n task ts l.before (subst (λ (x : PosseRow). stays n x ≡ true) l.same l.stay) (h l.before l.among))
