-- Tasks of sequences stay tasks of sequences, whatever changes but their keys.
use Rattle.std.proofs.Common.{◌≡◌, ℕ, true, List, [], ◌∷◌, ◌++◌, map, refl, sym, ◌∙◌, ap, subst, inl, inr}
use Rattle.book_rows.specs.Lists.{In}
use Rattle.book_rows.specs.Names.{replica_name}
use Rattle.book_rows.specs.SequenceRules.{IsReplica, IsReplicaId, IsSupervised, is_sup_task}
use Rattle.book_rows.specs.Sequences.{name_of}
use Rattle.book_rows.specs.TaskSteps.{status_set}
use Rattle.book_rows.specs.Ticks.{groups_of}
use Rattle.book_rows.specs.declared.kinds.TaskStatus.{TaskStatus}
use Rattle.book_rows.specs.declared.rows.SequenceRow.{SequenceRow}
use Rattle.book_rows.specs.declared.rows.SupervisorRow.{SupervisorRow}
use Rattle.book_rows.specs.declared.rows.TaskRow.{TaskRow}
use Rattle.laws_locks.proofs.Lists.{In-append, In-left, In-map, map_In}
use Rattle.laws_sequences.specs.Links.{AreReplicas}
use Rattle.laws_sequences.proofs.Counts.{KeepsKeys}

-- ---- other sequences

pub name_kept : (f : SequenceRow → SequenceRow) → KeepsKeys f → (u : SequenceRow) → name_of (f u) ≡ name_of u
name_kept f k u = rw (k.source_is u, k.group_is u, k.index_is u) refl

id_moved : (ss : List SupervisorRow) (f : SequenceRow → SequenceRow) → KeepsKeys f → (u : SequenceRow) (task : List ℕ) → IsReplicaId ss u task → IsReplicaId ss (f u) task
id_moved ss f k u task h = record {
  supervisor = h.supervisor;
  among = h.among;
  source_is = h.source_is ∙ sym (k.source_is u);
  number = h.number;
  below = h.below;
  task_is = h.task_is ∙ ap (λ name. replica_name name h.number) (sym (name_kept f k u));
}

replica_moved : (ss : List SupervisorRow) (f : SequenceRow → SequenceRow) → KeepsKeys f → (us : List SequenceRow) (t : TaskRow) → IsReplica ss us t → IsReplica ss (map f us) t
replica_moved ss f k us t h = record {
  sequence = f h.sequence;
  among = map_In f h.sequence us h.among;
  id = id_moved ss f k h.sequence t.task h.id;
  group_is = h.group_is ∙ sym (name_kept f k h.sequence);
  source_is = h.source_is ∙ sym (k.source_is h.sequence);
  kind_is = h.kind_is;
  wants_are = h.wants_are;
}

pub replicas_moved : (ss : List SupervisorRow) (f : SequenceRow → SequenceRow) → KeepsKeys f → (us : List SequenceRow) (ts : List TaskRow) → AreReplicas ss us ts → AreReplicas ss (map f us) ts
replicas_moved ss f k us ts h t i e = replica_moved ss f k us t (h t i e)

pub supervised_moved : (ss : List SupervisorRow) (f : SequenceRow → SequenceRow) → KeepsKeys f → (us : List SequenceRow) → ((u : SequenceRow) → In u us → IsSupervised ss u) → (u : SequenceRow) → In u (map f us) → IsSupervised ss u
supervised_moved ss f k us h u i =
    let from = In-map f u us i in
    let s = h from.0 from.1 in
    record {
      supervisor = s.supervisor;
      among = s.among;
      source_is = s.source_is ∙ sym (k.source_is from.0) ∙ ap (λ (v : SequenceRow). v.source) (sym from.2);
      group_is = subst (λ g. In g (groups_of s.supervisor)) (sym (k.group_is from.0) ∙ ap (λ (v : SequenceRow). v.group) (sym from.2)) s.group_is;
    }

-- ---- one sequence more

pub In-right : {X : Type 0} (x : X) (xs ys : List X) → In x ys → In x (xs ++ ys)
In-right x [] ys i = i
In-right x (z ∷ xs) ys i = inr (In-right x xs ys i)

pub In-last : {X : Type 0} (x : X) (xs : List X) → In x (xs ++ x ∷ [])
In-last x [] = inl refl
In-last x (y ∷ ys) = inr (In-last x ys)

pub replicas_more : (ss : List SupervisorRow) (us : List SequenceRow) (new : SequenceRow) (ts : List TaskRow) → AreReplicas ss us ts → AreReplicas ss (us ++ new ∷ []) ts
replicas_more ss us new ts h t i e =
    let r = h t i e in
    record {
      sequence = r.sequence;
      among = In-left r.sequence us (new ∷ []) r.among;
      id = r.id;
      group_is = r.group_is;
      source_is = r.source_is;
      kind_is = r.kind_is;
      wants_are = r.wants_are;
    }

pub supervised_more : (ss : List SupervisorRow) (us : List SequenceRow) (new : SequenceRow) → ((u : SequenceRow) → In u us → IsSupervised ss u) → IsSupervised ss new → (u : SequenceRow) → In u (us ++ new ∷ []) → IsSupervised ss u
supervised_more ss us new h n u i = elim (In-append u us (new ∷ []) i) [
  | inl j ↦ h u j
  | inr (inl same) ↦ subst (λ (v : SequenceRow). IsSupervised ss v) (sym same) n
  | inr (inr none) ↦ absurd none
]

-- ---- one supervisor more

supervisor_more : (ss : List SupervisorRow) (s : SupervisorRow) (us : List SequenceRow) (t : TaskRow) → IsReplica ss us t → IsReplica (ss ++ s ∷ []) us t
supervisor_more ss s us t h = record {
  sequence = h.sequence;
  among = h.among;
  id = record {
    supervisor = h.id.supervisor;
    among = In-left h.id.supervisor ss (s ∷ []) h.id.among;
    source_is = h.id.source_is;
    number = h.id.number;
    below = h.id.below;
    task_is = h.id.task_is;
  };
  group_is = h.group_is;
  source_is = h.source_is;
  kind_is = h.kind_is;
  wants_are = h.wants_are;
}

pub replicas_of_more : (ss : List SupervisorRow) (s : SupervisorRow) (us : List SequenceRow) (ts : List TaskRow) → AreReplicas ss us ts → AreReplicas (ss ++ s ∷ []) us ts
replicas_of_more ss s us ts h t i e = supervisor_more ss s us t (h t i e)

-- ---- other tasks

pub replicas_append : (ss : List SupervisorRow) (us : List SequenceRow) (ts news : List TaskRow) → AreReplicas ss us ts → AreReplicas ss us news → AreReplicas ss us (ts ++ news)
replicas_append ss us ts news h n t i e = elim (In-append t ts news i) [ inl j ↦ h t j e | inr j ↦ n t j e ]

-- another status
status_moved : (ss : List SupervisorRow) (us : List SequenceRow) (task : List ℕ) (status : TaskStatus) (t : TaskRow) → IsReplica ss us t → IsReplica ss us (status_set task status t)
status_moved ss us task status t h = record {
  sequence = h.sequence;
  among = h.among;
  id = h.id;
  group_is = h.group_is;
  source_is = h.source_is;
  kind_is = h.kind_is;
  wants_are = h.wants_are;
}

pub replicas_set : (ss : List SupervisorRow) (us : List SequenceRow) (task : List ℕ) (status : TaskStatus) (ts : List TaskRow) → AreReplicas ss us ts → AreReplicas ss us (map (status_set task status) ts)
replicas_set ss us task status ts h t i e =
    let from = In-map (status_set task status) t ts i in
    let same : is_sup_task from.0 ≡ true = subst (λ (x : TaskRow). is_sup_task x ≡ true) from.2 e in
    subst (λ (x : TaskRow). IsReplica ss us x) (sym from.2) (status_moved ss us task status from.0 (h from.0 from.1 same))
