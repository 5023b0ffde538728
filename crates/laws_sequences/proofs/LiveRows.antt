-- The replicas that haven't ended, under changes of tasks and under abandoning.
use Rattle.std.proofs.Common.{◌≡◌, ℕ, Bool, true, false, not, List, [], ◌∷◌, ◌++◌, map, filter, refl, sym, ◌∙◌, ap, subst, inl, inr, bytes_eq}
use Rattle.std.specs.List.{AllByRecursion}
use Rattle.std.proofs.lemmas.Bool.{and_parts, cases_Bool, false≢true}
use Rattle.std.proofs.lemmas.List.Elements.{filter-append}
use Rattle.book_rows.specs.Lists.{In, gathered}
use Rattle.book_rows.specs.Locks.{locks_of}
use Rattle.book_rows.specs.Kinds.{has_ended}
use Rattle.book_rows.specs.SequenceRules.{is_live_replica}
use Rattle.book_rows.specs.Sequences.{name_of}
use Rattle.book_rows.specs.Shape.{AreDistinct, same_task}
use Rattle.book_rows.specs.TaskSteps.{all_failed, failed, status_set}
use Rattle.book_rows.specs.declared.kinds.TaskStatus.{TaskStatus}
use Rattle.book_rows.specs.declared.kinds.TaskStatus.TheVariants as Statuses
use Rattle.book_rows.specs.declared.rows.Book.{Book}
use Rattle.book_rows.specs.declared.rows.SequenceRow.{SequenceRow}
use Rattle.book_rows.specs.declared.rows.TaskRow.{TaskRow}
use Rattle.laws_locks.proofs.Lists.{In-append, In-filter, In-left, In-map, pair_of}
use Rattle.laws_locks.proofs.Ticking.{tasks_left}
use Rattle.laws_offsets.proofs.Lists.{same_text, text_same}
use Rattle.laws_sequences.proofs.Replicas.{In-right}

-- the ids of the sequence's tasks that haven't ended
abbrev pub live_ids : SequenceRow → List TaskRow → List (List ℕ)
live_ids u ts = map (λ t. t.task) (filter (is_live_replica u) ts)

-- one of them is the id of a task of the sequence
pub live_row : (u : SequenceRow) (ts : List TaskRow) (x : List ℕ) → In x (live_ids u ts) → (t : TaskRow) × In t ts × (t.task ≡ x) × (t.group ≡ name_of u)
live_row u ts x i =
    let from = In-map (λ (t : TaskRow). t.task) x (filter (is_live_replica u) ts) i in
    let passing = In-filter (is_live_replica u) from.0 ts from.1 in
    (from.0, passing.0, sym from.2, same_text from.0.group (name_of u) (and_parts (bytes_eq from.0.group (name_of u)) (not (has_ended from.0.status)) passing.1).0)

-- ---- tasks are added

pub live_append : (u : SequenceRow) (ts rows : List TaskRow) → live_ids u (ts ++ rows) ≡ live_ids u ts ++ live_ids u rows
live_append u ts rows = ap (λ (ys : List TaskRow). map (λ t. t.task) ys) (filter-append (is_live_replica u) ts rows) ∙ maps (filter (is_live_replica u) ts) (filter (is_live_replica u) rows) where
  maps : (xs ys : List TaskRow) → map (λ (t : TaskRow). t.task) (xs ++ ys) ≡ map (λ (t : TaskRow). t.task) xs ++ map (λ (t : TaskRow). t.task) ys
  maps [] ys = refl
  maps (x ∷ xs) ys = ap (λ (ids : List (List ℕ)). x.task ∷ ids) (maps xs ys)

-- none of those is a replica of the sequence
pub live_none : (u : SequenceRow) (rows : List TaskRow) → AllByRecursion (λ t. bytes_eq t.group (name_of u) ≡ false) rows → live_ids u rows ≡ []
live_none u [] h = refl
live_none u (t ∷ rows) h = rw h.0 (live_none u rows h.1)

-- ---- a status is set

abbrev pub without : List ℕ → List (List ℕ) → List (List ℕ)
without task ids = filter (λ x. not (bytes_eq x task)) ids

module _ (u : SequenceRow) (task : List ℕ) (status : TaskStatus) where
  -- where the task ends, it isn't live any more
  pub live_ended : has_ended status ≡ true → (ts : List TaskRow) → live_ids u (map (status_set task status) ts) ≡ without task (live_ids u ts)
  live_ended ends [] = refl
  live_ended ends (t ∷ ts) = by_task (bytes_eq t.task task) (bytes_eq t.group (name_of u)) (has_ended t.status) refl refl refl (live_ended ends ts) where
    by_task : (same own done : Bool) → bytes_eq t.task task ≡ same → bytes_eq t.group (name_of u) ≡ own → has_ended t.status ≡ done → live_ids u (map (status_set task status) ts) ≡ without task (live_ids u ts)
        → live_ids u (status_set task status t ∷ map (status_set task status) ts) ≡ without task (live_ids u (t ∷ ts))
    by_task true true true e o d rest = rw (e, o, d, ends) rest
    by_task true true false e o d rest = rw (e, o, d, ends, e) rest
    by_task true false done e o d rest = rw (e, o) rest
    by_task false true true e o d rest = rw (e, o, d) rest
    by_task false true false e o d rest = rw (e, o, d, e) (ap (λ (ids : List (List ℕ)). t.task ∷ ids) rest)
    by_task false false done e o d rest = rw (e, o) rest

  -- where it ends as little as before, nothing changes
  pub live_runs : (ts : List TaskRow) → AllByRecursion (λ t. bytes_eq t.task task ≡ true → has_ended t.status ≡ has_ended status) ts → live_ids u (map (status_set task status) ts) ≡ live_ids u ts
  live_runs [] h = refl
  live_runs (t ∷ ts) h = by_task (bytes_eq t.task task) (bytes_eq t.group (name_of u)) (has_ended t.status) refl refl refl h.0 (live_runs ts h.1) where
    by_task : (same own done : Bool) → bytes_eq t.task task ≡ same → bytes_eq t.group (name_of u) ≡ own → has_ended t.status ≡ done → (bytes_eq t.task task ≡ true → has_ended t.status ≡ has_ended status) → live_ids u (map (status_set task status) ts) ≡ live_ids u ts
        → live_ids u (status_set task status t ∷ map (status_set task status) ts) ≡ live_ids u (t ∷ ts)
    by_task true true true e o d f rest = rw (e, o, d, sym (f e) ∙ d) rest
    by_task true true false e o d f rest = rw (e, o, d, sym (f e) ∙ d) (ap (λ (ids : List (List ℕ)). t.task ∷ ids) rest)
    by_task true false done e o d f rest = rw (e, o) rest
    by_task false true true e o d f rest = rw (e, o, d) rest
    by_task false true false e o d f rest = rw (e, o, d) (ap (λ (ids : List (List ℕ)). t.task ∷ ids) rest)
    by_task false false done e o d f rest = rw (e, o) rest

-- ---- several tasks fail

abbrev pub fail_rows : List (List ℕ) → List TaskRow → List TaskRow
fail_rows [] ts = ts
fail_rows (task ∷ rest) ts = fail_rows rest (map (status_set task Statuses.Failed) ts)

pub rows_failed : (tasks : List (List ℕ)) (b : Book) → (all_failed tasks b).tasks ≡ fail_rows tasks b.tasks
rows_failed [] b = refl
rows_failed (task ∷ rest) b = rows_failed rest (failed task b) ∙ ap (λ (ts : List TaskRow). fail_rows rest (map (status_set task Statuses.Failed) ts)) (tasks_left (locks_of task b.posses) task b)

abbrev pub without_all : List (List ℕ) → List (List ℕ) → List (List ℕ)
without_all [] ids = ids
without_all (task ∷ rest) ids = without_all rest (without task ids)

pub live_failed : (u : SequenceRow) (tasks : List (List ℕ)) (ts : List TaskRow) → live_ids u (fail_rows tasks ts) ≡ without_all tasks (live_ids u ts)
live_failed u [] ts = refl
live_failed u (task ∷ rest) ts = live_failed u rest (map (status_set task Statuses.Failed) ts) ∙ ap (without_all rest) (live_ended u task Statuses.Failed refl ts)

pub without_more : (xs ys ids : List (List ℕ)) → without_all (xs ++ ys) ids ≡ without_all ys (without_all xs ids)
without_more [] ys ids = refl
without_more (x ∷ xs) ys ids = without_more xs ys (without x ids)

-- none of them is one of the ids
pub without_none : (tasks ids : List (List ℕ)) → ((x y : List ℕ) → In x ids → In y tasks → bytes_eq x y ≡ false) → without_all tasks ids ≡ ids
without_none [] ids h = refl
without_none (task ∷ rest) ids h = ap (without_all rest) (one ids (λ x i. h x task i (inl refl))) ∙ without_none rest ids (λ x y i j. h x y i (inr j)) where
  one : (ids : List (List ℕ)) → ((x : List ℕ) → In x ids → bytes_eq x task ≡ false) → without task ids ≡ ids
  one [] f = refl
  one (x ∷ xs) f = rw (f x (inl refl), one xs (λ y i. f y (inr i))) refl

-- each of the ids is one of them
pub without_every : (tasks ids : List (List ℕ)) → ((x : List ℕ) → In x ids → In x tasks) → without_all tasks ids ≡ []
without_every [] [] h = refl
without_every [] (x ∷ xs) h = absurd (h x (inl refl))
without_every (task ∷ rest) ids h = without_every rest (without task ids) (λ x i. later x (In-filter (λ y. not (bytes_eq y task)) x ids i)) where
  later : (x : List ℕ) → In x ids × (not (bytes_eq x task) ≡ true) → In x rest
  later x both = elim (h x both.0) [
    | inr i ↦ i
    | inl same ↦ absurd (false≢true (rw (text_same x task same) at both.1))
  ]

-- what is left was there
pub without_In : (tasks ids : List (List ℕ)) (x : List ℕ) → In x (without_all tasks ids) → In x ids
without_In [] ids x i = i
without_In (task ∷ rest) ids x i = (In-filter (λ y. not (bytes_eq y task)) x ids (without_In rest (without task ids) x i)).0

-- ---- gathered ids

pub gathered_In : (x : List ℕ) (u : SequenceRow) (us : List SequenceRow) → In u us → In x u.live → In x (gathered (λ v. v.live) us)
gathered_In x u [] i j = absurd i
gathered_In x u (v ∷ us) (inl same) j = In-left x v.live (gathered (λ v. v.live) us) (subst (λ (w : SequenceRow). In x w.live) same j)
gathered_In x u (v ∷ us) (inr i) j = In-right x v.live (gathered (λ v. v.live) us) (gathered_In x u us i j)

pub gathered_from : (x : List ℕ) (us : List SequenceRow) → In x (gathered (λ v. v.live) us) → (u : SequenceRow) × In u us × In x u.live
gathered_from x [] i = absurd i
gathered_from x (v ∷ us) i = elim (In-append x v.live (gathered (λ v. v.live) us) i) [
  | inl j ↦ (v, inl refl, j)
  | inr j ↦ (let rest = gathered_from x us j in (rest.0, inr rest.1, rest.2))
]

-- ---- ids of tasks of two sequences

pub ids_apart : (ts : List TaskRow) (u v : SequenceRow) (x y : List ℕ) → AreDistinct same_task ts → In x (live_ids u ts) → In y (live_ids v ts) → (name_of u ≡ name_of v → ⊥) → bytes_eq x y ≡ false
ids_apart ts u v x y distinct i j other = elim (cases_Bool (bytes_eq x y)) [
  | inr off ↦ off
  | inl on ↦
      let a = live_row u ts x i in
      let c = live_row v ts y j in
      let same : a.0.task ≡ c.0.task = a.2 ∙ same_text x y on ∙ sym c.2 in
      absurd (other (sym a.3 ∙ ap (λ (t : TaskRow). t.group) (one a.0 c.0 a.1 c.1 same) ∙ c.3))
] where
  one : (t q : TaskRow) → In t ts → In q ts → t.task ≡ q.task → t ≡ q
  one t q i j same = elim (pair_of (λ (a b : TaskRow). same_task a b ≡ false) t q ts distinct i j) [
    | inl is ↦ is
    | inr (inl off) ↦ absurd (false≢true (sym off ∙ text_same t.task q.task same))
    | inr (inr off) ↦ absurd (false≢true (sym off ∙ text_same q.task t.task (sym same)))
  ]
