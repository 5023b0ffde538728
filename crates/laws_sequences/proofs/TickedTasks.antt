-- The tasks that a tick adds are within their limits, and their ids are new.
use Rattle.std.proofs.Common.{◌≡◌, ℕ, zero, suc, ◌+◌, ◌<◌, ◌≤◌, ◌^◌, true, false, List, [], ◌∷◌, ◌++◌, map, refl, sym, ◌∙◌, ap, subst, arith, length, inl, inr, bytes_eq}
use Rattle.std.specs.List.{AllByRecursion, list_all, range_with_len}
use Rattle.std.proofs.lemmas.Bool.{and_from, and_parts, cases_Bool, or_left}
use Rattle.std.proofs.lemmas.Bool.Decides.{nat_tests}
use Rattle.seg_names.specs.Names.{is_between, is_name, is_task_id}
use Rattle.book_rows.specs.Lists.{In, Pairs}
use Rattle.book_rows.specs.Names.{begins_with, replica_name, sup_prefix}
use Rattle.book_rows.specs.SequenceRules.{IsReplica}
use Rattle.book_rows.specs.Sequences.{name_of}
use Rattle.book_rows.specs.Shape.{AreDistinct, is_supervisor_row, is_task_row, same_task}
use Rattle.book_rows.specs.Ticks.{replica_row}
use Rattle.book_rows.specs.declared.rows.SequenceRow.{SequenceRow}
use Rattle.book_rows.specs.declared.rows.SupervisorRow.{SupervisorRow}
use Rattle.book_rows.specs.declared.rows.TaskRow.{TaskRow}
use Rattle.laws_locks.specs.LockShape.{AreTaskRows}
use Rattle.laws_locks.proofs.Lists.{In-list_all, In-map, all_from_In}
use Rattle.laws_offsets.proofs.Lists.{same_text, text_same}
use Rattle.laws_sequences.specs.Links.{AreCounted, AreReplicas, AreSupervisors}
use Rattle.laws_sequences.proofs.Counts.{group_from, group_rows, in_range, index_below}
use Rattle.laws_sequences.proofs.Keys.{HasKey, one_key, supervisor_replicas}
use Rattle.laws_sequences.proofs.NameTexts.{replica_name_tells}
use Rattle.laws_sequences.proofs.ReplicaTexts.{replica_is_id, sequence_is_id}

-- ---- rows of tasks, one list after another

pairs_append : {X : Type 0} (R : X → X → Type 0) (xs ys : List X) → Pairs R xs → Pairs R ys → ((x y : X) → In x xs → In y ys → R x y) → Pairs R (xs ++ ys)
pairs_append R [] ys h k both = k
pairs_append R (x ∷ xs) ys h k both = (after xs h.0 (all_from_In (R x) ys (λ y j. both x y (inl refl) j)), pairs_append R xs ys h.1 k (λ z y i j. both z y (inr i) j)) where
  after : (zs : List _) → AllByRecursion (R x) zs → AllByRecursion (R x) ys → AllByRecursion (R x) (zs ++ ys)
  after [] a b = b
  after (z ∷ zs) a b = (a.0, after zs a.1 b)

limits_append : (ts news : List TaskRow) → list_all is_task_row ts ≡ true → list_all is_task_row news ≡ true → list_all is_task_row (ts ++ news) ≡ true
limits_append [] news h k = k
limits_append (t ∷ ts) news h k =
    let both = and_parts (is_task_row t) (list_all is_task_row ts) h in
    and_from (is_task_row t) (list_all is_task_row (ts ++ news)) both.0 (limits_append ts news both.1 k)

pub rows_append : (ts news : List TaskRow) → AreTaskRows ts → list_all is_task_row news ≡ true → AreDistinct same_task news → ((t n : TaskRow) → In t ts → In n news → same_task t n ≡ false) → AreTaskRows (ts ++ news)
rows_append ts news h limits distinct apart = record { rows = limits_append ts news h.rows limits; keys = pairs_append (λ t n. same_task t n ≡ false) ts news h.keys distinct apart }

-- ---- the tasks of one new sequence

pub at_most_16 : (n : ℕ) → is_between 1 16 n ≡ true → n ≤ 16
at_most_16 n h = grind (arith, nat_tests)

module _ (u : SequenceRow) where
  -- those of these numbers
  abbrev pub tasks_from : ℕ → ℕ → List TaskRow
  tasks_from a n = map (replica_row u) (map (replica_name (name_of u)) (range_with_len a n))

  differ : (a b : ℕ) → a < b → b < 2 ^ 64 → bytes_eq (replica_name (name_of u) a) (replica_name (name_of u) b) ≡ false
  differ a b less fits = elim (cases_Bool (bytes_eq (replica_name (name_of u) a) (replica_name (name_of u) b))) [
    | inr off ↦ off
    | inl on ↦ absurd (never a b less (replica_name_tells (name_of u) (name_of u) a b (below a b less fits) fits (same_text (replica_name (name_of u) a) (replica_name (name_of u) b) on)).1)
  ] where
    below : (a b : ℕ) → a < b → b < 2 ^ 64 → a < 2 ^ 64
    below a b h k = omega arith

    never : (a b : ℕ) → a < b → a ≡ b → ⊥
    never a b h e = omega arith

  first_differs : (a b n : ℕ) → a < b → b + n < 2 ^ 64 → AllByRecursion (λ t. bytes_eq (replica_name (name_of u) a) t.task ≡ false) (tasks_from b n)
  first_differs a b zero less fits = tt
  first_differs a b (suc n) less fits = (differ a b less (omega arith), first_differs a (b + 1) n (omega arith) (omega arith))

  pub own_distinct : (a n : ℕ) → a + n < 2 ^ 64 → AreDistinct same_task (tasks_from a n)
  own_distinct a zero fits = tt
  own_distinct a (suc n) fits = (first_differs a (a + 1) n (omega arith) (omega arith), own_distinct (a + 1) n (omega arith))

  row_fits : (k : ℕ) → is_name u.source ≡ true → u.group < 10 ^ 4 → u.index < 10 ^ 10 → k < 10 ^ 2 → is_task_row (replica_row u (replica_name (name_of u) k)) ≡ true
  row_fits k n a b c =
      and_from _ _ (and_from _ _ (and_from _ _ (and_from _ _ (and_from (is_task_id (replica_name (name_of u) k)) (is_task_id (name_of u)) (replica_is_id u.source u.group u.index k n a b c) (sequence_is_id u.source u.group u.index n a b)) n) refl) refl) refl

  pub all_fit : (a n : ℕ) → is_name u.source ≡ true → u.group < 10 ^ 4 → u.index < 10 ^ 10 → a + n ≤ 16 → list_all is_task_row (tasks_from a n) ≡ true
  all_fit a zero source group index few = refl
  all_fit a (suc n) source group index few =
      and_from (is_task_row (replica_row u (replica_name (name_of u) a))) (list_all is_task_row (tasks_from (a + 1) n)) (row_fits a source group index (omega arith)) (all_fit (a + 1) n source group index (omega arith))

  -- each has its number
  numbered_task : (n : ℕ) (t : TaskRow) → In t (tasks_from 0 n) → (k : ℕ) × (k < n) × (t ≡ replica_row u (replica_name (name_of u) k))
  numbered_task n t i =
      let x = In-map (replica_row u) t (map (replica_name (name_of u)) (range_with_len 0 n)) i in
      let y = In-map (replica_name (name_of u)) x.0 (range_with_len 0 n) x.1 in
      (y.0, from_zero y.0 n (in_range n 0 y.0 y.1), x.2 ∙ ap (λ task. replica_row u task) y.2) where
        from_zero : (i n : ℕ) → i < 0 + n → i < n
        from_zero i n h = omega arith

  pub new_replicas : (ss : List SupervisorRow) (us : List SequenceRow) (s : SupervisorRow) → In s ss → s.source ≡ u.source → In u us → AreReplicas ss us (tasks_from 0 s.replicas)
  new_replicas ss us s i same j t among e =
      let x = numbered_task s.replicas t among in
      subst (λ (y : TaskRow). IsReplica ss us y) (sym x.2) (record {
        sequence = u;
        among = j;
        id = record { supervisor = s; among = i; source_is = same; number = x.0; below = x.1; task_is = refl };
        group_is = refl;
        source_is = refl;
        kind_is = refl;
        wants_are = refl;
      })

  -- ---- their ids are of no task so far

  module _ (ss : List SupervisorRow) (us : List SequenceRow) (supervisors : AreSupervisors ss) (keys : (v : SequenceRow) → In v us → HasKey v) (counted : AreCounted us) (key : HasKey u) (index_is : u.index ≡ length (group_rows u.source u.group us)) where
    -- no sequence so far has its name
    pub name_is_new : (v : SequenceRow) → In v us → name_of v ≡ name_of u → ⊥
    name_is_new v i e =
        let k = one_key u v key (keys v i) (text_same (name_of v) (name_of u) e) in
        never v.index (length (group_rows u.source u.group us)) (index_below us u.source u.group v counted i (group_from u.source u.group v k.0 k.1)) (k.2 ∙ index_is) where
          never : (i n : ℕ) → i < n → i ≡ n → ⊥
          never i n h e = omega arith

    id_is_new : (t : TaskRow) (number : ℕ) → number < 2 ^ 64 → IsReplica ss us t → t.task ≡ replica_name (name_of u) number → ⊥
    id_is_new t number fits r same =
        let few = at_most_16 r.id.supervisor.replicas (supervisor_replicas r.id.supervisor (In-list_all is_supervisor_row r.id.supervisor ss r.id.among supervisors.rows)) in
        name_is_new r.sequence r.among (replica_name_tells (name_of r.sequence) (name_of u) r.id.number number (small r.id.number r.id.supervisor.replicas r.id.below few) fits (sym r.id.task_is ∙ same)).0 where
          small : (k n : ℕ) → k < n → n ≤ 16 → k < 2 ^ 64
          small k n h l = omega arith

    pub apart_from : (ts : List TaskRow) (n : ℕ) → n ≤ 16 → AreReplicas ss us ts → (t new : TaskRow) → In t ts → In new (tasks_from 0 n) → same_task t new ≡ false
    apart_from ts n few replicas t new i j = elim (cases_Bool (same_task t new)) [
      | inr off ↦ off
      | inl on ↦
          let x = numbered_task n new j in
          let same : t.task ≡ replica_name (name_of u) x.0 = same_text t.task new.task on ∙ ap (λ (y : TaskRow). y.task) x.2 in
          let own : begins_with sup_prefix t.task ≡ true = rw same refl in
          absurd (id_is_new t x.0 (small x.0 n x.1 few) (replicas t i (or_left (begins_with sup_prefix t.task) (begins_with sup_prefix t.group) own)) same)
    ] where
      small : (k n : ℕ) → k < n → n ≤ 16 → k < 2 ^ 64
      small k n h l = omega arith
