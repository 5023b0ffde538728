-- The rule on sequences, test by test.
use Rattle.std.proofs.Common.{Bool, List, Some, [], ap, arith, cond, filter, inl, inr, length, map, refl, subst, suc, sym, true, zero, ℕ, ◌+◌, ◌<◌, ◌∷◌, ◌≡◌}
use Rattle.std.proofs.lemmas.Bool.{and_parts, false≢true}
use Rattle.std.specs.List.{AllByRecursion, list_any, range_with_len}
use Rattle.std.specs.Prelude.{bytes_eq}
use Rattle.book_rows.specs.Kinds.{is_unpublished}
use Rattle.book_rows.specs.Lists.{In, at_place, count, is_empty}
use Rattle.book_rows.specs.Names.{begins_with, compact_name, compact_prefix, replica_name, sup_prefix}
use Rattle.book_rows.specs.SequenceRules.{Chain, HasLive, IsGroupOfSequence, IsOwn, IsPublishedOnce, IsReplica, IsReplicaId, IsSoundGroup, IsSoundSequence, IsSupervised, IsTaskOf, IsToldOnce, has_ranges_of, is_live_replica, is_of_sequence, is_published, is_sup_task}
use Rattle.book_rows.specs.Sequences.{is_closed, is_of_group, is_open, name_of, named, open_rows, partitions_of, positions, reaches}
use Rattle.book_rows.specs.Ticks.{groups_of, of_group}
use Rattle.book_rows.specs.declared.rows.Book.{Book}
use Rattle.book_rows.specs.declared.rows.Offset.{Offset}
use Rattle.book_rows.specs.declared.rows.Publication.{Publication}
use Rattle.book_rows.specs.declared.rows.Report.{Report}
use Rattle.book_rows.specs.declared.rows.SequenceRow.{SequenceRow}
use Rattle.book_rows.specs.declared.rows.SupervisorRow.{SupervisorRow}
use Rattle.book_rows.specs.declared.rows.TaskRow.{TaskRow}
use Rattle.laws_chunks.proofs.IdOrder.{range_In}
use Rattle.laws_chunks.proofs.Members.{filter_cases}
use Rattle.laws_chunks.proofs.WholeParts.{range_within}
use Rattle.laws_unsound.specs.Laws.{IsRowOfRule}
use Rattle.laws_unsound.specs.SequenceRows.{are_compactions, are_of_one_task, gives_id, has_live, has_reporters, has_sound_groups, is_chain, is_compaction, is_group_known, is_own, is_published_once, is_replica, is_sound_group, is_sound_sequence, is_supervised, is_told_once, same_list, same_offset}
use Rattle.laws_unsound.specs.Unsound.{InSequence}
use Rattle.laws_unsound.proofs.Deciding.{IsTestOf, all_of, both, each_of, empty, like, none_clash, off, on, one_name, one_number, one_of, realtime, stands, where_so}
use Rattle.laws_unsound.proofs.Least.{of_book}

-- ---- lists

one_list : {X : Type 0} (same : X → X → Bool) → ((x y : X) → IsTestOf (same x y) (x ≡ y)) → (xs ys : List X) → IsTestOf (same_list same xs ys) (xs ≡ ys)
one_list same d [] [] = record { means = λ h. refl; passes = λ e. refl }
one_list same d [] (y ∷ ys) = record { means = λ h. absurd (false≢true h); passes = λ e. absurd (cc) }
one_list same d (x ∷ xs) [] = record { means = λ h. absurd (false≢true h); passes = λ e. absurd (cc) }
one_list same d (x ∷ xs) (y ∷ ys) = like joined (λ e. (head e, tail e)) (both (d x y) (one_list same d xs ys)) where
  joined : (x ≡ y) × (xs ≡ ys) → x ∷ xs ≡ y ∷ ys
  joined w = let a = w.0 in let b = w.1 in cc

  head : x ∷ xs ≡ y ∷ ys → x ≡ y
  head e = cc

  tail : x ∷ xs ≡ y ∷ ys → xs ≡ ys
  tail e = cc

one_offset : (a c : Offset) → IsTestOf (same_offset a c) (a ≡ c)
one_offset a c = like (λ w. offsets w.0 w.1) (λ e. (ap (λ (x : Offset). x.partition) e, ap (λ (x : Offset). x.offset) e)) (both (one_number a.partition c.partition) (one_number a.offset c.offset)) where
  offsets : a.partition ≡ c.partition → a.offset ≡ c.offset → a ≡ c
  offsets p q = λ i. record { partition = p i; offset = q i }

-- ---- a sequence

supervised : (ss : List SupervisorRow) (u : SequenceRow) → IsTestOf (is_supervised ss u) (IsSupervised ss u)
supervised ss u = like (λ w. record { supervisor = w.0; among = w.1; source_is = w.2.0; group_is = w.2.1 }) (λ h. (h.supervisor, h.among, (h.source_is, h.group_is)))
    (one_of (λ s. both (one_name s.source u.source) (stands (groups_of s) u.group)) ss)

told : (u : SequenceRow) → IsTestOf (is_told_once u) (IsToldOnce u)
told u = like (λ w. record { ends = w.0; told = w.1.0; once = w.1.1 }) (λ h. (h.ends, (h.told, h.once)))
    (both (where_so (on (is_published u)) (on (reaches u.starts u.ends))) (both (all_of (λ r. on (reaches u.starts r.offsets)) u.reports) (none_clash are_of_one_task u.reports)))

reporters : (ts : List TaskRow) (u : SequenceRow) → IsTestOf (has_reporters ts u) ((r : Report) → In r u.reports → IsTaskOf ts u r.task)
reporters ts u = each_of (λ r. like (λ w. record { row = w.0; among = w.1; task_is = w.2.0; group_is = w.2.1 }) (λ h. (h.row, h.among, (h.task_is, h.group_is)))
    (one_of (λ t. both (one_name t.task r.task) (one_name t.group (name_of u))) ts)) u.reports

living : (ts : List TaskRow) (u : SequenceRow) → IsTestOf (has_live ts u) (HasLive ts u)
living ts u = like (λ w. record { live = w.0; some = w.1 }) (λ h. (h.live, h.some))
    (both (one_list bytes_eq one_name u.live (map (λ t. t.task) (filter (is_live_replica u) ts))) (where_so (on (is_unpublished u.state)) (off (is_empty u.live))))

published : (pubs : List Publication) (u : SequenceRow) → IsTestOf (is_published_once pubs u) (IsPublishedOnce pubs u)
published pubs u = like (λ w. record { once = w.0; ranges = w.1 }) (λ h. (h.once, h.ranges))
    (both (one_number (count (is_of_sequence u) pubs) (cond (is_published u) 1 0)) (each_of (λ m. where_so (on (is_of_sequence u m)) (on (has_ranges_of u m.ranges))) pubs))

sequence : (b : Book) (u : SequenceRow) → IsTestOf (is_sound_sequence b u) (IsSoundSequence b u)
sequence b u = like
    (λ w. record { supervised = w.0; told = w.1.0; reporters = w.1.1.0; live = w.1.1.1.0; published = w.1.1.1.1 })
    (λ h. (h.supervised, (h.told, (h.reporters, (h.live, h.published)))))
    (both (supervised b.supervisors u) (both (told u) (both (reporters b.tasks u) (both (living b.tasks u) (published b.publications u)))))

-- ---- the sequences of a group

own : (ps : List ℕ) (u : SequenceRow) → IsTestOf (is_own ps u) (IsOwn ps u)
own ps u = like (λ w. record { starts = w.0; ends = w.1 }) (λ h. (h.starts, h.ends)) (both (one_name (named u.starts) ps) (where_so (on (is_closed u)) (on (reaches u.starts u.ends))))

chain : (at : List Offset) (us : List SequenceRow) → IsTestOf (is_chain at us) (Chain at us)
chain at [] = record { means = λ h. tt; passes = λ h. refl }
chain at (u ∷ []) = one_list same_offset one_offset u.starts at
chain at (u ∷ v ∷ us) = like (λ w. (w.0, w.1.0, w.1.1)) (λ h. (h.0, (h.1, h.2))) (both (on (is_closed u)) (both (one_list same_offset one_offset u.starts at) (chain u.ends (v ∷ us))))

module _ (b : Book) (s : SupervisorRow) where
  group_sound : (group : ℕ) → IsTestOf (is_sound_group b s group) (IsSoundGroup b s group)
  group_sound group = like (λ w. record { counted = w.0; own = w.1.0; chained = w.1.1 }) (λ h. (h.counted, (h.own, h.chained)))
      (both (one_name (map (λ u. u.index) (of_group s group b.sequences)) (range_with_len 0 (length (of_group s group b.sequences))))
      (both (all_of (own (partitions_of s group)) (of_group s group b.sequences))
      (chain (positions b.offsets s.source s.stream (partitions_of s group)) (open_rows s.source group b.sequences))))

  -- a group that no sequence names has none
  none_of : (group : ℕ) → of_group s group b.sequences ≡ [] → open_rows s.source group b.sequences ≡ [] → IsSoundGroup b s group
  none_of group all unpublished = record {
    counted = rw all refl;
    own = subst (λ (us : List SequenceRow). AllByRecursion (IsOwn (partitions_of s group)) us) (sym all) tt;
    chained = subst (λ (us : List SequenceRow). Chain (positions b.offsets s.source s.stream (partitions_of s group)) us) (sym unpublished) tt;
  }

  groups_sound : IsTestOf (has_sound_groups b s) ((group : ℕ) → IsSoundGroup b s group)
  groups_sound = like all (λ rule u i. rule u.group) (each_of (λ u. group_sound u.group) b.sequences) where
    of_one : (group : ℕ) (u : SequenceRow) → is_of_group s.source group u ≡ true → IsSoundGroup b s u.group → IsSoundGroup b s group
    of_one group u e h = let w = (both (one_name u.source s.source) (one_number u.group group)).means e in subst (λ (g : ℕ). IsSoundGroup b s g) w.1 h

    all : ((u : SequenceRow) → In u b.sequences → IsSoundGroup b s u.group) → (group : ℕ) → IsSoundGroup b s group
    all h group = elim (filter_cases (is_of_group s.source group) b.sequences) [
      | inr w ↦ of_one group w.0 w.2 (h w.0 w.1)
      | inl none ↦ (elim (filter_cases (is_open s.source group) b.sequences) [
        | inl shut ↦ none_of group none shut
        | inr w ↦ of_one group w.0 (and_parts (is_of_group s.source group w.0) (is_unpublished w.0.state) w.2).0 (h w.0 w.1)
      ])
    ]

-- ---- tasks that are named as those of sequences and of compactions

replica_id : (ss : List SupervisorRow) (u : SequenceRow) (task : List ℕ) → IsTestOf (list_any (gives_id u task) ss) (IsReplicaId ss u task)
replica_id ss u task = like
    (λ w. record { supervisor = w.0; among = w.1; source_is = w.2.0; number = w.2.1.0; below = within w.2.1.0 w.0.replicas w.2.1.1; task_is = w.2.1.2 })
    (λ h. (h.supervisor, h.among, (h.source_is, (h.number, among h.number h.supervisor.replicas h.below, h.task_is))))
    (one_of (λ s. both (one_name s.source u.source) (one_of (λ n. one_name task (replica_name (name_of u) n)) (range_with_len 0 s.replicas))) ss) where
      zero_add : (i : ℕ) → 0 + i ≡ i
      zero_add i = omega arith

      among : (n m : ℕ) → n < m → In n (range_with_len 0 m)
      among n m l = subst (λ (k : ℕ). In k (range_with_len 0 m)) (zero_add n) (range_In n 0 m l)

      within : (n m : ℕ) → In n (range_with_len 0 m) → n < m
      within n m i = let w = range_within n 0 m i in let high = w.1 in omega (arith, high)

replica : (ss : List SupervisorRow) (us : List SequenceRow) (t : TaskRow) → IsTestOf (is_replica ss us t) (is_sup_task t ≡ true → IsReplica ss us t)
replica ss us t = where_so (on (is_sup_task t)) (like
    (λ w. record { sequence = w.0; among = w.1; id = w.2.0; group_is = w.2.1.0; source_is = w.2.1.1.0; kind_is = w.2.1.1.1.0; wants_are = w.2.1.1.1.1 })
    (λ h. (h.sequence, h.among, (h.id, (h.group_is, (h.source_is, (h.kind_is, h.wants_are))))))
    (one_of (λ u. both (replica_id ss u t.task) (both (one_name t.group (name_of u)) (both (one_name t.source u.source) (both (realtime t.kind) (empty t.wants))))) us))

compaction : (n : ℕ) (t : TaskRow) → IsTestOf (is_compaction n t) (begins_with compact_prefix t.task ≡ true → t.task ≡ compact_name t.source n)
compaction n t = where_so (on (begins_with compact_prefix t.task)) (one_name t.task (compact_name t.source n))

-- the tasks from place n on
abbrev AreCompactions : ℕ → List TaskRow → Type 0
AreCompactions n ts = (k : ℕ) (t : TaskRow) → at_place k ts ≡ Some t → begins_with compact_prefix t.task ≡ true → t.task ≡ compact_name t.source (n + k)

add_zero : (n : ℕ) → n + 0 ≡ n
add_zero n = omega arith

add_suc : (n k : ℕ) → (n + 1) + k ≡ n + suc k
add_suc n k = omega arith

compactions : (n : ℕ) (ts : List TaskRow) → IsTestOf (are_compactions n ts) (AreCompactions n ts)
compactions n [] = record { means = λ h k t e b. absurd (cc); passes = λ h. refl }
compactions n (s ∷ ts) = like (λ w. joined w.0 w.1) (λ h. (first h, rest h)) (both (compaction n s) (compactions (n + 1) ts)) where
  joined : (begins_with compact_prefix s.task ≡ true → s.task ≡ compact_name s.source n) → AreCompactions (n + 1) ts → AreCompactions n (s ∷ ts)
  joined here later zero t e b = subst (λ (x : TaskRow). x.task ≡ compact_name x.source (n + 0)) (one e) (subst (λ (m : ℕ). s.task ≡ compact_name s.source m) (sym (add_zero n)) (here (subst (λ (x : TaskRow). begins_with compact_prefix x.task ≡ true) (sym (one e)) b))) where
    one : at_place zero (s ∷ ts) ≡ Some t → s ≡ t
    one e = cc
  joined here later (suc k) t e b = subst (λ (m : ℕ). t.task ≡ compact_name t.source m) (add_suc n k) (later k t e b)

  first : AreCompactions n (s ∷ ts) → begins_with compact_prefix s.task ≡ true → s.task ≡ compact_name s.source n
  first h b = subst (λ (m : ℕ). s.task ≡ compact_name s.source m) (add_zero n) (h 0 s refl b)

  rest : AreCompactions n (s ∷ ts) → AreCompactions (n + 1) ts
  rest h k t e b = subst (λ (m : ℕ). t.task ≡ compact_name t.source m) (sym (add_suc n k)) (h (suc k) t e b)

all_compactions : (ts : List TaskRow) → IsTestOf (are_compactions 0 ts) ((k : ℕ) (t : TaskRow) → at_place k ts ≡ Some t → begins_with compact_prefix t.task ≡ true → t.task ≡ compact_name t.source k)
all_compactions ts = like (λ h k t e b. subst (λ (m : ℕ). t.task ≡ compact_name t.source m) (zero_add k) (h k t e b)) (λ h k t e b. subst (λ (m : ℕ). t.task ≡ compact_name t.source m) (sym (zero_add k)) (h k t e b)) (compactions 0 ts) where
  zero_add : (i : ℕ) → 0 + i ≡ i
  zero_add i = omega arith

-- ---- publications that are named as those of sequences

known : (us : List SequenceRow) (m : Publication) → IsTestOf (is_group_known us m) (begins_with sup_prefix m.group ≡ true → IsGroupOfSequence us m.group)
known us m = where_so (on (begins_with sup_prefix m.group)) (like (λ w. record { sequence = w.0; among = w.1; group_is = w.2 }) (λ h. (h.sequence, h.among, h.group_is)) (one_of (λ u. one_name m.group (name_of u)) us))

-- ---- the whole

pub sequence_row : IsRowOfRule InSequence
sequence_row b = of_book (like
    (λ w. record { sequences = w.0; groups = w.1.0; replicas = w.1.1.0; compactions = w.1.1.1.0; publications = w.1.1.1.1 })
    (λ h. (h.sequences, (h.groups, (h.replicas, (h.compactions, h.publications)))))
    (both (each_of (sequence b) b.sequences)
    (both (each_of (groups_sound b) b.supervisors)
    (both (each_of (replica b.supervisors b.sequences) b.tasks)
    (both (all_compactions b.tasks)
    (each_of (known b.sequences) b.publications))))))
