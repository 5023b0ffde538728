-- A walk over all groups of all supervisors: after each step the tasks so far are rows that may be added.
use Rattle.std.proofs.Common.{◌≡◌, ℕ, ℤ, suc, ◌+◌, ◌*◌, ◌<◌, ◌≤◌, ◌^◌, Bool, true, false, cond, List, [], ◌∷◌, ◌++◌, map, find, Some, None, Option, refl, arith, length, nat_lt, subst}
use Rattle.std.specs.List.{AllByRecursion, list_any, range_with_len}
use Rattle.std.proofs.lemmas.Bool.Decides.{nat_tests}
use Rattle.std.proofs.lemmas.List.{append-nil, append_assoc, length-map}
use Rattle.std.proofs.lemmas.List.FromFn.{length-range_with_len}
use Rattle.seg_names.specs.Names.{is_between}
use Rattle.book_rows.specs.Form.{item_limit}
use Rattle.book_rows.specs.Lists.{In}
use Rattle.book_rows.specs.Outcome.{row_limit}
use Rattle.book_rows.specs.SequenceRules.{IsSupervised}
use Rattle.book_rows.specs.Sequences.{abandoned}
use Rattle.book_rows.specs.Shape.{is_supervisor_row}
use Rattle.book_rows.specs.Ticks.{Ticking, groups_of, has_partitions, is_active, is_late, late_from, nothing_ticked, opened_row, opens, replica_row, stopped, ticked, ticked_all, ticked_group, ticked_groups, with_stopped, without_late}
use Rattle.book_rows.specs.declared.rows.OffsetRow.{OffsetRow}
use Rattle.book_rows.specs.declared.rows.Publication.{Publication}
use Rattle.book_rows.specs.declared.rows.SequenceRow.{SequenceRow}
use Rattle.book_rows.specs.declared.rows.SupervisorRow.{SupervisorRow}
use Rattle.book_rows.specs.declared.rows.TaskRow.{TaskRow}
use Rattle.laws_locks.specs.LockShape.{AreTaskRows}
use Rattle.laws_locks.proofs.Lists.{In-list_all, all_from_In}
use Rattle.laws_sequences.specs.Links.{AreCounted, ArePublished, AreReplicas, AreSupervisors}
use Rattle.laws_sequences.proofs.Abandoned.{abandoned_keys, abandoned_published}
use Rattle.laws_sequences.proofs.Counts.{KeepsKeys, counted_map, counted_push, group_rows, length_more}
use Rattle.laws_sequences.proofs.Filters.{filter_shorter}
use Rattle.laws_sequences.proofs.Keys.{HasKey, group_below, has_key, supervised_key, supervisor_replicas, supervisor_source, supervisor_tasks}
use Rattle.laws_sequences.proofs.KeptLinks.{keeps_stopped}
use Rattle.laws_sequences.proofs.Publishings.{published_map, published_push}
use Rattle.laws_sequences.proofs.Replicas.{In-last, replicas_append, replicas_more, replicas_moved, supervised_more, supervised_moved}
use Rattle.laws_sequences.proofs.TickedTasks.{all_fit, apart_from, at_most_16, name_is_new, new_replicas, own_distinct, rows_append}

-- more rows than a tick can lead to
abbrev pub enough : ℕ
enough = 2000000000

-- the tasks and those that were added are of the sequences so far, and they are rows where the tasks are; there is room for
-- so many sequences more
pub record Walk (ts : List TaskRow) (pubs : List Publication) (us : List SequenceRow) (ss : List SupervisorRow) (left : ℕ) (k : Ticking) : Type 0 where
  pub tasks : AreTaskRows ts → AreTaskRows (ts ++ k.told.submitted)
  pub replicas : AreReplicas ss k.rows (ts ++ k.told.submitted)
  pub counted : AreCounted k.rows
  pub supervised : (u : SequenceRow) → In u k.rows → IsSupervised ss u
  pub room : length k.rows + left ≤ enough
  pub published : ArePublished pubs us → ArePublished pubs k.rows

module _ (offsets : List OffsetRow) (now : ℤ) (ts : List TaskRow) (pubs : List Publication) (us : List SequenceRow) (ss : List SupervisorRow) (supervisors : AreSupervisors ss) where
  pub fewer : (left m : ℕ) (k : Ticking) → m ≤ left → Walk ts pubs us ss left k → Walk ts pubs us ss m k
  fewer left m k less w = record { tasks = w.tasks; replicas = w.replicas; counted = w.counted; supervised = w.supervised; room = within (length k.rows) left m w.room less; published = w.published } where
    within : (n l m : ℕ) → n + l ≤ enough → m ≤ l → n + m ≤ enough
    within n l m h k = omega arith

  -- ---- the steps of one group

  pub walk_late : (o : Option SequenceRow) (s : SupervisorRow) (group left : ℕ) (k : Ticking) → Walk ts pubs us ss left k → Walk ts pubs us ss left (late_from o s group k)
  walk_late None s group left k w = w
  walk_late (Some u) s group left k w = record {
    tasks = w.tasks;
    replicas = replicas_moved ss (abandoned s.source group u.index) (abandoned_keys s.source group u.index) k.rows (ts ++ k.told.submitted) w.replicas;
    counted = counted_map (abandoned s.source group u.index) (abandoned_keys s.source group u.index) k.rows w.counted;
    supervised = supervised_moved ss (abandoned s.source group u.index) (abandoned_keys s.source group u.index) k.rows w.supervised;
    room = rw (length-map k.rows (abandoned s.source group u.index)) w.room;
    published = λ h. published_map (abandoned s.source group u.index) (abandoned_published s.source group u.index) pubs k.rows (w.published h);
  }

  stopped_keys : (s : SupervisorRow) (group : ℕ) → KeepsKeys (stopped s group now)
  stopped_keys s group = record { source_is = λ u. refl; group_is = λ u. refl; index_is = λ u. refl }

  pub walk_stopped : (s : SupervisorRow) (group left : ℕ) (k : Ticking) → Walk ts pubs us ss left k → Walk ts pubs us ss left (with_stopped s group now k)
  walk_stopped s group left k w = record {
    tasks = w.tasks;
    replicas = replicas_moved ss (stopped s group now) (stopped_keys s group) k.rows (ts ++ k.told.submitted) w.replicas;
    counted = counted_map (stopped s group now) (stopped_keys s group) k.rows w.counted;
    supervised = supervised_moved ss (stopped s group now) (stopped_keys s group) k.rows w.supervised;
    room = rw (length-map k.rows (stopped s group now)) w.room;
    published = λ h. published_map (stopped s group now) (keeps_stopped s group now).published pubs k.rows (w.published h);
  }

  module _ (s : SupervisorRow) (among : In s ss) (group : ℕ) (of_s : In group (groups_of s)) (left : ℕ) (k : Ticking) (w : Walk ts pubs us ss (suc left) k) where
    abbrev pub new : SequenceRow
    new = opened_row offsets s group now k.rows

    pub limits : is_supervisor_row s ≡ true
    limits = In-list_all is_supervisor_row s ss among supervisors.rows

    few_replicas : s.replicas ≤ 16
    few_replicas = at_most_16 s.replicas (supervisor_replicas s limits)

    index_within : length (group_rows s.source group k.rows) < 10 ^ 10
    index_within = within (length (group_rows s.source group k.rows)) (length k.rows) (filter_shorter _ k.rows) w.room where
      within : (i n : ℕ) → i ≤ n → n + suc left ≤ enough → i < 10 ^ 10
      within i n h l = omega arith

    pub key : HasKey new
    key = supervised_key s new limits refl of_s (wide (length (group_rows s.source group k.rows)) index_within) where
      wide : (i : ℕ) → i < 10 ^ 10 → i < 2 ^ 64
      wide i h = omega arith

    pub keys : (v : SequenceRow) → In v k.rows → HasKey v
    keys = has_key ss k.rows supervisors w.supervised w.counted (few (length k.rows) w.room) where
      few : (n : ℕ) → n + suc left ≤ enough → n < 2 ^ 64
      few n h = omega arith

    new_tasks : AreTaskRows ts → AreTaskRows (ts ++ (opens new k).told.submitted)
    new_tasks h = subst (λ rows. AreTaskRows rows) (append_assoc ts k.told.submitted (map (replica_row new) new.live)) (
        rows_append (ts ++ k.told.submitted) (map (replica_row new) new.live) (w.tasks h)
        (all_fit new 0 s.replicas (supervisor_source s limits) (four_digits group (group_below s group limits of_s)) index_within (from_zero s.replicas few_replicas))
        (own_distinct new 0 s.replicas (below s.replicas few_replicas))
        (apart_from new ss k.rows supervisors keys w.counted key refl (ts ++ k.told.submitted) s.replicas few_replicas w.replicas)) where
          four_digits : (g : ℕ) → g < 4096 → g < 10 ^ 4
          four_digits g h = omega arith

          from_zero : (n : ℕ) → n ≤ 16 → 0 + n ≤ 16
          from_zero n h = omega arith

          below : (n : ℕ) → n ≤ 16 → 0 + n < 2 ^ 64
          below n h = omega arith

    walk_opens : Walk ts pubs us ss left (opens new k)
    walk_opens = record {
      tasks = new_tasks;
      replicas = subst (λ rows. AreReplicas ss (k.rows ++ new ∷ []) rows) (append_assoc ts k.told.submitted (map (replica_row new) new.live)) (
          replicas_append ss (k.rows ++ new ∷ []) (ts ++ k.told.submitted) (map (replica_row new) new.live) (replicas_more ss k.rows new (ts ++ k.told.submitted) w.replicas)
          (new_replicas new ss (k.rows ++ new ∷ []) s among refl (In-last new k.rows)));
      counted = counted_push k.rows new refl w.counted;
      supervised = supervised_more ss k.rows new w.supervised (record { supervisor = s; among = among; source_is = refl; group_is = of_s });
      room = rw (length_more k.rows new) (room (length k.rows) w.room);
      published = λ h. published_push pubs k.rows new refl (λ v i e. name_is_new new ss k.rows supervisors keys w.counted key refl v i e) (w.published h);
    } where
      room : (n : ℕ) → n + suc left ≤ enough → suc n + left ≤ enough
      room n h = omega arith

    walk_opened : (b : Bool) → Walk ts pubs us ss left (cond b k (opens new k))
    walk_opened true = fewer (suc left) left k (omega arith) w
    walk_opened false = walk_opens

  pub walk_group : (s : SupervisorRow) (group left : ℕ) (k : Ticking) → In s ss → In group (groups_of s) → Walk ts pubs us ss (suc left) k → Walk ts pubs us ss left (ticked_group offsets s now group k)
  walk_group s group left k i j w =
      let before = with_stopped s group now (without_late s group now k) in
      walk_opened s i group j left before (walk_stopped s group (suc left) (without_late s group now k) (walk_late (find (is_late s group now) k.rows) s group (suc left) k w)) (list_any (is_active s group) before.rows)

  -- ---- all groups of all supervisors

  pub walk_groups : (gs : List ℕ) (s : SupervisorRow) (rest : ℕ) (k : Ticking) → In s ss → AllByRecursion (λ g. In g (groups_of s)) gs → Walk ts pubs us ss (length gs + rest) k → Walk ts pubs us ss rest (ticked_groups offsets s now gs k)
  walk_groups [] s rest k i j w = fewer (0 + rest) rest k (omega arith) w
  walk_groups (g ∷ gs) s rest k i j w =
      walk_groups gs s rest (ticked_group offsets s now g k) i j.1 (walk_group s g (length gs + rest) k i j.0 (fewer (suc (length gs) + rest) (suc (length gs + rest)) k (omega arith) w))

  pub groups_few : (s : SupervisorRow) → is_supervisor_row s ≡ true → length (groups_of s) ≤ 4096
  groups_few s h = at_most (length (groups_of s)) s.task_count (rw (length-range_with_len 0 s.task_count) at (filter_shorter (has_partitions s) (range_with_len 0 s.task_count))) (supervisor_tasks s h) where
    at_most : (g n : ℕ) → g ≤ n → is_between 1 item_limit n ≡ true → g ≤ 4096
    at_most g n h k = grind (arith, nat_tests)

  walk_all : (vs : List SupervisorRow) (k : Ticking) → AllByRecursion (λ v. In v ss) vs → Walk ts pubs us ss (4096 * length vs) k → Walk ts pubs us ss 0 (ticked_all offsets now vs k)
  walk_all [] k a w = fewer (4096 * 0) 0 k (omega arith) w
  walk_all (v ∷ vs) k a w =
      walk_all vs (ticked_groups offsets v now (groups_of v) k) a.1
      (walk_groups (groups_of v) v (4096 * length vs) k a.0 (all_from_In _ (groups_of v) (λ g i. i))
      (fewer (4096 * length (v ∷ vs)) (length (groups_of v) + 4096 * length vs) k (enough_left (length (groups_of v)) (length vs) (groups_few v (In-list_all is_supervisor_row v ss a.0 supervisors.rows))) w)) where
        enough_left : (g n : ℕ) → g ≤ 4096 → g + 4096 * n ≤ 4096 * suc n
        enough_left g n h = omega arith

  pub walk_start : nat_lt row_limit (length us) ≡ false → AreReplicas ss us ts → AreCounted us → ((u : SequenceRow) → In u us → IsSupervised ss u) → Walk ts pubs us ss (4096 * length ss) (record { rows = us; told = nothing_ticked })
  walk_start few replicas counted supervised = record {
    tasks = λ h. rw append-nil h;
    replicas = rw append-nil replicas;
    counted = counted;
    supervised = supervised;
    room = start (length us) (length ss) few supervisors.room;
    published = λ h. h;
  } where
    start : (n m : ℕ) → nat_lt row_limit n ≡ false → nat_lt row_limit m ≡ false → n + 4096 * m ≤ enough
    start n m h k = grind (arith, nat_tests)

  pub walk_ticked : nat_lt row_limit (length us) ≡ false → AreReplicas ss us ts → AreCounted us → ((u : SequenceRow) → In u us → IsSupervised ss u) → Walk ts pubs us ss 0 (ticked offsets now ss us)
  walk_ticked few replicas counted supervised = walk_all ss (record { rows = us; told = nothing_ticked }) (all_from_In _ ss (λ v i. i)) (walk_start few replicas counted supervised)
