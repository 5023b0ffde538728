-- A step of the clock keeps which replicas haven't ended.
use Rattle.std.proofs.Common.{◌≡◌, ℕ, ℤ, zero, suc, ◌+◌, ◌*◌, ◌≤◌, ◌<◌, ◌^◌, Bool, true, false, cond, ◌==◌, ◌&&◌, List, [], ◌∷◌, ◌++◌, map, filter, find, Some, None, Option, refl, sym, ◌∙◌, ap, subst, arith, length, inl, inr, ◌⊎◌, bytes_eq}
use Rattle.std.specs.List.{AllByRecursion, list_any, range_with_len}
use Rattle.std.proofs.lemmas.Bool.{and_parts, cases_Bool, false≢true, or_right}
use Rattle.std.proofs.lemmas.List.{append-nil}
use Rattle.seg_names.specs.Names.{is_between}
use Rattle.book_rows.specs.Kinds.{is_unpublished}
use Rattle.book_rows.specs.Lists.{In, Pairs, is_empty}
use Rattle.book_rows.specs.Names.{begins_with, replica_name, sup_prefix}
use Rattle.book_rows.specs.SequenceRules.{HasLive}
use Rattle.book_rows.specs.Sequences.{abandoned, is_abandoned_by, is_of_group, is_open, name_of}
use Rattle.book_rows.specs.Shape.{AreDistinct, is_supervisor_row, same_supervisor, same_task}
use Rattle.book_rows.specs.Ticks.{Ticking, groups_of, has_partitions, is_active, is_late, late_from, nothing_ticked, opened_row, opens, replica_row, stopped, ticked, ticked_all, ticked_group, ticked_groups, with_stopped, without_late}
use Rattle.book_rows.specs.declared.kinds.SeqState.TheVariants as States
use Rattle.book_rows.specs.declared.rows.OffsetRow.{OffsetRow}
use Rattle.book_rows.specs.declared.rows.Publication.{Publication}
use Rattle.book_rows.specs.declared.rows.SequenceRow.{SequenceRow}
use Rattle.book_rows.specs.declared.rows.SupervisorRow.{SupervisorRow}
use Rattle.book_rows.specs.declared.rows.TaskRow.{TaskRow}
use Rattle.laws_locks.proofs.Lists.{In-append, In-filter, In-left, In-list_all, In-map, all_from_In, filter_In, pairs_filter}
use Rattle.laws_offsets.proofs.Lists.{same_text, text_same}
use Rattle.laws_sequences.specs.Links.{AreSupervisors}
use Rattle.laws_sequences.proofs.Counts.{open_parts}
use Rattle.laws_sequences.proofs.Keys.{one_name, supervisor_replicas}
use Rattle.laws_sequences.proofs.KeptLinks.{keeps_stopped}
use Rattle.laws_sequences.proofs.LiveRows.{gathered_In, gathered_from, ids_apart, live_append, live_ids, live_none, without_In, without_all, without_every, without_more, without_none}
use Rattle.laws_sequences.proofs.LiveSteps.{HaveNames, hit_ids}
use Rattle.laws_sequences.proofs.Positions.{range_distinct}
use Rattle.laws_sequences.proofs.Replicas.{In-right}
use Rattle.laws_sequences.proofs.TickWalk.{Walk, enough, fewer, groups_few, key, keys, walk_group, walk_groups, walk_late, walk_stopped}
use Rattle.laws_sequences.proofs.TickedTasks.{name_is_new}

-- each sequence lists its tasks of before that haven't ended by then, and those that were added; an unpublished one has one
pub record Lives (ts : List TaskRow) (k : Ticking) : Type 0 where
  pub listed : (u : SequenceRow) → In u k.rows → u.live ≡ without_all k.told.ended (live_ids u ts) ++ live_ids u k.told.submitted
  pub some : (u : SequenceRow) → In u k.rows → is_unpublished u.state ≡ true → is_empty u.live ≡ false

-- no task of this group was added yet
abbrev Fresh : List ℕ → ℕ → Ticking → Type 0
Fresh source group k = (u : SequenceRow) → In u k.rows → is_of_group source group u ≡ true → live_ids u k.told.submitted ≡ []

without_nil : (tasks : List (List ℕ)) → without_all tasks [] ≡ []
without_nil [] = refl
without_nil (x ∷ xs) = without_nil xs

module _ (offsets : List OffsetRow) (now : ℤ) (ts : List TaskRow) (pubs : List Publication) (us : List SequenceRow) (ss : List SupervisorRow) (supervisors : AreSupervisors ss) (distinct : AreDistinct same_task ts) where
  walk_names : (left : ℕ) (k : Ticking) → Walk ts pubs us ss left k → HaveNames k.rows
  walk_names left k w u v i j e = one_name ss k.rows supervisors w.supervised w.counted (few (length k.rows) left w.room) u v i j (text_same (name_of v) (name_of u) (sym e)) where
    few : (n l : ℕ) → n + l ≤ enough → n < 2 ^ 64
    few n l h = omega arith

  -- ---- late ones

  module _ (s : SupervisorRow) (group from left : ℕ) (k : Ticking) (w : Walk ts pubs us ss left k) (l : Lives ts k) (fresh : Fresh s.source group k) where
    abbrev hit : SequenceRow → Bool
    hit = is_abandoned_by s.source group from

    abbrev gone : List (List ℕ)
    gone = hit_ids hit k.rows

    fresh_hit : (u : SequenceRow) → In u k.rows → hit u ≡ true → live_ids u k.told.submitted ≡ []
    fresh_hit u i e = fresh u i (open_parts s.source group u (and_parts (is_open s.source group u) _ e).0).0

    old_ids : (u : SequenceRow) → In u k.rows → hit u ≡ true → u.live ≡ without_all k.told.ended (live_ids u ts)
    old_ids u i e = l.listed u i ∙ ap (λ ids. without_all k.told.ended (live_ids u ts) ++ ids) (fresh_hit u i e) ∙ append-nil (without_all k.told.ended (live_ids u ts))

    apart : (u : SequenceRow) → In u k.rows → hit u ≡ false → (x y : List ℕ) → In x (without_all k.told.ended (live_ids u ts)) → In y gone → bytes_eq x y ≡ false
    apart u i off x y j g =
        let v = gathered_from y (filter hit k.rows) g in
        let found = In-filter hit v.0 k.rows v.1 in
        let its = without_In k.told.ended (live_ids v.0 ts) y (subst (λ ids. In y ids) (old_ids v.0 found.0 found.1) v.2) in
        ids_apart ts u v.0 x y distinct (without_In k.told.ended (live_ids u ts) x j) its (λ same. other v.0 found.0 found.1 same) where
          other : (v : SequenceRow) → In v k.rows → hit v ≡ true → name_of u ≡ name_of v → ⊥
          other v m on same = false≢true (sym off ∙ subst (λ (z : SequenceRow). hit z ≡ true) (sym (walk_names left k w u v i m same)) on)

    late_listed : (u : SequenceRow) → In u k.rows → (b : Bool) → hit u ≡ b → cond b [] u.live ≡ without_all (k.told.ended ++ gone) (live_ids u ts) ++ live_ids u k.told.submitted
    late_listed u i true e =
        sym (ap (λ ids. without_all (k.told.ended ++ gone) (live_ids u ts) ++ ids) (fresh_hit u i e) ∙ append-nil (without_all (k.told.ended ++ gone) (live_ids u ts))
        ∙ without_more k.told.ended gone (live_ids u ts) ∙ ap (without_all gone) (sym (old_ids u i e)) ∙ without_every gone u.live (λ x j. gathered_In x u (filter hit k.rows) (filter_In hit u k.rows i e) j))
    late_listed u i false e =
        l.listed u i ∙ ap (λ ids. ids ++ live_ids u k.told.submitted) (sym (without_more k.told.ended gone (live_ids u ts) ∙ without_none gone (without_all k.told.ended (live_ids u ts)) (apart u i e)))

    late_some : (u : SequenceRow) → In u k.rows → (b : Bool) → hit u ≡ b → is_unpublished (cond b States.Abandoned u.state) ≡ true → is_empty (cond b [] u.live) ≡ false
    late_some u i true e p = absurd (false≢true p)
    late_some u i false e p = l.some u i p

  lives_late : (o : Option SequenceRow) (s : SupervisorRow) (group left : ℕ) (k : Ticking) → Walk ts pubs us ss left k → Lives ts k → Fresh s.source group k → Lives ts (late_from o s group k)
  lives_late None s group left k w l fresh = l
  lives_late (Some v) s group left k w l fresh = record {
    listed = λ u i. (
        let from = In-map (abandoned s.source group v.index) u k.rows i in
        subst (λ (x : SequenceRow). x.live ≡ without_all (late_from (Some v) s group k).told.ended (live_ids x ts) ++ live_ids x k.told.submitted) (sym from.2)
        (late_listed s group v.index left k w l fresh from.0 from.1 (is_abandoned_by s.source group v.index from.0) refl));
    some = λ u i p. (
        let from = In-map (abandoned s.source group v.index) u k.rows i in
        subst (λ (x : SequenceRow). is_empty x.live ≡ false) (sym from.2)
        (late_some s group v.index left k w l fresh from.0 from.1 (is_abandoned_by s.source group v.index from.0) refl (subst (λ (x : SequenceRow). is_unpublished x.state ≡ true) from.2 p)));
  }

  fresh_late : (source : List ℕ) (g : ℕ) (o : Option SequenceRow) (s : SupervisorRow) (group : ℕ) (k : Ticking) → Fresh source g k → Fresh source g (late_from o s group k)
  fresh_late source g None s group k fresh u i e = fresh u i e
  fresh_late source g (Some v) s group k fresh u i e =
      let from = In-map (abandoned s.source group v.index) u k.rows i in
      subst (λ (x : SequenceRow). live_ids x k.told.submitted ≡ []) (sym from.2) (fresh from.0 from.1 (subst (λ (x : SequenceRow). is_of_group source g x ≡ true) from.2 e))

  -- ---- those whose time is over

  lives_stopped : (s : SupervisorRow) (group : ℕ) (k : Ticking) → Lives ts k → Lives ts (with_stopped s group now k)
  lives_stopped s group k l = record {
    listed = λ u i. (
        let from = In-map (stopped s group now) u k.rows i in
        subst (λ (x : SequenceRow). x.live ≡ without_all k.told.ended (live_ids x ts) ++ live_ids x k.told.submitted) (sym from.2) (l.listed from.0 from.1));
    some = λ u i p. (
        let from = In-map (stopped s group now) u k.rows i in
        subst (λ (x : SequenceRow). is_empty x.live ≡ false) (sym from.2) (l.some from.0 from.1 (sym ((keeps_stopped s group now).unpublished from.0) ∙ subst (λ (x : SequenceRow). is_unpublished x.state ≡ true) from.2 p)));
  }

  fresh_stopped : (source : List ℕ) (g : ℕ) (s : SupervisorRow) (group : ℕ) (k : Ticking) → Fresh source g k → Fresh source g (with_stopped s group now k)
  fresh_stopped source g s group k fresh u i e =
      let from = In-map (stopped s group now) u k.rows i in
      subst (λ (x : SequenceRow). live_ids x k.told.submitted ≡ []) (sym from.2) (fresh from.0 from.1 (subst (λ (x : SequenceRow). is_of_group source g x ≡ true) from.2 e))

  -- ---- one is opened

  -- its own tasks are all live
  live_new : (u : SequenceRow) (ids : List (List ℕ)) → live_ids u (map (replica_row u) ids) ≡ ids
  live_new u [] = refl
  live_new u (x ∷ ids) = rw (text_same (name_of u) (name_of u) refl) (ap (λ (rest : List (List ℕ)). x ∷ rest) (live_new u ids))

  -- and no other's
  live_others : (u v : SequenceRow) (ids : List (List ℕ)) → (name_of u ≡ name_of v → ⊥) → live_ids u (map (replica_row v) ids) ≡ []
  live_others u v ids other = live_none u (map (replica_row v) ids) (each ids) where
    off : bytes_eq (name_of v) (name_of u) ≡ false
    off = elim (cases_Bool (bytes_eq (name_of v) (name_of u))) [ inr away ↦ away | inl on ↦ absurd (other (sym (same_text (name_of v) (name_of u) on))) ]

    each : (ids : List (List ℕ)) → AllByRecursion (λ t. bytes_eq t.group (name_of u) ≡ false) (map (replica_row v) ids)
    each [] = tt
    each (x ∷ ids) = (off, each ids)

  module _ (s : SupervisorRow) (among : In s ss) (group : ℕ) (of_s : In group (groups_of s)) (left : ℕ) (k : Ticking) (w : Walk ts pubs us ss (suc left) k) (l : Lives ts k) where
    abbrev row : SequenceRow
    row = opened_row offsets s group now k.rows

    is_new : (v : SequenceRow) → In v k.rows → name_of v ≡ name_of row → ⊥
    is_new = name_is_new row ss k.rows supervisors (keys offsets now ts pubs us ss supervisors s among group of_s left k w) w.counted (key offsets now ts pubs us ss supervisors s among group of_s left k w) refl

    -- no task so far is of it
    none_so_far : (rows : List TaskRow) → ((t : TaskRow) → In t rows → In t (ts ++ k.told.submitted)) → live_ids row rows ≡ []
    none_so_far rows f = live_none row rows (all_from_In _ rows (λ t i. each t (f t i))) where
      each : (t : TaskRow) → In t (ts ++ k.told.submitted) → bytes_eq t.group (name_of row) ≡ false
      each t i = elim (cases_Bool (bytes_eq t.group (name_of row))) [
        | inr away ↦ away
        | inl on ↦
            let named : t.group ≡ name_of row = same_text t.group (name_of row) on in
            let own : begins_with sup_prefix t.group ≡ true = rw named refl in
            let r = w.replicas t i (or_right (begins_with sup_prefix t.task) (begins_with sup_prefix t.group) own) in
            absurd (is_new r.sequence r.among (sym r.group_is ∙ named))
      ]

    row_listed : row.live ≡ without_all k.told.ended (live_ids row ts) ++ live_ids row (k.told.submitted ++ map (replica_row row) row.live)
    row_listed =
        sym (ap (λ ids. without_all k.told.ended ids ++ live_ids row (k.told.submitted ++ map (replica_row row) row.live)) (none_so_far ts (λ t i. In-left t ts k.told.submitted i))
        ∙ ap (λ ids. ids ++ live_ids row (k.told.submitted ++ map (replica_row row) row.live)) (without_nil k.told.ended)
        ∙ live_append row k.told.submitted (map (replica_row row) row.live)
        ∙ ap (λ ids. ids ++ live_ids row (map (replica_row row) row.live)) (none_so_far k.told.submitted (λ t i. In-right t ts k.told.submitted i))
        ∙ live_new row row.live)

    old_listed : (u : SequenceRow) → In u k.rows → live_ids u (k.told.submitted ++ map (replica_row row) row.live) ≡ live_ids u k.told.submitted
    old_listed u i =
        live_append u k.told.submitted (map (replica_row row) row.live) ∙ ap (λ ids. live_ids u k.told.submitted ++ ids) (live_others u row row.live (λ e. is_new u i e)) ∙ append-nil (live_ids u k.told.submitted)

    row_some : is_empty row.live ≡ false
    row_some = not_empty s.replicas (supervisor_replicas s (In-list_all is_supervisor_row s ss among supervisors.rows)) where
      not_empty : (n : ℕ) → is_between 1 16 n ≡ true → is_empty (map (replica_name (name_of row)) (range_with_len 0 n)) ≡ false
      not_empty zero h = absurd (false≢true h)
      not_empty (suc n) h = refl

    lives_opens : Lives ts (opens row k)
    lives_opens = record { listed = λ u i. at_place_of u (In-append u k.rows (row ∷ []) i); some = λ u i p. some_of u (In-append u k.rows (row ∷ []) i) p } where
      at_place_of : (u : SequenceRow) → In u k.rows ⊎ In u (row ∷ []) → u.live ≡ without_all k.told.ended (live_ids u ts) ++ live_ids u (k.told.submitted ++ map (replica_row row) row.live)
      at_place_of u (inl i) = l.listed u i ∙ ap (λ ids. without_all k.told.ended (live_ids u ts) ++ ids) (sym (old_listed u i))
      at_place_of u (inr (inl same)) = subst (λ (x : SequenceRow). x.live ≡ without_all k.told.ended (live_ids x ts) ++ live_ids x (k.told.submitted ++ map (replica_row row) row.live)) (sym same) row_listed
      at_place_of u (inr (inr none)) = absurd none

      some_of : (u : SequenceRow) → In u k.rows ⊎ In u (row ∷ []) → is_unpublished u.state ≡ true → is_empty u.live ≡ false
      some_of u (inl i) p = l.some u i p
      some_of u (inr (inl same)) p = subst (λ (x : SequenceRow). is_empty x.live ≡ false) (sym same) row_some
      some_of u (inr (inr none)) p = absurd none

    lives_opened : (b : Bool) → Lives ts (cond b k (opens row k))
    lives_opened true = l
    lives_opened false = lives_opens

    -- another group is as fresh as before
    fresh_opened : (b : Bool) (source : List ℕ) (g : ℕ) → (bytes_eq s.source source && (group == g)) ≡ false → Fresh source g k → Fresh source g (cond b k (opens row k))
    fresh_opened true source g off fresh u i e = fresh u i e
    fresh_opened false source g off fresh u i e = by_place u (In-append u k.rows (row ∷ []) i) e where
      by_place : (u : SequenceRow) → In u k.rows ⊎ In u (row ∷ []) → is_of_group source g u ≡ true → live_ids u (k.told.submitted ++ map (replica_row row) row.live) ≡ []
      by_place u (inl i) e = old_listed u i ∙ fresh u i e
      by_place u (inr (inl same)) e = absurd (false≢true (sym off ∙ subst (λ (x : SequenceRow). is_of_group source g x ≡ true) same e))
      by_place u (inr (inr none)) e = absurd none

  -- ---- the steps of one group

  lives_group : (s : SupervisorRow) (group left : ℕ) (k : Ticking) → In s ss → In group (groups_of s) → Walk ts pubs us ss (suc left) k → Lives ts k → Fresh s.source group k → Lives ts (ticked_group offsets s now group k)
  lives_group s group left k i j w l fresh =
      let late = without_late s group now k in
      let before = with_stopped s group now late in
      let walked = walk_late offsets now ts pubs us ss supervisors (find (is_late s group now) k.rows) s group (suc left) k w in
      lives_opened s i group j left before (walk_stopped offsets now ts pubs us ss supervisors s group (suc left) late walked) (lives_stopped s group late (lives_late (find (is_late s group now) k.rows) s group (suc left) k w l fresh)) (list_any (is_active s group) before.rows)

  fresh_group : (source : List ℕ) (g : ℕ) (s : SupervisorRow) (group left : ℕ) (k : Ticking) → In s ss → In group (groups_of s) → Walk ts pubs us ss (suc left) k → Lives ts k → Fresh s.source group k → (bytes_eq s.source source && (group == g)) ≡ false → Fresh source g k
      → Fresh source g (ticked_group offsets s now group k)
  fresh_group source g s group left k i j w l own off fresh =
      let late = without_late s group now k in
      let before = with_stopped s group now late in
      let walked = walk_late offsets now ts pubs us ss supervisors (find (is_late s group now) k.rows) s group (suc left) k w in
      fresh_opened s i group j left before (walk_stopped offsets now ts pubs us ss supervisors s group (suc left) late walked) (lives_stopped s group late (lives_late (find (is_late s group now) k.rows) s group (suc left) k w l own))
      (list_any (is_active s group) before.rows) source g off (fresh_stopped source g s group late (fresh_late source g (find (is_late s group now) k.rows) s group k fresh))

  -- ---- all groups of all supervisors

  -- no task of a later supervisor's group was added yet
  abbrev Later : List SupervisorRow → Ticking → Type 0
  Later vs k = AllByRecursion (λ v. (g : ℕ) → Fresh v.source g k) vs

  lives_groups : (gs : List ℕ) (s : SupervisorRow) (vs : List SupervisorRow) (rest : ℕ) (k : Ticking) → In s ss → AllByRecursion (λ g. In g (groups_of s)) gs → Pairs (λ a b. (a == b) ≡ false) gs → AllByRecursion (λ v. bytes_eq s.source v.source ≡ false) vs
      → Walk ts pubs us ss (length gs + rest) k → Lives ts k → AllByRecursion (λ g. Fresh s.source g k) gs → Later vs k → Lives ts (ticked_groups offsets s now gs k) × Later vs (ticked_groups offsets s now gs k)
  lives_groups [] s vs rest k i j d o w l fresh later = (l, later)
  lives_groups (g ∷ gs) s vs rest k i j d o w l fresh later =
      let one = fewer offsets now ts pubs us ss supervisors (suc (length gs) + rest) (suc (length gs + rest)) k (omega arith) w in
      lives_groups gs s vs rest (ticked_group offsets s now g k) i j.1 d.1 o (walk_group offsets now ts pubs us ss supervisors s g (length gs + rest) k i j.0 one) (lives_group s g (length gs + rest) k i j.0 one l fresh.0)
      (both_all gs d.0 fresh.1 (λ h off f. fresh_group s.source h s g (length gs + rest) k i j.0 one l fresh.0 (rw (text_same s.source s.source refl) off) f))
      (both_all vs o later (λ v off f h. fresh_group v.source h s g (length gs + rest) k i j.0 one l fresh.0 (rw off refl) (f h))) where
        both_all : {X : Type 0} {P Q R : X → Type 0} → (xs : List X) → AllByRecursion P xs → AllByRecursion Q xs → ((x : X) → P x → Q x → R x) → AllByRecursion R xs
        both_all [] a b f = tt
        both_all (x ∷ xs) a b f = (f x a.0 b.0, both_all xs a.1 b.1 f)

  lives_all : (vs : List SupervisorRow) (k : Ticking) → AllByRecursion (λ v. In v ss) vs → AreDistinct same_supervisor vs → Walk ts pubs us ss (4096 * length vs) k → Lives ts k → Later vs k → Lives ts (ticked_all offsets now vs k)
  lives_all [] k a d w l later = l
  lives_all (v ∷ vs) k a d w l later =
      let limits = In-list_all is_supervisor_row v ss a.0 supervisors.rows in
      let each = all_from_In (λ g. In g (groups_of v)) (groups_of v) (λ g i. i) in
      let one = fewer offsets now ts pubs us ss supervisors (4096 * length (v ∷ vs)) (length (groups_of v) + 4096 * length vs) k (enough_left (length (groups_of v)) (length vs) (groups_few offsets now ts pubs us ss supervisors v limits)) w in
      let step = lives_groups (groups_of v) v vs (4096 * length vs) k a.0 each (pairs_filter _ (has_partitions v) (range_with_len 0 v.task_count) (range_distinct 0 v.task_count)) d.0 one l (all_from_In (λ g. Fresh v.source g k) (groups_of v) (λ g i. later.0 g)) later.1 in
      lives_all vs (ticked_groups offsets v now (groups_of v) k) a.1 d.1 (walk_groups offsets now ts pubs us ss supervisors (groups_of v) v (4096 * length vs) k a.0 each one) step.0 step.1 where
        enough_left : (g n : ℕ) → g ≤ 4096 → g + 4096 * n ≤ 4096 * suc n
        enough_left g n h = omega arith

  pub lives_ticked : Walk ts pubs us ss (4096 * length ss) (record { rows = us; told = nothing_ticked }) → ((u : SequenceRow) → In u us → HasLive ts u) → Lives ts (ticked offsets now ss us)
  lives_ticked w live =
      lives_all ss (record { rows = us; told = nothing_ticked }) (all_from_In _ ss (λ v i. i)) supervisors.sources w
      (record { listed = λ u i. (live u i).live ∙ sym (append-nil (live_ids u ts)); some = λ u i. (live u i).some }) (all_from_In _ ss (λ v i g u j e. refl))
