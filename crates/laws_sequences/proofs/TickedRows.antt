-- A step of the clock, and the end of a task, keep that the sequences are linked.
use Rattle.std.proofs.Common.{◌≡◌, ℕ, ℤ, Bool, true, false, cond, ◌&&◌, ◌||◌, List, [], ◌∷◌, map, find, Some, None, Option, refl, sym, subst}
use Rattle.std.specs.List.{AllByRecursion, list_any}
use Rattle.std.proofs.lemmas.Bool.{and_from, false≢true, or_parts}
use Rattle.book_rows.specs.Kinds.{is_unpublished, same_state}
use Rattle.book_rows.specs.Lists.{In, is_empty}
use Rattle.book_rows.specs.Reports.{Ended, closed_at, ended, ended_by, left_all, left_by}
use Rattle.book_rows.specs.Sequences.{abandoned, is_closed, is_of_group, is_open, open_rows, partitions_of, positions, sequence_named, tasks_abandoned}
use Rattle.book_rows.specs.Shape.{AreDistinct, same_supervisor}
use Rattle.book_rows.specs.Ticks.{Ticking, groups_of, is_active, is_late, last_ends, late_from, nothing_ticked, of_group, opened_row, opens, stopped, ticked, ticked_all, ticked_group, ticked_groups, with_opened, with_stopped, without_late}
use Rattle.book_rows.specs.declared.kinds.SeqState.{SeqState}
use Rattle.book_rows.specs.declared.kinds.SeqState.TheVariants as States
use Rattle.book_rows.specs.declared.rows.Offset.{Offset}
use Rattle.book_rows.specs.declared.rows.OffsetRow.{OffsetRow}
use Rattle.book_rows.specs.declared.rows.SequenceRow.{SequenceRow}
use Rattle.book_rows.specs.declared.rows.SupervisorRow.{SupervisorRow}
use Rattle.laws_locks.proofs.Lists.{all_from_In}
use Rattle.laws_sequences.specs.Links.{AreLinked}
use Rattle.laws_sequences.proofs.Abandoned.{linked_abandoned}
use Rattle.laws_sequences.proofs.Chains.{end_after}
use Rattle.laws_sequences.proofs.Counts.{open_parts}
use Rattle.laws_sequences.proofs.Filters.{all_passing}
use Rattle.laws_sequences.proofs.KeptLinks.{keeps_closed, keeps_left, keeps_stopped, linked_map}
use Rattle.laws_sequences.proofs.Opened.{linked_opened}

-- ---- of the states of unpublished sequences only one isn't active

state_closed : (st : SeqState) → (same_state st States.Reading || same_state st States.Paused) ≡ false → is_unpublished st ≡ true → same_state st States.Closed ≡ true
state_closed States.Reading a e = cc
state_closed States.Paused a e = cc
state_closed States.Closed a e = refl
state_closed States.Published a e = cc
state_closed States.Abandoned a e = cc

closed_where : (s : SupervisorRow) (group : ℕ) (us : List SequenceRow) → list_any (is_active s group) us ≡ false → AllByRecursion (λ u. is_open s.source group u ≡ true → is_closed u ≡ true) us
closed_where s group [] e = tt
closed_where s group (u ∷ us) e =
    let both = or_parts (is_active s group u) (list_any (is_active s group) us) e in
    (λ o. here (is_of_group s.source group u) u.state both.0 (open_parts s.source group u o), closed_where s group us both.1) where
      here : (g : Bool) (st : SeqState) → (g && (same_state st States.Reading || same_state st States.Paused)) ≡ false → (g ≡ true) × (is_unpublished st ≡ true) → same_state st States.Closed ≡ true
      here true st a o = state_closed st a o.1
      here false st a o = absurd (false≢true o.0)

-- ---- the ends of the last closed one are where the unpublished ones end

published_open : (st : SeqState) → is_unpublished st ≡ false → same_state st States.Closed ≡ false
published_open States.Reading e = cc
published_open States.Paused e = cc
published_open States.Closed e = cc
published_open States.Published e = refl
published_open States.Abandoned e = refl

last_is : (s : SupervisorRow) (group : ℕ) (at : List Offset) (us : List SequenceRow) → AllByRecursion (λ u. is_open s.source group u ≡ true → is_closed u ≡ true) us → last_ends at (of_group s group us) ≡ end_after at (open_rows s.source group us)
last_is s group at [] a = refl
last_is s group at (u ∷ us) a = go (is_of_group s.source group u) (is_unpublished u.state) refl refl (λ at. last_is s group at us a.1) where
  go : (g p : Bool) → is_of_group s.source group u ≡ g → is_unpublished u.state ≡ p → ((at : List Offset) → last_ends at (of_group s group us) ≡ end_after at (open_rows s.source group us))
      → last_ends at (cond g (u ∷ of_group s group us) (of_group s group us)) ≡ end_after at (cond (g && p) (u ∷ open_rows s.source group us) (open_rows s.source group us))
  go true true e f rest =
      let closed : is_closed u ≡ true = a.0 (and_from (is_of_group s.source group u) (is_unpublished u.state) e f) in
      subst (λ b. last_ends (cond b u.ends at) (of_group s group us) ≡ end_after u.ends (open_rows s.source group us)) (sym closed) (rest u.ends)
  go true false e f rest =
      let off : is_closed u ≡ false = published_open u.state f in
      subst (λ b. last_ends (cond b u.ends at) (of_group s group us) ≡ end_after at (open_rows s.source group us)) (sym off) (rest at)
  go false p e f rest = rest at

-- ---- the steps of one group

module _ (rows : List OffsetRow) (ss : List SupervisorRow) (distinct : AreDistinct same_supervisor ss) where
  linked_late : (o : Option SequenceRow) (s : SupervisorRow) (group : ℕ) (k : Ticking) → AreLinked rows ss k.rows → AreLinked rows ss (late_from o s group k).rows
  linked_late None s group k h = h
  linked_late (Some u) s group k h = linked_abandoned s.source group u.index rows ss k.rows h

  opening : (b : Bool) (s : SupervisorRow) (group : ℕ) (now : ℤ) (k : Ticking) → list_any (is_active s group) k.rows ≡ b → In s ss → AreLinked rows ss k.rows → AreLinked rows ss (cond b k (opens (opened_row rows s group now k.rows) k)).rows
  opening true s group now k e i h = h
  opening false s group now k e i h = linked_opened rows ss k.rows (opened_row rows s group now k.rows) s distinct i (record {
    source_is = refl;
    all_closed = all_passing (is_open s.source group) (λ u. is_closed u ≡ true) k.rows (closed_where s group k.rows e);
    starts_there = last_is s group (positions rows s.source s.stream (partitions_of s group)) k.rows (closed_where s group k.rows e);
    index_is = refl;
    reads = refl;
  }) h

  -- where no sequence of the group is active, one is opened
  pub linked_opened_where : (s : SupervisorRow) (group : ℕ) (now : ℤ) (k : Ticking) → In s ss → AreLinked rows ss k.rows → AreLinked rows ss (with_opened rows s group now k).rows
  linked_opened_where s group now k i h = opening (list_any (is_active s group) k.rows) s group now k refl i h

  pub linked_group : (s : SupervisorRow) (group : ℕ) (now : ℤ) (k : Ticking) → In s ss → AreLinked rows ss k.rows → AreLinked rows ss (ticked_group rows s now group k).rows
  linked_group s group now k i h =
      linked_opened_where s group now (with_stopped s group now (without_late s group now k)) i
      (linked_map (stopped s group now) (keeps_stopped s group now) rows ss (without_late s group now k).rows (linked_late (find (is_late s group now) k.rows) s group k h))

  -- ---- all groups of all supervisors

  linked_groups : (gs : List ℕ) (s : SupervisorRow) (now : ℤ) (k : Ticking) → In s ss → AreLinked rows ss k.rows → AreLinked rows ss (ticked_groups rows s now gs k).rows
  linked_groups [] s now k i h = h
  linked_groups (g ∷ gs) s now k i h = linked_groups gs s now (ticked_group rows s now g k) i (linked_group s g now k i h)

  linked_all : (vs : List SupervisorRow) (now : ℤ) (k : Ticking) → AllByRecursion (λ v. In v ss) vs → AreLinked rows ss k.rows → AreLinked rows ss (ticked_all rows now vs k).rows
  linked_all [] now k a h = h
  linked_all (v ∷ vs) now k a h = linked_all vs now (ticked_groups rows v now (groups_of v) k) a.1 (linked_groups (groups_of v) v now k a.0 h)

  pub linked_ticked : (now : ℤ) (us : List SequenceRow) → AreLinked rows ss us → AreLinked rows ss (ticked rows now ss us).rows
  linked_ticked now us h = linked_all ss now (record { rows = us; told = nothing_ticked }) (all_from_In _ ss (λ v i. i)) h

-- ---- a task ends

ended_by_linked : (o : Option SequenceRow) (name : List ℕ) (clock : ℤ) (rows : List OffsetRow) (ss : List SupervisorRow) (us : List SequenceRow) → AreLinked rows ss us → AreLinked rows ss (ended_by o name clock us).sequences
ended_by_linked None name clock rows ss us h = h
ended_by_linked (Some u) name clock rows ss us h =
    either (is_unpublished u.state && is_empty u.live) (record { sequences = map (abandoned u.source u.group u.index) us; tasks = tasks_abandoned u.source u.group u.index us }) (record { sequences = map (closed_at name clock) us; tasks = [] })
    (linked_abandoned u.source u.group u.index rows ss us h) (linked_map (closed_at name clock) (keeps_closed name clock) rows ss us h) where
      either : (b : Bool) (x y : Ended) → AreLinked rows ss x.sequences → AreLinked rows ss y.sequences → AreLinked rows ss (cond b x y).sequences
      either true x y h k = h
      either false x y h k = k

pub linked_ended : (name task : List ℕ) (clock : ℤ) (rows : List OffsetRow) (ss : List SupervisorRow) (us : List SequenceRow) → AreLinked rows ss us → AreLinked rows ss (ended name task clock us).sequences
linked_ended name task clock rows ss us h = ended_by_linked (sequence_named name (left_all task us)) name clock rows ss (left_all task us) (linked_map (left_by task) (keeps_left task) rows ss us h)
