-- What the table keeps, under the changes of its sequences and with one more supervisor.
use Rattle.std.proofs.Common.{◌&&◌, ◌++◌, ◌∷◌, ◌≡◌, Bool, List, None, Option, Some, [], bytes_eq, cond, false, length, map, refl, true, ℕ, ℤ}
use Rattle.std.proofs.lemmas.List.{length-map}
use Rattle.book_rows.specs.Kinds.{is_unpublished}
use Rattle.book_rows.specs.Lists.{is_empty}
use Rattle.book_rows.specs.Reports.{Ended, closed_at, ended, ended_by, left_all, left_by, reported}
use Rattle.book_rows.specs.Sequences.{abandoned, dropped_sequence, is_closed, published, sequence_named, supervisor_of, tasks_abandoned}
use Rattle.book_rows.specs.Shape.{same_supervisor}
use Rattle.book_rows.specs.declared.rows.Report.{Report}
use Rattle.book_rows.specs.declared.rows.SequenceRow.{SequenceRow}
use Rattle.book_rows.specs.declared.rows.SupervisorRow.{SupervisorRow}
use Rattle.laws_locks.proofs.Lists.{all_map, all_push, none_found, pairs_push}
use Rattle.laws_sequences.proofs.Counts.{KeepsKeys, counted_map}
use Rattle.sup_core.specs.Kept.{AreKept, HasGroups, HasKey}
use Rattle.sup_core.specs.Reports.{rows_after}
use Rattle.sup_core.specs.Supervising.{supervise_by, supervise_fault}

-- ---- supervisors

pub kept_none : AreKept [] []
kept_none = record { groups = tt; sources = tt; counted = λ source group. refl; keys = tt; room = refl }

sourceless : (o : Option SupervisorRow) (n : ℕ) → supervise_by o n ≡ None → o ≡ None
sourceless None n e = refl
sourceless (Some s) n e = cc

pub kept_supervised : (ss : List SupervisorRow) (us : List SequenceRow) (row : SupervisorRow) → HasGroups row → supervise_fault row.source ss ≡ None → AreKept ss us → AreKept (ss ++ row ∷ []) us
kept_supervised ss us row own passes kept = record {
  groups = all_push HasGroups ss row kept.groups own;
  sources = pairs_push (λ s v. same_supervisor s v ≡ false) ss row kept.sources (none_found (λ (s : SupervisorRow). bytes_eq s.source row.source) ss (sourceless (supervisor_of row.source ss) (length ss) passes));
  counted = kept.counted;
  keys = kept.keys;
  room = kept.room;
}

-- ---- changes of sequences

module _ (ss : List SupervisorRow) (us : List SequenceRow) (kept : AreKept ss us) where
  pub kept_map : (f : SequenceRow → SequenceRow) → KeepsKeys f → AreKept ss (map f us)
  kept_map f k = record {
    groups = kept.groups;
    sources = kept.sources;
    counted = counted_map f k us kept.counted;
    keys = all_map HasKey HasKey f key us kept.keys;
    room = rw (length-map us f) kept.room;
  } where
    key : (u : SequenceRow) → HasKey u → HasKey (f u)
    key u h = rw (k.source_is u, k.group_is u, k.index_is u) h

  -- a change that names neither source, group nor index
  pub kept_reported : (name : List ℕ) (new : Report) (clock : ℤ) (o : Option SequenceRow) → AreKept ss (rows_after o name new clock us)
  kept_reported name new clock None = kept
  kept_reported name new clock (Some u) = by (is_closed u) where
    by : (b : Bool) → AreKept ss (cond b us (map (reported name new clock) us))
    by true = kept
    by false = kept_map (reported name new clock) (record { source_is = λ v. refl; group_is = λ v. refl; index_is = λ v. refl })

  pub kept_dropped : (source : List ℕ) (b : Bool) → AreKept ss (cond b (map (dropped_sequence source) us) us)
  kept_dropped source true = kept_map (dropped_sequence source) (record { source_is = λ v. refl; group_is = λ v. refl; index_is = λ v. refl })
  kept_dropped source false = kept

  pub kept_published : (name : List ℕ) → AreKept ss (map (published name) us)
  kept_published name = kept_map (published name) (record { source_is = λ v. refl; group_is = λ v. refl; index_is = λ v. refl })

kept_ended_by : (ss : List SupervisorRow) (us : List SequenceRow) → AreKept ss us → (name : List ℕ) (clock : ℤ) (o : Option SequenceRow) → AreKept ss (ended_by o name clock us).sequences
kept_ended_by ss us kept name clock None = kept
kept_ended_by ss us kept name clock (Some u) = by (is_unpublished u.state && is_empty u.live) where
  by : (b : Bool) → AreKept ss (cond {A = Ended} b (record { sequences = map (abandoned u.source u.group u.index) us; tasks = tasks_abandoned u.source u.group u.index us }) (record { sequences = map (closed_at name clock) us; tasks = [] })).sequences
  by true = kept_map ss us kept (abandoned u.source u.group u.index) (record { source_is = λ v. refl; group_is = λ v. refl; index_is = λ v. refl })
  by false = kept_map ss us kept (closed_at name clock) (record { source_is = λ v. refl; group_is = λ v. refl; index_is = λ v. refl })

pub kept_ended : (ss : List SupervisorRow) (us : List SequenceRow) → AreKept ss us → (name task : List ℕ) (clock : ℤ) → AreKept ss (ended name task clock us).sequences
kept_ended ss us kept name task clock =
    kept_ended_by ss (left_all task us) (kept_map ss us kept (left_by task) (record { source_is = λ v. refl; group_is = λ v. refl; index_is = λ v. refl })) name clock (sequence_named name (left_all task us))
