-- A new supervisor has no sequences yet, and changes nothing of those of others.
use Rattle.std.proofs.Common.{◌≡◌, ℕ, true, false, [], ◌∷◌, ◌++◌, None, refl, sym, ◌∙◌, length, nat_lt, bytes_eq}
use Rattle.std.specs.List.{AllByRecursion}
use Rattle.std.proofs.lemmas.Bool.{false≢true}
use Rattle.book_rows.specs.Lists.{In}
use Rattle.book_rows.specs.Outcome.{is_full, no_room, row_limit}
use Rattle.book_rows.specs.SequenceRules.{IsSupervised}
use Rattle.book_rows.specs.Sequences.{is_open, open_rows, supervisor_of}
use Rattle.book_rows.specs.Shape.{is_supervisor_row, same_supervisor}
use Rattle.book_rows.specs.declared.kinds.Table.TheVariants as Tables
use Rattle.book_rows.specs.declared.rows.Book.{Book}
use Rattle.book_rows.specs.declared.rows.SequenceRow.{SequenceRow}
use Rattle.book_rows.specs.declared.rows.SupervisorRow.{SupervisorRow}
use Rattle.laws_locks.proofs.Lists.{In-all, In-left, all_from_In, all_push, none_found, pairs_push, pass_push}
use Rattle.laws_locks.proofs.Rooms.{has_room}
use Rattle.laws_sequences.specs.Links.{AreChained, AreInLine, AreLinked, AreOwn, HasLinks}
use Rattle.laws_sequences.proofs.EachStep.{with_supervisor}
use Rattle.laws_sequences.proofs.Filters.{filter_none}
use Rattle.laws_sequences.proofs.Replicas.{replicas_of_more}

module _ (b : Book) (row : SupervisorRow) (h : HasLinks b) (none : AllByRecursion (λ s. bytes_eq s.source row.source ≡ false) b.supervisors) where
  -- no sequence is of its source
  no_sequence : (u : SequenceRow) → In u b.sequences → bytes_eq u.source row.source ≡ false
  no_sequence u i =
      let s = h.supervised.each u i in
      rw (← s.source_is) (In-all (λ (v : SupervisorRow). bytes_eq v.source row.source ≡ false) s.supervisor b.supervisors s.among none)

  none_open : (group : ℕ) → open_rows row.source group b.sequences ≡ []
  none_open group = filter_none (is_open row.source group) b.sequences (all_from_In _ b.sequences (λ u i. rw (no_sequence u i) refl))

  new_chained : AreChained b.offsets b.sequences row
  new_chained group = rw (none_open group) tt

  new_own : AreOwn row b.sequences
  new_own = all_from_In _ b.sequences (λ u i e. absurd (false≢true (sym (no_sequence u i) ∙ e)))

  linked_more : AreLinked b.offsets (b.supervisors ++ row ∷ []) b.sequences
  linked_more = record {
    counted = h.linked.counted;
    chained = all_push (AreChained b.offsets b.sequences) b.supervisors row h.linked.chained new_chained;
    own = all_push (λ s. AreOwn s b.sequences) b.supervisors row h.linked.own new_own;
  }

  more_supervised : (u : SequenceRow) → In u b.sequences → IsSupervised (b.supervisors ++ row ∷ []) u
  more_supervised u i =
      let s = h.supervised.each u i in
      record { supervisor = s.supervisor; among = In-left s.supervisor b.supervisors (row ∷ []) s.among; source_is = s.source_is; group_is = s.group_is }

  line_more : is_supervisor_row row ≡ true → nat_lt row_limit (length (b.supervisors ++ row ∷ [])) ≡ false → AreInLine b.tasks b.publications b.offsets (b.supervisors ++ row ∷ []) b.sequences
  line_more limits room = record {
    supervisors = record {
      rows = pass_push is_supervisor_row b.supervisors row h.supervisors.rows limits;
      sources = pairs_push (λ s v. same_supervisor s v ≡ false) b.supervisors row h.supervisors.sources none;
      room = room;
    };
    supervised = record { room = h.supervised.room; each = more_supervised };
    linked = linked_more;
    replicas = replicas_of_more b.supervisors row b.sequences b.tasks h.replicas;
    published = h.published;
  }

pub line_supervised : (b : Book) (row : SupervisorRow) → supervisor_of row.source b.supervisors ≡ None → is_supervisor_row row ≡ true → no_room (Tables.Supervisors ∷ []) (with_supervisor row b) ≡ None → HasLinks b → HasLinks (with_supervisor row b)
line_supervised b row e limits room h =
    line_more b row h (none_found (λ (s : SupervisorRow). bytes_eq s.source row.source) b.supervisors e) limits (has_room (is_full Tables.Supervisors (with_supervisor row b)) Tables.Supervisors (no_room [] (with_supervisor row b)) room).0
