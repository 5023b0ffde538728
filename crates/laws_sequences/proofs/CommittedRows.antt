-- A publish that is let through keeps supervisors, sequences and their tasks in line.
use Rattle.std.proofs.Common.{◌≡◌, ℕ, Bool, true, false, cond, not, ◌&&◌, List, [], ◌∷◌, ◌++◌, map, Some, None, Option, refl, sym, ◌∙◌, ap, subst, bytes_eq, length}
use Rattle.std.specs.List.{AllByRecursion}
use Rattle.std.proofs.lemmas.Bool.{and_parts, false≢true, not-true, or_right}
use Rattle.book_rows.specs.Lists.{In}
use Rattle.book_rows.specs.Names.{begins_with, sup_prefix}
use Rattle.book_rows.specs.Offsets.{advance, advanced, compared, end_of}
use Rattle.book_rows.specs.Publications.{ranges_fault}
use Rattle.book_rows.specs.SequenceRules.{has_ranges_of}
use Rattle.book_rows.specs.Sequences.{are_ranges, first_open, is_closed, is_found, is_named, is_on_stream, name_of, passes, passes_by, published, sequence_named, supervisor_of, tells}
use Rattle.book_rows.specs.declared.replies.Refusal.{Refusal}
use Rattle.book_rows.specs.declared.replies.Refusal.TheVariants as Refusals
use Rattle.book_rows.specs.declared.rows.Book.{Book}
use Rattle.book_rows.specs.declared.rows.OffsetRow.{OffsetRow}
use Rattle.book_rows.specs.declared.rows.Publication.{Publication}
use Rattle.book_rows.specs.declared.rows.Range.{Range}
use Rattle.book_rows.specs.declared.rows.Ranges.{Ranges}
use Rattle.book_rows.specs.declared.rows.SequenceRow.{SequenceRow}
use Rattle.book_rows.specs.declared.rows.SupervisorRow.{SupervisorRow}
use Rattle.book_rows.specs.declared.rows.TaskRow.{TaskRow}
use Rattle.laws_locks.proofs.Lists.{In-all, all_weaker, found_In, none_found}
use Rattle.laws_offsets.proofs.Lists.{or_else_none, same_text, text_same}
use Rattle.laws_offsets.proofs.StoredRows.{stored_elsewhere}
use Rattle.laws_sequences.specs.Links.{AreInLine, AreLinked, ArePublished, HasLinks}
use Rattle.laws_sequences.proofs.Abandoned.{linked_alike}
use Rattle.laws_sequences.proofs.Filters.{map_same}
use Rattle.laws_sequences.proofs.Keys.{few_rows, have_keys, one_name}
use Rattle.laws_sequences.proofs.Lines.{line_moved}
use Rattle.laws_sequences.proofs.PublishedRows.{linked_published, published_keys}
use Rattle.laws_sequences.proofs.Publishings.{published_beside, published_publish}
use Rattle.laws_sequences.proofs.Turns.{other_streams, passes_publishes}

-- ---- a publish of no sequence, and not on a supervisor's stream

linked_elsewhere : (rows : List OffsetRow) (ss : List SupervisorRow) (us : List SequenceRow) (source stream : List ℕ) (parts : List Range) → AllByRecursion (λ v. (bytes_eq source v.source && bytes_eq stream v.stream) ≡ false) ss → AreLinked rows ss us → AreLinked (advance rows source stream parts) ss us
linked_elsewhere rows ss us source stream parts other h =
    linked_alike rows (advance rows source stream parts) ss us (all_weaker _ _ (λ v o p. stored_elsewhere v.source v.stream p source stream (map end_of parts) rows o) ss other) h

-- no sequence has the name
none_published : (name : List ℕ) (us : List SequenceRow) → sequence_named name us ≡ None → map (published name) us ≡ us
none_published name us e = map_same (published name) us (all_weaker _ _ (λ u off. same u off) us (none_found (is_named name) us e)) where
  same : (u : SequenceRow) → is_named name u ≡ false → published name u ≡ u
  same u off = rw off refl

-- ---- what let it through

passed : (x : Bool) (why : Refusal) → cond x None (Some why) ≡ None → x ≡ true
passed true why e = refl
passed false why e = cc

-- no fault was found: it is the turn of the task's sequence, and the ranges go on from what is stored
pub no_fault : (b : Book) (t : TaskRow) (ranges : Option Ranges) → ranges_fault b t ranges ≡ None → (passes b.supervisors b.sequences t.source t.group ranges ≡ true) × (compared b.offsets t.source ranges ≡ None)
no_fault b t ranges e =
    let both = or_else_none (cond (passes b.supervisors b.sequences t.source t.group ranges) None (Some (Refusals.RangeNotAssigned t.source))) (compared b.offsets t.source ranges) e in
    (passed (passes b.supervisors b.sequences t.source t.group ranges) (Refusals.RangeNotAssigned t.source) both.0, both.1)

-- ---- the sequence of a task

module _ (b : Book) (t : TaskRow) (h : HasLinks b) (i : In t b.tasks) where
  -- a task whose group is a sequence's name is of that sequence
  pub own_source : (u : SequenceRow) → sequence_named t.group b.sequences ≡ Some u → (t.group ≡ name_of u) × (In u b.sequences) × (t.source ≡ u.source)
  own_source u e =
      let found = found_In (is_named t.group) u b.sequences e in
      let named : t.group ≡ name_of u = sym (same_text (name_of u) t.group found.1) in
      let own : begins_with sup_prefix t.group ≡ true = rw named refl in
      let r = h.replicas t i (or_right (begins_with sup_prefix t.task) (begins_with sup_prefix t.group) own) in
      let same : u ≡ r.sequence = one_name b.supervisors b.sequences h.supervisors h.supervised.each h.linked.counted (few_rows (length b.sequences) h.supervised.room) u r.sequence found.0 r.among (text_same (name_of r.sequence) (name_of u) (sym r.group_is ∙ named)) in
      (named, found.0, r.source_is ∙ ap (λ (v : SequenceRow). v.source) (sym same))

  -- the sequence's publication, on its supervisor's stream
  of_sequence : (u : SequenceRow) (s : SupervisorRow) (r : Ranges) → sequence_named t.group b.sequences ≡ Some u → supervisor_of t.source b.supervisors ≡ Some s → passes_by (Some u) (Some s) b.sequences (Some r) ≡ true
      → AreLinked (advance b.offsets t.source r.stream r.parts) b.supervisors (map (published t.group) b.sequences)
  of_sequence u s r eu es e =
      let own = own_source u eu in
      let found = found_In (λ (v : SupervisorRow). bytes_eq v.source t.source) s b.supervisors es in
      let source : s.source ≡ t.source = same_text s.source t.source found.1 in
      let p = passes_publishes b.sequences s u r h.linked.counted own.1 (sym own.2 ∙ sym source) e in
      let keys = have_keys b.supervisors b.sequences h.supervisors h.supervised.each h.linked.counted (few_rows (length b.sequences) h.supervised.room) in
      at_names t.source r.stream t.group (sym source) p.0 own.0 (linked_published b.offsets b.supervisors b.sequences s u r.parts h.supervisors.sources found.0 keys p.1 h.linked) where
        at_names : (source stream group : List ℕ) → source ≡ s.source → stream ≡ s.stream → group ≡ name_of u → AreLinked (advance b.offsets s.source s.stream r.parts) b.supervisors (map (published (name_of u)) b.sequences)
            → AreLinked (advance b.offsets source stream r.parts) b.supervisors (map (published group) b.sequences)
        at_names source stream group x y z l = rw (x, y, z) l

  by_stream : (u : SequenceRow) (s : Option SupervisorRow) (ranges : Option Ranges) → sequence_named t.group b.sequences ≡ Some u → supervisor_of t.source b.supervisors ≡ s → passes_by (Some u) s b.sequences ranges ≡ true
      → AreLinked (advanced b.offsets t.source ranges) b.supervisors (map (published t.group) b.sequences)
  by_stream u None ranges eu es e = absurd (false≢true (and_parts _ false e).1)
  by_stream u (Some s) None eu es e = absurd (false≢true (and_parts _ false e).1)
  by_stream u (Some s) (Some r) eu es e = of_sequence u s r eu es e

  of_none : (ranges : Option Ranges) → sequence_named t.group b.sequences ≡ None → not (is_on_stream (supervisor_of t.source b.supervisors) ranges) ≡ true → AreLinked (advanced b.offsets t.source ranges) b.supervisors (map (published t.group) b.sequences)
  of_none None eu e = rw (none_published t.group b.sequences eu) h.linked
  of_none (Some r) eu e =
      rw (none_published t.group b.sequences eu)
      (linked_elsewhere b.offsets b.supervisors b.sequences t.source r.stream r.parts (other_streams b.supervisors t.source r.stream h.supervisors.sources (λ v found. off v found)) h.linked) where
        off : (v : SupervisorRow) → supervisor_of t.source b.supervisors ≡ Some v → bytes_eq r.stream v.stream ≡ false
        off v found = not-true (bytes_eq r.stream v.stream) (rw found at e)

  by_sequence : (o : Option SequenceRow) (ranges : Option Ranges) → sequence_named t.group b.sequences ≡ o → passes_by o (supervisor_of t.source b.supervisors) b.sequences ranges ≡ true → AreLinked (advanced b.offsets t.source ranges) b.supervisors (map (published t.group) b.sequences)
  by_sequence None ranges eu e = of_none ranges eu e
  by_sequence (Some u) ranges eu e = by_stream u (supervisor_of t.source b.supervisors) ranges eu refl e

  -- ---- one publication more

  published_by : (u : SequenceRow) (s : Option SupervisorRow) (ranges : Option Ranges) (m : Publication) → m.group ≡ t.group → m.ranges ≡ ranges → sequence_named t.group b.sequences ≡ Some u → passes_by (Some u) s b.sequences ranges ≡ true
      → ArePublished (b.publications ++ m ∷ []) (map (published t.group) b.sequences)
  published_by u s ranges m group_is ranges_are eu e =
      let own = own_source u eu in
      let a = and_parts (is_found (first_open u.source u.group b.sequences) u && is_closed u) (tells s u ranges) e in
      let closed = (and_parts (is_found (first_open u.source u.group b.sequences) u) (is_closed u) a.0).1 in
      let one = one_name b.supervisors b.sequences h.supervisors h.supervised.each h.linked.counted (few_rows (length b.sequences) h.supervised.room) u in
      subst (λ name. ArePublished (b.publications ++ m ∷ []) (map (published name) b.sequences)) (sym own.0)
      (published_publish b.publications b.sequences u m own.1 closed (group_is ∙ own.0) (told s ranges m.ranges ranges_are a.1) h.published (λ v i n. one v own.1 i n)) where
        told : (s : Option SupervisorRow) (ranges its : Option Ranges) → its ≡ ranges → tells s u ranges ≡ true → has_ranges_of u its ≡ true
        told None ranges its same e = absurd (false≢true e)
        told (Some s) None its same e = absurd (false≢true e)
        told (Some s) (Some r) its same e = rw same (and_parts (bytes_eq r.stream s.stream) (are_ranges u.starts u.ends r.parts) e).1

  -- a task of no sequence
  published_none : (m : Publication) → m.group ≡ t.group → sequence_named t.group b.sequences ≡ None → ArePublished (b.publications ++ m ∷ []) (map (published t.group) b.sequences)
  published_none m group_is eu = rw (none_published t.group b.sequences eu) (published_beside b.publications b.sequences m (rw group_is (no_prefix (begins_with sup_prefix t.group) refl)) h.published) where
    no_prefix : (x : Bool) → begins_with sup_prefix t.group ≡ x → begins_with sup_prefix t.group ≡ false
    no_prefix false e = e
    no_prefix true e =
        let r = h.replicas t i (or_right (begins_with sup_prefix t.task) (begins_with sup_prefix t.group) e) in
        let off = In-all (λ (v : SequenceRow). is_named t.group v ≡ false) r.sequence b.sequences r.among (none_found (is_named t.group) b.sequences eu) in
        absurd (false≢true (sym off ∙ text_same (name_of r.sequence) t.group (sym r.group_is)))

  published_more : (o : Option SequenceRow) (ranges : Option Ranges) (m : Publication) → m.group ≡ t.group → m.ranges ≡ ranges → sequence_named t.group b.sequences ≡ o → passes_by o (supervisor_of t.source b.supervisors) b.sequences ranges ≡ true
      → ArePublished (b.publications ++ m ∷ []) (map (published t.group) b.sequences)
  published_more None ranges m group_is ranges_are eu e = published_none m group_is eu
  published_more (Some u) ranges m group_is ranges_are eu e = published_by u (supervisor_of t.source b.supervisors) ranges m group_is ranges_are eu e

  pub line_committed : (ranges : Option Ranges) (m : Publication) → m.group ≡ t.group → m.ranges ≡ ranges → ranges_fault b t ranges ≡ None
      → AreInLine b.tasks (b.publications ++ m ∷ []) (advanced b.offsets t.source ranges) b.supervisors (map (published t.group) b.sequences)
  line_committed ranges m group_is ranges_are e =
      line_moved b.tasks b.publications b.offsets b.supervisors (published t.group) (published_keys t.group) (b.publications ++ m ∷ []) (advanced b.offsets t.source ranges) b.sequences h
      (by_sequence (sequence_named t.group b.sequences) ranges refl (no_fault b t ranges e).0)
      (published_more (sequence_named t.group b.sequences) ranges m group_is ranges_are refl (no_fault b t ranges e).0)
