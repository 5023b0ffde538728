-- No command puts an id that was given and that no pending has.
use Rattle.std.proofs.Common.{◌≡◌, ℕ, ◌&&◌, not, Bool, true, false, List, [], ◌∷◌, ◌++◌, map, find, length, Some, None, Option, Result, Ok, Err, refl, sym, ◌∙◌, inl, inr, ap, subst, bytes_eq}
use Rattle.std.specs.List.{list_all}
use Rattle.std.specs.Ordering.{int_eq}
use Rattle.std.proofs.lemmas.Bool.{and_parts, false≢true}
use Rattle.std.proofs.lemmas.Bool.Decides.{Decides-int_eq}
use Rattle.std.proofs.lemmas.Slice.Eq.{bytes_eq-Decides}
use Rattle.iv_span.specs.Extent.{Extent}
use Rattle.seg_names.specs.Ids.{same_extent}
use Rattle.seg_names.specs.declared.seg_id.SegId.{SegId}
use Rattle.book_rows.specs.Answer.{book_after, changes, next}
use Rattle.book_rows.specs.Append.{append_fault, is_allocated, rows_of_root}
use Rattle.book_rows.specs.Form.{keeps_form}
use Rattle.book_rows.specs.Ids.{is_of_span}
use Rattle.book_rows.specs.Lists.{In, gathered}
use Rattle.book_rows.specs.Locks.{left_lock, left_locks, locks_of}
use Rattle.book_rows.specs.Outcome.{refused_or, task_of}
use Rattle.book_rows.specs.Over.{Inserting, Replacing, Target, check_over}
use Rattle.book_rows.specs.Publications.{Publish, appending, drop_publication, in_spans, publication_of, repeat_of, without_since}
use Rattle.book_rows.specs.PublishSteps.{over_checked, over_running, over_step}
use Rattle.book_rows.specs.Rewrite.{after_replace, copies_of, own_rows, unused}
use Rattle.book_rows.specs.Spans.{is_span, is_span_of}
use Rattle.book_rows.specs.declared.commands.Command.{Command}
use Rattle.book_rows.specs.declared.commands.Command.TheVariants as Commands
use Rattle.book_rows.specs.declared.kinds.LockKind.{LockKind}
use Rattle.book_rows.specs.declared.kinds.LockKind.TheVariants as LockKinds
use Rattle.book_rows.specs.declared.kinds.PubKind.TheVariants as PubKinds
use Rattle.book_rows.specs.declared.replies.Refusal.{Refusal}
use Rattle.book_rows.specs.declared.replies.Reply.TheVariants as Replies
use Rattle.book_rows.specs.declared.rows.Book.{Book}
use Rattle.book_rows.specs.declared.rows.Publication.{Publication}
use Rattle.book_rows.specs.declared.rows.Ranges.{Ranges}
use Rattle.book_rows.specs.declared.rows.SegmentRow.{SegmentRow}
use Rattle.book_rows.specs.declared.rows.TaskRow.{TaskRow}
use Rattle.laws_locks.proofs.Targets.{let_through}
use Rattle.laws_chunks.proofs.CheckedSpans.{IsChecked, checked}
use Rattle.laws_chunks.proofs.LockSteps.{IsKeptByLocks}
use Rattle.laws_chunks.proofs.LookUps.{find_none}
use Rattle.laws_chunks.proofs.Members.{In-append, In-filter, In-left, In-map, In-right, any_In}
use Rattle.laws_chunks.proofs.PublishSteps.{IsKeptByPublishing, every_command}
use Rattle.laws_chunks.proofs.Spans.{same_extent_means}
use Rattle.laws_keys.proofs.NewRows.{IsOwn, appended_row, copy_at, own_at}
use Rattle.laws_keys.proofs.Targets.{AreTargets, IsMadeIn, over_targets}
use Rattle.laws_revocation.specs.GivenIds.{is_given}
use Rattle.laws_revocation.specs.LockNumbers.{HasNumbers}
use Rattle.laws_revocation.specs.LostIds.{GivenIdsAreInsertedByNone, GivenIdsArePutByNone, GivenIdsArePutNoMore, HasNoMoreOf, WasRow}
use Rattle.laws_revocation.specs.LostLocks.{IsNotPending}
use Rattle.laws_revocation.proofs.AllocatedIds.{still_not_pending}
use Rattle.laws_revocation.proofs.CheckedCopies.{made_is_new}
use Rattle.laws_revocation.proofs.GivenOnce.{given_stays, listed_spans}
use Rattle.laws_revocation.proofs.Numbering.{numbers_stay}
use Rattle.laws_revocation.proofs.PublishLocks.{published_changes}
use Rattle.laws_shown.proofs.Appending.{none_refused}
use Rattle.laws_revocation.proofs.RefusedPublishes.{not_pending_is_not_allocated}

-- ---- what is there of the id is what was

module _ (a : SegId) (b : Book) where
  abbrev pub HasNoMore : Book → Type 0
  HasNoMore x = ((r : SegmentRow) → In r x.segments → r.id ≡ a → WasRow b r) × ((m : Publication) → In m x.publications → In a (m.adds ++ m.empties) → In m b.publications)

  pub none_yet : HasNoMore b
  none_yet = (λ r i e. (r, i, refl), λ m i j. i)

  -- changes of locks add no row and no publication
  each_left : (ns task : List ℕ) (x : Book) → HasNoMore x → HasNoMore (left_locks ns task x)
  each_left [] task x h = h
  each_left (n ∷ ns) task x h = each_left ns task (left_lock n task x) h

  pub kept_by_locks : IsKeptByLocks HasNoMore
  kept_by_locks = record {
    others = λ clock ts os ss us x h. h;
    left = λ lock task x h. h;
    left_all = λ task x h. each_left (locks_of task x.posses) task x h;
    joined = λ lock task x h. h;
    granted = λ x now t w g e h. h;
    all_granted = λ x now t ws g e h. h;
  }

  -- a publication that doesn't list the id
  pub one_more : (m : Publication) → (In a (m.adds ++ m.empties) → ⊥) → (k : Publication) → In k (b.publications ++ m ∷ []) → In a (k.adds ++ k.empties) → In k b.publications
  one_more m off k i j = elim (In-append k b.publications (m ∷ []) i) [
    | inl old ↦ old
    | inr (inl same) ↦ absurd (off (subst (λ (x : Publication). In a (x.adds ++ x.empties)) same j))
    | inr (inr nowhere) ↦ absurd nowhere
  ]

  -- a drop
  drops_row : (source : List ℕ) (span : Extent) (r : SegmentRow) → In r (map (unused source span) b.segments) → WasRow b r
  drops_row source span r i =
      let w = In-map (unused source span) r b.segments i in
      (w.0, w.1, w.2 ∙ ap (λ (u : Bool). record w.0 { used = u }) (sym (ap (λ (x : SegmentRow). x.used) w.2)))

no_ids : (a : SegId) (adds empties : List SegId) → adds ≡ [] → empties ≡ [] → In a (adds ++ empties) → ⊥
no_ids a adds empties e f i = let both : adds ++ empties ≡ [] = rw (e, f) refl in subst (λ (ids : List SegId). In a ids) both i

-- ---- an id that was given is of no chunk that a publish makes

-- each id of a publish of spans is of one
made_in : (b : Book) (t : TaskRow) (kind : LockKind) (what : Publish) (xs : List Target) → IsChecked b.chunks b.posses t kind what xs → (a : SegId) → In a (what.ids ++ what.tombstones)
    → (x : Target) × In x xs × IsMadeIn t x a
made_in b t kind what xs c a i =
    let w = any_In (λ (x : Target). same_extent x.span a.span && int_eq x.version a.version) xs (c.versions a i) in
    let both = and_parts (same_extent w.0.span a.span) (int_eq w.0.version a.version) w.2 in (
      w.0,
      w.1,
      record {
        source_is = (bytes_eq-Decides a.source t.source).0 (and_parts (bytes_eq a.source t.source) (is_span_of what.spans a.span) (c.placed a i)).0;
        span_is = sym (same_extent_means w.0.span a.span both.0);
        version_is = sym ((Decides-int_eq w.0.version a.version).0 both.1);
      },
    )

module _ (b : Book) (a : SegId) (given : is_given b.chunks a ≡ true) where
  not_made : (t : TaskRow) (kind : LockKind) (ids tombs : List SegId) (xs : List Target) → AreTargets b t kind ids tombs xs → (x : Target) → In x xs → IsMadeIn t x a → ⊥
  not_made t kind ids tombs xs g x i made = false≢true (sym (made_is_new b t kind ids tombs xs g x a i made) ∙ given)

  module _ (numbers : HasNumbers b) (t : TaskRow) (what : Publish) (xs : List Target) (proper : list_all is_span what.spans ≡ true) where
    not_inserted : check_over Inserting b what t ≡ Ok xs → In a (what.ids ++ what.tombstones) → ⊥
    not_inserted ok i =
        let w = made_in b t LockKinds.Exclusive what xs (checked Inserting b what t xs (let_through Inserting b what t xs ok)) a i in
        not_made t LockKinds.Exclusive what.ids what.tombstones xs (over_targets Inserting b t what xs proper ok) w.0 w.1 w.2

    not_replaced : check_over Replacing b what t ≡ Ok xs → In a (what.ids ++ what.tombstones) → ⊥
    not_replaced ok i =
        let w = made_in b t LockKinds.Replace what xs (checked Replacing b what t xs (let_through Replacing b what t xs ok)) a i in
        not_made t LockKinds.Replace what.ids what.tombstones xs (over_targets Replacing b t what xs proper ok) w.0 w.1 w.2

-- ---- so no insert and no replacement of it changes the book

module _ (b : Book) (a : SegId) (numbers : HasNumbers b) (given : is_given b.chunks a ≡ true) (what : Publish) (proper : list_all is_span what.spans ≡ true) (i : In a (what.ids ++ what.tombstones)) where
  insert_by_changes : (r : Result (List Target) Refusal) (t : TaskRow) → check_over Inserting b what t ≡ r → (refused_or r b (over_checked Inserting b what t)).changes ≡ true → ⊥
  insert_by_changes (Err why) t e h = false≢true h
  insert_by_changes (Ok xs) t e h = not_inserted b a given numbers t what xs proper e i

  insert_changes : (o : Option TaskRow) → (over_step Inserting o b what).changes ≡ true → ⊥
  insert_changes None h = false≢true h
  insert_changes (Some t) h =
      insert_by_changes (check_over Inserting b what t) t refl
      (published_changes (repeat_of (publication_of PubKinds.Over t (without_since what.spans) what) b.publications) b t.status Replies.Insert (over_running Inserting b what t) h)

  replace_by_changes : (r : Result (List Target) Refusal) (t : TaskRow) → check_over Replacing b what t ≡ r → (refused_or r b (over_checked Replacing b what t)).changes ≡ true → ⊥
  replace_by_changes (Err why) t e h = false≢true h
  replace_by_changes (Ok xs) t e h = not_replaced b a given numbers t what xs proper e i

  replace_changes : (o : Option TaskRow) → (over_step Replacing o b what).changes ≡ true → ⊥
  replace_changes None h = false≢true h
  replace_changes (Some t) h =
      replace_by_changes (check_over Replacing b what t) t refl
      (published_changes (repeat_of (publication_of PubKinds.Replace t (without_since what.spans) what) b.publications) b t.status Replies.Replace (over_running Replacing b what t) h)

not_true : (x : Bool) → (x ≡ true → ⊥) → x ≡ false
not_true true h = absurd (h refl)
not_true false h = refl

pub given_ids_are_inserted_by_none : GivenIdsAreInsertedByNone
given_ids_are_inserted_by_none b a numbers given task spans ids tombs ranges i form =
    let proper = listed_spans task (in_spans spans ids tombs ranges) form in (
      not_true (changes b (Commands.Insert task spans ids tombs ranges)) (insert_changes b a numbers given (in_spans spans ids tombs ranges) proper i (task_of task b.tasks)),
      not_true (changes b (Commands.Replace task spans ids tombs ranges)) (replace_changes b a numbers given (in_spans spans ids tombs ranges) proper i (task_of task b.tasks)),
    )

-- ---- and no command puts it

module _ (b : Book) (a : SegId) (numbers : HasNumbers b) (given : is_given b.chunks a ≡ true) (waits : IsNotPending b a) where
  -- an append makes rows of pendings
  appended_rows : (ids : List SegId) (r : SegmentRow) → In r (b.segments ++ gathered (λ x. rows_of_root (length b.publications) x b.pendings) ids) → r.id ≡ a → WasRow b r
  appended_rows ids r i e = elim (In-append r b.segments (gathered (λ x. rows_of_root (length b.publications) x b.pendings) ids) i) [
    | inl old ↦ (r, old, refl)
    | inr new ↦ (let w = appended_row (length b.publications) ids b.pendings r new in absurd (waits w.pending w.among (sym (ap (λ (x : SegmentRow). x.id) w.is) ∙ e)))
  ]

  not_appended : (t : TaskRow) (ids : List SegId) → append_fault b.posses b.pendings t.task ids ≡ None → In a (ids ++ []) → ⊥
  not_appended t ids fault i = elim (In-append a ids [] i) [
    | inl j ↦ false≢true (sym (find_none (λ x. not (is_allocated b.posses b.pendings t.task x)) ids (none_refused (find (λ x. not (is_allocated b.posses b.pendings t.task x)) ids) fault) a j) ∙ ap not (not_pending_is_not_allocated b t.task a waits))
    | inr nowhere ↦ nowhere
  ]

  -- an insert and a replacement make rows of their ids and tombstones
  no_own : (ids tombs : List SegId) (xs : List Target) → (In a (ids ++ tombs) → ⊥) → (r : SegmentRow) → In r (gathered (λ x. own_rows (length b.publications) ids tombs x.span) xs) → r.id ≡ a → ⊥
  no_own ids tombs xs off r i e = let w = own_at (length b.publications) ids tombs xs r i in by_list w.0 w.2 where
    by_list : (x : Target) → IsOwn (length b.publications) ids tombs x r → ⊥
    by_list x (inl w) = off (In-left a ids tombs (subst (λ (y : SegId). In y ids) (sym (ap (λ (r : SegmentRow). r.id) w.2) ∙ e) (In-filter (is_of_span x.span) w.0 ids w.1).0))
    by_list x (inr w) = off (In-right a ids tombs (subst (λ (y : SegId). In y tombs) (sym (ap (λ (r : SegmentRow). r.id) w.2) ∙ e) (In-filter (is_of_span x.span) w.0 tombs w.1).0))

  inserted_rows : (ids tombs : List SegId) (xs : List Target) → (In a (ids ++ tombs) → ⊥) → (r : SegmentRow) → In r (b.segments ++ gathered (λ x. own_rows (length b.publications) ids tombs x.span) xs) → r.id ≡ a → WasRow b r
  inserted_rows ids tombs xs off r i e = elim (In-append r b.segments (gathered (λ x. own_rows (length b.publications) ids tombs x.span) xs) i) [
    | inl old ↦ (r, old, refl)
    | inr new ↦ absurd (no_own ids tombs xs off r new e)
  ]

  -- and a replacement makes copies in its own chunks
  replaced_rows : (t : TaskRow) (ids tombs : List SegId) (xs : List Target) (ranges : Option Ranges) → AreTargets b t LockKinds.Replace ids tombs xs → (In a (ids ++ tombs) → ⊥) → (r : SegmentRow) → In r (after_replace t (in_spans [] ids tombs ranges) xs b).segments → r.id ≡ a
      → WasRow b r
  replaced_rows t ids tombs xs ranges g off r i e =
      elim (In-append r (b.segments ++ gathered (λ x. own_rows (length b.publications) ids tombs x.span) xs) (gathered (λ x. (copies_of b t ids x).segments) xs) i) [
        | inl j ↦ inserted_rows ids tombs xs off r j e
        | inr copied ↦ (let w = copy_at b t ids xs r copied in
            let made : IsMadeIn t w.0 r.id = record {
              source_is = ap (λ (r : SegmentRow). r.id.source) w.2.is;
              span_is = ap (λ (r : SegmentRow). r.id.span) w.2.is;
              version_is = ap (λ (r : SegmentRow). r.id.version) w.2.is;
            } in
            absurd (not_made b a given t LockKinds.Replace ids tombs xs g w.0 w.1 (subst (IsMadeIn t w.0) e made)))
      ]

  published : IsKeptByPublishing (HasNoMore a b) b
  published = record {
    pushed = λ m none clean free. ((none_yet a b).0, one_more a b m (no_ids a m.adds m.empties none clean));
    allocated = λ r t x l other fresh found e. none_yet a b;
    appended = λ t ids ranges distinct among fault. (appended_rows ids, one_more a b (publication_of PubKinds.Append t [] (appending ids ranges)) (not_appended t ids fault));
    inserted = λ t what xs proper ids_once tombs_once ok.
        (let off = not_inserted b a given numbers t what xs proper ok in
        (inserted_rows what.ids what.tombstones xs off, one_more a b (publication_of PubKinds.Over t (map (λ x. record { span = x.span; since = 0 }) xs) what) off));
    replaced = λ t what xs proper ids_once tombs_once ok.
        (let off = not_replaced b a given numbers t what xs proper ok in (
          replaced_rows t what.ids what.tombstones xs what.ranges (over_targets Replacing b t what xs proper ok) off,
          one_more a b (publication_of PubKinds.Replace t (map (λ x. record { span = x.span; since = x.since }) xs) what) off,
        ));
    dropped = λ source span fault. (λ r i e. drops_row a b source span r i, one_more a b (drop_publication source span) (λ i. i));
  }

pub given_ids_are_put_by_none : GivenIdsArePutByNone
given_ids_are_put_by_none b a numbers given waits c form =
    let h = every_command (HasNoMore a b) (kept_by_locks a b) b (none_yet a b) (published b a numbers given waits) c form in
    record { rows = h.0; publications = h.1 }

-- ---- over any commands

was_before : (a : SegId) (b x y : Book) → HasNoMoreOf a b x → HasNoMoreOf a x y → HasNoMoreOf a b y
was_before a b x y h k = record {
  rows = λ r i e.
      (let w = k.rows r i e in
      let v = h.rows w.0 w.1 (sym (ap (λ (r : SegmentRow). r.id) w.2) ∙ e) in
      (v.0, v.1, w.2 ∙ ap (λ (q : SegmentRow). record q { used = r.used }) v.2));
  publications = λ m i j. h.publications m (k.publications m i j) j;
}

pub one_command : (c : Command) → keeps_form c ≡ true → list_all keeps_form (c ∷ []) ≡ true
one_command c form = rw form refl

pub given_ids_are_put_no_more : GivenIdsArePutNoMore
given_ids_are_put_no_more b [] a forms numbers given waits = record { rows = (none_yet a b).0; publications = (none_yet a b).1 }
given_ids_are_put_no_more b (c ∷ cs) a forms numbers given waits =
    let both = and_parts (keeps_form c) (list_all keeps_form cs) forms in
    was_before a b (next b c) (book_after (next b c) cs)
    (given_ids_are_put_by_none b a numbers given waits c both.0)
    (given_ids_are_put_no_more (next b c) cs a both.1 (numbers_stay b (c ∷ []) numbers) (given_stays b (c ∷ []) a given) (still_not_pending b (c ∷ []) a (one_command c both.0) numbers given waits))
