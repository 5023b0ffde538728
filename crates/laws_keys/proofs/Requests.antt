-- No two root pendings are of one source, sequence and previous id.
use Rattle.std.proofs.Common.{Bool, List, None, [], ap, bytes_eq, false, filter, inl, inr, not, refl, subst, sym, true, ◌&&◌, ◌++◌, ◌∙◌, ◌∷◌, ◌≡◌}
use Rattle.std.proofs.lemmas.Bool.{and_parts, cases_Bool, false≢true}
use Rattle.seg_names.specs.declared.seg_id.SegId.{SegId}
use Rattle.book_rows.specs.Allocation.{allotted_id, allotted_row, is_known, is_root, known_pending}
use Rattle.book_rows.specs.Answer.{next}
use Rattle.book_rows.specs.Ids.{is_listed, same_previous}
use Rattle.book_rows.specs.LockSteps.{pending_for}
use Rattle.book_rows.specs.Lists.{In, Pairs, gathered, stands_in}
use Rattle.book_rows.specs.Over.{Replacing, Target}
use Rattle.book_rows.specs.Rewrite.{copies_of, is_copied}
use Rattle.book_rows.specs.Shape.{same_request}
use Rattle.book_rows.specs.Sound.{Sound}
use Rattle.book_rows.specs.declared.answers.NewPending.{NewPending}
use Rattle.book_rows.specs.declared.kinds.LockKind.TheVariants as LockKinds
use Rattle.book_rows.specs.declared.rows.Book.{Book}
use Rattle.book_rows.specs.declared.rows.PendingRow.{PendingRow}
use Rattle.book_rows.specs.declared.rows.TaskRow.{TaskRow}
use Rattle.laws_chunks.proofs.LookUps.{find_none}
use Rattle.laws_chunks.proofs.Members.{In-filter, all_from_In, map_In, pairs_append, pairs_filter, pairs_push}
use Rattle.laws_chunks.proofs.PublishSteps.{IsKeptByPublishing}
use Rattle.laws_chunks.proofs.Spans.{same_id_means}
use Rattle.laws_keys.specs.KeyLaws.{RequestsStayDistinct}
use Rattle.laws_keys.proofs.NewRows.{pending_copy_at}
use Rattle.laws_keys.proofs.PairLists.{pairs_from_In, pairs_refilter, pairs_unfilter}
use Rattle.laws_keys.proofs.RowTables.{OfRows, of_book, rows_after}
use Rattle.laws_keys.proofs.Targets.{AreTargets, over_targets}

abbrev AreOther : PendingRow → PendingRow → Type 0
AreOther p q = is_root p ≡ true → is_root q ≡ true → same_request p q ≡ false

abbrev RequestRows : OfRows
RequestRows cs rows pubs ps us = Pairs AreOther ps

module _ (b : Book) (s : Sound b) where
  before : Pairs AreOther b.pendings
  before = pairs_unfilter (λ p q. same_request p q ≡ false) is_root b.pendings s.shape.keys.requests

  -- no pending was known for the request
  requests_allocated : (keep : PendingRow → Bool) (n : NewPending) (a : SegId) → known_pending b.pendings n.source n.sequence n.previous ≡ None → a.source ≡ n.source → Pairs AreOther (filter keep b.pendings ++ allotted_row a n ∷ [])
  requests_allocated keep n a fresh is =
      pairs_push AreOther (filter keep b.pendings) (allotted_row a n) (pairs_filter AreOther keep b.pendings before)
      (all_from_In (λ p. AreOther p (allotted_row a n)) (filter keep b.pendings) (λ p i root other.
      subst (λ source. (bytes_eq p.id.source source && bytes_eq p.sequence n.sequence && same_previous p.previous n.previous) ≡ false) (sym is)
      (unlike (is_root p) (bytes_eq p.id.source n.source) (bytes_eq p.sequence n.sequence) (same_previous p.previous n.previous)
      (find_none (is_known n.source n.sequence n.previous) b.pendings fresh p (In-filter keep p b.pendings i).0) root))) where
        unlike : (a b c d : Bool) → (a && b && c && d) ≡ false → a ≡ true → (b && c && d) ≡ false
        unlike true b c d h e = h
        unlike false b c d h e = absurd (false≢true e)

  -- a copy is of another chunk than its root
  copy_not_root : (t : TaskRow) (ids tombs : List SegId) (xs : List Target) → AreTargets b t LockKinds.Replace ids tombs xs → (q : PendingRow) → In q (gathered (λ x. (copies_of b t ids x).pendings) xs) → is_root q ≡ false
  copy_not_root t ids tombs xs g q i = elim (cases_Bool (is_root q)) [
    | inr off ↦ off
    | inl on ↦
        let w = pending_copy_at b t ids xs q i in
        let was = In-filter (is_copied t.source w.0.span) w.2.item b.pendings w.2.among in
        let root : w.2.item.id ≡ w.2.item.root = same_id_means w.2.item.id w.2.item.root (and_parts (is_root w.2.item) (bytes_eq w.2.item.id.source t.source) (and_parts (is_root w.2.item && bytes_eq w.2.item.id.source t.source) _ was.1).0).0 in
        let same : q.id ≡ w.2.item.id = same_id_means q.id q.root on ∙ ap (λ (p : PendingRow). p.root) w.2.is ∙ sym root in
        let c = s.shape.chunks.pendings w.2.item.id (map_In (λ (p : PendingRow). p.id) w.2.item b.pendings was.0) in
        let made = ap (λ (p : PendingRow). p.id) w.2.is in
        absurd (g.fresh w.0 w.1 c.chunk w.2.item.id c.among c.is_in (record {
          source_is = ap (λ (a : SegId). a.source) (sym same ∙ made);
          span_is = ap (λ (a : SegId). a.span) (sym same ∙ made);
          version_is = ap (λ (a : SegId). a.version) (sym same ∙ made);
        }))
  ]

  requests_replaced : (t : TaskRow) (ids tombs : List SegId) (xs : List Target) → AreTargets b t LockKinds.Replace ids tombs xs → Pairs AreOther (b.pendings ++ gathered (λ x. (copies_of b t ids x).pendings) xs)
  requests_replaced t ids tombs xs g =
      pairs_append AreOther b.pendings (gathered (λ x. (copies_of b t ids x).pendings) xs) before
      (pairs_from_In AreOther (gathered (λ x. (copies_of b t ids x).pendings) xs) (λ p q i j root other. absurd (false≢true (sym (copy_not_root t ids tombs xs g q j) ∙ other))))
      (λ p q i j root other. absurd (false≢true (sym (copy_not_root t ids tombs xs g q j) ∙ other)))

  requests_published : IsKeptByPublishing (of_book RequestRows) b
  requests_published = record {
    pushed = λ m none clean free. before;
    allocated = λ r t x l other fresh found e.
        (let n : NewPending = pending_for t r x l in
        requests_allocated (λ p. not (stands_in l.granted.revoked p.posse)) n (allotted_id b.chunks n) fresh refl);
    appended = λ t ids ranges distinct among fault. pairs_filter AreOther (λ p. not (is_listed ids p.root)) b.pendings before;
    inserted = λ t given xs proper ids_once tombs_once ok. before;
    replaced = λ t given xs proper ids_once tombs_once ok. requests_replaced t given.ids given.tombstones xs (over_targets Replacing b t given xs proper ok);
    dropped = λ source span fault. before;
  }

pub requests_stay_distinct : RequestsStayDistinct
requests_stay_distinct b c form s =
    pairs_refilter (λ p q. same_request p q ≡ false) is_root (next b c).pendings
    (rows_after RequestRows (λ cs rows pubs ps us p u h. pairs_filter AreOther p ps h) b c form (before b s) (requests_published b s))
