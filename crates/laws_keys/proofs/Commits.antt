-- Commits stay below the number of publications.
use Rattle.std.proofs.Common.{List, [], ap, arith, inl, inr, length, length-append, map, nat_le, nat_lt, subst, sym, true, ℕ, ◌+◌, ◌++◌, ◌<◌, ◌∷◌, ◌≡◌, ◌≤◌}
use Rattle.std.proofs.lemmas.Bool.Decides.{nat_tests}
use Rattle.std.specs.List.{list_all}
use Rattle.seg_names.specs.declared.seg_id.SegId.{SegId}
use Rattle.book_rows.specs.Answer.{next}
use Rattle.book_rows.specs.Append.{rows_of_root}
use Rattle.book_rows.specs.Lists.{In, gathered}
use Rattle.book_rows.specs.Over.{Replacing, Target}
use Rattle.book_rows.specs.Publications.{appending, drop_publication, publication_of}
use Rattle.book_rows.specs.Rewrite.{copies_of, own_rows, unused}
use Rattle.book_rows.specs.Sound.{Sound}
use Rattle.book_rows.specs.declared.kinds.PubKind.TheVariants as PubKinds
use Rattle.book_rows.specs.declared.kinds.LockKind.TheVariants as LockKinds
use Rattle.book_rows.specs.declared.rows.Book.{Book}
use Rattle.book_rows.specs.declared.rows.PosseRow.{PosseRow}
use Rattle.book_rows.specs.declared.rows.Publication.{Publication}
use Rattle.book_rows.specs.declared.rows.SegmentRow.{SegmentRow}
use Rattle.book_rows.specs.declared.rows.SpanSince.{SpanSince}
use Rattle.book_rows.specs.declared.rows.TaskRow.{TaskRow}
use Rattle.laws_chunks.proofs.Members.{In-append, In-map, all_pass, list_all_In}
use Rattle.laws_chunks.proofs.PublishSteps.{IsKeptByPublishing}
use Rattle.laws_keys.specs.KeyLaws.{CommitsStayBounded}
use Rattle.laws_keys.proofs.NewRows.{IsOwn, appended_row, copy_at, own_at}
use Rattle.laws_keys.proofs.RowTables.{OfRows, chunks_after, of_book, rows_after}
use Rattle.laws_keys.proofs.Targets.{AreTargets, over_targets}

-- each commit is below the number of publications, and no span counts more
record AreLow (rows : List SegmentRow) (pubs : List Publication) : Type 0 where
  pub commits : (r : SegmentRow) → In r rows → r.commit < length pubs
  pub spans : (m : Publication) (s : SpanSince) → In m pubs → In s m.spans → s.since ≤ length pubs

abbrev LowRows : OfRows
LowRows cs rows pubs ps us = AreLow rows pubs

longer : (pubs : List Publication) (m : Publication) → length (pubs ++ m ∷ []) ≡ length pubs + 1
longer pubs m = simp length-append (omega arith)

-- one publication more
low_pushed : (rows : List SegmentRow) (pubs : List Publication) (m : Publication) → ((s : SpanSince) → In s m.spans → s.since ≤ length pubs) → AreLow rows pubs → AreLow rows (pubs ++ m ∷ [])
low_pushed rows pubs m new h = record {
  commits = λ r i. (let was = h.commits r i in let more = longer pubs m in omega (arith, was, more));
  spans = λ n s i j. elim (In-append n pubs (m ∷ []) i) [
    | inl old ↦ (let was = h.spans n s old j in let more = longer pubs m in omega (arith, was, more))
    | inr (inl is) ↦ (let now = new s (subst (λ (n : Publication). In s n.spans) is j) in let more = longer pubs m in omega (arith, now, more))
    | inr (inr none) ↦ absurd none
  ];
}

-- segments of the last publication
low_added : (k : ℕ) (rows news : List SegmentRow) (pubs : List Publication) → k < length pubs → ((r : SegmentRow) → In r news → r.commit ≡ k) → AreLow rows pubs → AreLow (rows ++ news) pubs
low_added k rows news pubs lt new h = record {
  commits = λ r i. elim (In-append r rows news i) [
    | inl old ↦ h.commits r old
    | inr j ↦ subst (λ n. n < length pubs) (sym (new r j)) lt
  ];
  spans = h.spans;
}

last_place : (pubs : List Publication) (m : Publication) → length pubs < length (pubs ++ m ∷ [])
last_place pubs m = let more = longer pubs m in omega (arith, more)

own_commit : (k : ℕ) (ids tombs : List SegId) (x : Target) (r : SegmentRow) → IsOwn k ids tombs x r → r.commit ≡ k
own_commit k ids tombs x r (inl w) = ap (λ (r : SegmentRow). r.commit) w.2
own_commit k ids tombs x r (inr w) = ap (λ (r : SegmentRow). r.commit) w.2

module _ (b : Book) (s : Sound b) where
  low_before : AreLow b.segments b.publications
  low_before = record {
    commits = λ r i. lt r.commit (length b.publications) (list_all_In (λ (r : SegmentRow). nat_lt r.commit (length b.publications)) r b.segments i s.shape.commits.commits);
    spans = λ m x i j. le x.since (length b.publications) (list_all_In (λ (x : SpanSince). nat_le x.since (length b.publications)) x m.spans j
        (list_all_In (λ (m : Publication). list_all (λ (x : SpanSince). nat_le x.since (length b.publications)) m.spans) m b.publications i s.shape.commits.spans));
  } where
    lt : (m n : ℕ) → nat_lt m n ≡ true → m < n
    lt m n h = grind (arith, nat_tests)

    le : (m n : ℕ) → nat_le m n ≡ true → m ≤ n
    le m n h = grind (arith, nat_tests)

  since_of : (t : TaskRow) (ids tombs : List SegId) (xs : List Target) → AreTargets b t LockKinds.Replace ids tombs xs → (x : Target) → In x xs → x.since ≤ length b.publications
  since_of t ids tombs xs g x i =
      let q = g.held x i in
      let was = list_all_In (λ (q : PosseRow). nat_le q.since (length b.publications)) q.lock b.posses q.among s.shape.commits.locks in
      subst (λ n. n ≤ length b.publications) q.since_is (le q.lock.since (length b.publications) was) where
        le : (m n : ℕ) → nat_le m n ≡ true → m ≤ n
        le m n h = grind (arith, nat_tests)

  -- the spans of a publication without counts
  none_counted : (xs : List Target) (z : SpanSince) → In z (map (λ x. record { span = x.span; since = 0 }) xs) → z.since ≤ length b.publications
  none_counted xs z i =
      let w = In-map (λ (x : Target). record { span = x.span; since = 0 }) z xs i in
      subst (λ n. n ≤ length b.publications) (sym (ap (λ (z : SpanSince). z.since) w.2)) (omega arith)

  low_published : IsKeptByPublishing (of_book LowRows) b
  low_published = record {
    pushed = λ m none clean free. low_pushed b.segments b.publications m (λ z i. absurd (subst (λ zs. In z zs) free i)) low_before;
    allocated = λ r t x l other fresh found e. low_before;
    appended = λ t ids ranges distinct among fault.
        low_added (length b.publications) b.segments (gathered (λ a. rows_of_root (length b.publications) a b.pendings) ids) (b.publications ++ publication_of PubKinds.Append t [] (appending ids ranges) ∷ []) (last_place b.publications (publication_of PubKinds.Append t [] (appending ids ranges)))
        (λ r i. ap (λ (r : SegmentRow). r.commit) (appended_row (length b.publications) ids b.pendings r i).is)
        (low_pushed b.segments b.publications (publication_of PubKinds.Append t [] (appending ids ranges)) (λ z i. absurd i) low_before);
    inserted = λ t given xs proper ids_once tombs_once ok.
        (let m = publication_of PubKinds.Over t (map (λ x. record { span = x.span; since = 0 }) xs) given in
        low_added (length b.publications) b.segments (gathered (λ x. own_rows (length b.publications) given.ids given.tombstones x.span) xs) (b.publications ++ m ∷ []) (last_place b.publications m)
        (λ r i. (let w = own_at (length b.publications) given.ids given.tombstones xs r i in own_commit (length b.publications) given.ids given.tombstones w.0 r w.2))
        (low_pushed b.segments b.publications m (none_counted xs) low_before));
    replaced = λ t given xs proper ids_once tombs_once ok.
        (let m = publication_of PubKinds.Replace t (map (λ x. record { span = x.span; since = x.since }) xs) given in
        low_added (length b.publications) (b.segments ++ gathered (λ x. own_rows (length b.publications) given.ids given.tombstones x.span) xs) (gathered (λ x. (copies_of b t given.ids x).segments) xs) (b.publications ++ m ∷ []) (last_place b.publications m)
        (λ r i. ap (λ (r : SegmentRow). r.commit) (copy_at b t given.ids xs r i).2.is)
        (low_added (length b.publications) b.segments (gathered (λ x. own_rows (length b.publications) given.ids given.tombstones x.span) xs) (b.publications ++ m ∷ []) (last_place b.publications m)
        (λ r i. (let w = own_at (length b.publications) given.ids given.tombstones xs r i in own_commit (length b.publications) given.ids given.tombstones w.0 r w.2))
        (low_pushed b.segments b.publications m (λ z i. (let w = In-map (λ (x : Target). record { span = x.span; since = x.since }) z xs i in
        subst (λ n. n ≤ length b.publications) (sym (ap (λ (z : SpanSince). z.since) w.2)) (since_of t given.ids given.tombstones xs (over_targets Replacing b t given xs proper ok) w.0 w.1))) low_before)));
    dropped = λ source span fault.
        (let more = low_pushed b.segments b.publications (drop_publication source span) (λ z i. elim i [ inl is ↦ subst (λ (z : SpanSince). z.since ≤ length b.publications) (sym is) (omega arith) | inr none ↦ absurd none ]) low_before in
        record {
          commits = λ r i. (let w = In-map (unused source span) r b.segments i in subst (λ (r : SegmentRow). r.commit < length (b.publications ++ drop_publication source span ∷ [])) (sym w.2) (more.commits w.0 w.1));
          spans = more.spans;
        });
  }

pub commits_stay_bounded : CommitsStayBounded
commits_stay_bounded b c form s =
    let low = rows_after LowRows (λ cs rows pubs ps us p u h. h) b c form (low_before b s) (low_published b s) in
    let locks = (chunks_after b c form s).shape.sinces in
    let after = next b c in
    record {
      commits = all_pass (λ (r : SegmentRow). nat_lt r.commit (length after.publications)) after.segments (λ r i. lt r.commit (length after.publications) (low.commits r i));
      locks = all_pass (λ (q : PosseRow). nat_le q.since (length after.publications)) after.posses (λ q i. le_from_zero q.since (length after.publications) (locks q i));
      spans = all_pass (λ (m : Publication). list_all (λ (x : SpanSince). nat_le x.since (length after.publications)) m.spans) after.publications
          (λ m i. all_pass (λ (x : SpanSince). nat_le x.since (length after.publications)) m.spans (λ x j. le x.since (length after.publications) (low.spans m x i j)));
    } where
      lt : (m n : ℕ) → m < n → nat_lt m n ≡ true
      lt m n h = grind (arith, nat_tests)

      le : (m n : ℕ) → m ≤ n → nat_le m n ≡ true
      le m n h = grind (arith, nat_tests)

      le_from_zero : (m n : ℕ) → m ≤ 0 + n → nat_le m n ≡ true
      le_from_zero m n h = grind (arith, nat_tests)
