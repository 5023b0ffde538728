-- What stays of the stages of publications is what they put and did not take away.
use Rattle.std.proofs.Common.{Bool, List, [], ap, arith, cond, false, int_le, map, nat_lt, not, refl, subst, sym, true, ℕ, ℤ, ◌&&◌, ◌++◌, ◌+◌, ◌<◌, ◌∙◌, ◌∷◌, ◌≡◌, ◌≤◌, ◌||◌}
use Rattle.std.specs.Prelude.{bytes_eq, min, pos}
use Rattle.std.specs.List.{list_all, list_any}
use Rattle.std.proofs.lemmas.Bool.Decides.{nat_tests}
use Rattle.std.proofs.lemmas.Int.{ints}
use Rattle.iv_span.specs.Extent.{has}
use Rattle.seg_names.specs.Ids.{same_id}
use Rattle.seg_names.specs.declared.seg_id.SegId.{SegId}
use Rattle.book_rows.specs.Contents.{alive, alive_from, puts, takes, takes_by}
use Rattle.book_rows.specs.Lists.{count}
use Rattle.book_rows.specs.declared.kinds.PubKind.{PubKind}
use Rattle.book_rows.specs.declared.kinds.PubKind.TheVariants as PubKinds
use Rattle.book_rows.specs.declared.rows.Publication.{Publication}
use Rattle.book_rows.specs.declared.rows.SpanSince.{SpanSince}
use Rattle.laws_chunks.proofs.Members.{count-append, count_alike, count_map}
use Rattle.laws_chunks.proofs.Spans.{same_id_means}
use Rattle.shown_rules.specs.History.{adds_root, all_publication_stages, publication_stages, rank_of, taken_by, takes_below, takes_since}
use Rattle.shown_rules.specs.Stages.{Stage, gives, is_open_by, stays, within}
use Rattle.shown_rules.proofs.Gathered.{all_append, all_map, and_false, and_true, count_where, none_under}

low_rank : (j thr : ℕ) → thr ≤ j → int_le (rank_of (pos j)) (rank_of (pos thr)) ≡ true
low_rank j thr le = grind (arith, ints)

high_rank : (j k : ℕ) → j < k → int_le (rank_of (pos j)) (rank_of (pos k)) ≡ false
high_rank j k lt = grind (arith, ints)

least_is : (k since : ℕ) → min k since ≤ k
least_is k since = omega arith

since_rank : (j k since : ℕ) → j < k → int_le (rank_of (pos j)) (rank_of (pos (min k since))) ≡ not (nat_lt j since)
since_rank j k since lt = grind (arith, ints, nat_tests)

or_false : (b : Bool) → (b || false) ≡ b
or_false true = refl
or_false false = refl

or_true : (b : Bool) → (b || true) ≡ true
or_true true = refl
or_true false = refl

module _ (source : List ℕ) (t : ℤ) where
  abbrev open_at : ℕ → Stage → Bool
  open_at j = is_open_by (rank_of (pos j)) (source, t)

  -- what a publication puts closes nothing
  adds_open : (j k : ℕ) (own : List ℕ) (ids : List SegId) → list_all (open_at j) (map (adds_root k own) ids) ≡ true
  adds_open j k own [] = refl
  adds_open j k own (a ∷ as') = adds_open j k own as'

  -- ---- the publication closes nothing that it or a later one puts

  spans_open : (j : ℕ) (f : SpanSince → Stage) (spans : List SpanSince) → ((s : SpanSince) → open_at j (f s) ≡ true) → list_all (open_at j) (map f spans) ≡ true
  spans_open j f [] h = refl
  spans_open j f (s ∷ ss) h = rw (h s) (spans_open j f ss h)

  below_open : (j k : ℕ) (own : List ℕ) (s : SpanSince) → k ≤ j → open_at j (takes_below k own s) ≡ true
  below_open j k own s le = rw (low_rank j k le) (or_true (not (within (takes_below k own s) (source, t))))

  taken_open : (j k : ℕ) (own : List ℕ) (kind : PubKind) (spans : List SpanSince) → k ≤ j → list_all (open_at j) (taken_by kind k own spans) ≡ true
  taken_open j k own PubKinds.Append spans le = refl
  taken_open j k own PubKinds.Over spans le = spans_open j (takes_below k own) spans (λ s. below_open j k own s le)
  taken_open j k own PubKinds.Replace spans le = spans_open j (takes_since k own) spans (λ s. below_open j (min k s.since) own s (omega (arith, le, least_is k s.since)))
  taken_open j k own PubKinds.Drop spans le = spans_open j (takes_below k own) spans (λ s. below_open j k own s le)
  taken_open j k own PubKinds.Reset spans le = refl

  pub own_open : (j k : ℕ) (m : Publication) → k ≤ j → list_all (open_at j) (publication_stages k m) ≡ true
  own_open j k m le = all_append (open_at j) (taken_by m.kind k m.source m.spans) (map (adds_root k m.source) m.adds) ∙ rw (taken_open j k m.source m.kind m.spans le, adds_open j k m.source m.adds) refl

  -- ---- what an earlier one put it closes where it takes it away

  over_open : (j k : ℕ) (own : List ℕ) (s : SpanSince) → j < k → open_at j (takes_below k own s) ≡ not (bytes_eq own source && has s.span t)
  over_open j k own s lt = rw (high_rank j k lt) (or_false (not (bytes_eq own source && has s.span t)))

  joined : (b h l : Bool) → (not (b && h) || not l) ≡ not (b && (h && l))
  joined true true l = refl
  joined true false l = refl
  joined false h l = refl

  replace_open : (j k : ℕ) (own : List ℕ) (s : SpanSince) → j < k → open_at j (takes_since k own s) ≡ not (bytes_eq own source && (has s.span t && nat_lt j s.since))
  replace_open j k own s lt = rw (since_rank j k s.since lt) (joined (bytes_eq own source) (has s.span t) (nat_lt j s.since))

  taken_closes : (j k : ℕ) (own : List ℕ) (kind : PubKind) (spans : List SpanSince) → j < k → list_all (open_at j) (taken_by kind k own spans) ≡ not (bytes_eq own source && takes_by kind spans t j)
  taken_closes j k own PubKinds.Append spans lt = ap not (sym (and_false (bytes_eq own source)))
  taken_closes j k own PubKinds.Over spans lt =
      all_map (open_at j) (takes_below k own) (λ s. not (bytes_eq own source && has s.span t)) spans (λ s. over_open j k own s lt) ∙ none_under (bytes_eq own source) (λ s. has s.span t) spans
  taken_closes j k own PubKinds.Replace spans lt =
      all_map (open_at j) (takes_since k own) (λ s. not (bytes_eq own source && (has s.span t && nat_lt j s.since))) spans (λ s. replace_open j k own s lt)
      ∙ none_under (bytes_eq own source) (λ s. has s.span t && nat_lt j s.since) spans
  taken_closes j k own PubKinds.Drop spans lt =
      all_map (open_at j) (takes_below k own) (λ s. not (bytes_eq own source && has s.span t)) spans (λ s. over_open j k own s lt) ∙ none_under (bytes_eq own source) (λ s. has s.span t) spans
  taken_closes j k own PubKinds.Reset spans lt = ap not (sym (and_false (bytes_eq own source)))

  closes_earlier : (j k : ℕ) (m : Publication) → j < k → list_all (open_at j) (publication_stages k m) ≡ not (takes source t m j)
  closes_earlier j k m lt =
      all_append (open_at j) (taken_by m.kind k m.source m.spans) (map (adds_root k m.source) m.adds)
      ∙ rw (taken_closes j k m.source m.kind m.spans lt, adds_open j k m.source m.adds) (and_true (not (takes source t m j)))

  neither : (a b : Bool) → (not a && not b) ≡ not (a || b)
  neither true b = refl
  neither false b = refl

  pub later_open : (j k : ℕ) (ms : List Publication) → j < k → list_all (open_at j) (all_publication_stages k ms) ≡ not (list_any (λ n. takes source t n j) ms)
  later_open j k [] lt = refl
  later_open j k (m ∷ ms) lt =
      all_append (open_at j) (publication_stages k m) (all_publication_stages (k + 1) ms)
      ∙ rw (closes_earlier j k m lt, later_open j (k + 1) ms (omega (arith, lt))) (neither (takes source t m j) (list_any (λ n. takes source t n j) ms))

  module _ (root : SegId) where
    -- put at the instant, and not closed by any of these
    abbrev is_kept : List Stage → Stage → Bool
    is_kept all x = gives root x.root && (within x (source, t) && list_all (is_open_by x.rank (source, t)) all)

    spans_none : (all : List Stage) (f : SpanSince → Stage) (spans : List SpanSince) → ((s : SpanSince) → is_kept all (f s) ≡ false) → count (is_kept all) (map f spans) ≡ 0
    spans_none all f [] h = refl
    spans_none all f (s ∷ ss) h = rw (h s) (spans_none all f ss h)

    taken_none : (all : List Stage) (k : ℕ) (own : List ℕ) (kind : PubKind) (spans : List SpanSince) → count (is_kept all) (taken_by kind k own spans) ≡ 0
    taken_none all k own PubKinds.Append spans = refl
    taken_none all k own PubKinds.Over spans = spans_none all (takes_below k own) spans (λ s. refl)
    taken_none all k own PubKinds.Replace spans = spans_none all (takes_since k own) spans (λ s. refl)
    taken_none all k own PubKinds.Drop spans = spans_none all (takes_below k own) spans (λ s. refl)
    taken_none all k own PubKinds.Reset spans = refl

    add_here : (all : List Stage) (k : ℕ) (own : List ℕ) (a : SegId) → is_kept all (adds_root k own a) ≡ ((same_id a root && (bytes_eq own source && has root.span t)) && list_all (open_at k) all)
    add_here all k own a = by (same_id a root) refl where
      by : (s : Bool) → same_id a root ≡ s → (s && ((bytes_eq own source && has a.span t) && list_all (open_at k) all)) ≡ ((s && (bytes_eq own source && has root.span t)) && list_all (open_at k) all)
      by true e = ap (λ (b : SegId). (bytes_eq own source && has b.span t) && list_all (open_at k) all) (same_id_means a root e)
      by false e = refl

    adds_kept : (all : List Stage) (k : ℕ) (m : Publication) → count (is_kept all) (map (adds_root k m.source) m.adds) ≡ cond (list_all (open_at k) all) (puts source t root m) 0
    adds_kept all k m =
        count_map (is_kept all) (adds_root k m.source) m.adds
        ∙ (count_alike (λ a. is_kept all (adds_root k m.source a)) (λ a. (same_id a root && (bytes_eq m.source source && has root.span t)) && list_all (open_at k) all) m.adds (λ a i. add_here all k m.source a)
        ∙ (count_where (λ a. same_id a root && (bytes_eq m.source source && has root.span t)) (list_all (open_at k) all) m.adds
        ∙ ap (λ (n : ℕ). cond (list_all (open_at k) all) n 0) (count_where (λ a. same_id a root) (bytes_eq m.source source && has root.span t) m.adds)))

    append_assoc : (xs ys zs : List Stage) → ((xs ++ ys) ++ zs) ≡ (xs ++ (ys ++ zs))
    append_assoc [] ys zs = refl
    append_assoc (x ∷ xs) ys zs = ap (λ (ws : List Stage). x ∷ ws) (append_assoc xs ys zs)

    still : (before : List Stage) (k : ℕ) (m : Publication) → ((j : ℕ) → k ≤ j → list_all (open_at j) before ≡ true) → (j : ℕ) → k + 1 ≤ j → list_all (open_at j) (before ++ publication_stages k m) ≡ true
    still before k m free j le = all_append (open_at j) before (publication_stages k m) ∙ rw (free j (omega (arith, le)), own_open j k m (omega (arith, le))) refl

    no_more : (n : ℕ) → 0 + n ≡ n
    no_more n = omega arith

    one : (before : List Stage) (k : ℕ) (m : Publication) (ms : List Publication) → ((j : ℕ) → k ≤ j → list_all (open_at j) before ≡ true)
        → count (is_kept ((before ++ publication_stages k m) ++ all_publication_stages (k + 1) ms)) (all_publication_stages (k + 1) ms) ≡ alive_from (k + 1) (λ n. true) ms source t root
        → count (is_kept (before ++ all_publication_stages k (m ∷ ms))) (all_publication_stages k (m ∷ ms)) ≡ alive_from k (λ n. true) (m ∷ ms) source t root
    one before k m ms free rec = count-append (is_kept all) (publication_stages k m) rest ∙ rw (first, behind) refl where
      rest : List Stage
      rest = all_publication_stages (k + 1) ms

      all : List Stage
      all = before ++ (publication_stages k m ++ rest)

      open_here : list_all (open_at k) all ≡ not (list_any (λ n. takes source t n k) ms)
      open_here =
          all_append (open_at k) before (publication_stages k m ++ rest)
          ∙ (rw (free k (omega arith), all_append (open_at k) (publication_stages k m) rest, own_open k k m (omega arith)) (later_open k (k + 1) ms (omega arith)))

      first : count (is_kept all) (publication_stages k m) ≡ cond (not (list_any (λ n. takes source t n k) ms)) (puts source t root m) 0
      first =
          count-append (is_kept all) (taken_by m.kind k m.source m.spans) (map (adds_root k m.source) m.adds)
          ∙ (rw (taken_none all k m.source m.kind m.spans, adds_kept all k m, open_here) (no_more (cond (not (list_any (λ n. takes source t n k) ms)) (puts source t root m) 0)))

      behind : count (is_kept all) rest ≡ alive_from (k + 1) (λ n. true) ms source t root
      behind = subst (λ (xs : List Stage). count (is_kept xs) rest ≡ alive_from (k + 1) (λ n. true) ms source t root) (append_assoc before (publication_stages k m) rest) rec

    -- before these stand publications that close nothing from here on
    from : (before : List Stage) (k : ℕ) (ms : List Publication) → ((j : ℕ) → k ≤ j → list_all (open_at j) before ≡ true)
        → count (is_kept (before ++ all_publication_stages k ms)) (all_publication_stages k ms) ≡ alive_from k (λ n. true) ms source t root
    from before k [] free = refl
    from before k (m ∷ ms) free = one before k m ms free (from (before ++ publication_stages k m) (k + 1) ms (still before k m free))

    -- the root stays as often as it was put and not taken away
    pub put_stays : (pubs : List Publication) → stays (all_publication_stages 0 pubs) (source, t) root ≡ alive (λ n. true) pubs source t root
    put_stays pubs = from [] 0 pubs (λ j le. refl)
