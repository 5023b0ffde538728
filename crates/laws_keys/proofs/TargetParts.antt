-- Ids that a publish makes: of which span, and which part of its chunk.
use Rattle.std.proofs.Common.{List, ap, arith, false, inl, inr, subst, sym, true, ℕ, ◌<◌, ◌∙◌, ◌≡◌, ◌≤◌}
use Rattle.std.proofs.lemmas.Bool.{cases_Bool, false≢true}
use Rattle.iv_span.specs.Extent.{Extent, overlap}
use Rattle.seg_names.specs.Ids.{same_id}
use Rattle.seg_names.specs.declared.seg_id.SegId.{SegId}
use Rattle.book_rows.specs.Lists.{In}
use Rattle.book_rows.specs.Over.{Target}
use Rattle.book_rows.specs.Shape.{HasChunk}
use Rattle.book_rows.specs.declared.kinds.LockKind.{LockKind}
use Rattle.book_rows.specs.declared.rows.Book.{Book}
use Rattle.book_rows.specs.declared.rows.TaskRow.{TaskRow}
use Rattle.laws_chunks.proofs.LockFacts.{pair_of}
use Rattle.laws_chunks.proofs.Spans.{overlap_self, same_id_means}
use Rattle.laws_keys.proofs.Targets.{AreTargets, IsMadeIn}

-- the id is one of these parts of the span's chunk
pub record IsPart (t : TaskRow) (x : Target) (from to : ℕ) (a : SegId) : Type 0 where
  pub made : IsMadeIn t x a
  pub low : from ≤ a.part
  pub high : a.part < to

-- ids are apart where they can't be equal
pub apart : (a c : SegId) → (a ≡ c → ⊥) → same_id a c ≡ false
apart a c f = elim (cases_Bool (same_id a c)) [ inr off ↦ off | inl on ↦ absurd (f (same_id_means a c on)) ]

module _ (b : Book) (t : TaskRow) (kind : LockKind) (ids tombs : List SegId) (xs : List Target) (g : AreTargets b t kind ids tombs xs) where
  -- one that has a chunk row is of another chunk than those that are made
  pub old_apart : (a c : SegId) (x : Target) → HasChunk b.chunks a → In x xs → IsMadeIn t x c → same_id a c ≡ false
  old_apart a c x h i made = apart a c (λ e. g.fresh x i h.chunk a h.among h.is_in (subst (IsMadeIn t x) (sym e) made))

  pub made_apart : (a c : SegId) (x : Target) → HasChunk b.chunks c → In x xs → IsMadeIn t x a → same_id a c ≡ false
  made_apart a c x h i made = apart a c (λ e. g.fresh x i h.chunk c h.among h.is_in (subst (IsMadeIn t x) e made))

  -- of spans that don't overlap
  pub spans_apart : (a c : SegId) (x y : Target) → In x xs → overlap x.span y.span ≡ false → IsMadeIn t x a → IsMadeIn t y c → same_id a c ≡ false
  spans_apart a c x y i off k l = apart a c (λ e.
      let same : y.span ≡ x.span = sym l.span_is ∙ ap (λ (a : SegId). a.span) (sym e) ∙ k.span_is in
      false≢true (sym off ∙ subst (λ (s : Extent). overlap x.span s ≡ true) (sym same) (overlap_self x.span (g.filled x i).proper)))

  -- targets of one span are one
  one_target : (x y : Target) → In x xs → In y xs → x.span ≡ y.span → x ≡ y
  one_target x y i j same = elim (pair_of (λ x y. overlap x.span y.span ≡ false) x y xs g.disjoint i j) [
    | inl e ↦ e
    | inr (inl off) ↦ absurd (false≢true (sym off ∙ subst (λ (s : Extent). overlap x.span s ≡ true) same (overlap_self x.span (g.filled x i).proper)))
    | inr (inr off) ↦ absurd (false≢true (sym off ∙ subst (λ (s : Extent). overlap s x.span ≡ true) same (overlap_self x.span (g.filled x i).proper)))
  ]

  -- of parts of which the first end where the second begin
  pub parts_apart : (to from : Target → ℕ) → ((x : Target) → to x ≤ from x) → (lo hi : ℕ) (a c : SegId) (x y : Target) → In x xs → In y xs → IsPart t x lo (to x) a → IsPart t y (from y) hi c → same_id a c ≡ false
  parts_apart to from ends lo hi a c x y i j k l = apart a c (λ e.
      let one : x ≡ y = one_target x y i j (sym k.made.span_is ∙ ap (λ (a : SegId). a.span) e ∙ l.made.span_is) in
      let high : a.part < to x = k.high in
      let low : from x ≤ c.part = subst (λ (x : Target). from x ≤ c.part) (sym one) l.low in
      let same : a.part ≡ c.part = ap (λ (a : SegId). a.part) e in
      let between : to x ≤ from x = ends x in
      clash a.part c.part (to x) (from x) high low same between) where
        clash : (m n p q : ℕ) → m < p → q ≤ n → m ≡ n → p ≤ q → ⊥
        clash m n p q high low same between = omega (arith, high, low, same, between)
