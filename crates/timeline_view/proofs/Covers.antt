-- The cover on top, and stretches that are joined.
use Rattle.std.proofs.Common.{Bool, List, [], ap, arith, cond, false, inl, inr, int_le, refl, subst, sym, true, ℤ, ◌∙◌, ◌∷◌, ◌≡◌}
use Rattle.std.specs.Prelude.{None, Option, Some}
use Rattle.std.specs.Cmp.{IsTotalOrder}
use Rattle.std.specs.Ordering.{int_cmp, int_eq, is_gt, is_lt, ordering_reverse, ordering_then}
use Rattle.std.specs.declared.cmp.Ordering.{Ordering}
use Rattle.std.proofs.lemmas.Bool.{and_from, and_parts, false≢true}
use Rattle.std.proofs.lemmas.Bool.Decides.{Decides-int_eq}
use Rattle.std.proofs.lemmas.Cmp.{int_cmp_total, on_total, then_total, tied_itself, upto}
use Rattle.std.proofs.lemmas.Int.{ints}
use Rattle.std.proofs.lemmas.Map.Lookups.{exact_signed}
use Rattle.iv_span.specs.Extent.{Extent, has}
use Rattle.seg_names.specs.Ids.{same_extent}
use Rattle.book_rows.specs.Lists.{In}
use Rattle.laws_chunks.proofs.Spans.{extents, same_extent_from, same_extent_means}
use Rattle.timeline_view.specs.Sweep.{cover_cmp, higher, is_below, same_cover, stretch_joined, stretch_span, stretches_agree, top_of}
use Rattle.timeline_view.specs.declared.sweep.Cover.{Cover}
use Rattle.timeline_view.specs.declared.sweep.Stretch.{Stretch}
use Rattle.laws_parts.proofs.Building.{DoJoin}
use Rattle.std.specs.declared.cmp.Ordering.TheVariants as Orderings

-- ---- covers and stretches that agree

pub covers_whole : (a b : Cover) → a.version ≡ b.version → a.span ≡ b.span → a ≡ b
covers_whole a b e g = ap (λ (v : ℤ). record a { version = v }) e ∙ ap (λ (s : Extent). record b { span = s }) g

pub same_cover_means : (a b : Cover) → same_cover a b ≡ true → a ≡ b
same_cover_means a b h =
    let one = and_parts (int_eq a.version b.version) (same_extent a.span b.span) h in
    covers_whole a b ((Decides-int_eq a.version b.version).0 one.0) (same_extent_means a.span b.span one.1)

pub same_cover_from : (a b : Cover) → a ≡ b → same_cover a b ≡ true
same_cover_from a b e = and_from (int_eq a.version b.version) (same_extent a.span b.span)
    ((Decides-int_eq a.version b.version).1 (ap (λ (c : Cover). c.version) e))
    (same_extent_from a.span b.span (ap (λ (c : Cover). c.span) e))

pub stretches_join : DoJoin stretch_span (λ (p : Stretch). p.top) stretches_agree stretch_joined
stretches_join = record {
  touch = λ p q e f. and_from (int_eq p.end q.start) (same_cover p.top q.top) ((Decides-int_eq p.end q.start).1 e) (same_cover_from p.top q.top f);
  means_touch = λ p q h. (Decides-int_eq p.end q.start).0 (and_parts (int_eq p.end q.start) (same_cover p.top q.top) h).0;
  means_body = λ p q h. same_cover_means p.top q.top (and_parts (int_eq p.end q.start) (same_cover p.top q.top) h).1;
  merged_span = λ p q. refl;
  merged_body = λ p q. refl;
}

-- ---- the order of covers

cover_total : IsTotalOrder cover_cmp
cover_total = then_total (on_total (λ (c : Cover). c.version) int_cmp_total) (then_total (on_total (λ (c : Cover). c.span.start) int_cmp_total) (on_total (λ (c : Cover). c.span.end) int_cmp_total))

below_not_turned : (a b : Cover) → is_below a b ≡ true → is_below b a ≡ false
below_not_turned a b h = turned (cover_cmp a b) (cover_cmp b a) (cover_total.antisymm b a) h where
  turned : (o p : Ordering) → p ≡ ordering_reverse o → is_lt o ≡ true → is_lt p ≡ false
  turned Orderings.Less p e h = rw e refl
  turned Orderings.Equal p e h = absurd (false≢true h)
  turned Orderings.Greater p e h = absurd (false≢true h)

not_below_itself : (a b : Cover) → a ≡ b → is_below a b ≡ false
not_below_itself a b e = subst (λ (c : Cover). is_below a c ≡ false) e (ap is_lt (tied_itself cover_total a))

not_through : (a b c : Cover) → is_below a b ≡ false → is_below b c ≡ false → is_below a c ≡ false
not_through a b c h k = back (cover_cmp c a) (cover_cmp a c) (cover_total.antisymm a c) (upto cover_total c b a (turn (cover_cmp b c) (cover_cmp c b) (cover_total.antisymm c b) k) (turn (cover_cmp a b) (cover_cmp b a) (cover_total.antisymm b a) h)) where
  turn : (o p : Ordering) → p ≡ ordering_reverse o → is_lt o ≡ false → is_gt p ≡ false
  turn Orderings.Less p e h = absurd (false≢true (sym h))
  turn Orderings.Equal p e h = rw e refl
  turn Orderings.Greater p e h = rw e refl

  back : (o p : Ordering) → p ≡ ordering_reverse o → is_gt o ≡ false → is_lt p ≡ false
  back Orderings.Less p e h = rw e refl
  back Orderings.Equal p e h = rw e refl
  back Orderings.Greater p e h = absurd (false≢true (sym h))

then_equal : (o p : Ordering) → ordering_then o p ≡ Orderings.Equal → (o ≡ Orderings.Equal) × (p ≡ Orderings.Equal)
then_equal Orderings.Less p h = cc
then_equal Orderings.Equal p h = (refl, h)
then_equal Orderings.Greater p h = cc

-- two of which neither is below the other are one
one_greatest : (a b : Cover) → is_below a b ≡ false → is_below b a ≡ false → a ≡ b
one_greatest a b h k = covers_whole a b (exact_signed a.version b.version one.0) (extents (exact_signed a.span.start b.span.start two.0) (exact_signed a.span.end b.span.end two.1)) where
  tied : (o p : Ordering) → p ≡ ordering_reverse o → is_lt o ≡ false → is_lt p ≡ false → o ≡ Orderings.Equal
  tied Orderings.Less p e h k = absurd (false≢true (sym h))
  tied Orderings.Equal p e h k = refl
  tied Orderings.Greater p e h k = absurd (false≢true (sym k ∙ ap is_lt e))

  one : (int_cmp a.version b.version ≡ Orderings.Equal) × (ordering_then (int_cmp a.span.start b.span.start) (int_cmp a.span.end b.span.end) ≡ Orderings.Equal)
  one = then_equal (int_cmp a.version b.version) (ordering_then (int_cmp a.span.start b.span.start) (int_cmp a.span.end b.span.end)) (tied (cover_cmp a b) (cover_cmp b a) (cover_total.antisymm b a) h k)

  two : (int_cmp a.span.start b.span.start ≡ Orderings.Equal) × (int_cmp a.span.end b.span.end ≡ Orderings.Equal)
  two = then_equal (int_cmp a.span.start b.span.start) (int_cmp a.span.end b.span.end) one.1

lower : (a b : ℤ) (o : Ordering) → is_lt (ordering_then (int_cmp a b) o) ≡ false → int_le b a ≡ true
lower a b o h = grind (arith, ints)

-- the version of one below is no greater
pub version_below : (a b : Cover) → is_below a b ≡ false → int_le b.version a.version ≡ true
version_below a b h = lower a.version b.version (ordering_then (int_cmp a.span.start b.span.start) (int_cmp a.span.end b.span.end)) h

-- ---- the cover on top

abbrev pub Means : List Cover → ℤ → Option Cover → Type 0
Means cs t None = (c : Cover) → In c cs → has c.span t ≡ false
Means cs t (Some d) = In d cs × (has d.span t ≡ true) × ((c : Cover) → In c cs → has c.span t ≡ true → is_below d c ≡ false)

pub top_means : (cs : List Cover) (t : ℤ) → Means cs t (top_of cs t)
top_means [] t = λ c i. absurd i
top_means (c ∷ cs) t = go (has c.span t) refl (top_of cs t) (top_means cs t) where
  with_new : (o : Option Cover) → has c.span t ≡ true → Means cs t o → Means (c ∷ cs) t (higher c o)
  with_new None here m = (inl refl, here, only) where
    only : (d : Cover) → In d (c ∷ cs) → has d.span t ≡ true → is_below c d ≡ false
    only d (inl e) h = not_below_itself c d (sym e)
    only d (inr i) h = absurd (false≢true (sym (m d i) ∙ h))
  with_new (Some d) here m = pick (is_below c d) refl where
    pick : (b : Bool) → is_below c d ≡ b → Means (c ∷ cs) t (cond b (Some d) (Some c))
    pick true on = (inr m.0, m.1, low) where
      low : (x : Cover) → In x (c ∷ cs) → has x.span t ≡ true → is_below d x ≡ false
      low x (inl e) h = subst (λ (y : Cover). is_below d y ≡ false) (sym e) (below_not_turned c d on)
      low x (inr i) h = m.2 x i h
    pick false off = (inl refl, here, low) where
      low : (x : Cover) → In x (c ∷ cs) → has x.span t ≡ true → is_below c x ≡ false
      low x (inl e) h = not_below_itself c x (sym e)
      low x (inr i) h = not_through c d x off (m.2 x i h)

  without : (o : Option Cover) → has c.span t ≡ false → Means cs t o → Means (c ∷ cs) t o
  without None off m = none where
    none : (d : Cover) → In d (c ∷ cs) → has d.span t ≡ false
    none d (inl e) = subst (λ (y : Cover). has y.span t ≡ false) (sym e) off
    none d (inr i) = m d i
  without (Some d) off m = (inr m.0, m.1, low) where
    low : (x : Cover) → In x (c ∷ cs) → has x.span t ≡ true → is_below d x ≡ false
    low x (inl e) h = absurd (false≢true (sym off ∙ subst (λ (y : Cover). has y.span t ≡ true) e h))
    low x (inr i) h = m.2 x i h

  go : (b : Bool) → has c.span t ≡ b → (o : Option Cover) → Means cs t o → Means (c ∷ cs) t (cond b (higher c o) o)
  go true here o m = with_new o here m
  go false off o m = without o off m

pub none_is : (cs : List Cover) (t : ℤ) → ((c : Cover) → In c cs → has c.span t ≡ false) → top_of cs t ≡ None
none_is cs t none = go (top_of cs t) (top_means cs t) where
  go : (o : Option Cover) → Means cs t o → o ≡ None
  go None m = refl
  go (Some d) m = absurd (false≢true (sym (none d m.0) ∙ m.1))

pub top_is : (cs : List Cover) (t : ℤ) (c : Cover) → In c cs → has c.span t ≡ true → ((d : Cover) → In d cs → has d.span t ≡ true → is_below c d ≡ false) → top_of cs t ≡ Some c
top_is cs t c i here top = go (top_of cs t) (top_means cs t) where
  go : (o : Option Cover) → Means cs t o → o ≡ Some c
  go None m = absurd (false≢true (sym (m c i) ∙ here))
  go (Some d) m = ap Some (one_greatest d c (m.2 c i here) (top d m.0 m.1))
