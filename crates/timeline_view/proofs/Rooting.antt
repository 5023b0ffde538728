-- Roots that a walk met, in order.
use Rattle.std.proofs.Common.{Bool, List, false, inl, inr, refl, slice_get, subst, sym, true, ℕ, ℤ, ◌&&◌, ◌∙◌, ◌++◌, ◌∷◌, ◌≡◌, ◌⊎◌, [], int_le, int_lt}
use Rattle.std.specs.Prelude.{Option, Some}
use Rattle.std.specs.List.Sorted.{IsPermutation}
use Rattle.std.specs.Ordering.{int_eq}
use Rattle.std.proofs.lemmas.Bool.{and_parts, false≢true}
use Rattle.std.proofs.lemmas.List.Sorted.{IsPermutation-sym}
use Rattle.seg_names.specs.declared.seg_id.SegId.{SegId}
use Rattle.book_rows.specs.Lists.{In}
use Rattle.laws_chunks.proofs.Members.{In-append, In-left, In-right}
use Rattle.timeline_view.specs.Chunks.{AreIdsIn}
use Rattle.timeline_view.specs.Marks.{AreRootsOf, current, is_current}
use Rattle.timeline_view.specs.declared.marks.Mark.{Mark}
use Rattle.timeline_view.proofs.Places.{In_permuted, got_In, place_of}
use Rattle.timeline_view.proofs.Turning.{current_is}

-- ---- one root more

module _ (old new : List SegId) (a : SegId) (is : new ≡ old ++ a ∷ []) where
  pub met_taken : In a new
  met_taken = subst (λ (xs : List SegId). In a xs) (sym is) (In-right a old (a ∷ []) (inl refl))

  pub met_kept : (x : SegId) → In x old → In x new
  met_kept x i = subst (λ (xs : List SegId). In x xs) (sym is) (In-left x old (a ∷ []) i)

  pub met_back : (x : SegId) → In x new → In x old ⊎ (x ≡ a)
  met_back x i = go (In-append x old (a ∷ []) (subst (λ (xs : List SegId). In x xs) is i)) where
    go : In x old ⊎ In x (a ∷ []) → In x old ⊎ (x ≡ a)
    go (inl k) = inl k
    go (inr (inl e)) = inr e
    go (inr (inr k)) = absurd k

-- ---- all of them

module _ (ms : List Mark) (version at : ℤ) where
  is_current_then : (o : Option Mark) (m : Mark) → o ≡ Some m → is_current version at m ≡ true → current version at o ≡ Some m
  is_current_then o m e on = rw (e, on) refl

  pub roots_found : (met sorted found : List SegId) (failed : Bool) → failed ≡ false
      → ((a : SegId) → In a met → (s : ℕ) × (m : Mark) × (current version at (slice_get ms s) ≡ Some m) × (m.root ≡ a))
      → ((s : ℕ) (m : Mark) → current version at (slice_get ms s) ≡ Some m → int_eq m.version version ≡ true → (failed ≡ true) ⊎ In m.root met)
      → IsPermutation met sorted → AreIdsIn (λ a. true) sorted found → AreRootsOf ms version at found
  roots_found met sorted found failed ok sound all perm w = record {
    linked = w.linked;
    from = λ a i.
        let f = sound a (In_permuted sorted met a (IsPermutation-sym met sorted perm) (w.from a i).0) in
        let c = current_is version at (slice_get ms f.0) f.1 f.2 in
        (f.1, got_In ms f.0 f.1 c.0, c.1, f.3);
    all = λ m i on. there m on (place_of ms m i);
  } where
    there : (m : Mark) → is_current version at m ≡ true → (s : ℕ) × (slice_get ms s ≡ Some m) → In m.root found
    there m on p = go (all p.0 m (is_current_then (slice_get ms p.0) m p.1 on) (and_parts (int_eq m.version version) (int_le m.start at && int_lt at m.end) on).0) where
      go : (failed ≡ true) ⊎ In m.root met → In m.root found
      go (inl e) = absurd (false≢true (sym ok ∙ e))
      go (inr k) = w.all m.root (In_permuted met sorted m.root perm k) refl
