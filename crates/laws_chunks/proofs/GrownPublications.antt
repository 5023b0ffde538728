-- What the publications say after one comes or the last one grows.
use Rattle.std.proofs.Common.{Bool, List, [], ap, arith, cond, false, inl, inr, length, nat_lt, not, refl, sym, true, ℕ, ℤ, ◌&&◌, ◌++◌, ◌+◌, ◌∙◌, ◌∷◌, ◌≡◌}
use Rattle.std.proofs.Math.Bool.{and-true, or-false}
use Rattle.std.proofs.lemmas.Bool.{and_from, and_parts, and_right, cases_Bool, false≢true}
use Rattle.std.proofs.lemmas.List.Folds.{list_any-append}
use Rattle.std.proofs.lemmas.Slice.Eq.{bytes_eq-Decides}
use Rattle.std.specs.Prelude.{bytes_eq}
use Rattle.iv_span.specs.Extent.{Extent, has}
use Rattle.seg_names.specs.Ids.{same_id}
use Rattle.seg_names.specs.declared.seg_id.SegId.{SegId}
use Rattle.book_rows.specs.Contents.{alive, alive_from, puts, takes, takes_by}
use Rattle.book_rows.specs.Lists.{In, count}
use Rattle.book_rows.specs.declared.kinds.PubKind.{PubKind}
use Rattle.book_rows.specs.declared.rows.Publication.{Publication}
use Rattle.book_rows.specs.declared.rows.SpanSince.{SpanSince}
use Rattle.laws_chunks.proofs.Alive.{alive_alike, alive_push}
use Rattle.laws_chunks.proofs.Members.{count-append, count_none}
use Rattle.laws_chunks.proofs.Spans.{meet, same_id_means}
use Rattle.laws_chunks.specs.Growing.{IsApart, appended, grown}
use Rattle.book_rows.specs.declared.kinds.PubKind.TheVariants as PubKinds

either_way : (b : Bool) (n : ℕ) → cond b n n ≡ n
either_way true n = refl
either_way false n = refl

-- one span more takes nothing where it isn't
takes_more : (kind : PubKind) (spans : List SpanSince) (x : SpanSince) (t : ℤ) (j : ℕ) → has x.span t ≡ false → takes_by kind (spans ++ x ∷ []) t j ≡ takes_by kind spans t j
takes_more PubKinds.Append spans x t j off = refl
takes_more PubKinds.Over spans x t j off = list_any-append (λ s. has s.span t) spans (x ∷ []) ∙ rw off (or-false _)
takes_more PubKinds.Replace spans x t j off = list_any-append (λ s. has s.span t && nat_lt j s.since) spans (x ∷ []) ∙ rw off (or-false _)
takes_more PubKinds.Drop spans x t j off = list_any-append (λ s. has s.span t) spans (x ∷ []) ∙ rw off (or-false _)
takes_more PubKinds.Reset spans x t j off = refl

takes_empty : (kind : PubKind) (t : ℤ) (j : ℕ) → takes_by kind [] t j ≡ false
takes_empty PubKinds.Append t j = refl
takes_empty PubKinds.Over t j = refl
takes_empty PubKinds.Replace t j = refl
takes_empty PubKinds.Drop t j = refl
takes_empty PubKinds.Reset t j = refl

and_off : (a b : Bool) → (a && b) ≡ false → (c : Bool) → (b ≡ false → c ≡ false) → (a && c) ≡ false
and_off true b h c f = f h
and_off false b h c f = refl

off_right : (a b : Bool) → (a && b) ≡ false → a ≡ true → b ≡ false
off_right true b h e = h
off_right false b h e = absurd (false≢true e)

module _ (pass : ℕ → Bool) (ms : List Publication) (m : Publication) where
  -- ---- a publication without spans and ids
  pub alive_pushed : m.adds ≡ [] → m.spans ≡ [] → (p : List ℕ) (t : ℤ) (root : SegId) → alive pass (ms ++ m ∷ []) p t root ≡ alive pass ms p t root
  alive_pushed none free p t root =
      alive_push p t root 0 pass ms m
      ∙ rw (
        alive_alike p t root 0 (λ j. pass j && not (takes p t m j)) pass (λ j. rw (free, takes_empty m.kind t j, and_right (bytes_eq m.source p) false refl) (and-true (pass j))) ms,
        none,
        either_way (bytes_eq m.source p && has root.span t) 0,
        either_way (pass (0 + length ms)) 0,
      ) (omega arith)

  -- ---- one root more
  pub alive_appended : (r : SegId) (p : List ℕ) (t : ℤ) (root : SegId) → pass (0 + length ms) ≡ true → alive pass (ms ++ appended r m ∷ []) p t root ≡ alive pass (ms ++ m ∷ []) p t root + cond ((bytes_eq m.source p && has root.span t) && same_id r root) 1 0
  alive_appended r p t root on =
      rw (alive_push p t root 0 pass ms (appended r m), alive_push p t root 0 pass ms m, on, count-append (λ a. same_id a root) m.adds (r ∷ []))
      (more (bytes_eq m.source p && has root.span t) (same_id r root) (alive_from 0 (λ j. pass j && not (takes p t m j)) ms p t root) (count (λ a. same_id a root) m.adds)) where
        more : (a b : Bool) (n k : ℕ) → n + cond a (k + cond b (1 + 0) 0) 0 ≡ (n + cond a k 0) + cond (a && b) 1 0
        more true true n k = omega arith
        more true false n k = omega arith
        more false b n k = omega arith

  -- ---- one span more, with its ids
  module _ (s : Extent) (since : ℕ) (ids tombs : List SegId) (of : (a : SegId) → In a ids → a.span ≡ s) where
    takes_off : (p : List ℕ) (t : ℤ) → (bytes_eq m.source p && has s t) ≡ false → (j : ℕ) → takes p t (grown ids (record { span = s; since = since } ∷ []) tombs m) j ≡ takes p t m j
    takes_off p t off j = elim (cases_Bool (bytes_eq m.source p)) [
      | inr away ↦ rw away refl
      | inl here ↦ rw (here, takes_more m.kind m.spans (record { span = s; since = since }) t j (off_right _ _ off here)) refl
    ]

    puts_off : (p : List ℕ) (t : ℤ) (root : SegId) → (bytes_eq m.source p && has s t) ≡ false → puts p t root (grown ids (record { span = s; since = since } ∷ []) tombs m) ≡ puts p t root m
    puts_off p t root off = elim (cases_Bool (bytes_eq m.source p && has root.span t)) [
      | inr away ↦ rw away refl
      | inl here ↦ rw (
        here,
        count-append (λ a. same_id a root) m.adds ids,
        count_none (λ a. same_id a root) ids (λ a i. elim (cases_Bool (same_id a root)) [
          | inr other ↦ other
          | inl same ↦
              let both = and_parts (bytes_eq m.source p) (has root.span t) here in
              let span : root.span ≡ s = ap (λ (x : SegId). x.span) (sym (same_id_means a root same)) ∙ of a i in
              absurd (false≢true (sym off ∙ and_from _ _ both.0 (rw (← span) both.1)))
        ]),
      ) (omega arith)
    ]

    pub alive_off : (p : List ℕ) (t : ℤ) (root : SegId) → (bytes_eq m.source p && has s t) ≡ false → alive pass (ms ++ grown ids (record { span = s; since = since } ∷ []) tombs m ∷ []) p t root ≡ alive pass (ms ++ m ∷ []) p t root
    alive_off p t root off =
        alive_push p t root 0 pass ms (grown ids (record { span = s; since = since } ∷ []) tombs m)
        ∙ rw (
          alive_alike p t root 0 (λ j. pass j && not (takes p t (grown ids (record { span = s; since = since } ∷ []) tombs m) j)) (λ j. pass j && not (takes p t m j)) (λ j. rw (takes_off p t off j) refl) ms,
          puts_off p t root off,
        ) (sym (alive_push p t root 0 pass ms m))

    -- at an instant of the span
    module _ (t : ℤ) (e : has s t ≡ true) (apart : IsApart s m) where
      pub no_span : (x : SpanSince) → In x m.spans → has x.span t ≡ false
      no_span x i = elim (cases_Bool (has x.span t)) [ inr off ↦ off | inl on ↦ absurd (false≢true (sym (apart.spans x i) ∙ meet x.span s t on e)) ]

      pub puts_none : (root : SegId) → puts m.source t root m ≡ 0
      puts_none root = elim (cases_Bool (bytes_eq m.source m.source && has root.span t)) [
        | inr off ↦ rw off refl
        | inl on ↦ rw on (count_none (λ a. same_id a root) m.adds (λ a i. elim (cases_Bool (same_id a root)) [
          | inr other ↦ other
          | inl same ↦ absurd (false≢true (sym (apart.ids a i) ∙ meet a.span s t (rw (same_id_means a root same) (and_parts _ _ on).1) e))
        ]))
      ]

      pub puts_new : (root : SegId) → puts m.source t root (grown ids (record { span = s; since = since } ∷ []) tombs m) ≡ cond (has root.span t) (count (λ a. same_id a root) ids) 0
      puts_new root = rw ((bytes_eq-Decides m.source m.source).1 refl) (elim (cases_Bool (has root.span t)) [
        | inr off ↦ rw off refl
        | inl on ↦ rw (on, count-append (λ a. same_id a root) m.adds ids, old on) (omega arith)
      ]) where
        old : has root.span t ≡ true → count (λ a. same_id a root) m.adds ≡ 0
        old on = count_none (λ a. same_id a root) m.adds (λ a i. elim (cases_Bool (same_id a root)) [
          | inr other ↦ other
          | inl same ↦ absurd (false≢true (sym (apart.ids a i) ∙ meet a.span s t (rw (same_id_means a root same) on) e))
        ])
