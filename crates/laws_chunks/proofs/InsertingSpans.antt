-- One span of an insert keeps the rules.
use Rattle.std.proofs.Common.{[], filter, inl, subst, sym, ◌++◌, ◌∙◌, ◌∷◌}
use Rattle.std.proofs.lemmas.Bool.{false≢true}
use Rattle.std.proofs.lemmas.List.{append-nil}
use Rattle.book_rows.specs.Ids.{is_of_span}
use Rattle.book_rows.specs.Rewrite.{own_rows}
use Rattle.book_rows.specs.Rules.{ShowsContents}
use Rattle.laws_chunks.proofs.AppendedRoots.{upgrades_more}
use Rattle.laws_chunks.proofs.CarriedUpgrades.{insert_carries}
use Rattle.laws_chunks.proofs.CoveredShown.{shows_insert}
use Rattle.laws_chunks.proofs.CoveringSpans.{above_pub, adds_kept, first_row, laid_keeps, of_pub}
use Rattle.laws_chunks.specs.ChunksSound.{AreChunksSound}
use Rattle.laws_chunks.specs.Covering.{InsertKeeps, span_grown}

pub insert_keeps : InsertKeeps
insert_keeps k ms m p d ids tombs b g h =
    subst (λ ps. AreChunksSound (record b { chunks = b.chunks ++ d ∷ []; segments = b.segments ++ own_rows k ids tombs d.span; pendings = ps; publications = ms ++ span_grown d.span 0 ids tombs m ∷ [] })) (append-nil b.pendings)
    (subst (λ rows. AreChunksSound (record b { chunks = b.chunks ++ d ∷ []; segments = b.segments ++ rows; pendings = b.pendings ++ []; publications = ms ++ span_grown d.span 0 ids tombs m ∷ [] })) (append-nil (own_rows k ids tombs d.span))
    (laid_keeps ms m b p d k ids tombs g.span h (inl g.kind_is) [] [] (λ n i. absurd i) (λ x i. absurd i)
    (λ r i root source o. absurd (false≢true (sym (g.no_pending r i source) ∙ o))) tt (λ x i. absurd i) (λ x i. absurd i) b.upgrades 0 h.shape.upgrade_spans
    (upgrades_more b.posses b.upgrades ms m (span_grown d.span 0 ids tombs m) (adds_kept ms m b p d k ids tombs g.span h (inl g.kind_is) 0) h.upgrades)
    (insert_carries ms m d.span 0 (filter (is_of_span d.span) ids) (filter (is_of_span d.span) tombs) (λ a i. (g.span.ids_of a i).span_is) b.posses b.chunks b.upgrades d h.carried h.compatible_locks p g.span.is_valid g.kind_is g.span.from g.span.within)
    shown)) where
      shown : ShowsContents (b.segments ++ (own_rows k ids tombs d.span ++ [])) (ms ++ span_grown d.span 0 ids tombs m ∷ [])
      shown =
          let first = first_row ms m b p d k ids tombs g.span h (inl g.kind_is) in
          subst (λ rows. ShowsContents (b.segments ++ rows) (ms ++ span_grown d.span 0 ids tombs m ∷ [])) (sym (append-nil (own_rows k ids tombs d.span)))
          (shows_insert ms m d.span d.version 0 k (filter (is_of_span d.span) ids) (filter (is_of_span d.span) tombs)
          (λ a i. of_pub ms m b p d k ids tombs g.span h (inl g.kind_is) a (g.span.ids_of a i))
          (λ a i. of_pub ms m b p d k ids tombs g.span h (inl g.kind_is) a (g.span.tombs_of a i))
          g.span.apart b.segments b.pendings first.0 first.1 g.is_over (above_pub ms m b p d k ids tombs g.span h (inl g.kind_is)) h.shown_contents)
