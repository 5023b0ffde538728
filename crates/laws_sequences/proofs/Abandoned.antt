-- Abandoning a group's sequences from an index on, or all of a source, keeps that they are linked.
use Rattle.std.proofs.Common.{◌≡◌, ℕ, Bool, true, false, cond, not, ◌==◌, ◌&&◌, List, [], ◌∷◌, map, filter, refl, sym, ◌∙◌, nat_le, inl, inr, bytes_eq}
use Rattle.std.specs.List.{AllByRecursion}
use Rattle.std.proofs.lemmas.Bool.{and_from, and_left, and_parts, cases_Bool, eq-eqb, eqb-true, false≢true, not-true}
use Rattle.book_rows.specs.Kinds.{is_unpublished, same_state}
use Rattle.book_rows.specs.Offsets.{cleared, reset_to, stored}
use Rattle.book_rows.specs.SequenceRules.{Chain}
use Rattle.book_rows.specs.Sequences.{abandoned, dropped_sequence, is_abandoned_by, is_dropped_by, is_of_group, is_open, open_rows, partitions_of, positions}
use Rattle.book_rows.specs.declared.kinds.SeqState.{SeqState}
use Rattle.book_rows.specs.declared.kinds.SeqState.TheVariants as States
use Rattle.book_rows.specs.declared.rows.Offset.{Offset}
use Rattle.book_rows.specs.declared.rows.OffsetRow.{OffsetRow}
use Rattle.book_rows.specs.declared.rows.SequenceRow.{SequenceRow}
use Rattle.book_rows.specs.declared.rows.SupervisorRow.{SupervisorRow}
use Rattle.laws_locks.proofs.Lists.{all_weaker}
use Rattle.laws_locks.proofs.TaskRows.{bytes_differ}
use Rattle.laws_offsets.proofs.StoredRows.{stored_elsewhere, stored_uncleared}
use Rattle.laws_offsets.proofs.Lists.{same_text, text_same}
use Rattle.laws_sequences.specs.Links.{AreChained, AreCounted, AreLinked}
use Rattle.laws_sequences.proofs.Chains.{chain_below}
use Rattle.laws_sequences.proofs.Counts.{KeepsKeys, ascend_open, counted_map, group_parts, open_parts}
use Rattle.laws_sequences.proofs.Filters.{filter_after, filter_both, filter_none, filter_same_test}
use Rattle.laws_sequences.proofs.KeptLinks.{own_map}
use Rattle.laws_sequences.proofs.Publishings.{KeepsPublished, unpublished_stays}

-- ---- states

-- those that are unpublished after it: those that were, and aren't hit
without_open : (a h : Bool) (st : SeqState) → (a && is_unpublished (cond h States.Abandoned st)) ≡ ((a && is_unpublished st) && not h)
without_open true true st = go (is_unpublished st) where
  go : (b : Bool) → false ≡ (b && false)
  go true = refl
  go false = refl
without_open true false st = go (is_unpublished st) where
  go : (b : Bool) → b ≡ (b && true)
  go true = refl
  go false = refl
without_open false h st = refl

closed_then : (h : Bool) (st : SeqState) → same_state (cond h States.Abandoned st) States.Closed ≡ true → same_state st States.Closed ≡ true
closed_then true st e = cc
closed_then false st e = e

-- two groups are one, or no row is of both
apart : (source s : List ℕ) (group g : ℕ) (u : SequenceRow) → (bytes_eq source s && (group == g)) ≡ false → is_open s g u ≡ true → is_open source group u ≡ false
apart source s group g u e o = elim (cases_Bool (is_open source group u)) [
  | inr off ↦ off
  | inl on ↦
      let x = group_parts s g u (open_parts s g u o).0 in
      let y = group_parts source group u (open_parts source group u on).0 in
      absurd (false≢true (sym e ∙ and_from (bytes_eq source s) (group == g) (text_same source s (sym y.0 ∙ x.0)) (eq-eqb group g (sym y.1 ∙ x.1))))
]

drop_test : (o l : Bool) → (o && not (o && l)) ≡ (o && not l)
drop_test true l = refl
drop_test false l = refl

-- ---- from an index on

module _ (source : List ℕ) (group from : ℕ) where
  kept_row : (s : List ℕ) (g : ℕ) (u : SequenceRow) → (is_open s g u && not (is_abandoned_by source group from u)) ≡ true → abandoned source group from u ≡ u
  kept_row s g u e =
      let off : is_abandoned_by source group from u ≡ false = not-true (is_abandoned_by source group from u) (and_parts (is_open s g u) (not (is_abandoned_by source group from u)) e).1 in
      rw off refl

  chained_abandoned : (us : List SequenceRow) → AreCounted us → (s : List ℕ) (g : ℕ) (at : List Offset) → Chain at (open_rows s g us) → Chain at (open_rows s g (map (abandoned source group from) us))
  chained_abandoned us counted s g at c =
      rw (filter_after (is_open s g) (λ u. is_open s g u && not (is_abandoned_by source group from u)) (abandoned source group from)
      (λ u. without_open (is_of_group s g u) (is_abandoned_by source group from u) u.state)
      (λ u e. kept_row s g u e) us)
      (go (bytes_eq source s && (group == g)) refl) where
        go : (b : Bool) → (bytes_eq source s && (group == g)) ≡ b → Chain at (filter (λ u. is_open s g u && not (is_abandoned_by source group from u)) us)
        go true e =
            let one = and_parts (bytes_eq source s) (group == g) e in
            rw (
              same_text source s one.0,
              eqb-true group g one.1,
              filter_same_test (λ u. is_open s g u && not (is_open s g u && nat_le from u.index)) (λ u. is_open s g u && not (nat_le from u.index)) (λ u. drop_test (is_open s g u) (nat_le from u.index)) us,
              filter_both (is_open s g) (λ u. not (nat_le from u.index)) us,
            )
            (chain_below from at (open_rows s g us) (ascend_open s g us counted) c)
        go false e =
            rw (filter_same_test (λ u. is_open s g u && not (is_abandoned_by source group from u)) (is_open s g) (λ u. not_hit u (is_open s g u) refl) us) c where
              not_hit : (u : SequenceRow) (b : Bool) → is_open s g u ≡ b → (b && not (is_abandoned_by source group from u)) ≡ b
              not_hit u true o = rw (apart source s group g u e o) refl
              not_hit u false o = refl

  pub abandoned_keys : KeepsKeys (abandoned source group from)
  abandoned_keys = record { source_is = λ u. refl; group_is = λ u. refl; index_is = λ u. refl }

  pub abandoned_published : KeepsPublished (abandoned source group from)
  abandoned_published = record {
    keys = abandoned_keys;
    state = λ u. unpublished_stays (is_abandoned_by source group from u) States.Abandoned u.state refl (λ h. (open_parts source group u (and_parts (is_open source group u) (nat_le from u.index) h).0).1);
    starts = λ u. refl;
    ends = λ u e. refl;
  }

  pub linked_abandoned : (rows : List OffsetRow) (ss : List SupervisorRow) (us : List SequenceRow) → AreLinked rows ss us → AreLinked rows ss (map (abandoned source group from) us)
  linked_abandoned rows ss us h = record {
    counted = counted_map (abandoned source group from) abandoned_keys us h.counted;
    chained = all_weaker _ _ (λ s c g. chained_abandoned us h.counted s.source g _ (c g)) ss h.chained;
    own = all_weaker _ _ (λ s o. own_map (abandoned source group from) abandoned_keys (λ ps u i. record { starts = i.starts; ends = λ c. i.ends (closed_then (is_abandoned_by source group from u) u.state c) }) s us o) ss h.own;
  }

-- ---- a reset: all of a source, where it is of its supervisor's stream

pub positions_alike : (rows after : List OffsetRow) (source stream : List ℕ) (ps : List ℕ) → ((p : ℕ) → stored after source stream p ≡ stored rows source stream p) → positions after source stream ps ≡ positions rows source stream ps
positions_alike rows after source stream [] h = refl
positions_alike rows after source stream (p ∷ ps) h = rw (h p, positions_alike rows after source stream ps h) refl

-- where each supervisor's stream has what it had
pub linked_alike : (rows after : List OffsetRow) (ss : List SupervisorRow) (us : List SequenceRow) → AllByRecursion (λ v. (p : ℕ) → stored after v.source v.stream p ≡ stored rows v.source v.stream p) ss → AreLinked rows ss us → AreLinked after ss us
linked_alike rows after ss us same h = record { counted = h.counted; chained = both ss same h.chained; own = h.own } where
  both : (ss : List SupervisorRow) → AllByRecursion (λ v. (p : ℕ) → stored after v.source v.stream p ≡ stored rows v.source v.stream p) ss → AllByRecursion (AreChained rows us) ss → AllByRecursion (AreChained after us) ss
  both [] o c = tt
  both (v ∷ ss) o c = (λ g. rw (positions_alike rows after v.source v.stream (partitions_of v g) o.0) (c.0 g), both ss o.1 c.1)

module _ (s t : List ℕ) (os : List Offset) where
  reset_elsewhere : (rows : List OffsetRow) (source stream : List ℕ) → (bytes_eq s source && bytes_eq t stream) ≡ false → (p : ℕ) → stored (reset_to rows s t os) source stream p ≡ stored rows source stream p
  reset_elsewhere rows source stream e p = stored_elsewhere source stream p s t os (cleared rows s t) e ∙ stored_uncleared source stream p s t rows e

  -- a stream that no supervisor of the source reads
  pub linked_reset : (rows : List OffsetRow) (ss : List SupervisorRow) (us : List SequenceRow) → AllByRecursion (λ v. (bytes_eq s v.source && bytes_eq t v.stream) ≡ false) ss → AreLinked rows ss us → AreLinked (reset_to rows s t os) ss us
  linked_reset rows ss us other h = linked_alike rows (reset_to rows s t os) ss us (all_weaker _ _ (λ v o p. reset_elsewhere rows v.source v.stream o p) ss other) h

  kept_open : (v : SupervisorRow) (g : ℕ) (u : SequenceRow) → (is_open v.source g u && not (is_dropped_by s u)) ≡ true → dropped_sequence s u ≡ u
  kept_open v g u e =
      let off : is_dropped_by s u ≡ false = not-true (is_dropped_by s u) (and_parts (is_open v.source g u) (not (is_dropped_by s u)) e).1 in
      rw off refl

  -- none of the source is left
  none_open : (v : SupervisorRow) (g : ℕ) (us : List SequenceRow) → filter (λ u. is_open v.source g u && not (is_dropped_by v.source u)) us ≡ []
  none_open v g us = filter_same_test _ (λ u. false) (λ u. none (bytes_eq u.source v.source) (u.group == g) (is_unpublished u.state)) us ∙ filter_none (λ (u : SequenceRow). false) us (all_false us) where
    none : (a b c : Bool) → (((a && b) && c) && not (a && c)) ≡ false
    none true true true = refl
    none true true false = refl
    none true false c = refl
    none false b c = refl

    all_false : (us : List SequenceRow) → AllByRecursion (λ (u : SequenceRow). false ≡ false) us
    all_false [] = tt
    all_false (u ∷ us) = (refl, all_false us)

  chained_dropped : (rows : List OffsetRow) (us : List SequenceRow) (v : SupervisorRow) → AreChained rows us v → AreChained (reset_to rows s t os) (map (dropped_sequence s) us) v
  chained_dropped rows us v c g =
      rw (filter_after (is_open v.source g) (λ u. is_open v.source g u && not (is_dropped_by s u)) (dropped_sequence s)
      (λ u. without_open (is_of_group v.source g u) (is_dropped_by s u) u.state)
      (λ u e. kept_open v g u e) us)
      (go (bytes_eq s v.source) refl) where
        go : (b : Bool) → bytes_eq s v.source ≡ b → Chain (positions (reset_to rows s t os) v.source v.stream (partitions_of v g)) (filter (λ u. is_open v.source g u && not (is_dropped_by s u)) us)
        go true e = rw (same_text s v.source e, none_open v g us) tt
        go false e =
            rw (
              positions_alike rows (reset_to rows s t os) v.source v.stream (partitions_of v g) (reset_elsewhere rows v.source v.stream (and_left _ _ e)),
              filter_same_test (λ u. is_open v.source g u && not (is_dropped_by s u)) (is_open v.source g) (λ u. not_hit u (is_open v.source g u) refl) us,
            ) (c g) where
              not_hit : (u : SequenceRow) (b : Bool) → is_open v.source g u ≡ b → (b && not (is_dropped_by s u)) ≡ b
              not_hit u true o =
                  let there : u.source ≡ v.source = (group_parts v.source g u (open_parts v.source g u o).0).0 in
                  let off : bytes_eq u.source s ≡ false = rw there (bytes_differ s v.source e) in
                  rw off refl
              not_hit u false o = refl

pub dropped_keys : (s : List ℕ) → KeepsKeys (dropped_sequence s)
dropped_keys s = record { source_is = λ u. refl; group_is = λ u. refl; index_is = λ u. refl }

pub dropped_published : (s : List ℕ) → KeepsPublished (dropped_sequence s)
dropped_published s = record {
  keys = dropped_keys s;
  state = λ u. unpublished_stays (is_dropped_by s u) States.Abandoned u.state refl (λ h. (and_parts (bytes_eq u.source s) (is_unpublished u.state) h).1);
  starts = λ u. refl;
  ends = λ u e. refl;
}

pub linked_dropped : (s t : List ℕ) (os : List Offset) (rows : List OffsetRow) (ss : List SupervisorRow) (us : List SequenceRow) → AreLinked rows ss us → AreLinked (reset_to rows s t os) ss (map (dropped_sequence s) us)
linked_dropped s t os rows ss us h = record {
  counted = counted_map (dropped_sequence s) (dropped_keys s) us h.counted;
  chained = all_weaker _ _ (λ v c. chained_dropped s t os rows us v c) ss h.chained;
  own = all_weaker _ _ (λ v o. own_map (dropped_sequence s) (dropped_keys s) (λ ps u i. record { starts = i.starts; ends = λ c. i.ends (closed_then (is_dropped_by s u) u.state c) }) v us o) ss h.own;
}
