-- The publication of a group's first unpublished sequence keeps that the sequences are linked.
use Rattle.std.proofs.Common.{◌≡◌, ℕ, ◌<◌, Bool, true, false, cond, not, ◌==◌, ◌&&◌, List, [], ◌∷◌, map, filter, refl, sym, ◌∙◌, arith, inl, inr, ◌⊎◌, bytes_eq}
use Rattle.std.specs.List.{AllByRecursion}
use Rattle.std.proofs.lemmas.Bool.{and_left, and_parts, eq-eqb, eqb-true, false≢true, not-true, not_from_false}
use Rattle.book_rows.specs.Kinds.{is_unpublished, same_state}
use Rattle.book_rows.specs.Lists.{In}
use Rattle.book_rows.specs.Offsets.{advance, store}
use Rattle.book_rows.specs.SequenceRules.{Chain, IsOwn}
use Rattle.book_rows.specs.Sequences.{is_named, is_of_group, is_open, name_of, named, open_rows, partitions_of, positions, published}
use Rattle.book_rows.specs.Shape.{AreDistinct, same_supervisor}
use Rattle.book_rows.specs.declared.kinds.SeqState.{SeqState}
use Rattle.book_rows.specs.declared.kinds.SeqState.TheVariants as States
use Rattle.book_rows.specs.declared.rows.OffsetRow.{OffsetRow}
use Rattle.book_rows.specs.declared.rows.Range.{Range}
use Rattle.book_rows.specs.declared.rows.SequenceRow.{SequenceRow}
use Rattle.book_rows.specs.declared.rows.SupervisorRow.{SupervisorRow}
use Rattle.laws_locks.proofs.Lists.{In-all, all_filter, all_from_In, all_weaker}
use Rattle.laws_offsets.proofs.Distinct.{HasDistinctPartitions}
use Rattle.laws_offsets.proofs.StoredRows.{stored_elsewhere}
use Rattle.laws_offsets.proofs.Lists.{text_same}
use Rattle.laws_sequences.specs.Links.{AreChained, AreCounted, AreLinked, AreOwn}
use Rattle.laws_sequences.specs.MoveLaws.{IsTurn}
use Rattle.laws_sequences.proofs.Abandoned.{positions_alike}
use Rattle.laws_sequences.proofs.Chains.{Ascend, chain_tail}
use Rattle.laws_sequences.proofs.Counts.{KeepsKeys, ascend_open, counted_map, group_parts, open_parts}
use Rattle.laws_sequences.proofs.Filters.{IsFirst, all_passing, filter_after, filter_all, filter_both, first_is}
use Rattle.laws_sequences.proofs.Keys.{HasKey, HaveKeys, one_key}
use Rattle.laws_sequences.proofs.KeptLinks.{own_map}
use Rattle.laws_sequences.proofs.Opened.{named_reaches, one_supervisor}
use Rattle.laws_sequences.proofs.Positions.{distinct_named, ends_of_ranges, partitions_distinct, positions_other, positions_published}

without_published : (a h : Bool) (st : SeqState) → (a && is_unpublished (cond h States.Published st)) ≡ ((a && is_unpublished st) && not h)
without_published true true st = go (is_unpublished st) where
  go : (b : Bool) → false ≡ (b && false)
  go true = refl
  go false = refl
without_published true false st = go (is_unpublished st) where
  go : (b : Bool) → b ≡ (b && true)
  go true = refl
  go false = refl
without_published false h st = refl

-- the unpublished rows of a group after a publication
pub open_published : (name : List ℕ) (source : List ℕ) (g : ℕ) (us : List SequenceRow) → open_rows source g (map (published name) us) ≡ filter (λ u. not (is_named name u)) (open_rows source g us)
open_published name source g us =
    filter_after (is_open source g) (λ u. is_open source g u && not (is_named name u)) (published name)
    (λ u. without_published (is_of_group source g u) (is_named name u) u.state)
    (λ u e. kept u (not-true (is_named name u) (and_parts (is_open source g u) (not (is_named name u)) e).1)) us
    ∙ filter_both (is_open source g) (λ u. not (is_named name u)) us where
      kept : (u : SequenceRow) → is_named name u ≡ false → published name u ≡ u
      kept u e = rw e refl

later_unnamed : (u : SequenceRow) (rest : List SequenceRow) → HasKey u → HaveKeys rest → AllByRecursion (λ v. u.index < v.index) rest → AllByRecursion (λ v. not (is_named (name_of u) v) ≡ true) rest
later_unnamed u [] k a b = tt
later_unnamed u (v ∷ rest) k a b = (not_from_false _ (go (is_named (name_of u) v) refl), later_unnamed u rest k a.1 b.1) where
  go : (c : Bool) → is_named (name_of u) v ≡ c → is_named (name_of u) v ≡ false
  go false e = e
  go true e = let same = (one_key u v k a.0 e).2 in absurd (apart u.index v.index same b.0) where
    apart : (i j : ℕ) → j ≡ i → i < j → ⊥
    apart i j e h = omega arith

none_named : (u : SequenceRow) (source : List ℕ) (g : ℕ) (us : List SequenceRow) → HasKey u → HaveKeys us → ((u.source ≡ source) → (u.group ≡ g) → ⊥) → AllByRecursion (λ v. not (is_named (name_of u) v) ≡ true) (open_rows source g us)
none_named u source g us k a other = all_passing (is_open source g) (λ v. not (is_named (name_of u) v) ≡ true) us (all_weaker _ _ (λ v b e. not_from_false _ (go v b e (is_named (name_of u) v) refl)) us a) where
  go : (v : SequenceRow) → HasKey v → is_open source g v ≡ true → (c : Bool) → is_named (name_of u) v ≡ c → is_named (name_of u) v ≡ false
  go v b o false e = e
  go v b o true e =
      let same = one_key u v k b e in
      let x = group_parts source g v (open_parts source g v o).0 in
      absurd (other (sym same.0 ∙ x.0) (sym same.1 ∙ x.1))

closed_yet : (h : Bool) (st : SeqState) → same_state (cond h States.Published st) States.Closed ≡ true → same_state st States.Closed ≡ true
closed_yet true st e = cc
closed_yet false st e = e

drop_first : (u : SequenceRow) (rest : List SequenceRow) → HasKey u → HaveKeys rest → AllByRecursion (λ v. u.index < v.index) rest → filter (λ v. not (is_named (name_of u) v)) (u ∷ rest) ≡ rest
drop_first u rest k a b =
    let itself : is_named (name_of u) u ≡ true = text_same (name_of u) (name_of u) refl in
    rw itself (filter_all (λ v. not (is_named (name_of u) v)) rest (later_unnamed u rest k a b))

-- ---- the publication

module _ (rows : List OffsetRow) (s : SupervisorRow) (us : List SequenceRow) (u : SequenceRow) (parts : List Range) (keys : HaveKeys us) (order : AreCounted us) (own : AreOwn s us) (p : IsTurn s us u parts) where
  here_first : IsFirst (is_open s.source u.group) us u
  here_first = first_is (is_open s.source u.group) us u p.first

  pub source_is : u.source ≡ s.source
  source_is = (group_parts s.source u.group u (open_parts s.source u.group u here_first.passes).0).0

  good : HasKey u
  good = In-all HasKey u us here_first.among keys

  pub owns : IsOwn (partitions_of s u.group) u
  owns = In-all (λ (v : SequenceRow). bytes_eq v.source s.source ≡ true → IsOwn (partitions_of s v.group) v) u us here_first.among own (text_same u.source s.source source_is)

  ends_named : named u.ends ≡ partitions_of s u.group
  ends_named = named_reaches u.starts u.ends (owns.ends p.closed) ∙ owns.starts

  ends_distinct : HasDistinctPartitions u.ends
  ends_distinct = distinct_named u.ends (rw ends_named (partitions_distinct s u.group))

  advanced : advance rows s.source s.stream parts ≡ store rows s.source s.stream u.ends
  advanced = rw (ends_of_ranges u.starts u.ends parts p.ranges) refl

  published_here : Chain (positions rows s.source s.stream (partitions_of s u.group)) (open_rows s.source u.group us) → Chain (positions (store rows s.source s.stream u.ends) s.source s.stream (partitions_of s u.group)) (filter (λ v. not (is_named (name_of u) v)) (open_rows s.source u.group us))
  published_here c =
      let f = here_first in
      let asc : Ascend (u ∷ f.rest) = rw f.filtered at (ascend_open s.source u.group us order) in
      let good_rest : HaveKeys (u ∷ f.rest) = rw f.filtered at (all_filter HasKey (is_open s.source u.group) us keys) in
      let tail : Chain (positions rows s.source s.stream (partitions_of s u.group)) (u ∷ f.rest) = rw f.filtered at c in
      rw (f.filtered, drop_first u f.rest good good_rest.1 asc.0, positions_published rows s.source s.stream (partitions_of s u.group) u.ends ends_named ends_distinct)
      (chain_tail (positions rows s.source s.stream (partitions_of s u.group)) u f.rest tail)

  chained_published : (v : SupervisorRow) → (v ≡ s) ⊎ (bytes_eq s.source v.source ≡ false) → AreChained rows us v → AreChained (advance rows s.source s.stream parts) (map (published (name_of u)) us) v
  chained_published v which c g = rw (advanced, open_published (name_of u) v.source g us) (go which (u.group == g) refl) where
    go : (v ≡ s) ⊎ (bytes_eq s.source v.source ≡ false) → (b : Bool) → (u.group == g) ≡ b → Chain (positions (store rows s.source s.stream u.ends) v.source v.stream (partitions_of v g)) (filter (λ x. not (is_named (name_of u) x)) (open_rows v.source g us))
    go (inl same) true e =
        let there : u.group ≡ g = eqb-true u.group g e in
        let c' : Chain (positions rows s.source s.stream (partitions_of s u.group)) (open_rows s.source u.group us) = rw (same, ← there) at (c g) in
        rw (same, ← there) (published_here c')
    go (inl same) false e =
        let c' : Chain (positions rows s.source s.stream (partitions_of s g)) (open_rows s.source g us) = rw same at (c g) in
        rw (
          same,
          positions_other rows s u.group g u.ends ends_named ends_distinct e,
          filter_all (λ x. not (is_named (name_of u) x)) (open_rows s.source g us) (none_named u s.source g us good keys (λ a b. false≢true (sym e ∙ eq-eqb u.group g b))),
        ) c'
    go (inr other) b e =
        rw (
          positions_alike rows (store rows s.source s.stream u.ends) v.source v.stream (partitions_of v g) (λ q. stored_elsewhere v.source v.stream q s.source s.stream u.ends rows (and_left _ _ other)),
          filter_all (λ x. not (is_named (name_of u) x)) (open_rows v.source g us) (none_named u v.source g us good keys (λ a b. false≢true (sym other ∙ text_same s.source v.source (sym source_is ∙ a)))),
        ) (c g)

pub published_keys : (name : List ℕ) → KeepsKeys (published name)
published_keys name = record { source_is = λ u. refl; group_is = λ u. refl; index_is = λ u. refl }

pub linked_published : (rows : List OffsetRow) (ss : List SupervisorRow) (us : List SequenceRow) (s : SupervisorRow) (u : SequenceRow) (parts : List Range) → AreDistinct same_supervisor ss → In s ss → HaveKeys us → IsTurn s us u parts → AreLinked rows ss us → AreLinked (advance rows s.source s.stream parts) ss (map (published (name_of u)) us)
linked_published rows ss us s u parts d i keys p h = record {
  counted = counted_map (published (name_of u)) (published_keys (name_of u)) us h.counted;
  chained = all_from_In _ ss (λ v j. chained_published rows s us u parts keys h.counted own_s p v (one_supervisor ss s v d i j) (In-all (AreChained rows us) v ss j h.chained));
  own = all_weaker _ _ (λ v o. own_map (published (name_of u)) (published_keys (name_of u)) (λ ps x i. record { starts = i.starts; ends = λ c. i.ends (closed_yet (is_named (name_of u) x) x.state c) }) v us o) ss h.own;
} where
  own_s : AreOwn s us
  own_s = In-all (λ v. AreOwn v us) s ss i h.own
