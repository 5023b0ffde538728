-- Where names are distinct, the names of those that pass tell which pass.
use Rattle.std.proofs.Common.{◌&&◌, ◌∙◌, ◌≡◌, Bool, List, [], ap, bytes_eq, cond, false, filter, map, refl, true, ℕ}
use Rattle.book_rows.specs.Kinds.{is_unpublished}
use Rattle.book_rows.specs.Lists.{In}
use Rattle.book_rows.specs.Sequences.{dropped_sequence, is_dropped_by, name_of}
use Rattle.book_rows.specs.declared.kinds.SeqState.{SeqState}
use Rattle.book_rows.specs.declared.kinds.SeqState.TheVariants as States
use Rattle.book_rows.specs.declared.rows.SequenceRow.{SequenceRow}
use Rattle.laws_locks.proofs.Lists.{In-filter, In-map, any_In, any_from_In, both_true, filter_In, map_In}
use Rattle.laws_offsets.proofs.Lists.{same_text, text_same}
use Rattle.tab_sequences.specs.Changes.{HaveDistinctNames}
use Rattle.sup_core.specs.ByNames.{abandoned_by_name, abandoned_each, is_one_of}
use Rattle.sup_core.proofs.ByName.{abandoned_each_is}
use Rattle.sup_core.proofs.Named.{map_alike, same_name}

module _ (us : List SequenceRow) (distinct : HaveDistinctNames us) (q : SequenceRow → Bool) where
  abbrev listed : List (List ℕ)
  listed = map name_of (filter q us)

  passes_where_listed : (w : SequenceRow) → In w us → is_one_of listed w ≡ true → q w ≡ true
  passes_where_listed w i e =
      let name = any_In (λ n. bytes_eq (name_of w) n) listed e in
      let v = In-map name_of name.0 (filter q us) name.1 in
      let there = In-filter q v.0 us v.1 in
      let same : w ≡ v.0 = same_name us v.0 w distinct there.0 i (same_text (name_of w) name.0 name.2 ∙ v.2) in
      ap (λ (x : SequenceRow). q x) same ∙ there.1

  listed_where_passes : (w : SequenceRow) → In w us → q w ≡ true → is_one_of listed w ≡ true
  listed_where_passes w i e = any_from_In (λ n. bytes_eq (name_of w) n) (name_of w) listed (map_In name_of w (filter q us) (filter_In q w us i e)) (text_same (name_of w) (name_of w) refl)

  pub is_listed : (w : SequenceRow) → In w us → is_one_of listed w ≡ q w
  is_listed w i = both_true (is_one_of listed w) (q w) (passes_where_listed w i) (listed_where_passes w i)

-- ---- the unpublished ones of a source

dropped_state : (s : Bool) (st : SeqState) → cond ((s && is_unpublished st) && is_unpublished st) States.Abandoned st ≡ cond (s && is_unpublished st) States.Abandoned st
dropped_state false st = refl
dropped_state true States.Reading = refl
dropped_state true States.Paused = refl
dropped_state true States.Closed = refl
dropped_state true States.Published = refl
dropped_state true States.Abandoned = refl

dropped_live : (s : Bool) (st : SeqState) (live : List (List ℕ)) → cond ((s && is_unpublished st) && is_unpublished st) [] live ≡ cond (s && is_unpublished st) [] live
dropped_live false st live = refl
dropped_live true States.Reading live = refl
dropped_live true States.Paused live = refl
dropped_live true States.Closed live = refl
dropped_live true States.Published live = refl
dropped_live true States.Abandoned live = refl

module _ (source : List ℕ) where
  abbrev where_dropped : Bool → SequenceRow → SequenceRow
  where_dropped b u = record u { state = cond (b && is_unpublished u.state) States.Abandoned u.state; live = cond (b && is_unpublished u.state) [] u.live }

  dropped_one : (u : SequenceRow) → where_dropped (is_dropped_by source u) u ≡ dropped_sequence source u
  dropped_one u = λ i. record u { state = dropped_state (bytes_eq u.source source) u.state i; live = dropped_live (bytes_eq u.source source) u.state u.live i }

  pub dropped_each : (us : List SequenceRow) → HaveDistinctNames us → abandoned_each (map name_of (filter (is_dropped_by source) us)) us ≡ map (dropped_sequence source) us
  dropped_each us distinct =
      abandoned_each_is (map name_of (filter (is_dropped_by source) us)) us
      ∙ map_alike (abandoned_by_name (map name_of (filter (is_dropped_by source) us))) (dropped_sequence source) us (λ w i. ap (λ (b : Bool). where_dropped b w) (is_listed us distinct (is_dropped_by source) w i) ∙ dropped_one w)
