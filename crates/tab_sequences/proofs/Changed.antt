-- Changes of the sequences that they concern are changes of all.
use Rattle.std.proofs.Common.{◌&&◌, ◌∙◌, ◌∷◌, ◌≡◌, Bool, List, Option, [], ap, bytes_eq, cond, false, filter, inl, inr, map, not, refl, subst, sym, true, ℕ}
use Rattle.std.proofs.lemmas.Bool.{cases_Bool}
use Rattle.std.proofs.lemmas.Slice.Eq.{bytes_eq-Decides}
use Rattle.std.specs.List.{AllByRecursion, list_any}
use Rattle.book_rows.specs.Kinds.{same_state}
use Rattle.book_rows.specs.Reports.{left_all, left_by}
use Rattle.book_rows.specs.Sequences.{abandoned, is_abandoned_by, is_named, name_of, published}
use Rattle.book_rows.specs.declared.kinds.SeqState.{SeqState}
use Rattle.book_rows.specs.declared.kinds.SeqState.TheVariants as States
use Rattle.book_rows.specs.declared.rows.Report.{Report}
use Rattle.book_rows.specs.declared.rows.SequenceRow.{SequenceRow}
use Rattle.laws_locks.proofs.Lists.{all_weaker}
use Rattle.row_table.specs.Table.{changed_first, settled}
use Rattle.tab_sequences.specs.Changes.{HaveDistinctNames, after_telling, differ, has_live_one, is_active_state, abandoned_one, is_open_one, is_other, is_reading_one, paused_one, paused_state, told_in, told_where, with_abandoned, with_paused, with_published}
use Rattle.tab_sequences.specs.declared.telling.Closing.{Closing}

-- ---- publishing

is_published : (st : SeqState) → same_state st States.Published ≡ true → st ≡ States.Published
is_published States.Reading e = cc
is_published States.Paused e = cc
is_published States.Closed e = cc
is_published States.Published e = refl
is_published States.Abandoned e = cc

published_by : (u : SequenceRow) (named done : Bool) → (done ≡ true → u.state ≡ States.Published) → cond (named && not done) (with_published u) u ≡ record u { state = cond named States.Published u.state }
published_by u true true h = ap (λ (st : SeqState). record u { state = st }) (h refl)
published_by u true false h = refl
published_by u false true h = refl
published_by u false false h = refl

settled_published : (name : List ℕ) (u : SequenceRow) → settled (is_other name) with_published u ≡ published name u
settled_published name u = published_by u (is_named name u) (same_state u.state States.Published) (is_published u.state)

pub all_published : (name : List ℕ) (us : List SequenceRow) → map (settled (is_other name) with_published) us ≡ map (published name) us
all_published name us = λ i. map (λ u. settled_published name u i) us

-- ---- abandoning

abandoned_by : (u : SequenceRow) (b : Bool) → cond b (with_abandoned u) u ≡ record u { state = cond b States.Abandoned u.state; live = cond b [] u.live }
abandoned_by u true = refl
abandoned_by u false = refl

pub all_abandoned : (source : List ℕ) (group from : ℕ) (us : List SequenceRow) → map (settled (is_abandoned_by source group from) with_abandoned) us ≡ map (abandoned source group from) us
all_abandoned source group from us = λ i. map (λ u. abandoned_by u (is_abandoned_by source group from u) i) us

-- ---- pausing

is_reading : (st : SeqState) → same_state st States.Reading ≡ true → st ≡ States.Reading
is_reading States.Reading e = refl
is_reading States.Paused e = cc
is_reading States.Closed e = cc
is_reading States.Published e = cc
is_reading States.Abandoned e = cc

paused_by : (u : SequenceRow) (over reads : Bool) → (reads ≡ true → u.state ≡ States.Reading) → cond (over && reads) (with_paused u) u ≡ record u { state = cond (over && reads) States.Paused u.state }
paused_by u true true h = ap (λ (st : SeqState). record u { state = st }) (ap paused_state (h refl))
paused_by u true false h = refl
paused_by u false true h = refl
paused_by u false false h = refl

pub all_paused_one : (name : List ℕ) (us : List SequenceRow) → map (settled (is_reading_one name) with_paused) us ≡ map (paused_one name) us
all_paused_one name us = λ i. map (λ u. paused_by u (is_named name u) (same_state u.state States.Reading) (is_reading u.state) i) us

pub all_abandoned_one : (name : List ℕ) (us : List SequenceRow) → map (settled (is_open_one name) with_abandoned) us ≡ map (abandoned_one name) us
all_abandoned_one name us = λ i. map (λ u. abandoned_by u (is_open_one name u) i) us

-- ---- a replica leaves

not_there : (task : List ℕ) (live : List (List ℕ)) → list_any (λ t. bytes_eq t task) live ≡ false → filter (λ t. not (bytes_eq t task)) live ≡ live
not_there task [] none = refl
not_there task (t ∷ ts) none =
    elim (cases_Bool (bytes_eq t task)) [
      | inl on ↦ (let no : true ≡ false = rw on at none in cc)
      | inr off ↦ rw off (ap (λ xs. t ∷ xs) (not_there task ts (rw off at none)))
    ]

settled_left : (task : List ℕ) (u : SequenceRow) → settled (has_live_one task) (left_by task) u ≡ left_by task u
settled_left task u = by (has_live_one task u) (λ none. not_there task u.live none) where
  by : (b : Bool) → (b ≡ false → filter (λ t. not (bytes_eq t task)) u.live ≡ u.live) → cond b (left_by task u) u ≡ left_by task u
  by true h = refl
  by false h = ap (λ (live : List (List ℕ)). record u { live = live }) (sym (h refl))

pub all_left : (task : List ℕ) (us : List SequenceRow) → map (settled (has_live_one task) (left_by task)) us ≡ left_all task us
all_left task us = λ i. map (λ u. settled_left task u i) us

-- ---- telling: where names are distinct, the first of a name is the only one

module _ (name : List ℕ) (reports : Option (List Report)) (closing : Option Closing) where
  told_other : (b : Bool) (u : SequenceRow) → b ≡ false → told_where (b && is_active_state u.state) reports closing u ≡ u
  told_other true u off = cc
  told_other false u off = refl

  told_one : (b : Bool) (u : SequenceRow) → b ≡ true → told_where (b && is_active_state u.state) reports closing u ≡ after_telling reports closing u
  told_one true u on = refl
  told_one false u on = cc

  others_stay : (us : List SequenceRow) → AllByRecursion (λ u. is_named name u ≡ false) us → us ≡ map (told_in name reports closing) us
  others_stay [] all = refl
  others_stay (u ∷ us) all = ap (λ x. x ∷ us) (sym (told_other (is_named name u) u all.0)) ∙ ap (λ xs. told_in name reports closing u ∷ xs) (others_stay us all.1)

  other_name : (u : SequenceRow) → is_named name u ≡ true → (v : SequenceRow) → differ u v → is_named name v ≡ false
  other_name u on v apart =
      let same : name_of u ≡ name = (bytes_eq-Decides (name_of u) name).0 on in
      turned (name_of v) (subst (λ (n : List ℕ). bytes_eq n (name_of v) ≡ false) same apart) where
        turned : (m : List ℕ) → bytes_eq name m ≡ false → bytes_eq m name ≡ false
        turned m off = elim (cases_Bool (bytes_eq m name)) [
          | inr out ↦ out
          | inl is ↦ (let there : bytes_eq name m ≡ true = (bytes_eq-Decides name m).1 (sym ((bytes_eq-Decides m name).0 is)) in cc)
        ]

  pub all_told : (us : List SequenceRow) → HaveDistinctNames us → changed_first (is_named name) (after_telling reports closing) us ≡ map (told_in name reports closing) us
  all_told [] distinct = refl
  all_told (u ∷ us) distinct = elim (cases_Bool (is_named name u)) [
    | inl on ↦
        ap (λ (b : Bool). cond b (after_telling reports closing u ∷ us) (u ∷ changed_first (is_named name) (after_telling reports closing) us)) on
        ∙ (
        ap (λ x. x ∷ us) (sym (told_one (is_named name u) u on))
        ∙ ap (λ xs. told_in name reports closing u ∷ xs) (others_stay us (all_weaker (λ v. differ u v) (λ v. is_named name v ≡ false) (other_name u on) us distinct.0))
        )
    | inr off ↦
        ap (λ (b : Bool). cond b (after_telling reports closing u ∷ us) (u ∷ changed_first (is_named name) (after_telling reports closing) us)) off
        ∙ (
        ap (λ x. x ∷ changed_first (is_named name) (after_telling reports closing) us) (sym (told_other (is_named name u) u off))
        ∙ ap (λ xs. told_in name reports closing u ∷ xs) (all_told us distinct.1)
        )
  ]
