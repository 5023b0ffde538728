-- What becomes of the sequences as a task ends, by what becomes of the one that its group names.
use Rattle.std.proofs.Common.{◌&&◌, ◌++◌, ◌∙◌, ◌∷◌, ◌≡◌, ◌||◌, Bool, List, None, Option, Some, [], ap, bytes_eq, cond, false, inl, inr, map, nat_le, not, refl, subst, sym, true, ℕ, ℤ}
use Rattle.std.proofs.lemmas.Bool.{and_parts, cases_Bool, false≢true}
use Rattle.std.specs.List.{list_all}
use Rattle.std.specs.Option.{option_map}
use Rattle.book_rows.specs.Kinds.{is_unpublished, same_state}
use Rattle.book_rows.specs.Lists.{In, is_empty}
use Rattle.book_rows.specs.Reports.{Ended, all_reported, closed_at, ended, ended_by, ends_told, has_reported, left_all, left_by}
use Rattle.book_rows.specs.Sequences.{abandoned, is_named, is_open, open_rows, sequence_named, tasks_abandoned}
use Rattle.book_rows.specs.declared.kinds.SeqState.{SeqState}
use Rattle.book_rows.specs.declared.kinds.SeqState.TheVariants as States
use Rattle.book_rows.specs.declared.rows.Report.{Report}
use Rattle.book_rows.specs.declared.rows.SequenceRow.{SequenceRow}
use Rattle.tab_sequences.specs.Changes.{HaveDistinctNames, is_active_state, told_in}
use Rattle.tab_sequences.specs.declared.telling.Closing.{Closing}
use Rattle.sup_core.specs.Endings.{ending_of, is_deserted, left_live, may_close, others_from}
use Rattle.sup_core.specs.declared.ending.Ending.TheVariants as Endings
use Rattle.sup_core.proofs.Named.{map_alike, named_after, named_one}

-- ---- who is left

none_left : (task : List ℕ) (live : List (List ℕ)) → list_all (λ t. bytes_eq t task) live ≡ is_empty (left_live task live)
none_left task [] = refl
none_left task (t ∷ ts) = by (bytes_eq t task) (none_left task ts) where
  by : (b : Bool) → list_all (λ t. bytes_eq t task) ts ≡ is_empty (left_live task ts) → (b && list_all (λ t. bytes_eq t task) ts) ≡ is_empty (cond (not b) (t ∷ left_live task ts) (left_live task ts))
  by true rest = rest
  by false rest = refl

others_reported : (task : List ℕ) (rs : List Report) (live : List (List ℕ)) → list_all (λ t. bytes_eq t task || has_reported rs t) live ≡ all_reported rs (left_live task live)
others_reported task rs [] = refl
others_reported task rs (t ∷ ts) = by (bytes_eq t task) (others_reported task rs ts) where
  by : (b : Bool) → list_all (λ t. bytes_eq t task || has_reported rs t) ts ≡ all_reported rs (left_live task ts)
      → ((b || has_reported rs t) && list_all (λ t. bytes_eq t task || has_reported rs t) ts) ≡ all_reported rs (cond (not b) (t ∷ left_live task ts) (left_live task ts))
  by true rest = rest
  by false rest = ap (λ (x : Bool). has_reported rs t && x) rest

-- ---- the tasks of those that are abandoned

pub others_are : (source : List ℕ) (group from : ℕ) (task : List ℕ) (us : List SequenceRow) → others_from from task (open_rows source group us) ≡ tasks_abandoned source group from (left_all task us)
others_are source group from task [] = refl
others_are source group from task (u ∷ us) = elim (cases_Bool (is_open source group u)) [
  | inl on ↦ elim (cases_Bool (nat_le from u.index)) [
    | inl late ↦ rw (on, late) (ap (λ ts. left_live task u.live ++ ts) (others_are source group from task us))
    | inr early ↦ rw (on, early) (others_are source group from task us)
  ]
  | inr off ↦ rw off (others_are source group from task us)
]

-- ---- the three cases

-- no sequence has the name
pub ended_none : (name task : List ℕ) (clock : ℤ) (us : List SequenceRow) → sequence_named name us ≡ None → ended name task clock us ≡ record { sequences = left_all task us; tasks = [] }
ended_none name task clock us none =
    ap (λ o. ended_by o name clock (left_all task us)) (named_after (left_by task) (λ u. refl) name us ∙ ap (λ o. option_map (left_by task) o) none)

module _ (name task : List ℕ) (clock : ℤ) (us : List SequenceRow) (u : SequenceRow) (found : sequence_named name us ≡ Some u) where
  ended_some : ended name task clock us ≡ ended_by (Some (left_by task u)) name clock (left_all task us)
  ended_some = ap (λ o. ended_by o name clock (left_all task us)) (named_after (left_by task) (λ u. refl) name us ∙ ap (λ o. option_map (left_by task) o) found)

  abandons_is : (is_unpublished u.state && is_empty (left_live task u.live)) ≡ is_deserted task u
  abandons_is = ap (λ b. is_unpublished u.state && b) (sym (none_left task u.live))

  closes_is : (same_state u.state States.Paused && all_reported u.reports (left_live task u.live)) ≡ may_close task u
  closes_is = ap (λ b. same_state u.state States.Paused && b) (sym (others_reported task u.reports u.live))

  -- it and the later ones are abandoned
  pub ended_deserted : is_deserted task u ≡ true → ended name task clock us ≡ record { sequences = map (abandoned u.source u.group u.index) (left_all task us); tasks = tasks_abandoned u.source u.group u.index (left_all task us) }
  ended_deserted on =
      ended_some
      ∙ ap
      (λ b. cond b
      (record { sequences = map (abandoned u.source u.group u.index) (left_all task us); tasks = tasks_abandoned u.source u.group u.index (left_all task us) })
      (record { sequences = map (closed_at name clock) (left_all task us); tasks = [] }))
      (abandons_is ∙ on)

  -- else it may close
  ended_kept : is_deserted task u ≡ false → ended name task clock us ≡ record { sequences = map (closed_at name clock) (left_all task us); tasks = [] }
  ended_kept off =
      ended_some
      ∙ ap
      (λ b. cond b
      (record { sequences = map (abandoned u.source u.group u.index) (left_all task us); tasks = tasks_abandoned u.source u.group u.index (left_all task us) })
      (record { sequences = map (closed_at name clock) (left_all task us); tasks = [] }))
      (abandons_is ∙ off)

  map_both : (f g : SequenceRow → SequenceRow) (ws : List SequenceRow) → map f (map g ws) ≡ map (λ w. f (g w)) ws
  map_both f g [] = refl
  map_both f g (w ∷ ws) = ap (λ vs. f (g w) ∷ vs) (map_both f g ws)

  module _ (distinct : HaveDistinctNames us) where
    paused_active : (st : SeqState) → same_state st States.Paused ≡ true → is_active_state st ≡ true
    paused_active States.Reading e = cc
    paused_active States.Paused e = refl
    paused_active States.Closed e = cc
    paused_active States.Published e = cc
    paused_active States.Abandoned e = cc

    closes_one : may_close task u ≡ true → is_named name u ≡ true → left_by task (told_in name None (Some (record { at = clock; ends = ends_told u.starts u.reports })) u) ≡ closed_at name clock (left_by task u)
    closes_one on here =
        let paused : same_state u.state States.Paused ≡ true = (and_parts (same_state u.state States.Paused) (list_all (λ t. bytes_eq t task || has_reported u.reports t) u.live) on).0 in
        let done : all_reported u.reports (left_live task u.live) ≡ true = sym (others_reported task u.reports u.live) ∙ (and_parts (same_state u.state States.Paused) (list_all (λ t. bytes_eq t task || has_reported u.reports t) u.live) on).1 in
        rw (here, paused_active u.state paused, paused, done) refl

    closes_other : (w : SequenceRow) → is_named name w ≡ false → left_by task (told_in name None (Some (record { at = clock; ends = ends_told u.starts u.reports })) w) ≡ closed_at name clock (left_by task w)
    closes_other w off = rw off refl

    pub ended_closes : is_deserted task u ≡ false → may_close task u ≡ true
        → ended name task clock us ≡ record { sequences = left_all task (map (told_in name None (Some (record { at = clock; ends = ends_told u.starts u.reports }))) us); tasks = [] }
    ended_closes off on =
        ended_kept off
        ∙ ap (λ (ws : List SequenceRow). record { sequences = ws; tasks = [] }) (map_both (closed_at name clock) (left_by task) us ∙ sym (map_both (left_by task) (told_in name None (Some (record { at = clock; ends = ends_told u.starts u.reports }))) us ∙ map_alike _ _ us each)) where
          each : (w : SequenceRow) → In w us → left_by task (told_in name None (Some (record { at = clock; ends = ends_told u.starts u.reports })) w) ≡ closed_at name clock (left_by task w)
          each w i = elim (cases_Bool (is_named name w)) [
            | inr out ↦ closes_other w out
            | inl here ↦
                (let same : w ≡ u = named_one name us u w distinct found i here in
                subst (λ (x : SequenceRow). left_by task (told_in name None (Some (record { at = clock; ends = ends_told u.starts u.reports })) x) ≡ closed_at name clock (left_by task x)) (sym same)
                (closes_one on (subst (λ (x : SequenceRow). is_named name x ≡ true) same here)))
          ]

    stays_one : may_close task u ≡ false → closed_at name clock (left_by task u) ≡ left_by task u
    stays_one off =
        by (is_named name u) (same_state u.state States.Paused) (all_reported u.reports (left_live task u.live)) (closes_is ∙ off) where
          by : (n p d : Bool) → (p && d) ≡ false
              → record u { state = cond ((n && p) && d) States.Closed u.state; closed = cond ((n && p) && d) clock u.closed; ends = cond ((n && p) && d) (ends_told u.starts u.reports) u.ends; live = left_live task u.live } ≡ left_by task u
          by true true true e = absurd (false≢true (sym e))
          by true true false e = refl
          by true false d e = refl
          by false p d e = refl

    stays_other : (w : SequenceRow) → is_named name w ≡ false → closed_at name clock (left_by task w) ≡ left_by task w
    stays_other w off = rw off refl

    pub ended_stays : is_deserted task u ≡ false → may_close task u ≡ false → ended name task clock us ≡ record { sequences = left_all task us; tasks = [] }
    ended_stays off out =
        ended_kept off
        ∙ ap (λ (ws : List SequenceRow). record { sequences = ws; tasks = [] }) (map_both (closed_at name clock) (left_by task) us ∙ map_alike _ _ us each) where
          each : (w : SequenceRow) → In w us → closed_at name clock (left_by task w) ≡ left_by task w
          each w i = elim (cases_Bool (is_named name w)) [
            | inr apart ↦ stays_other w apart
            | inl here ↦
                (let same : w ≡ u = named_one name us u w distinct found i here in
                subst (λ (x : SequenceRow). closed_at name clock (left_by task x) ≡ left_by task x) (sym same) (stays_one out))
          ]

-- ---- by what becomes of the sequence

module _ (name task : List ℕ) (clock : ℤ) (us : List SequenceRow) where
  by_stays : (o : Option SequenceRow) → sequence_named name us ≡ o → HaveDistinctNames us → ending_of o task clock ≡ Endings.Stays → ended name task clock us ≡ record { sequences = left_all task us; tasks = [] }
  by_stays None found distinct is = ended_none name task clock us found
  by_stays (Some u) found distinct is = by (is_deserted task u) (may_close task u) refl refl is where
    by : (d m : Bool) → is_deserted task u ≡ d → may_close task u ≡ m
        → cond d (Endings.Abandons u.source u.group u.index) (cond m (Endings.Closes (record { at = clock; ends = ends_told u.starts u.reports })) Endings.Stays) ≡ Endings.Stays
        → ended name task clock us ≡ record { sequences = left_all task us; tasks = [] }
    by true m a b e = cc
    by false true a b e = cc
    by false false a b e = ended_stays name task clock us u found distinct a b

  pub when_stays : HaveDistinctNames us → ending_of (sequence_named name us) task clock ≡ Endings.Stays → ended name task clock us ≡ record { sequences = left_all task us; tasks = [] }
  when_stays distinct is = by_stays (sequence_named name us) refl distinct is

  same_abandoned : (s t : List ℕ) (g h i j : ℕ) → s ≡ t → g ≡ h → i ≡ j
      → (let a : Ended = record { sequences = map (abandoned s g i) (left_all task us); tasks = tasks_abandoned s g i (left_all task us) } in
      let b : Ended = record { sequences = map (abandoned t h j) (left_all task us); tasks = tasks_abandoned t h j (left_all task us) } in a ≡ b)
  same_abandoned s t g h i j x y z = rw (x, y, z) refl

  by_abandons : (o : Option SequenceRow) (source : List ℕ) (group from : ℕ) → sequence_named name us ≡ o → ending_of o task clock ≡ Endings.Abandons source group from
      → ended name task clock us ≡ record { sequences = map (abandoned source group from) (left_all task us); tasks = tasks_abandoned source group from (left_all task us) }
  by_abandons None source group from found is = cc
  by_abandons (Some u) source group from found is = by (is_deserted task u) (may_close task u) refl is where
    by : (d m : Bool) → is_deserted task u ≡ d
        → cond d (Endings.Abandons u.source u.group u.index) (cond m (Endings.Closes (record { at = clock; ends = ends_told u.starts u.reports })) Endings.Stays) ≡ Endings.Abandons source group from
        → ended name task clock us ≡ record { sequences = map (abandoned source group from) (left_all task us); tasks = tasks_abandoned source group from (left_all task us) }
    by true m a e =
        let x : u.source ≡ source = cc in
        let y : u.group ≡ group = cc in
        let z : u.index ≡ from = cc in
        ended_deserted name task clock us u found a ∙ same_abandoned u.source source u.group group u.index from x y z
    by false true a e = cc
    by false false a e = cc

  pub when_abandons : (source : List ℕ) (group from : ℕ) → ending_of (sequence_named name us) task clock ≡ Endings.Abandons source group from
      → ended name task clock us ≡ record { sequences = map (abandoned source group from) (left_all task us); tasks = tasks_abandoned source group from (left_all task us) }
  when_abandons source group from is = by_abandons (sequence_named name us) source group from refl is

  by_closes : (o : Option SequenceRow) (closing : Closing) → sequence_named name us ≡ o → HaveDistinctNames us → ending_of o task clock ≡ Endings.Closes closing
      → ended name task clock us ≡ record { sequences = left_all task (map (told_in name None (Some closing)) us); tasks = [] }
  by_closes None closing found distinct is = cc
  by_closes (Some u) closing found distinct is = by (is_deserted task u) (may_close task u) refl refl is where
    by : (d m : Bool) → is_deserted task u ≡ d → may_close task u ≡ m
        → cond d (Endings.Abandons u.source u.group u.index) (cond m (Endings.Closes (record { at = clock; ends = ends_told u.starts u.reports })) Endings.Stays) ≡ Endings.Closes closing
        → ended name task clock us ≡ record { sequences = left_all task (map (told_in name None (Some closing)) us); tasks = [] }
    by true m a b e = cc
    by false true a b e =
        let own : Closing = record { at = clock; ends = ends_told u.starts u.reports } in
        let same : own ≡ closing = cc in
        ended_closes name task clock us u found distinct a b ∙ ap (λ (x : Closing). record { sequences = left_all task (map (told_in name None (Some x)) us); tasks = [] }) same
    by false false a b e = cc

  pub when_closes : (closing : Closing) → HaveDistinctNames us → ending_of (sequence_named name us) task clock ≡ Endings.Closes closing
      → ended name task clock us ≡ record { sequences = left_all task (map (told_in name None (Some closing)) us); tasks = [] }
  when_closes closing distinct is = by_closes (sequence_named name us) closing refl distinct is
