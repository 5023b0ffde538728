-- What a tick tells of sequences one after another, list by list.
use Rattle.std.proofs.Common.{◌&&◌, ◌++◌, ◌∙◌, ◌∷◌, ◌≡◌, Bool, List, Option, [], append_assoc, cond, false, filter, map, not, refl, sym, true, ℕ, ℤ}
use Rattle.std.proofs.lemmas.List.{append-nil}
use Rattle.book_rows.specs.Lists.{gathered}
use Rattle.book_rows.specs.Sequences.{name_of}
use Rattle.book_rows.specs.declared.answers.Ticked.{Ticked}
use Rattle.book_rows.specs.declared.rows.SequenceRow.{SequenceRow}
use Rattle.sup_core.specs.Ticking.{is_done_reading, is_from, told_all, told_one}

module _ (late : Option ℕ) (duration now : ℤ) where
  pub told_abandoned : (us : List SequenceRow) (t : Ticked) → (told_all late duration now t us).abandoned ≡ t.abandoned ++ map name_of (filter (is_from late) us)
  told_abandoned [] t = sym (append-nil t.abandoned)
  told_abandoned (u ∷ us) t = told_abandoned us (told_one late duration now t u) ∙ by (is_from late u) (is_done_reading duration now u) where
    by : (a d : Bool)
        → (cond a (record t { abandoned = t.abandoned ++ name_of u ∷ []; ended = t.ended ++ u.live }) (cond d (record t { paused = t.paused ++ name_of u ∷ [] }) t)).abandoned ++ map name_of (filter (is_from late) us)
        ≡ t.abandoned ++ map name_of (cond a (u ∷ filter (is_from late) us) (filter (is_from late) us))
    by true d = append_assoc t.abandoned (name_of u ∷ []) (map name_of (filter (is_from late) us))
    by false true = refl
    by false false = refl

  pub told_ended : (us : List SequenceRow) (t : Ticked) → (told_all late duration now t us).ended ≡ t.ended ++ gathered (λ u. u.live) (filter (is_from late) us)
  told_ended [] t = sym (append-nil t.ended)
  told_ended (u ∷ us) t = told_ended us (told_one late duration now t u) ∙ by (is_from late u) (is_done_reading duration now u) where
    by : (a d : Bool)
        → (cond a (record t { abandoned = t.abandoned ++ name_of u ∷ []; ended = t.ended ++ u.live }) (cond d (record t { paused = t.paused ++ name_of u ∷ [] }) t)).ended ++ gathered (λ v. v.live) (filter (is_from late) us)
        ≡ t.ended ++ gathered (λ v. v.live) (cond a (u ∷ filter (is_from late) us) (filter (is_from late) us))
    by true d = append_assoc t.ended u.live (gathered (λ v. v.live) (filter (is_from late) us))
    by false true = refl
    by false false = refl

  pub told_paused : (us : List SequenceRow) (t : Ticked) → (told_all late duration now t us).paused ≡ t.paused ++ map name_of (filter (λ u. not (is_from late u) && is_done_reading duration now u) us)
  told_paused [] t = sym (append-nil t.paused)
  told_paused (u ∷ us) t = told_paused us (told_one late duration now t u) ∙ by (is_from late u) (is_done_reading duration now u) where
    by : (a d : Bool)
        → (cond a (record t { abandoned = t.abandoned ++ name_of u ∷ []; ended = t.ended ++ u.live }) (cond d (record t { paused = t.paused ++ name_of u ∷ [] }) t)).paused ++ map name_of (filter (λ v. not (is_from late v) && is_done_reading duration now v) us)
        ≡ t.paused ++ map name_of (cond (not a && d) (u ∷ filter (λ v. not (is_from late v) && is_done_reading duration now v) us) (filter (λ v. not (is_from late v) && is_done_reading duration now v) us))
    by true d = refl
    by false true = append_assoc t.paused (name_of u ∷ []) (map name_of (filter (λ v. not (is_from late v) && is_done_reading duration now v) us))
    by false false = refl

  -- nothing is opened
  pub told_opened : (us : List SequenceRow) (t : Ticked) → (told_all late duration now t us).opened ≡ t.opened
  told_opened [] t = refl
  told_opened (u ∷ us) t = told_opened us (told_one late duration now t u) ∙ by (is_from late u) (is_done_reading duration now u) where
    by : (a d : Bool) → (cond a (record t { abandoned = t.abandoned ++ name_of u ∷ []; ended = t.ended ++ u.live }) (cond d (record t { paused = t.paused ++ name_of u ∷ [] }) t)).opened ≡ t.opened
    by true d = refl
    by false true = refl
    by false false = refl

  pub told_submitted : (us : List SequenceRow) (t : Ticked) → (told_all late duration now t us).submitted ≡ t.submitted
  told_submitted [] t = refl
  told_submitted (u ∷ us) t = told_submitted us (told_one late duration now t u) ∙ by (is_from late u) (is_done_reading duration now u) where
    by : (a d : Bool) → (cond a (record t { abandoned = t.abandoned ++ name_of u ∷ []; ended = t.ended ++ u.live }) (cond d (record t { paused = t.paused ++ name_of u ∷ [] }) t)).submitted ≡ t.submitted
    by true d = refl
    by false true = refl
    by false false = refl
