-- Names tell sequences apart, those that a tick opens too.
use Rattle.std.proofs.Common.{◌++◌, ◌<◌, ◌∙◌, ◌∷◌, ◌≡◌, Bool, List, [], arith, bytes_eq, cond, false, inl, inr, map, refl, subst, sym, true, ℕ}
use Rattle.std.specs.List.{AllByRecursion}
use Rattle.std.proofs.lemmas.Bool.{cases_Bool, false≢true}
use Rattle.book_rows.specs.Lists.{In}
use Rattle.laws_sequences.specs.Links.{AreCounted}
use Rattle.book_rows.specs.Sequences.{is_of_group, name_of}
use Rattle.book_rows.specs.declared.rows.SequenceRow.{SequenceRow}
use Rattle.laws_locks.proofs.Lists.{In-all, In-map, all_from_In, filter_In, none_from_In, pairs_between}
use Rattle.laws_offsets.proofs.Lists.{same_text, text_same}
use Rattle.laws_sequences.proofs.Chains.{Ascend}
use Rattle.laws_sequences.proofs.Counts.{ascend_group, group_from, group_rows}
use Rattle.laws_sequences.proofs.NameTexts.{sequence_names_tell}
use Rattle.tab_sequences.specs.Changes.{HaveDistinctNames, differ}
use Rattle.sup_core.specs.ByNames.{by_names, is_one_of}
use Rattle.sup_core.specs.Kept.{HasKey}

-- ---- from their indexes

tail_ascends : (b : Bool) (u : SequenceRow) (us : List SequenceRow) → Ascend (cond b (u ∷ us) us) → Ascend us
tail_ascends true u us h = h.1
tail_ascends false u us h = h

below_first : (u : SequenceRow) (us : List SequenceRow) (b : Bool) → b ≡ true → Ascend (cond b (u ∷ us) us) → AllByRecursion (λ v. u.index < v.index) us
below_first u us true e h = h.0
below_first u us false e h = absurd (false≢true e)

names_differ : (us : List SequenceRow) → ((source : List ℕ) (group : ℕ) → Ascend (group_rows source group us)) → AllByRecursion HasKey us → HaveDistinctNames us
names_differ [] a keys = tt
names_differ (u ∷ us) a keys = (all_from_In (differ u) us apart, names_differ us (λ source group. tail_ascends (is_of_group source group u) u (group_rows source group us) (a source group)) keys.1) where
  never : (i j : ℕ) → i < j → i ≡ j → ⊥
  never i j less same = omega arith

  apart : (v : SequenceRow) → In v us → differ u v
  apart v i = elim (cases_Bool (bytes_eq (name_of u) (name_of v))) [
    | inr off ↦ off
    | inl on ↦
        (let key = sequence_names_tell u.source v.source u.group v.group u.index v.index keys.0 (In-all HasKey v us i keys.1) (same_text (name_of u) (name_of v) on) in
        let theirs = filter_In (is_of_group u.source u.group) v us i (group_from u.source u.group v (sym key.0) (sym key.1)) in
        let later = below_first u (group_rows u.source u.group us) (is_of_group u.source u.group u) (group_from u.source u.group u refl refl) (a u.source u.group) in
        absurd (never u.index v.index (In-all (λ (w : SequenceRow). u.index < w.index) v (group_rows u.source u.group us) theirs later) key.2))
  ]

pub distinct_names : (us : List SequenceRow) → AreCounted us → AllByRecursion HasKey us → HaveDistinctNames us
distinct_names us counted keys = names_differ us (λ source group. ascend_group source group us counted) keys

-- ---- with those that open behind them

module _ (late over : List (List ℕ)) where
  -- what becomes of those that were there leaves their names
  all_before : (u : SequenceRow) (us os : List SequenceRow) → AllByRecursion (differ u) (map (by_names late over) us ++ os) → AllByRecursion (differ u) (us ++ os)
  all_before u [] os h = h
  all_before u (v ∷ us) os h = (h.0, all_before u us os h.1)

  pub distinct_before : (us os : List SequenceRow) → HaveDistinctNames (map (by_names late over) us ++ os) → HaveDistinctNames (us ++ os)
  distinct_before [] os h = h
  distinct_before (u ∷ us) os h = (all_before u us os h.0, distinct_before us os h.1)

-- those that open have none of the names that were there
module _ (us os : List SequenceRow) (distinct : HaveDistinctNames (us ++ os)) where
  other_way : (a b : List ℕ) → bytes_eq a b ≡ false → bytes_eq b a ≡ false
  other_way a b off = elim (cases_Bool (bytes_eq b a)) [
    | inr e ↦ e
    | inl on ↦ absurd (false≢true (sym off ∙ text_same a b (sym (same_text b a on))))
  ]

  pub new_names : (ns : List (List ℕ)) → ((n : List ℕ) → In n ns → In n (map name_of us)) → (o : SequenceRow) → In o os → is_one_of ns o ≡ false
  new_names ns old o i = none_from_In (λ n. bytes_eq (name_of o) n) ns other where
    other : (n : List ℕ) → In n ns → bytes_eq (name_of o) n ≡ false
    other n j =
        let v = In-map name_of n us (old n j) in
        subst (λ (text : List ℕ). bytes_eq (name_of o) text ≡ false) (sym v.2) (other_way (name_of v.0) (name_of o) (pairs_between differ us os v.0 o distinct v.1 i))
