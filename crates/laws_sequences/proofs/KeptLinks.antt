-- Changes that leave what links the sequences: pausing, reporting, leaving and closing.
use Rattle.std.proofs.Common.{◌≡◌, ℕ, ℤ, Bool, true, false, cond, ◌&&◌, ◌||◌, List, [], ◌∷◌, map, refl, ◌∙◌, arith, nat_le, int_le, ◌+ℤ◌, bytes_eq, subst, sym}
use Rattle.std.proofs.lemmas.Bool.Decides.{nat_tests}
use Rattle.std.proofs.lemmas.Bool.{and_from, and_parts, eq-eqb, false≢true}
use Rattle.book_rows.specs.Kinds.{is_unpublished, same_state}
use Rattle.book_rows.specs.Reports.{all_reported, both_told, closed_at, closes, ends_told, greater, greatest, is_told, left_by, reported, told}
use Rattle.book_rows.specs.SequenceRules.{IsOwn}
use Rattle.book_rows.specs.Sequences.{is_named, is_of_group, is_open, partitions_of, reaches}
use Rattle.book_rows.specs.Ticks.{is_over, stopped}
use Rattle.book_rows.specs.declared.kinds.SeqState.{SeqState}
use Rattle.book_rows.specs.declared.kinds.SeqState.TheVariants as States
use Rattle.book_rows.specs.declared.rows.Offset.{Offset}
use Rattle.book_rows.specs.declared.rows.OffsetRow.{OffsetRow}
use Rattle.book_rows.specs.declared.rows.Report.{Report}
use Rattle.book_rows.specs.declared.rows.SequenceRow.{SequenceRow}
use Rattle.book_rows.specs.declared.rows.SupervisorRow.{SupervisorRow}
use Rattle.laws_locks.proofs.Lists.{all_map, all_weaker}
use Rattle.laws_sequences.specs.Links.{AreLinked, AreOwn}
use Rattle.laws_sequences.proofs.Chains.{KeepsLinks, chain_map}
use Rattle.laws_sequences.proofs.Counts.{KeepsKeys, counted_map, group_alike}
use Rattle.laws_sequences.proofs.Filters.{filter_map_kept}
use Rattle.laws_sequences.proofs.Publishings.{KeepsPublished, published_unchanged, unpublished_stays}

-- ---- states: n stands for what else is tested

-- the state after a change of the open ones that aren't closed
pub reading_unpublished : (n : Bool) (st : SeqState) → is_unpublished (cond (n && same_state st States.Reading) States.Paused st) ≡ is_unpublished st
reading_unpublished true States.Reading = refl
reading_unpublished true States.Paused = refl
reading_unpublished true States.Closed = refl
reading_unpublished true States.Published = refl
reading_unpublished true States.Abandoned = refl
reading_unpublished false st = refl

pub reading_closed : (n : Bool) (st : SeqState) → same_state st States.Closed ≡ true → same_state (cond (n && same_state st States.Reading) States.Paused st) States.Closed ≡ true
reading_closed true States.Reading e = cc
reading_closed true States.Paused e = cc
reading_closed true States.Closed e = refl
reading_closed true States.Published e = cc
reading_closed true States.Abandoned e = cc
reading_closed false st e = e

pub not_paused : (n : Bool) (st : SeqState) → same_state (cond (n && same_state st States.Reading) States.Paused st) States.Closed ≡ true → same_state st States.Closed ≡ true
not_paused true States.Reading e = cc
not_paused true States.Paused e = e
not_paused true States.Closed e = e
not_paused true States.Published e = e
not_paused true States.Abandoned e = e
not_paused false st e = e

told_unpublished : (n : Bool) (st : SeqState) → is_unpublished (cond (n && (same_state st States.Reading || same_state st States.Paused)) States.Paused st) ≡ is_unpublished st
told_unpublished true States.Reading = refl
told_unpublished true States.Paused = refl
told_unpublished true States.Closed = refl
told_unpublished true States.Published = refl
told_unpublished true States.Abandoned = refl
told_unpublished false st = refl

told_closed : (n : Bool) (st : SeqState) → same_state st States.Closed ≡ true → same_state (cond (n && (same_state st States.Reading || same_state st States.Paused)) States.Paused st) States.Closed ≡ true
told_closed true States.Reading e = cc
told_closed true States.Paused e = cc
told_closed true States.Closed e = refl
told_closed true States.Published e = cc
told_closed true States.Abandoned e = cc
told_closed false st e = e

not_told : (n : Bool) (st : SeqState) → same_state (cond (n && (same_state st States.Reading || same_state st States.Paused)) States.Paused st) States.Closed ≡ true → same_state st States.Closed ≡ true
not_told true States.Reading e = cc
not_told true States.Paused e = cc
not_told true States.Closed e = e
not_told true States.Published e = e
not_told true States.Abandoned e = e
not_told false st e = e

closing_unpublished : (n r : Bool) (st : SeqState) → is_unpublished (cond ((n && same_state st States.Paused) && r) States.Closed st) ≡ is_unpublished st
closing_unpublished true r States.Reading = refl
closing_unpublished true true States.Paused = refl
closing_unpublished true false States.Paused = refl
closing_unpublished true r States.Closed = refl
closing_unpublished true r States.Published = refl
closing_unpublished true r States.Abandoned = refl
closing_unpublished false r st = refl

-- a closed one doesn't close
closed_stays : (n r : Bool) (st : SeqState) → same_state st States.Closed ≡ true → ((n && same_state st States.Paused) && r) ≡ false
closed_stays true r States.Reading e = cc
closed_stays true r States.Paused e = cc
closed_stays true r States.Closed e = refl
closed_stays true r States.Published e = cc
closed_stays true r States.Abandoned e = cc
closed_stays false r st e = refl

-- ---- the ends reach the starts

greater_right : (a b s : ℕ) → nat_le s a ≡ true → nat_le s (greater a b) ≡ true
greater_right a b s h = grind (arith, nat_tests)

pub reaches_told : (ss at bs : List Offset) → reaches ss at ≡ true → reaches ss (both_told at bs) ≡ true
reaches_told [] [] bs h = refl
reaches_told [] (a ∷ at) bs h = cc
reaches_told (s ∷ ss) [] bs h = cc
reaches_told (s ∷ ss) (a ∷ at) [] h = h
reaches_told (s ∷ ss) (a ∷ at) (b ∷ bs) h =
    let one = and_parts _ _ h in
    let two = and_parts _ _ one.0 in
    and_from _ _ (and_from _ _ two.0 (greater_right a.offset b.offset s.offset two.1)) (reaches_told ss at bs one.1)

reaches_itself : (ss : List Offset) → reaches ss ss ≡ true
reaches_itself [] = refl
reaches_itself (s ∷ ss) = and_from _ _ (and_from _ _ (eq-eqb s.partition s.partition refl) (le_itself s.offset)) (reaches_itself ss) where
  le_itself : (n : ℕ) → nat_le n n ≡ true
  le_itself n = grind (arith, nat_tests)

reaches_greatest : (ss at : List Offset) (rs : List Report) → reaches ss at ≡ true → reaches ss (greatest at rs) ≡ true
reaches_greatest ss at [] h = h
reaches_greatest ss at (r ∷ rs) h = reaches_greatest ss (both_told at r.offsets) rs (reaches_told ss at r.offsets h)

pub reaches_ends : (ss : List Offset) (rs : List Report) → reaches ss (ends_told ss rs) ≡ true
reaches_ends ss rs = reaches_greatest ss ss rs (reaches_itself ss)

-- ---- any change that leaves what links the sequences

pub record KeepsRows (f : SequenceRow → SequenceRow) : Type 0 where
  pub links : KeepsLinks f
  pub keys : KeepsKeys f
  pub unpublished : (u : SequenceRow) → is_unpublished (f u).state ≡ is_unpublished u.state
  pub own : (ps : List ℕ) (u : SequenceRow) → IsOwn ps u → IsOwn ps (f u)
  pub published : KeepsPublished f

open_alike : (f : SequenceRow → SequenceRow) → KeepsRows f → (source : List ℕ) (group : ℕ) (u : SequenceRow) → is_open source group (f u) ≡ is_open source group u
open_alike f k source group u = rw (group_alike f k.keys source group u, k.unpublished u) refl

-- what a supervisor's sequences own, where keys stay
pub own_map : (f : SequenceRow → SequenceRow) → KeepsKeys f → ((ps : List ℕ) (u : SequenceRow) → IsOwn ps u → IsOwn ps (f u)) → (s : SupervisorRow) (us : List SequenceRow) → AreOwn s us → AreOwn s (map f us)
own_map f k own s us o = all_map _ _ f (λ u i e. moved u (own (partitions_of s u.group) u (i (same u e)))) us o where
  same : (u : SequenceRow) → bytes_eq (f u).source s.source ≡ true → bytes_eq u.source s.source ≡ true
  same u e = rw (k.source_is u) at e

  moved : (u : SequenceRow) → IsOwn (partitions_of s u.group) (f u) → IsOwn (partitions_of s (f u).group) (f u)
  moved u o = subst (λ g. IsOwn (partitions_of s g) (f u)) (sym (k.group_is u)) o

pub linked_map : (f : SequenceRow → SequenceRow) → KeepsRows f → (rows : List OffsetRow) (ss : List SupervisorRow) (us : List SequenceRow) → AreLinked rows ss us → AreLinked rows ss (map f us)
linked_map f k rows ss us h = record {
  counted = counted_map f k.keys us h.counted;
  chained = all_weaker _ _ (λ s c group. rw (filter_map_kept (is_open s.source group) f (open_alike f k s.source group) us) (chain_map f k.links _ _ (c group))) ss h.chained;
  own = all_weaker _ _ (λ s o. own_map f k.keys k.own s us o) ss h.own;
}

same_keys : (f : SequenceRow → SequenceRow) → ((u : SequenceRow) → (f u).source ≡ u.source) → ((u : SequenceRow) → (f u).group ≡ u.group) → ((u : SequenceRow) → (f u).index ≡ u.index) → KeepsKeys f
same_keys f a b c = record { source_is = a; group_is = b; index_is = c }

-- ---- states that aren't published

reads_unpublished : (st : SeqState) → same_state st States.Reading ≡ true → is_unpublished st ≡ true
reads_unpublished States.Reading e = refl
reads_unpublished States.Paused e = refl
reads_unpublished States.Closed e = refl
reads_unpublished States.Published e = absurd (false≢true e)
reads_unpublished States.Abandoned e = absurd (false≢true e)

pauses_unpublished : (st : SeqState) → same_state st States.Paused ≡ true → is_unpublished st ≡ true
pauses_unpublished States.Reading e = refl
pauses_unpublished States.Paused e = refl
pauses_unpublished States.Closed e = refl
pauses_unpublished States.Published e = absurd (false≢true e)
pauses_unpublished States.Abandoned e = absurd (false≢true e)

told_is_unpublished : (st : SeqState) → (same_state st States.Reading || same_state st States.Paused) ≡ true → is_unpublished st ≡ true
told_is_unpublished States.Reading e = refl
told_is_unpublished States.Paused e = refl
told_is_unpublished States.Closed e = refl
told_is_unpublished States.Published e = absurd (false≢true e)
told_is_unpublished States.Abandoned e = absurd (false≢true e)

closing_is_unpublished : (name : List ℕ) (u : SequenceRow) → closes name u ≡ true → is_unpublished u.state ≡ true
closing_is_unpublished name u h =
    let one = and_parts (is_named name u && same_state u.state States.Paused) (all_reported u.reports u.live) h in
    pauses_unpublished u.state (and_parts (is_named name u) (same_state u.state States.Paused) one.0).1

-- ---- the changes

-- a reading sequence whose time is over pauses
pub keeps_stopped : (s : SupervisorRow) (group : ℕ) (now : ℤ) → KeepsRows (stopped s group now)
keeps_stopped s group now = record {
  links = record { starts = λ u. refl; closed = λ u e. reading_closed (is_of_group s.source group u && int_le (u.opened +ℤ s.duration) now) u.state e; ends = λ u e. refl };
  keys = same_keys _ (λ u. refl) (λ u. refl) (λ u. refl);
  unpublished = λ u. reading_unpublished (is_of_group s.source group u && int_le (u.opened +ℤ s.duration) now) u.state;
  own = λ ps u o. record { starts = o.starts; ends = λ c. o.ends (not_paused (is_of_group s.source group u && int_le (u.opened +ℤ s.duration) now) u.state c) };
  published = record {
    keys = same_keys _ (λ u. refl) (λ u. refl) (λ u. refl);
    state = λ u. unpublished_stays (is_over s group now u) States.Paused u.state refl (λ h. reads_unpublished u.state (and_parts (is_of_group s.source group u && int_le (u.opened +ℤ s.duration) now) (same_state u.state States.Reading) h).1);
    starts = λ u. refl;
    ends = λ u e. refl;
  };
}

-- a replica leaves
pub keeps_left : (task : List ℕ) → KeepsRows (left_by task)
keeps_left task = record {
  links = record { starts = λ u. refl; closed = λ u e. e; ends = λ u e. refl };
  keys = same_keys _ (λ u. refl) (λ u. refl) (λ u. refl);
  unpublished = λ u. refl;
  own = λ ps u o. record { starts = o.starts; ends = o.ends };
  published = record { keys = same_keys _ (λ u. refl) (λ u. refl) (λ u. refl); state = λ u. refl; starts = λ u. refl; ends = λ u e. refl };
}

-- a replica tells its offsets
pub keeps_told : (name : List ℕ) (new : Report) → KeepsRows (told name new)
keeps_told name new = record {
  links = record { starts = λ u. refl; closed = λ u e. told_closed (is_named name u) u.state e; ends = λ u e. refl };
  keys = same_keys _ (λ u. refl) (λ u. refl) (λ u. refl);
  unpublished = λ u. told_unpublished (is_named name u) u.state;
  own = λ ps u o. record { starts = o.starts; ends = λ c. o.ends (not_told (is_named name u) u.state c) };
  published = record {
    keys = same_keys _ (λ u. refl) (λ u. refl) (λ u. refl);
    state = λ u. unpublished_stays (is_told name u) States.Paused u.state refl (λ h. told_is_unpublished u.state (and_parts (is_named name u) (same_state u.state States.Reading || same_state u.state States.Paused) h).1);
    starts = λ u. refl;
    ends = λ u e. refl;
  };
}

closing_own : (c : Bool) (u : SequenceRow) (clock : ℤ) (ps : List ℕ) → IsOwn ps u → IsOwn ps (record u { state = cond c States.Closed u.state; closed = cond c clock u.closed; ends = cond c (ends_told u.starts u.reports) u.ends })
closing_own true u clock ps o = record { starts = o.starts; ends = λ c. reaches_ends u.starts u.reports }
closing_own false u clock ps o = record { starts = o.starts; ends = o.ends }

-- a paused sequence closes
pub keeps_closed : (name : List ℕ) (clock : ℤ) → KeepsRows (closed_at name clock)
keeps_closed name clock = record {
  links = record {
    starts = λ u. refl;
    closed = λ u e. rw (closed_stays (is_named name u) (all_reported u.reports u.live) u.state e) e;
    ends = λ u e. rw (closed_stays (is_named name u) (all_reported u.reports u.live) u.state e) refl;
  };
  keys = same_keys _ (λ u. refl) (λ u. refl) (λ u. refl);
  unpublished = λ u. closing_unpublished (is_named name u) (all_reported u.reports u.live) u.state;
  own = λ ps u o. closing_own (closes name u) u clock ps o;
  published = record {
    keys = same_keys _ (λ u. refl) (λ u. refl) (λ u. refl);
    state = λ u. unpublished_stays (closes name u) States.Closed u.state refl (λ h. closing_is_unpublished name u h);
    starts = λ u. refl;
    ends = λ u e. rw (published_unchanged (closes name u) u.state (λ h. closing_is_unpublished name u h) e) refl;
  };
}

-- one change after another
pub keeps_both : (f g : SequenceRow → SequenceRow) → KeepsRows f → KeepsRows g → KeepsRows (λ u. g (f u))
keeps_both f g k l = record {
  links = record {
    starts = λ u. l.links.starts (f u) ∙ k.links.starts u;
    closed = λ u e. l.links.closed (f u) (k.links.closed u e);
    ends = λ u e. l.links.ends (f u) (k.links.closed u e) ∙ k.links.ends u e;
  };
  keys = record {
    source_is = λ u. l.keys.source_is (f u) ∙ k.keys.source_is u;
    group_is = λ u. l.keys.group_is (f u) ∙ k.keys.group_is u;
    index_is = λ u. l.keys.index_is (f u) ∙ k.keys.index_is u;
  };
  unpublished = λ u. l.unpublished (f u) ∙ k.unpublished u;
  own = λ ps u o. l.own ps (f u) (k.own ps u o);
  published = record {
    keys = record {
      source_is = λ u. l.keys.source_is (f u) ∙ k.keys.source_is u;
      group_is = λ u. l.keys.group_is (f u) ∙ k.keys.group_is u;
      index_is = λ u. l.keys.index_is (f u) ∙ k.keys.index_is u;
    };
    state = λ u. l.published.state (f u) ∙ k.published.state u;
    starts = λ u. l.published.starts (f u) ∙ k.published.starts u;
    ends = λ u e. l.published.ends (f u) (k.published.state u ∙ e) ∙ k.published.ends u e;
  };
}

-- a report, with the pause and the closing that it brings
pub keeps_reported : (name : List ℕ) (new : Report) (clock : ℤ) → KeepsRows (reported name new clock)
keeps_reported name new clock = keeps_both (told name new) (closed_at name clock) (keeps_told name new) (keeps_closed name clock)
