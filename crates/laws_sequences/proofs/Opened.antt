-- A sequence that is opened behind closed ones keeps that they are linked.
use Rattle.std.proofs.Common.{◌≡◌, ℕ, Bool, true, false, cond, ◌==◌, ◌&&◌, List, [], ◌∷◌, ◌++◌, refl, sym, ◌∙◌, ap, inl, inr, ◌⊎◌, bytes_eq, length, nat_le}
use Rattle.std.specs.List.{AllByRecursion}
use Rattle.std.proofs.lemmas.Bool.{and_parts, eqb-true, false≢true}
use Rattle.std.proofs.lemmas.List.{append-nil}
use Rattle.std.proofs.lemmas.List.Elements.{filter-append}
use Rattle.book_rows.specs.Kinds.{same_state}
use Rattle.book_rows.specs.Lists.{In}
use Rattle.book_rows.specs.SequenceRules.{Chain, IsOwn}
use Rattle.book_rows.specs.Sequences.{is_closed, is_open, named, open_rows, partitions_of, positions, reaches}
use Rattle.book_rows.specs.Shape.{AreDistinct, same_supervisor}
use Rattle.book_rows.specs.declared.kinds.SeqState.{SeqState}
use Rattle.book_rows.specs.declared.kinds.SeqState.TheVariants as States
use Rattle.book_rows.specs.declared.rows.Offset.{Offset}
use Rattle.book_rows.specs.declared.rows.OffsetRow.{OffsetRow}
use Rattle.book_rows.specs.declared.rows.SequenceRow.{SequenceRow}
use Rattle.book_rows.specs.declared.rows.SupervisorRow.{SupervisorRow}
use Rattle.laws_locks.proofs.Lists.{In-all, all_from_In, all_push, all_weaker, pair_of}
use Rattle.laws_locks.proofs.TaskRows.{bytes_differ}
use Rattle.laws_offsets.proofs.Lists.{text_same}
use Rattle.laws_sequences.specs.Links.{AreChained, AreLinked, AreOwn}
use Rattle.laws_sequences.proofs.Chains.{chain_push, end_after}
use Rattle.laws_sequences.proofs.Counts.{counted_push, group_parts, group_rows, open_parts}
use Rattle.laws_sequences.proofs.Filters.{all_passing}

-- ---- supervisors of distinct sources

-- a supervisor is this one, or of another source
pub one_supervisor : (ss : List SupervisorRow) (s v : SupervisorRow) → AreDistinct same_supervisor ss → In s ss → In v ss → (v ≡ s) ⊎ (bytes_eq s.source v.source ≡ false)
one_supervisor ss s v d i j = elim (pair_of (λ (a b : SupervisorRow). same_supervisor a b ≡ false) s v ss d i j) [
  | inl same ↦ inl (sym same)
  | inr (inl off) ↦ inr off
  | inr (inr off) ↦ inr (bytes_differ v.source s.source off)
]

-- ---- what a group's sequences own

pub named_positions : (rows : List OffsetRow) (source stream : List ℕ) (ps : List ℕ) → named (positions rows source stream ps) ≡ ps
named_positions rows source stream [] = refl
named_positions rows source stream (p ∷ ps) = rw (named_positions rows source stream ps) refl

pub named_reaches : (ss es : List Offset) → reaches ss es ≡ true → named es ≡ named ss
named_reaches [] [] h = refl
named_reaches [] (e ∷ es) h = cc
named_reaches (s ∷ ss) [] h = cc
named_reaches (s ∷ ss) (e ∷ es) h =
    let one = and_parts ((s.partition == e.partition) && nat_le s.offset e.offset) (reaches ss es) h in
    let two = and_parts (s.partition == e.partition) (nat_le s.offset e.offset) one.0 in
    rw (eqb-true s.partition e.partition two.0, named_reaches ss es one.1) refl

named_end : (ps : List ℕ) (at : List Offset) (us : List SequenceRow) → named at ≡ ps → AllByRecursion (λ u. is_closed u ≡ true) us → AllByRecursion (IsOwn ps) us → named (end_after at us) ≡ ps
named_end ps at [] n c o = n
named_end ps at (u ∷ us) n c o = named_end ps u.ends us (named_reaches u.starts u.ends (o.0.ends c.0) ∙ o.0.starts) c.1 o.1

pub own_open : (s : SupervisorRow) (group : ℕ) (us : List SequenceRow) → AreOwn s us → AllByRecursion (IsOwn (partitions_of s group)) (open_rows s.source group us)
own_open s group us o = all_passing (is_open s.source group) _ us (all_weaker _ _ (λ u i e. here u (group_parts s.source group u (open_parts s.source group u e).0) i) us o) where
  here : (u : SequenceRow) → (u.source ≡ s.source) × (u.group ≡ group) → (bytes_eq u.source s.source ≡ true → IsOwn (partitions_of s u.group) u) → IsOwn (partitions_of s group) u
  here u x i = rw (← x.1) (i (text_same u.source s.source x.0))

-- ---- the new one

-- a sequence that may be opened: behind closed ones, where they end, with the next index
pub record OpensAt (rows : List OffsetRow) (s : SupervisorRow) (us : List SequenceRow) (new : SequenceRow) : Type 0 where
  pub source_is : new.source ≡ s.source
  pub all_closed : AllByRecursion (λ u. is_closed u ≡ true) (open_rows s.source new.group us)
  pub starts_there : new.starts ≡ end_after (positions rows s.source s.stream (partitions_of s new.group)) (open_rows s.source new.group us)
  pub index_is : new.index ≡ length (group_rows new.source new.group us)
  pub reads : new.state ≡ States.Reading

chained_opened : (rows : List OffsetRow) (us : List SequenceRow) (new : SequenceRow) (s : SupervisorRow) → OpensAt rows s us new → (v : SupervisorRow) → (v ≡ s) ⊎ (bytes_eq s.source v.source ≡ false) → AreChained rows us v → AreChained rows (us ++ new ∷ []) v
chained_opened rows us new s o v which c g = rw (filter-append (is_open v.source g) us (new ∷ [])) (go (is_open v.source g new) refl which) where
  go : (b : Bool) → is_open v.source g new ≡ b → (v ≡ s) ⊎ (bytes_eq s.source v.source ≡ false) → Chain (positions rows v.source v.stream (partitions_of v g)) (open_rows v.source g us ++ cond b (new ∷ []) [])
  go false e w = rw append-nil (c g)
  go true e (inr other) =
      let x = group_parts v.source g new (open_parts v.source g new e).0 in
      absurd (false≢true (sym other ∙ text_same s.source v.source (sym o.source_is ∙ x.0)))
  go true e (inl same) =
      let x = group_parts v.source g new (open_parts v.source g new e).0 in
      here v same g (sym x.1) (c g) where
        here : (v : SupervisorRow) → v ≡ s → (g : ℕ) → g ≡ new.group → Chain (positions rows v.source v.stream (partitions_of v g)) (open_rows v.source g us) → Chain (positions rows v.source v.stream (partitions_of v g)) (open_rows v.source g us ++ new ∷ [])
        here v same g there c =
            chain_push (positions rows v.source v.stream (partitions_of v g)) (open_rows v.source g us) new c (rw (same, there) o.all_closed) (rw (same, there) o.starts_there)

not_closed : (st : SeqState) → st ≡ States.Reading → same_state st States.Closed ≡ true → ⊥
not_closed st e c = false≢true (sym (ap (λ s. same_state s States.Closed) e) ∙ c)

pub linked_opened : (rows : List OffsetRow) (ss : List SupervisorRow) (us : List SequenceRow) (new : SequenceRow) (s : SupervisorRow) → AreDistinct same_supervisor ss → In s ss → OpensAt rows s us new → AreLinked rows ss us → AreLinked rows ss (us ++ new ∷ [])
linked_opened rows ss us new s d i o h = record {
  counted = counted_push us new o.index_is h.counted;
  chained = all_from_In _ ss (λ v j. chained_opened rows us new s o v (one_supervisor ss s v d i j) (In-all (AreChained rows us) v ss j h.chained));
  own = all_from_In _ ss (λ v j. all_push _ us new (In-all (λ v. AreOwn v us) v ss j h.own) (new_own v (one_supervisor ss s v d i j)));
} where
  own_s : AreOwn s us
  own_s = In-all (λ v. AreOwn v us) s ss i h.own

  starts_named : named new.starts ≡ partitions_of s new.group
  starts_named = rw o.starts_there (named_end (partitions_of s new.group) (positions rows s.source s.stream (partitions_of s new.group)) (open_rows s.source new.group us) (named_positions rows s.source s.stream (partitions_of s new.group)) o.all_closed (own_open s new.group us own_s))

  new_own : (v : SupervisorRow) → (v ≡ s) ⊎ (bytes_eq s.source v.source ≡ false) → bytes_eq new.source v.source ≡ true → IsOwn (partitions_of v new.group) new
  new_own v (inl same) e = rw same (record { starts = starts_named; ends = λ c. absurd (not_closed new.state o.reads c) })
  new_own v (inr other) e = absurd (false≢true (sym other ∙ (rw (← o.source_is) e)))
