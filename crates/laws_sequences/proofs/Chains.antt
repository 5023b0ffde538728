-- What a change keeps of a chain of sequences.
use Rattle.std.proofs.Common.{◌≡◌, ℕ, ◌<◌, Bool, true, false, cond, not, List, [], ◌∷◌, ◌++◌, map, filter, refl, ◌∙◌, arith, nat_le}
use Rattle.std.specs.List.{AllByRecursion}
use Rattle.std.proofs.lemmas.Bool.Decides.{nat_tests}
use Rattle.book_rows.specs.Lists.{Pairs}
use Rattle.book_rows.specs.SequenceRules.{Chain}
use Rattle.book_rows.specs.Sequences.{is_closed}
use Rattle.book_rows.specs.declared.rows.Offset.{Offset}
use Rattle.book_rows.specs.declared.rows.SequenceRow.{SequenceRow}
use Rattle.laws_sequences.proofs.Filters.{filter_none}

-- a change that leaves the starts, and of a closed sequence the state and the ends
pub record KeepsLinks (f : SequenceRow → SequenceRow) : Type 0 where
  pub starts : (u : SequenceRow) → (f u).starts ≡ u.starts
  pub closed : (u : SequenceRow) → is_closed u ≡ true → is_closed (f u) ≡ true
  pub ends : (u : SequenceRow) → is_closed u ≡ true → (f u).ends ≡ u.ends

pub chain_map : (f : SequenceRow → SequenceRow) → KeepsLinks f → (at : List Offset) (us : List SequenceRow) → Chain at us → Chain at (map f us)
chain_map f k at [] c = tt
chain_map f k at (u ∷ []) c = k.starts u ∙ c
chain_map f k at (u ∷ v ∷ us) c = (k.closed u c.0, k.starts u ∙ c.1, rw (k.ends u c.0) (chain_map f k u.ends (v ∷ us) c.2))

-- where the sequences end
abbrev pub end_after : List Offset → List SequenceRow → List Offset
end_after at [] = at
end_after at (u ∷ us) = end_after u.ends us

-- a sequence is opened behind closed ones
pub chain_push : (at : List Offset) (us : List SequenceRow) (v : SequenceRow) → Chain at us → AllByRecursion (λ u. is_closed u ≡ true) us → v.starts ≡ end_after at us → Chain at (us ++ v ∷ [])
chain_push at [] v c a e = e
chain_push at (u ∷ []) v c a e = (a.0, c, e)
chain_push at (u ∷ w ∷ us) v c a e = (c.0, c.1, chain_push u.ends (w ∷ us) v c.2 a.1 e)

-- the first is published
pub chain_tail : (at : List Offset) (u : SequenceRow) (us : List SequenceRow) → Chain at (u ∷ us) → Chain u.ends us
chain_tail at u [] c = tt
chain_tail at u (v ∷ us) c = c.2

pub chain_first : (at : List Offset) (u : SequenceRow) (us : List SequenceRow) → Chain at (u ∷ us) → u.starts ≡ at
chain_first at u [] c = c
chain_first at u (v ∷ us) c = c.1

-- ---- those below an index

-- indexes ascend
abbrev pub Ascend : List SequenceRow → Type 0
Ascend us = Pairs (λ u v. u.index < v.index) us

none_left : (from : ℕ) (u : SequenceRow) (us : List SequenceRow) → nat_le from u.index ≡ true → AllByRecursion (λ v. u.index < v.index) us → AllByRecursion (λ v. not (nat_le from v.index) ≡ false) us
none_left from u [] e a = tt
none_left from u (v ∷ us) e a = (later from u.index v.index e a.0, none_left from u us e a.1) where
  later : (from i j : ℕ) → nat_le from i ≡ true → i < j → not (nat_le from j) ≡ false
  later from i j h k = grind (arith, nat_tests)

-- where indexes ascend these are the first ones
pub chain_below : (from : ℕ) (at : List Offset) (us : List SequenceRow) → Ascend us → Chain at us → Chain at (filter (λ u. not (nat_le from u.index)) us)
chain_below from at [] a c = tt
chain_below from at (u ∷ us) a c = go (nat_le from u.index) refl (chain_below from u.ends us a.1 (chain_tail at u us c)) where
  kept : (w : List SequenceRow) → Chain u.ends w → (us ≡ [] → w ≡ []) → Chain at (u ∷ us) → Chain at (u ∷ w)
  kept [] cw e c = chain_first at u us c
  kept (x ∷ w) cw e c = (closed us e c, chain_first at u us c, cw) where
    closed : (us : List SequenceRow) → (us ≡ [] → x ∷ w ≡ []) → Chain at (u ∷ us) → is_closed u ≡ true
    closed [] e c = absurd (not_empty (e refl)) where
      not_empty : x ∷ w ≡ [] → ⊥
      not_empty e = cc
    closed (v ∷ us) e c = c.0

  go : (b : Bool) → nat_le from u.index ≡ b → Chain u.ends (filter (λ u. not (nat_le from u.index)) us) → Chain at (cond (not b) (u ∷ filter (λ u. not (nat_le from u.index)) us) (filter (λ u. not (nat_le from u.index)) us))
  go true e h = rw (filter_none (λ u. not (nat_le from u.index)) us (none_left from u us e a.0)) tt
  go false e h = kept (filter (λ u. not (nat_le from u.index)) us) h (λ e'. rw e' refl) c
