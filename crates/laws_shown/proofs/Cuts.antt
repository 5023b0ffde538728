-- The ends of spans, ascending: the last one at or before an instant, and that nothing changes from there on.
use Rattle.std.proofs.Common.{Bool, List, [], ap, arith, cond, false, inl, inr, int_le, int_lt, not, refl, subst, sym, true, ℤ, ◌∙◌, ◌∷◌, ◌≡◌, ◌⊎◌}
use Rattle.std.proofs.lemmas.Bool.{cases_Bool}
use Rattle.std.proofs.lemmas.Bool.Decides.{Decides-int_eq}
use Rattle.std.proofs.lemmas.Int.{ints}
use Rattle.std.specs.Ordering.{int_eq}
use Rattle.iv_span.specs.Extent.{Extent, has}
use Rattle.book_rows.specs.Lists.{In}
use Rattle.book_rows.specs.Spans.{cuts, put_cut}
use Rattle.laws_chunks.proofs.Spans.{le_itself}
use Rattle.laws_shown.specs.Ends.{AreAlike}

-- ---- what is among the cuts

pub put_here : (t : ℤ) (us : List ℤ) → In t (put_cut t us)
put_here t [] = inl refl
put_here t (u ∷ us) = go (int_lt t u) (int_eq t u) refl (put_here t us) where
  go : (less same : Bool) → int_eq t u ≡ same → In t (put_cut t us) → In t (cond less (t ∷ u ∷ us) (cond same (u ∷ us) (u ∷ put_cut t us)))
  go true same e rest = inl refl
  go false true e rest = inl ((Decides-int_eq t u).0 e)
  go false false e rest = inr rest

pub put_kept : (t x : ℤ) (us : List ℤ) → In x us → In x (put_cut t us)
put_kept t x [] i = absurd i
put_kept t x (u ∷ us) i = go (int_lt t u) (int_eq t u) i (put_kept t x us) where
  go : (less same : Bool) → In x (u ∷ us) → (In x us → In x (put_cut t us)) → In x (cond less (t ∷ u ∷ us) (cond same (u ∷ us) (u ∷ put_cut t us)))
  go true same i rest = inr i
  go false true i rest = i
  go false false (inl e) rest = inl e
  go false false (inr i) rest = inr (rest i)

pub starts_In : (s : Extent) (ss : List Extent) → In s ss → In s.start (cuts ss)
starts_In s [] i = absurd i
starts_In s (x ∷ ss) (inl e) = subst (λ (t : ℤ). In t (cuts (x ∷ ss))) (ap (λ (s : Extent). s.start) (sym e)) (put_here x.start (put_cut x.end (cuts ss)))
starts_In s (x ∷ ss) (inr i) = put_kept x.start s.start (put_cut x.end (cuts ss)) (put_kept x.end s.start (cuts ss) (starts_In s ss i))

pub ends_In : (s : Extent) (ss : List Extent) → In s ss → In s.end (cuts ss)
ends_In s [] i = absurd i
ends_In s (x ∷ ss) (inl e) = subst (λ (t : ℤ). In t (cuts (x ∷ ss))) (ap (λ (s : Extent). s.end) (sym e)) (put_kept x.start x.end (put_cut x.end (cuts ss)) (put_here x.end (cuts ss)))
ends_In s (x ∷ ss) (inr i) = put_kept x.start s.end (put_cut x.end (cuts ss)) (put_kept x.end s.end (cuts ss) (ends_In s ss i))

-- ---- the last cut at or before an instant

-- no cut lies between the two instants
abbrev pub NoneBetween : List ℤ → ℤ → ℤ → Type 0
NoneBetween cs t u = (x : ℤ) → In x cs → int_le x t ≡ int_le x u

pub record IsLastBefore (cs : List ℤ) (t c : ℤ) : Type 0 where
  pub among : In c cs
  pub before : int_le c t ≡ true
  pub none_between : NoneBetween cs t c

past : (c d t : ℤ) → int_le d t ≡ true → int_le c t ≡ false → int_le c d ≡ false
past c d t h k = grind (arith, ints)

later : (c d t : ℤ) → int_le c d ≡ false → int_le d c ≡ true
later c d t h = grind (arith, ints)

-- of two cuts at or before t the later one
moves_up : (c d t x : ℤ) → int_le c t ≡ true → int_le d c ≡ true → int_le x t ≡ int_le x d → int_le x t ≡ int_le x c
moves_up c d t x h k e = grind (arith, ints)

pub last_before : (cs : List ℤ) (t : ℤ) → ((x : ℤ) → In x cs → int_le x t ≡ false) ⊎ ((c : ℤ) × IsLastBefore cs t c)
last_before [] t = inl (λ x i. absurd i)
last_before (c ∷ cs) t = elim (cases_Bool (int_le c t)) [
  | inl here ↦ elim (last_before cs t) [
    | inl none ↦ inr (c, record { among = inl refl; before = here; none_between = first here none })
    | inr l ↦ elim (cases_Bool (int_le c l.0)) [
      | inl low ↦ inr (l.0, record { among = inr l.1.among; before = l.1.before; none_between = both (here ∙ sym low) l.1.none_between })
      | inr high ↦ inr (c, record { among = inl refl; before = here; none_between = both (here ∙ sym (le_itself c)) (λ x i. moves_up c l.0 t x here (later c l.0 t high) (l.1.none_between x i)) })
    ]
  ]
  | inr after ↦ elim (last_before cs t) [
    | inl none ↦ inl (none_of after none)
    | inr l ↦ inr (l.0, record { among = inr l.1.among; before = l.1.before; none_between = both (after ∙ sym (past c l.0 t l.1.before after)) l.1.none_between })
  ]
] where
  both : {u : ℤ} → int_le c t ≡ int_le c u → NoneBetween cs t u → NoneBetween (c ∷ cs) t u
  both {u} e n x (inl same) = rw same e
  both {u} e n x (inr i) = n x i

  first : int_le c t ≡ true → ((x : ℤ) → In x cs → int_le x t ≡ false) → NoneBetween (c ∷ cs) t c
  first here none x (inl same) = rw same (here ∙ sym (le_itself c))
  first here none x (inr i) = none x i ∙ sym (past x c t here (none x i))

  none_of : int_le c t ≡ false → ((x : ℤ) → In x cs → int_le x t ≡ false) → (x : ℤ) → In x (c ∷ cs) → int_le x t ≡ false
  none_of after none x (inl same) = rw same after
  none_of after none x (inr i) = none x i

-- ---- with no cut between, the same spans have both instants

not_after : (e t : ℤ) → int_lt t e ≡ not (int_le e t)
not_after e t = grind (arith, ints)

pub has_alike : (s : Extent) (t u : ℤ) → int_le s.start t ≡ int_le s.start u → int_le s.end t ≡ int_le s.end u → has s t ≡ has s u
has_alike s t u a b = rw (not_after s.end t, not_after s.end u, a, b) refl

pub alike_between : (ss : List Extent) (cs : List ℤ) (t u : ℤ) → ((x : ℤ) → In x (cuts ss) → In x cs) → NoneBetween cs t u → AreAlike ss t u
alike_between ss cs t u sub none s i = has_alike s t u (none s.start (sub s.start (starts_In s ss i))) (none s.end (sub s.end (ends_In s ss i)))
