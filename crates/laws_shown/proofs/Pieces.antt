-- Pieces between neighbouring ends of spans: each instant of a span is in one, and within a piece nothing changes.
use Rattle.std.proofs.Common.{Bool, List, [], ap, arith, cond, false, inl, inr, int_le, int_lt, refl, subst, true, ℤ, ◌∷◌, ◌≡◌, ◌⊎◌}
use Rattle.std.proofs.lemmas.Bool.{and_from, and_parts, cases_Bool}
use Rattle.std.proofs.lemmas.Int.{ints}
use Rattle.std.specs.List.{AllByRecursion}
use Rattle.std.specs.Ordering.{int_eq}
use Rattle.iv_span.specs.Extent.{Extent, has}
use Rattle.book_rows.specs.Lists.{In, Pairs}
use Rattle.book_rows.specs.Spans.{cuts, pieces, put_cut}
use Rattle.laws_chunks.proofs.Members.{In-all}
use Rattle.laws_chunks.proofs.Spans.{le_itself, le_not_lt, not_lt_le, lt_is_le}
use Rattle.laws_shown.specs.Ends.{AreAlike}
use Rattle.laws_shown.proofs.Cuts.{alike_between, ends_In, starts_In}

-- ---- cuts ascend

abbrev pub Ascend : List ℤ → Type 0
Ascend cs = Pairs (λ c d. int_lt c d ≡ true) cs

put_above : (a t : ℤ) (us : List ℤ) → int_lt a t ≡ true → AllByRecursion (λ d. int_lt a d ≡ true) us → AllByRecursion (λ d. int_lt a d ≡ true) (put_cut t us)
put_above a t [] h all = (h, tt)
put_above a t (u ∷ us) h all = go (int_lt t u) (int_eq t u) (put_above a t us h all.1) where
  go : (less same : Bool) → AllByRecursion (λ d. int_lt a d ≡ true) (put_cut t us) → AllByRecursion (λ d. int_lt a d ≡ true) (cond less (t ∷ u ∷ us) (cond same (u ∷ us) (u ∷ put_cut t us)))
  go true same rest = (h, all)
  go false true rest = all
  go false false rest = (all.0, rest)

lt_lt : (a b c : ℤ) → int_lt a b ≡ true → int_lt b c ≡ true → int_lt a c ≡ true
lt_lt a b c h k = grind (arith, ints)

all_past : (a b : ℤ) (us : List ℤ) → int_lt a b ≡ true → AllByRecursion (λ d. int_lt b d ≡ true) us → AllByRecursion (λ d. int_lt a d ≡ true) us
all_past a b [] h all = tt
all_past a b (u ∷ us) h all = (lt_lt a b u h all.0, all_past a b us h all.1)

above : (t u : ℤ) → int_lt t u ≡ false → int_eq t u ≡ false → int_lt u t ≡ true
above t u h k = grind (arith, ints)

put_ascends : (t : ℤ) (us : List ℤ) → Ascend us → Ascend (put_cut t us)
put_ascends t [] h = (tt, tt)
put_ascends t (u ∷ us) h = go (int_lt t u) refl (int_eq t u) refl (put_ascends t us h.1) where
  go : (less : Bool) → int_lt t u ≡ less → (same : Bool) → int_eq t u ≡ same → Ascend (put_cut t us) → Ascend (cond less (t ∷ u ∷ us) (cond same (u ∷ us) (u ∷ put_cut t us)))
  go true e same f rest = ((e, all_past t u us e h.0), h)
  go false e true f rest = h
  go false e false f rest = (put_above u t us (above t u e f) h.0, rest)

pub cuts_ascend : (ss : List Extent) → Ascend (cuts ss)
cuts_ascend [] = tt
cuts_ascend (s ∷ ss) = put_ascends s.start (put_cut s.end (cuts ss)) (put_ascends s.end (cuts ss) (cuts_ascend ss))

-- ---- an instant between two cuts is in a piece

first_low : (c x t : ℤ) (cs : List ℤ) → AllByRecursion (λ d. int_lt c d ≡ true) cs → In x (c ∷ cs) → int_le x t ≡ true → int_le c t ≡ true
first_low c x t cs all (inl e) h = subst (λ (y : ℤ). int_le y t ≡ true) e h
first_low c x t cs all (inr i) h = through c x t (In-all (λ d. int_lt c d ≡ true) x cs i all) h where
  through : (c x t : ℤ) → int_lt c x ≡ true → int_le x t ≡ true → int_le c t ≡ true
  through c x t h k = grind (arith, ints)

pub record IsInPiece (cs : List ℤ) (t : ℤ) : Type 0 where
  pub piece : Extent
  pub among : In piece (pieces cs)
  pub inside : has piece t ≡ true

-- the first cut isn't after it, and some cut is
find_piece : (c : ℤ) (cs : List ℤ) (t b : ℤ) → int_le c t ≡ true → In b (c ∷ cs) → int_lt t b ≡ true → IsInPiece (c ∷ cs) t
find_piece c [] t b low (inl e) high = absurd (le_not_lt c t low (subst (λ (x : ℤ). int_lt t x ≡ true) e high))
find_piece c [] t b low (inr i) high = absurd i
find_piece c (d ∷ cs) t b low (inl e) high = absurd (le_not_lt c t low (subst (λ (x : ℤ). int_lt t x ≡ true) e high))
find_piece c (d ∷ cs) t b low (inr i) high = elim (cases_Bool (int_lt t d)) [
  | inl here ↦ record { piece = record { start = c; end = d }; among = inl refl; inside = and_from (int_le c t) (int_lt t d) low here }
  | inr off ↦ later (find_piece d cs t b (not_lt_le t d off) i high)
] where
  later : IsInPiece (d ∷ cs) t → IsInPiece (c ∷ d ∷ cs) t
  later w = record { piece = w.piece; among = inr w.among; inside = w.inside }

pub in_piece : (cs : List ℤ) (a b t : ℤ) → Ascend cs → In a cs → In b cs → int_le a t ≡ true → int_lt t b ≡ true → IsInPiece cs t
in_piece [] a b t h i j low high = absurd i
in_piece (c ∷ cs) a b t h i j low high = find_piece c cs t b (first_low c a t cs h.0 i low) j high

-- ---- no cut is within a piece

-- the ends of a piece are cuts
start_In : (cs : List ℤ) (e : Extent) → In e (pieces cs) → In e.start cs
start_In [] e i = absurd i
start_In (c ∷ []) e i = absurd i
start_In (c ∷ d ∷ cs) e (inl same) = inl (ap (λ (x : Extent). x.start) same)
start_In (c ∷ d ∷ cs) e (inr i) = inr (start_In (d ∷ cs) e i)

-- each cut is at or before the start of a piece, or at or after its end
beside : (cs : List ℤ) (e : Extent) (x : ℤ) → Ascend cs → In e (pieces cs) → In x cs → (int_le x e.start ≡ true) ⊎ (int_le e.end x ≡ true)
beside [] e x h i j = absurd j
beside (c ∷ []) e x h i j = absurd i
beside (c ∷ d ∷ cs) e x h (inl same) (inl at) = inl (rw (same, at) (le_itself c))
beside (c ∷ d ∷ cs) e x h (inl same) (inr (inl at)) = inr (rw (same, at) (le_itself d))
beside (c ∷ d ∷ cs) e x h (inl same) (inr (inr j)) = inr (rw same (lt_is_le d x (In-all (λ y. int_lt d y ≡ true) x cs j h.1.0)))
beside (c ∷ d ∷ cs) e x h (inr i) (inl at) = inl (rw at (lt_is_le c e.start (In-all (λ y. int_lt c y ≡ true) e.start (d ∷ cs) (start_In (d ∷ cs) e i) h.0)))
beside (c ∷ d ∷ cs) e x h (inr i) (inr j) = beside (d ∷ cs) e x h.1 i j

-- a piece isn't empty
pub piece_proper : (cs : List ℤ) (e : Extent) → Ascend cs → In e (pieces cs) → int_lt e.start e.end ≡ true
piece_proper [] e h i = absurd i
piece_proper (c ∷ []) e h i = absurd i
piece_proper (c ∷ d ∷ cs) e h (inl same) = rw same h.0.0
piece_proper (c ∷ d ∷ cs) e h (inr i) = piece_proper (d ∷ cs) e h.1 i

same_side : (x t : ℤ) (e : Extent) → has e t ≡ true → (int_le x e.start ≡ true) ⊎ (int_le e.end x ≡ true) → int_le x t ≡ int_le x e.start
same_side x t e h side = go (and_parts (int_le e.start t) (int_lt t e.end) h) side where
  low : (x s t : ℤ) → int_le s t ≡ true → int_le x s ≡ true → int_le x t ≡ int_le x s
  low x s t p q = grind (arith, ints)

  high : (x s t d : ℤ) → int_le s t ≡ true → int_lt t d ≡ true → int_le d x ≡ true → int_le x t ≡ int_le x s
  high x s t d p q r = grind (arith, ints)

  go : (int_le e.start t ≡ true) × (int_lt t e.end ≡ true) → (int_le x e.start ≡ true) ⊎ (int_le e.end x ≡ true) → int_le x t ≡ int_le x e.start
  go both (inl before) = low x e.start t both.0 before
  go both (inr after) = high x e.start t e.end both.0 both.1 after

-- the same spans have each instant of a piece as have its start
pub alike_in_piece : (ss : List Extent) (e : Extent) (t : ℤ) → In e (pieces (cuts ss)) → has e t ≡ true → AreAlike ss t e.start
alike_in_piece ss e t i h = alike_between ss (cuts ss) t e.start (λ x j. j) (λ x j. same_side x t e h (beside (cuts ss) e x (cuts_ascend ss) i j))

-- an instant of a span is in a piece
pub span_in_piece : (ss : List Extent) (s : Extent) (t : ℤ) → In s ss → has s t ≡ true → IsInPiece (cuts ss) t
span_in_piece ss s t i h = let both = and_parts (int_le s.start t) (int_lt t s.end) h in in_piece (cuts ss) s.start s.end t (cuts_ascend ss) (starts_In s ss i) (ends_In s ss i) both.0 both.1
