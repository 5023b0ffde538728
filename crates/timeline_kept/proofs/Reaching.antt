-- What a list shows between two instants, put behind what is built up to the first, builds up to the second.
use Rattle.std.proofs.Common.{Bool, List, [], arith, cond, false, inl, inr, int_le, int_lt, refl, subst, true, ℤ, ◌&&◌, ◌∙◌, ◌∷◌, ◌++◌, ◌≡◌}
use Rattle.std.specs.Prelude.{None, Option, Some}
use Rattle.std.specs.Int.{int_max, int_min}
use Rattle.std.proofs.lemmas.Bool.{and_parts}
use Rattle.std.proofs.lemmas.Int.{clamps, ints}
use Rattle.iv_span.specs.Extent.{has}
use Rattle.book_rows.specs.Lists.{In}
use Rattle.book_rows.specs.Shown.{ChunkPart}
use Rattle.laws_chunks.proofs.Spans.{le_cases}
use Rattle.laws_parts.specs.Laws.{ChunkShown, chunk_body}
use Rattle.laws_parts.specs.Parts.{HasInstant}
use Rattle.laws_parts.proofs.Building.{built_empty, built_part, built_same}
use Rattle.timeline_kept.specs.Filling.{Built}
use Rattle.timeline_kept.specs.PartLists.{parts_between, put_part, put_parts}
use Rattle.timeline_kept.specs.Shown.{AreMaximal, AreShown, span_of}
use Rattle.timeline_kept.proofs.Showing.{later, maximal, parts_join, rest_maximal}

none_unless : {V : Type 0} (o : Option V) → ((v : V) → o ≡ Some v → ⊥) → o ≡ None
none_unless None f = refl
none_unless (Some v) f = absurd (f v refl)

-- a piece in which nothing is given, and which may be empty
pub built_gap : (given : ℤ → Option ChunkShown) (c d : ℤ) (out : List ChunkPart) → int_le c d ≡ true → ((t : ℤ) → int_le c t ≡ true → int_lt t d ≡ true → given t ≡ None) → Built given c out → Built given d out
built_gap given c d out le none w = elim (le_cases c d le) [
  | inl e ↦ built_same parts_join given c d out e w
  | inr less ↦ built_empty parts_join given c d out less (λ t h. let both = and_parts (int_le c t) (int_lt t d) h in none t both.0 both.1) w
]

max_low : (c p a : ℤ) → int_le c (int_max p a) ≡ true → int_le a c ≡ true → (t : ℤ) → int_le c t ≡ true → int_lt t (int_max p a) ≡ true → int_lt t p ≡ true
max_low c p a h k t l m = grind (arith, ints, clamps)

has_not : (s e t : ℤ) → int_lt t s ≡ true → (int_le s t && int_lt t e) ≡ true → ⊥
has_not s e t h k = grind (arith, ints)

after_not : (s e z f t : ℤ) → int_le e z ≡ true → int_lt s e ≡ true → int_lt t s ≡ true → (int_le z t && int_lt t f) ≡ true → ⊥
after_not s e z f t h p k l = grind (arith, ints)

in_part : (s e a b t : ℤ) → int_le (int_max s a) t ≡ true → int_lt t (int_min e b) ≡ true → (int_le s t && int_lt t e) ≡ true
in_part s e a b t h k = grind (arith, ints, clamps)

within_both : (s e a b t : ℤ) → int_le (int_max s a) t ≡ true → int_lt t (int_min e b) ≡ true → (int_le a t ≡ true) × (int_lt t b ≡ true)
within_both s e a b t h k = (grind (arith, ints, clamps), grind (arith, ints, clamps))

min_low : (e b : ℤ) → int_le (int_min e b) b ≡ true
min_low e b = grind (arith, ints, clamps)

min_first : (e b z a : ℤ) → int_le e z ≡ true → int_le (int_min e b) (int_max z a) ≡ true
min_first e b z a h = grind (arith, ints, clamps)

from_low : (s a e b : ℤ) → int_lt (int_max s a) (int_min e b) ≡ true → int_le a (int_min e b) ≡ true
from_low s a e b h = grind (arith, ints, clamps)

past_not : (s e b t : ℤ) → int_le (int_min e b) t ≡ true → int_lt t b ≡ true → (int_le s t && int_lt t e) ≡ true → ⊥
past_not s e b t h k l = grind (arith, ints, clamps)

none_in : (s e a b t : ℤ) → int_lt (int_max s a) (int_min e b) ≡ false → int_le a t ≡ true → int_lt t b ≡ true → (int_le s t && int_lt t e) ≡ true → ⊥
none_in s e a b t h k l m = grind (arith, ints, clamps)

le_le : (a b c : ℤ) → int_le a b ≡ true → int_le b c ≡ true → int_le a c ≡ true
le_le a b c h k = grind (arith, ints)

lt_le : (a b : ℤ) → int_lt a b ≡ true → int_le a b ≡ true
lt_le a b h = grind (arith, ints)

lt_le_lt : (t m e b : ℤ) → int_lt t m ≡ true → int_lt m (int_min e b) ≡ true → int_lt t b ≡ true
lt_le_lt t m e b h k = grind (arith, ints, clamps)

module _ (given shown : ℤ → Option ChunkShown) (from to : ℤ) (same : (t : ℤ) → int_le from t ≡ true → int_lt t to ≡ true → given t ≡ shown t) where
  -- the parts that are left: they are right, and from the instant c on nothing else is shown up to the end
  record AreLeft (c : ℤ) (ps : List ChunkPart) : Type 0 where
    order : AreMaximal ps
    right : (p : ChunkPart) (t : ℤ) → In p ps → has p.span t ≡ true → shown t ≡ Some (chunk_body p)
    covers : (t : ℤ) (v : ChunkShown) → int_le c t ≡ true → int_lt t to ≡ true → shown t ≡ Some v → HasInstant span_of ps t
    behind : (p : ChunkPart) → In p ps → int_le c (int_max p.span.start from) ≡ true
    low : int_le from c ≡ true
    high : int_le c to ≡ true

  put_left : (c : ℤ) (ps out : List ChunkPart) → AreLeft c ps → Built given c out → Built given to (put_parts out (parts_between from to ps))
  put_left c [] out w b = built_gap given c to out w.high (λ t h k. same t (le_le from c t w.low h) k ∙ none_unless (shown t) (λ v e. (w.covers t v h k e).1)) b
  put_left c (p ∷ ps) out w b = go (int_lt (int_max p.span.start from) (int_min p.span.end to)) refl (put_left c ps) (put_left (int_min p.span.end to) ps) where
    start : ℤ
    start = int_max p.span.start from

    end : ℤ
    end = int_min p.span.end to

    proper : int_lt p.span.start p.span.end ≡ true
    proper = w.order.proper p (inl refl)

    go : (b' : Bool) → int_lt (int_max p.span.start from) (int_min p.span.end to) ≡ b' → ((out' : List ChunkPart) → AreLeft c ps → Built given c out' → Built given to (put_parts out' (parts_between from to ps)))
        → ((out' : List ChunkPart) → AreLeft end ps → Built given end out' → Built given to (put_parts out' (parts_between from to ps)))
        → Built given to (put_parts out (cond b' (record p { span = record { start = start; end = end } } ∷ []) [] ++ parts_between from to ps))
    go false off skip put = skip out rest b where
      rest : AreLeft c ps
      rest = record {
        order = rest_maximal p ps w.order;
        right = λ q t i h. w.right q t (inr i) h;
        covers = λ t v h k e. others t h k (w.covers t v h k e);
        behind = λ q i. w.behind q (inr i);
        low = w.low;
        high = w.high;
      } where
        others : (t : ℤ) → int_le c t ≡ true → int_lt t to ≡ true → HasInstant span_of (p ∷ ps) t → HasInstant span_of ps t
        others t h k (q, (inr i), l) = (q, i, l)
        others t h k (q, (inl e), l) = absurd (none_in p.span.start p.span.end from to t off (le_le from c t w.low h) k (subst (λ (x : ChunkPart). has x.span t ≡ true) e l))
    go true on skip put = put (put_part out (record p { span = record { start = start; end = end } })) rest
        (built_part parts_join given start end out (record p { span = record { start = start; end = end } }) on refl shows gap) where
          gap : Built given start out
          gap = built_gap given c start out (w.behind p (inl refl)) (λ t h k. same t (le_le from c t w.low h) (lt_le_lt t start p.span.end to k on) ∙ none_unless (shown t) (λ v e. nothing t h k (w.covers t v h (lt_le_lt t start p.span.end to k on) e))) b where
            nothing : (t : ℤ) → int_le c t ≡ true → int_lt t start ≡ true → HasInstant span_of (p ∷ ps) t → ⊥
            nothing t h k (q, (inl e), l) = has_not p.span.start p.span.end t (max_low c p.span.start from (w.behind p (inl refl)) w.low t h k) (subst (λ (x : ChunkPart). has x.span t ≡ true) e l)
            nothing t h k (q, (inr i), l) = after_not p.span.start p.span.end q.span.start q.span.end t (later p ps w.order q i) proper (max_low c p.span.start from (w.behind p (inl refl)) w.low t h k) l

          shows : (t : ℤ) → has (record { start = start; end = end }) t ≡ true → given t ≡ Some (chunk_body p)
          shows t h =
              let both = and_parts (int_le start t) (int_lt t end) h in
              let lies = within_both p.span.start p.span.end from to t both.0 both.1 in
              same t lies.0 lies.1 ∙ w.right p t (inl refl) (in_part p.span.start p.span.end from to t both.0 both.1)

          rest : AreLeft end ps
          rest = record {
            order = rest_maximal p ps w.order;
            right = λ q t i h. w.right q t (inr i) h;
            covers = λ t v h k e. others t h k (w.covers t v (le_le c start t (w.behind p (inl refl)) (le_le start end t (lt_le start end on) h)) k e);
            behind = λ q i. min_first p.span.end to q.span.start from (later p ps w.order q i);
            low = from_low p.span.start from p.span.end to on;
            high = min_low p.span.end to;
          } where
            others : (t : ℤ) → int_le end t ≡ true → int_lt t to ≡ true → HasInstant span_of (p ∷ ps) t → HasInstant span_of ps t
            others t h k (q, (inr i), l) = (q, i, l)
            others t h k (q, (inl e), l) = absurd (past_not p.span.start p.span.end to t h k (subst (λ (x : ChunkPart). has x.span t ≡ true) e l))

  max_second : (a b : ℤ) → int_le b (int_max a b) ≡ true
  max_second a b = grind (arith, ints, clamps)

  le_itself : (a : ℤ) → int_le a a ≡ true
  le_itself a = grind (arith, ints)

  pub built_between : (ps out : List ChunkPart) → int_le from to ≡ true → AreShown shown ps → Built given from out → Built given to (put_parts out (parts_between from to ps))
  built_between ps out le w b = put_left from ps out
      (record {
        order = maximal shown ps w;
        right = w.right;
        covers = λ t v h k e. w.covers t v e;
        behind = λ p i. max_second p.span.start from;
        low = le_itself from;
        high = le;
      }) b
