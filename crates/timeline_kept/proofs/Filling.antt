-- The window of a change, filled span by span: what the old list shows up to a span, and what the new one shows in it.
use Rattle.std.proofs.Common.{Bool, List, [], get_or, length, subst, sym, ◌+◌, ◌<◌, ap, arith, cond, drop, false, int_le, int_lt, refl, slice_get, take, true, ℕ, ℤ, ◌&&◌, ◌∙◌, ◌∷◌, ◌++◌, ◌≡◌, ◌≤◌, ◌<ℤ◌}
use Rattle.std.specs.Prelude.{None, Option, Some}
use Rattle.std.specs.List.{replace_range}
use Rattle.std.proofs.lemmas.Int.{ints}
use Rattle.std.proofs.lemmas.List.{drop_more}
use Rattle.iv_span.specs.Condensed.{AreApart, IsCondensed, StartsAfter, has_any}
use Rattle.iv_span.specs.Extent.{Extent}
use Rattle.book_rows.specs.Shown.{ChunkPart}
use Rattle.book_rows.specs.declared.rows.SegmentRow.{SegmentRow}
use Rattle.laws_parts.specs.Laws.{ChunkShown, chunk_at}
use Rattle.laws_parts.proofs.Building.{nothing_yet}
use Rattle.laws_parts.proofs.Unique.{none_not_some, some_same}
use Rattle.timeline_kept.specs.Edges.{IsLeftEdge, IsRightEdge}
use Rattle.timeline_kept.specs.Filling.{Built, IsFilled, NotBefore, StartsWith}
use Rattle.timeline_kept.specs.PartLists.{parts_between, put_parts}
use Rattle.timeline_kept.specs.Shown.{AreMaximal, AreShown, given_from, given_over, shown_at}
use Rattle.timeline_kept.proofs.Reaching.{built_between}
use Rattle.timeline_kept.proofs.Showing.{moved, parts_join, shown_is, shows}
use Rattle.timeline_kept.proofs.Windows.{window_ordered, window_shown}

off_early : (s e t : ℤ) → int_lt t s ≡ true → (int_le s t && int_lt t e) ≡ false
off_early s e t h = grind (arith, ints)

off_late : (s e t : ℤ) → int_le e t ≡ true → (int_le s t && int_lt t e) ≡ false
off_late s e t h = grind (arith, ints)

on_here : (s e t : ℤ) → int_le s t ≡ true → int_lt t e ≡ true → (int_le s t && int_lt t e) ≡ true
on_here s e t h k = grind (arith, ints)

sooner : (t s e z : ℤ) → int_lt t s ≡ true → s <ℤ e → e <ℤ z → int_lt t z ≡ true
sooner t s e z h k l = grind (arith, ints)

le_le : (a b c : ℤ) → int_le a b ≡ true → int_le b c ≡ true → int_le a c ≡ true
le_le a b c h k = grind (arith, ints)

lt_le : (a b : ℤ) → a <ℤ b → int_le a b ≡ true
lt_le a b h = grind (arith, ints)

le_off : (a t : ℤ) → int_le a t ≡ true → int_lt t a ≡ false
le_off a t h = grind (arith, ints)

-- before the first span none has the instant
pub none_early : (s : Extent) (ss : List Extent) (t : ℤ) → AreApart (s ∷ ss) → int_lt t s.start ≡ true → has_any (s ∷ ss) t ≡ false
none_early s [] t w h = rw (off_early s.start s.end t h) refl
none_early s (r ∷ ss) t w h = rw (off_early s.start s.end t h) (none_early r ss t w.2 (sooner t s.start s.end r.start h w.0 w.1))

module _ (start : ℤ) (given : ℤ → Option ChunkShown) (ps qs : List ChunkPart) (v : AreMaximal ps) (w : AreMaximal qs) where
  on_from : (t at : ℤ) → int_le start at ≡ true → int_le at t ≡ true → given_from start given t ≡ given t
  on_from t at h k = rw (le_off start t (le_le start at t h k)) refl

  -- one span more
  pub fills : (s : Extent) (ss : List Extent) (at : ℤ) (out : List ChunkPart) → IsFilled start given ps qs (s ∷ ss) at out
      → IsFilled start given ps qs ss s.end (put_parts (put_parts out (parts_between at s.start ps)) (parts_between s.start s.end qs))
  fills s ss at out f = record {
    from = le_le start at s.end f.from (le_le at s.start s.end f.next short);
    rest = λ t h. f.rest t (le_le at s.end t (le_le at s.start s.end f.next short) h) ∙ rw (off_late s.start s.end t h) refl;
    apart = f.apart.2;
    next = follows ss f.apart.1;
    built = built_between (given_from start given) (shown_at qs) s.start s.end inside qs (put_parts out (parts_between at s.start ps)) short (shows qs w)
        (built_between (given_from start given) (shown_at ps) at s.start gap ps out f.next (shows ps v) f.built);
  } where
    short : int_le s.start s.end ≡ true
    short = lt_le s.start s.end f.apart.0

    gap : (t : ℤ) → int_le at t ≡ true → int_lt t s.start ≡ true → given_from start given t ≡ shown_at ps t
    gap t h k = on_from t at f.from h ∙ f.rest t h ∙ rw (none_early s ss t f.apart k) refl

    inside : (t : ℤ) → int_le s.start t ≡ true → int_lt t s.end ≡ true → given_from start given t ≡ shown_at qs t
    inside t h k = on_from t at f.from (le_le at s.start t f.next h) ∙ f.rest t (le_le at s.start t f.next h) ∙ rw (on_here s.start s.end t h k) refl

    follows : (rs : List Extent) → StartsAfter s.end rs → NotBefore s.end rs
    follows [] h = tt
    follows (r ∷ rs) h = lt_le s.end r.start h

  -- the same, of the span at a place
  pub fills_next : (spans : List Extent) (i : ℕ) (s : Extent) (at : ℤ) (out mid next : List ChunkPart) → i < length spans → s ≡ get_or spans i s → IsFilled start given ps qs (drop i spans) at out → mid ≡ put_parts out (parts_between at s.start ps)
      → next ≡ put_parts mid (parts_between s.start s.end qs) → IsFilled start given ps qs (drop (i + 1) spans) s.end next
  fills_next spans i s at out mid next lt is f e g = subst (λ (xs : List ChunkPart). IsFilled start given ps qs (drop (i + 1) spans) s.end xs) (sym (g ∙ ap (λ (xs : List ChunkPart). put_parts xs (parts_between s.start s.end qs)) e))
      (fills s (drop (i + 1) spans) at out (subst (λ (xs : List Extent). IsFilled start given ps qs xs at out) (drop_more spans i s lt ∙ ap (λ (x : Extent). x ∷ drop (i + 1) spans) (sym is)) f))

  -- the rest of the window
  pub filled : (at end : ℤ) (out : List ChunkPart) → int_le at end ≡ true → IsFilled start given ps qs [] at out → Built (given_from start given) end (put_parts out (parts_between at end ps))
  filled at end out le f = built_between (given_from start given) (shown_at ps) at end (λ t h k. on_from t at f.from h ∙ f.rest t h) ps out le (shows ps v) f.built

  -- none of it is filled
  pub unfilled : (ss : List Extent) → AreApart ss → NotBefore start ss → ((t : ℤ) → given t ≡ given_over ss (shown_at qs) (shown_at ps) t) → IsFilled start given ps qs ss start []
  unfilled ss apart next is = record {
    from = le_itself start;
    rest = λ t h. is t;
    apart = apart;
    next = next;
    built = nothing_yet parts_join (given_from start given) start (λ t h. rw h refl);
  } where
    le_itself : (a : ℤ) → int_le a a ≡ true
    le_itself a = grind (arith, ints)

-- ---- the whole change

pub same_spans : (spans pieces : List Extent) (ps qs : List ChunkPart) → IsCondensed spans pieces → (t : ℤ) → given_over pieces (shown_at qs) (shown_at ps) t ≡ given_over spans (shown_at qs) (shown_at ps) t
same_spans spans pieces ps qs c t = ap (λ (b : Bool). cond b (shown_at qs t) (shown_at ps t)) (c.same t)

pub patched : (spans : List Extent) (s : Extent) (ss : List Extent) (ps qs out : List ChunkPart) (at start end : ℤ) (i j : ℕ) → AreMaximal ps → AreMaximal qs → IsCondensed spans (s ∷ ss)
    → IsLeftEdge ps s.start i start → IsFilled start (given_over (s ∷ ss) (shown_at qs) (shown_at ps)) ps qs [] at out → IsRightEdge ps at j end
    → AreShown (given_over spans (shown_at qs) (shown_at ps)) ((take i ps ++ put_parts out (parts_between at end ps)) ++ drop j ps) × (i ≤ j)
patched spans s ss ps qs out at start end i j v w c l f r =
    let given : ℤ → Option ChunkShown = given_over (s ∷ ss) (shown_at qs) (shown_at ps) in
    let new : List ChunkPart = put_parts out (parts_between at end ps) in
    let built : Built (given_from start given) end new = filled start given ps qs v w at end out r.high f in (
      moved given (given_over spans (shown_at qs) (shown_at ps)) (same_spans spans (s ∷ ss) ps qs c) ((take i ps ++ new) ++ drop j ps)
          (window_shown given (shown_at ps) ps new s.start at start end i j (shows ps v) low f.rest f.from l r built),
      window_ordered given (shown_at ps) ps new s.start at start end i j (shows ps v) low f.rest f.from l r built,
    ) where
      low : (t : ℤ) → int_lt t s.start ≡ true → given_over (s ∷ ss) (shown_at qs) (shown_at ps) t ≡ shown_at ps t
      low t h = rw (none_early s ss t c.apart h) refl

-- the window of spans that are apart
pub windowed : (spans : List Extent) (first : Extent) (ps qs out new : List ChunkPart) (at start end : ℤ) (i j : ℕ) → AreMaximal ps → AreMaximal qs → AreApart spans → StartsWith first spans
    → IsLeftEdge ps first.start i start → IsFilled start (given_over spans (shown_at qs) (shown_at ps)) ps qs [] at out → IsRightEdge ps at j end → new ≡ put_parts out (parts_between at end ps)
    → AreShown (given_over spans (shown_at qs) (shown_at ps)) (replace_range ps i j new) × (i ≤ j)
windowed spans first ps qs out new at start end i j v w apart (rest, e) l f r is = by (
    patched spans first rest ps qs out at start end i j v w (record { same = λ t. ap (λ (xs : List Extent). has_any xs t) (sym e); apart = subst AreApart e apart }) l
    (subst (λ (xs : List Extent). IsFilled start (given_over xs (shown_at qs) (shown_at ps)) ps qs [] at out) e f) r
    ) where
      by : AreShown (given_over spans (shown_at qs) (shown_at ps)) ((take i ps ++ put_parts out (parts_between at end ps)) ++ drop j ps) × (i ≤ j) → AreShown (given_over spans (shown_at qs) (shown_at ps)) (replace_range ps i j new) × (i ≤ j)
      by (shown, order) = (subst (λ (xs : List ChunkPart). AreShown (given_over spans (shown_at qs) (shown_at ps)) (replace_range ps i j xs)) (sym is) shown, order)

pub begins : (first : Extent) (spans : List Extent) (start : ℤ) → StartsWith first spans → int_le start first.start ≡ true → NotBefore start spans
begins first spans start (rest, e) le = subst (λ (xs : List Extent). NotBefore start xs) (sym e) le

pub unpatched : (spans : List Extent) (ps qs : List ChunkPart) → AreMaximal ps → IsCondensed spans [] → AreShown (given_over spans (shown_at qs) (shown_at ps)) ps
unpatched spans ps qs v c = moved (shown_at ps) (given_over spans (shown_at qs) (shown_at ps)) (same_spans spans [] ps qs c) ps (shows ps v)

-- of the pieces of the spans
pub patched_over : (spans pieces : List Extent) (ps qs new : List ChunkPart) → IsCondensed spans pieces → AreShown (given_over pieces (shown_at qs) (shown_at ps)) new → AreShown (given_over spans (shown_at qs) (shown_at ps)) new
patched_over spans pieces ps qs new c w = moved (given_over pieces (shown_at qs) (shown_at ps)) (given_over spans (shown_at qs) (shown_at ps)) (same_spans spans pieces ps qs c) new w

pub no_first : (spans : List Extent) → slice_get spans 0 ≡ None → spans ≡ []
no_first [] h = refl
no_first (s ∷ ss) h = absurd (none_not_some (Some s) s h refl)

pub first_is : (spans : List Extent) (s : Extent) → slice_get spans 0 ≡ Some s → StartsWith s spans
first_is [] s h = absurd (none_not_some None s refl h)
first_is (r ∷ rs) s h = (rs, ap (λ (x : Extent). x ∷ rs) (some_same r s h))

-- what the rows show, where the new list shows it
pub shown_rows : (spans : List Extent) (rows : List SegmentRow) (source : List ℕ) (fresh ps new : List ChunkPart) → AreShown (chunk_at rows source) fresh → AreShown (given_over spans (shown_at fresh) (shown_at ps)) new → AreShown (given_over spans (chunk_at rows source) (shown_at ps)) new
shown_rows spans rows source fresh ps new w h = moved (given_over spans (shown_at fresh) (shown_at ps)) (given_over spans (chunk_at rows source) (shown_at ps)) (λ t. ap (λ (v : Option ChunkShown). cond (has_any spans t) v (shown_at ps t)) (shown_is (chunk_at rows source) fresh w t)) new h
