-- What is put between two instants, part by part; and lists of parts with their chunks.
use Rattle.std.proofs.Common.{List, [], ap, arith, drop, false, inl, inr, int_le, int_lt, length, map, refl, slice_get, suc, sym, take, true, zero, ℕ, ◌+◌, ◌-◌, ℤ, ◌≤◌, ◌<◌, ◌∙◌, ◌∷◌, ◌++◌, ◌≡◌}
use Rattle.std.specs.Prelude.{None, Some}
use Rattle.std.specs.Int.{int_max, int_min}
use Rattle.std.specs.List.{insert_slice, remove_range, replace_range, slice_range}
use Rattle.std.proofs.lemmas.Int.{clamps, ints}
use Rattle.std.proofs.lemmas.List.{append_assoc, drop_at, drop_more, length-append, length-drop, length-take-le, take-append-drop, take-append-le, take-take, take_at}
use Rattle.iv_span.specs.Extent.{Extent}
use Rattle.book_rows.specs.Lists.{In, gathered}
use Rattle.book_rows.specs.Shown.{ChunkPart, agree, timeline_part}
use Rattle.book_rows.specs.declared.replies.TimelinePart.{TimelinePart}
use Rattle.laws_parts.proofs.Unique.{none_not_some, some_same}
use Rattle.timeline_view.proofs.Places.{got}
use Rattle.timeline_kept.specs.Edges.{Splits, ends_before, starts_by}
use Rattle.laws_parts.proofs.Building.{put_at_end, push_both}
use Rattle.timeline_kept.specs.PartLists.{joined, part_between, parts_between, put_part, put_parts, with_chunk, with_chunks}

-- ---- parts with their chunks

pub parts_of_chunks : (ps : List TimelinePart) (cs : List Extent) → length ps ≡ length cs → map timeline_part (with_chunks ps cs) ≡ ps
parts_of_chunks [] cs e = refl
parts_of_chunks (p ∷ ps) [] e = absurd (omega (arith, e))
parts_of_chunks (p ∷ ps) (c ∷ cs) e = ap (λ (xs : List TimelinePart). p ∷ xs) (parts_of_chunks ps cs (omega (arith, e)))

pub length_chunks : (ps : List TimelinePart) (cs : List Extent) → length ps ≡ length cs → length (with_chunks ps cs) ≡ length ps
length_chunks [] cs e = refl
length_chunks (p ∷ ps) [] e = absurd (omega (arith, e))
length_chunks (p ∷ ps) (c ∷ cs) e = ap suc (length_chunks ps cs (omega (arith, e)))

pub get_chunks : (ps : List TimelinePart) (cs : List Extent) (k : ℕ) (p : TimelinePart) (c : Extent) → slice_get ps k ≡ Some p → slice_get cs k ≡ Some c → slice_get (with_chunks ps cs) k ≡ Some (with_chunk p c)
get_chunks [] cs zero p c h e = absurd (none_not_some None p refl h)
get_chunks [] cs (suc k) p c h e = absurd (none_not_some None p refl h)
get_chunks (q ∷ ps) [] zero p c h e = absurd (none_not_some None c refl e)
get_chunks (q ∷ ps) [] (suc k) p c h e = absurd (none_not_some None c refl e)
get_chunks (q ∷ ps) (d ∷ cs) zero p c h e = ap Some (ap (λ (x : TimelinePart). with_chunk x d) (some_same q p h) ∙ ap (with_chunk p) (some_same d c e))
get_chunks (q ∷ ps) (d ∷ cs) (suc k) p c h e = get_chunks ps cs k p c h e

pub chunks_append : (ps : List TimelinePart) (cs : List Extent) (qs : List TimelinePart) (ds : List Extent) → length ps ≡ length cs → with_chunks (ps ++ qs) (cs ++ ds) ≡ with_chunks ps cs ++ with_chunks qs ds
chunks_append [] [] qs ds e = refl
chunks_append [] (c ∷ cs) qs ds e = absurd (omega (arith, e))
chunks_append (p ∷ ps) [] qs ds e = absurd (omega (arith, e))
chunks_append (p ∷ ps) (c ∷ cs) qs ds e = ap (λ (xs : List ChunkPart). with_chunk p c ∷ xs) (chunks_append ps cs qs ds (omega (arith, e)))

pub chunks_take : (k : ℕ) (ps : List TimelinePart) (cs : List Extent) → with_chunks (take k ps) (take k cs) ≡ take k (with_chunks ps cs)
chunks_take zero ps cs = refl
chunks_take (suc k) [] cs = refl
chunks_take (suc k) (p ∷ ps) [] = refl
chunks_take (suc k) (p ∷ ps) (c ∷ cs) = ap (λ (xs : List ChunkPart). with_chunk p c ∷ xs) (chunks_take k ps cs)

pub chunks_drop : (k : ℕ) (ps : List TimelinePart) (cs : List Extent) → length ps ≡ length cs → with_chunks (drop k ps) (drop k cs) ≡ drop k (with_chunks ps cs)
chunks_drop zero ps cs e = refl
chunks_drop (suc k) [] cs e = refl
chunks_drop (suc k) (p ∷ ps) [] e = absurd (omega (arith, e))
chunks_drop (suc k) (p ∷ ps) (c ∷ cs) e = chunks_drop k ps cs (omega (arith, e))

pub chunks_popped : (ps rest : List TimelinePart) (cs left : List Extent) (p : TimelinePart) (c : Extent) → ps ≡ rest ++ p ∷ [] → cs ≡ left ++ c ∷ [] → length ps ≡ length cs → with_chunks ps cs ≡ with_chunks rest left ++ with_chunk p c ∷ []
chunks_popped ps rest cs left p c e f same = rw (e, f) (chunks_append rest left (p ∷ []) (c ∷ []) long) where
  long : length rest ≡ length left
  long = omega (arith, same, ap length e ∙ length-append rest (p ∷ []), ap length f ∙ length-append left (c ∷ []))

pub chunks_pushed : (ps new : List TimelinePart) (cs more : List Extent) (p : TimelinePart) (c : Extent) → new ≡ ps ++ p ∷ [] → more ≡ cs ++ c ∷ [] → length ps ≡ length cs → with_chunks new more ≡ with_chunks ps cs ++ with_chunk p c ∷ []
chunks_pushed ps new cs more p c e f same = rw (e, f) (chunks_append ps cs (p ∷ []) (c ∷ []) same)

pub chunks_replaced : (ps new qs : List TimelinePart) (cs more ds : List Extent) (from to : ℕ) → length ps ≡ length cs → length qs ≡ length ds → from ≤ length ps → new ≡ replace_range ps from to qs → more ≡ replace_range cs from to ds
    → with_chunks new more ≡ replace_range (with_chunks ps cs) from to (with_chunks qs ds)
chunks_replaced ps new qs cs more ds from to same alike le e f =
    rw (e, f)
    (chunks_append (take from ps ++ qs) (take from cs ++ ds) (drop to ps) (drop to cs) both
    ∙ rw (chunks_append (take from ps) (take from cs) qs ds front, chunks_take from ps cs, chunks_drop to ps cs same) refl) where
      front : length (take from ps) ≡ length (take from cs)
      front = length-take-le from ps le ∙ sym (length-take-le from cs (omega (arith, le, same)))

      both : length (take from ps ++ qs) ≡ length (take from cs ++ ds)
      both = omega (arith, length-append (take from ps) qs, length-append (take from cs) ds, front, alike)

-- ---- items that are turned into their place

module _ {X : Type 0} (front back : List X) (from to n : ℕ) (order : from ≤ to) (within : to ≤ length front) (long : n + (to - from) ≡ length front + length back) where
  inserted_front : take from (insert_slice front to back) ≡ take from front
  inserted_front =
      take-append-le from (take to front ++ back) (drop to front) (omega (arith, order, within, length-append (take to front) back, length-take-le to front within))
      ∙ take-append-le from (take to front) back (omega (arith, order, length-take-le to front within))
      ∙ take-take from to front order

  inserted_back : drop to (insert_slice front to back) ≡ back ++ drop to front
  inserted_back = ap (drop to) (append_assoc (take to front) back (drop to front)) ∙ drop_at (take to front) (back ++ drop to front) to (length-take-le to front within)

  removed : remove_range (insert_slice front to back) from to ≡ replace_range front from to back
  removed = rw (inserted_front, inserted_back) (sym (append_assoc (take from front) back (drop to front)))

  removed_long : length (remove_range (insert_slice front to back) from to) ≡ n
  removed_long = ap length removed ∙ omega (arith, long, order, within, length-append (take from front ++ back) (drop to front), length-append (take from front) back, length-take-le from front (omega (arith, order, within)), length-drop to front)

  inserted_long : length (insert_slice front to back) ≡ length front + length back
  inserted_long = omega (arith, within, length-append (take to front ++ back) (drop to front), length-append (take to front) back, length-take-le to front within, length-drop to front)

  -- in a row of the same length, through both turns
  pub turned : (len : ℕ) (rest moved mid last after : List X) → len ≡ length front + length back → moved ≡ insert_slice front to back → mid ≡ take len (moved ++ rest) → last ≡ remove_range mid from to ++ slice_range mid from to → take n (take len (last ++ after)) ≡ replace_range front from to back
  turned len rest moved mid last after is e f g = take-take n len (last ++ after) (omega (arith, is, long)) ∙ ap (λ (xs : List X). take n (xs ++ after)) turns
      ∙ ap (take n) (append_assoc (remove_range (insert_slice front to back) from to) (slice_range (insert_slice front to back) from to) after)
      ∙ take_at (remove_range (insert_slice front to back) from to) (slice_range (insert_slice front to back) from to ++ after) n removed_long
      ∙ removed where
        whole : mid ≡ insert_slice front to back
        whole = f ∙ take_at moved rest len (ap length e ∙ inserted_long ∙ sym is) ∙ e

        turns : last ≡ remove_range (insert_slice front to back) from to ++ slice_range (insert_slice front to back) from to
        turns = g ∙ ap (λ (xs : List X). remove_range xs from to ++ slice_range xs from to) whole

-- ---- parts put behind others

pub put_joined : (ps rest : List ChunkPart) (l q m : ChunkPart) → ps ≡ rest ++ l ∷ [] → agree l q ≡ true → m ≡ joined l q → rest ++ m ∷ [] ≡ put_part ps q
put_joined ps rest l q m e on is = ap (λ (x : ChunkPart). rest ++ x ∷ []) is ∙ sym (ap (λ (xs : List ChunkPart). put_part xs q) e ∙ put_at_end agree joined rest l q ∙ rw on refl)

pub put_behind : (ps rest : List ChunkPart) (l q : ChunkPart) → ps ≡ rest ++ l ∷ [] → agree l q ≡ false → (rest ++ l ∷ []) ++ q ∷ [] ≡ put_part ps q
put_behind ps rest l q e off = push_both rest l q ∙ sym (ap (λ (xs : List ChunkPart). put_part xs q) e ∙ put_at_end agree joined rest l q ∙ rw off refl)

-- ---- a part between two instants

clip_off : (a b : ℤ) → int_le b a ≡ true → int_lt a b ≡ false
clip_off a b h = grind (arith, ints)

clip_on : (a b : ℤ) → int_le b a ≡ false → int_lt a b ≡ true
clip_on a b h = grind (arith, ints)

pub clip_none : (p : ChunkPart) (from to : ℤ) (out : List ChunkPart) → int_le (int_min p.span.end to) (int_max p.span.start from) ≡ true → out ≡ put_parts out (part_between from to p)
clip_none p from to out h = rw (clip_off (int_max p.span.start from) (int_min p.span.end to) h) refl

pub clip_some : (p : ChunkPart) (from to : ℤ) (out : List ChunkPart) → int_le (int_min p.span.end to) (int_max p.span.start from) ≡ false → put_part out (record p { span = record { start = int_max p.span.start from; end = int_min p.span.end to } }) ≡ put_parts out (part_between from to p)
clip_some p from to out h = rw (clip_on (int_max p.span.start from) (int_min p.span.end to) h) refl

pub put_parts_append : (out xs ys : List ChunkPart) → put_parts out (xs ++ ys) ≡ put_parts (put_parts out xs) ys
put_parts_append out [] ys = refl
put_parts_append out (x ∷ xs) ys = put_parts_append (put_part out x) xs ys

gathered_append : (f : ChunkPart → List ChunkPart) (xs ys : List ChunkPart) → gathered f (xs ++ ys) ≡ gathered f xs ++ gathered f ys
gathered_append f [] ys = refl
gathered_append f (x ∷ xs) ys = ap (λ zs. f x ++ zs) (gathered_append f xs ys) ∙ sym (assoc (f x) (gathered f xs) (gathered f ys)) where
  assoc : (as' bs cs : List ChunkPart) → (as' ++ bs) ++ cs ≡ as' ++ (bs ++ cs)
  assoc [] bs cs = refl
  assoc (a ∷ as') bs cs = ap (λ zs. a ∷ zs) (assoc as' bs cs)

gathered_none : (f : ChunkPart → List ChunkPart) (xs : List ChunkPart) → ((x : ChunkPart) → In x xs → f x ≡ []) → gathered f xs ≡ []
gathered_none f [] none = refl
gathered_none f (x ∷ xs) none = rw (none x (inl refl)) (gathered_none f xs (λ y i. none y (inr i)))

ended_off : (s e a b : ℤ) → int_lt e a ≡ true → int_lt (int_max s a) (int_min e b) ≡ false
ended_off s e a b h = grind (arith, ints, clamps)

started_off : (s e a b : ℤ) → int_le s b ≡ false → int_lt (int_max s a) (int_min e b) ≡ false
started_off s e a b h = grind (arith, ints, clamps)

module _ (from to : ℤ) (ps : List ChunkPart) where
  -- those that end before the first instant give nothing
  pub first_between : (k : ℕ) → Splits (ends_before from) ps k → parts_between from to (drop k ps) ≡ parts_between from to ps
  first_between k s =
      sym (ap (λ (xs : List ChunkPart). parts_between from to xs) (sym (take-append-drop k ps))
      ∙ gathered_append (part_between from to) (take k ps) (drop k ps)
      ∙ ap (λ (xs : List ChunkPart). xs ++ parts_between from to (drop k ps)) (gathered_none (part_between from to) (take k ps) none)) where
        none : (p : ChunkPart) → In p (take k ps) → part_between from to p ≡ []
        none p i = rw (ended_off p.span.start p.span.end from to (s.before p i)) refl

  -- nor do those that start behind the second
  pub last_between : (j k : ℕ) → Splits (starts_by to) ps k → k ≤ j → parts_between from to (drop j ps) ≡ []
  last_between j k s le = gathered_none (part_between from to) (drop j ps) (λ p i. rw (started_off p.span.start p.span.end from to (s.after p (later_drop ps j k le p i))) refl) where
    later_drop : (xs : List ChunkPart) (m n : ℕ) → n ≤ m → (p : ChunkPart) → In p (drop m xs) → In p (drop n xs)
    later_drop xs zero zero h p i = i
    later_drop xs zero (suc n) h p i = absurd (omega (arith, h))
    later_drop [] (suc m) zero h p i = absurd i
    later_drop [] (suc m) (suc n) h p i = absurd i
    later_drop (x ∷ xs) (suc m) zero h p i = inr (later_drop xs m 0 (omega arith) p i)
    later_drop (x ∷ xs) (suc m) (suc n) h p i = later_drop xs m n (omega (arith, h)) p i

  -- one part more
  pub more_between : (k : ℕ) (p : ChunkPart) (out next : List ChunkPart) → slice_get ps k ≡ Some p → next ≡ put_parts out (part_between from to p) → put_parts next (parts_between from to (drop (k + 1) ps)) ≡ put_parts out (parts_between from to (drop k ps))
  more_between k p out next there e =
      ap (λ (xs : List ChunkPart). put_parts xs (parts_between from to (drop (k + 1) ps))) e
      ∙ sym (put_parts_append out (part_between from to p) (parts_between from to (drop (k + 1) ps)))
      ∙ ap (λ (xs : List ChunkPart). put_parts out (parts_between from to xs)) (sym at) where
        at : drop k ps ≡ p ∷ drop (k + 1) ps
        at = let g = got ps k p there in drop_more ps k p g.0 ∙ ap (λ (x : ChunkPart). x ∷ drop (k + 1) ps) (sym g.1)

-- there is an item at each place
pub item_at : (ps : List ChunkPart) (k : ℕ) → k < length ps → (p : ChunkPart) × (slice_get ps k ≡ Some p)
item_at [] k lt = absurd (omega (arith, lt))
item_at (p ∷ ps) zero lt = (p, refl)
item_at (p ∷ ps) (suc k) lt = item_at ps k (omega (arith, lt))
