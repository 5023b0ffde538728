-- Which of some covers is on top at an instant.
use Rattle.std.specs.Prelude.{◌&&◌, ◌≡◌, ◌∷◌, Bool, List, None, Option, Some, [], cond, int_lt, true, false, ℕ, ℤ, ◌≤◌, ◌<◌, ◌≤ℤ◌, length, slice_index_or}
use Rattle.std.specs.Ordering.{bool_cmp, int_cmp, int_eq, is_lt, ordering_then}
use Rattle.std.specs.declared.cmp.Ordering.{Ordering}
use Rattle.iv_span.specs.Extent.{Extent, has}
use Rattle.seg_names.specs.Ids.{same_extent}
use Rattle.book_rows.specs.Lists.{In}
use Rattle.laws_parts.specs.Parts.{AreParts, put_last}
use Rattle.timeline_view.specs.declared.sweep.Cover.{Cover}
use Rattle.timeline_view.specs.declared.sweep.Event.{Event}
use Rattle.timeline_view.specs.declared.sweep.Stretch.{Stretch}

-- the order of covers: by version, then start, then end
abbrev pub cover_cmp : Cover → Cover → Ordering
cover_cmp a b = ordering_then (int_cmp a.version b.version) (ordering_then (int_cmp a.span.start b.span.start) (int_cmp a.span.end b.span.end))

abbrev pub is_below : Cover → Cover → Bool
is_below a b = is_lt (cover_cmp a b)

abbrev pub higher : Cover → Option Cover → Option Cover
higher c None = Some c
higher c (Some d) = cond (is_below c d) (Some d) (Some c)

-- the greatest of the covers that have the instant
abbrev pub top_of : List Cover → ℤ → Option Cover
top_of [] t = None
top_of (c ∷ cs) t = cond (has c.span t) (higher c (top_of cs t)) (top_of cs t)

abbrev pub stretch_span : Stretch → Extent
stretch_span p = record { start = p.start; end = p.end }

abbrev pub same_cover : Cover → Cover → Bool
same_cover a b = int_eq a.version b.version && same_extent a.span b.span

abbrev pub stretches_agree : Stretch → Stretch → Bool
stretches_agree p q = int_eq p.end q.start && same_cover p.top q.top

abbrev pub stretch_joined : Stretch → Stretch → Stretch
stretch_joined p q = record p { end = q.end }

-- the stretches in which one cover is on top
abbrev pub AreStretches : List Cover → List Stretch → Type 0
AreStretches cs ps = AreParts stretch_span (λ (p : Stretch). p.top) stretches_agree (top_of cs) ps

abbrev pub put_stretch : List Stretch → Stretch → List Stretch
put_stretch ps q = put_last stretches_agree stretch_joined ps q

-- ---- the starts and ends

abbrev pub start_of : Cover → Event
start_of c = record { at = c.span.start; enters = true; cover = c }

abbrev pub end_of : Cover → Event
end_of c = record { at = c.span.end; enters = false; cover = c }

-- the starts and ends of the covers, and no others
pub record AreEnds (cs : List Cover) (es : List Event) : Type 0 where
  pub starts : (c : Cover) → In c cs → In (start_of c) es
  pub ends : (c : Cover) → In c cs → In (end_of c) es
  pub cover_of : (e : Event) → In e es → In e.cover cs
  pub start_is : (e : Event) → In e es → e.enters ≡ true → e.at ≡ e.cover.span.start

-- in the order of their instants
abbrev pub DoRise : List Event → Type 0
DoRise es = (i j : ℕ) (d : Event) → i ≤ j → j < length es → (slice_index_or es i d).at ≤ℤ (slice_index_or es j d).at

-- ---- what is left of those that have entered

-- what is taken out ends at or before the instant
pub record KeepsLater (now : ℤ) (old new : List Cover) : Type 0 where
  pub kept : (c : Cover) → In c old → int_lt now c.span.end ≡ true → In c new
  pub back : (c : Cover) → In c new → In c old

-- a greatest one that ends after the instant
pub record IsTopAfter (now : ℤ) (cs : List Cover) (c : Cover) : Type 0 where
  pub among : In c cs
  pub later : int_lt now c.span.end ≡ true
  pub greatest : (d : Cover) → In d cs → is_below c d ≡ false

-- the order of events: by instant first
abbrev pub event_rest : Event → Event → Ordering
event_rest a b = ordering_then (bool_cmp a.enters b.enters) (cover_cmp a.cover b.cover)
