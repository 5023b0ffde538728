-- Parts of the contents, put one behind another.
use Rattle.std.specs.Prelude.{◌<◌, ◌∷◌, ◌≡◌, ◌≤◌, List, None, Option, Some, [], false, int_le, int_lt, length, slice_get, slice_index_or, take, true, ⊤, ℕ, ℤ}
use Rattle.iv_span.specs.Extent.{has}
use Rattle.seg_names.specs.declared.seg_id.SegId.{SegId}
use Rattle.book_rows.specs.Lists.{In}
use Rattle.book_rows.specs.Shown.{roots_agree}
use Rattle.book_rows.specs.declared.replies.ContentsPart.{ContentsPart}
use Rattle.laws_parts.specs.Laws.{some_roots}
use Rattle.laws_parts.specs.Parts.{AreBuilt, AreParts, put_last}
use Rattle.row_index.specs.Index.{Shows}
use Rattle.timeline_view.specs.Marks.{AreRootsOf, mark_keys}
use Rattle.timeline_view.specs.Sweep.{stretch_span}
use Rattle.timeline_view.specs.Turns.{IsTurnOf, end_turn, start_turn}
use Rattle.timeline_view.specs.declared.marks.Mark.{Mark}
use Rattle.timeline_view.specs.declared.sweep.Stretch.{Stretch}
use Rattle.timeline_view.specs.declared.turns.Turn.{Turn}

-- ---- parts

abbrev pub root_joined : ContentsPart → ContentsPart → ContentsPart
root_joined p q = record p { span = record { start = p.span.start; end = q.span.end } }

abbrev pub put_root : List ContentsPart → ContentsPart → List ContentsPart
put_root ps q = put_last roots_agree root_joined ps q

-- the roots of a piece, where there are some
abbrev pub put_roots : List ContentsPart → ℤ → ℤ → List SegId → List ContentsPart
put_roots ps start end [] = ps
put_roots ps start end (a ∷ as') = put_root ps (record { span = record { start = start; end = end }; roots = a ∷ as' })

-- ---- what is given within stretches

-- none starts before the end of one before it
pub record AreAscending (ps : List Stretch) : Type 0 where
  pub proper : (p : Stretch) → In p ps → int_lt p.start p.end ≡ true
  pub apart : (i j : ℕ) (d : Stretch) → i < j → j < length ps → int_le (slice_index_or ps i d).end (slice_index_or ps j d).start ≡ true

-- at an instant of a stretch the roots of the marks of its version are given, and elsewhere none
pub record AreGiven (ps : List Stretch) (ms : List Mark) (given : ℤ → Option (List SegId)) : Type 0 where
  pub inside : (p : Stretch) (t : ℤ) (roots : List SegId) → In p ps → has (stretch_span p) t ≡ true → AreRootsOf ms p.top.version t roots → given t ≡ some_roots roots
  pub outside : (t : ℤ) → ((p : Stretch) → In p ps → has (stretch_span p) t ≡ false) → given t ≡ None

-- the parts that show these roots, whatever gives them
abbrev pub AreContentsOf : List Stretch → List Mark → List ContentsPart → Type 0
AreContentsOf ps ms qs = (given : ℤ → Option (List SegId)) → AreGiven ps ms given → AreParts (λ (q : ContentsPart). q.span) (λ (q : ContentsPart). q.roots) roots_agree given qs

-- those that show them before an instant
abbrev pub Built : List Stretch → List Mark → ℤ → List ContentsPart → Type 0
Built ps ms c qs = (given : ℤ → Option (List SegId)) → AreGiven ps ms given → AreBuilt (λ (q : ContentsPart). q.span) (λ (q : ContentsPart). q.roots) roots_agree given c qs

-- ---- while turns are taken

-- the first i are taken: a mark that has started and not ended has its key
abbrev pub Waiting : List Mark → List Turn → ℕ → List (((ℕ × ℤ) × ℕ) × ⊤) → Type 0
Waiting ms xs i ks = (s : ℕ) (m : Mark) → slice_get ms s ≡ Some m → In (start_turn s m) (take i xs) → (In (end_turn s m) (take i xs) → ⊥) → Shows (mark_keys m) s ks

-- those of a version come no later than one instant
abbrev pub Passed : List Mark → List Turn → ℤ → ℕ → ℤ → Type 0
Passed ms xs version i from = (x : Turn) (m : Mark) → In x (take i xs) → IsTurnOf ms x m → m.version ≡ version → int_le x.at from ≡ true

-- within a stretch the parts are built up to the last turn of its version
pub record Within (ps : List Stretch) (ms : List Mark) (xs : List Turn) (p : Stretch) (i : ℕ) (ks : List (((ℕ × ℤ) × ℕ) × ⊤)) (qs : List ContentsPart) (from : ℤ) : Type 0 where
  pub waiting : Waiting ms xs i ks
  pub passed : Passed ms xs p.top.version i from
  pub low : int_le p.start from ≡ true
  pub high : int_lt from p.end ≡ true
  pub built : Built ps ms from qs

-- between stretches, of which the first i are passed, up to some instant
pub record Between (ps : List Stretch) (ms : List Mark) (xs : List Turn) (i n : ℕ) (ks : List (((ℕ × ℤ) × ℕ) × ⊤)) (qs : List ContentsPart) : Type 0 where
  pub waiting : Waiting ms xs n ks
  pub bound : n ≤ length xs
  pub cut : ℤ
  pub passed : (x : Turn) → In x (take n xs) → int_le x.at cut ≡ true
  pub before : (p : Stretch) → In p (take i ps) → int_le p.end cut ≡ true
  pub after : (j : ℕ) (d : Stretch) → i ≤ j → j < length ps → int_le cut (slice_index_or ps j d).start ≡ true
  pub built : Built ps ms cut qs
