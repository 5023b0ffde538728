-- What the check of an insert or a replacement says of its spans, as the laws of keys need it.
use Rattle.std.proofs.Common.{List, Ok, subst, sym, true, ◌∙◌, ◌≡◌}
use Rattle.std.specs.List.{list_all}
use Rattle.iv_span.specs.Extent.{Extent, overlap}
use Rattle.seg_names.specs.declared.seg_id.SegId.{SegId}
use Rattle.book_rows.specs.Lists.{In}
use Rattle.book_rows.specs.Live.{IsIn, IsOf}
use Rattle.book_rows.specs.Over.{Filling, Target, check_over, is_filled, lock_for}
use Rattle.book_rows.specs.Publications.{Publish}
use Rattle.book_rows.specs.Spans.{is_span}
use Rattle.book_rows.specs.declared.kinds.LockKind.{LockKind}
use Rattle.book_rows.specs.declared.rows.Book.{Book}
use Rattle.book_rows.specs.declared.rows.ChunkRow.{ChunkRow}
use Rattle.book_rows.specs.declared.rows.TaskRow.{TaskRow}
use Rattle.laws_locks.proofs.Targets.{let_through}
use Rattle.laws_chunks.specs.Inserts.{AreDisjoint, IsFilledSpan}
use Rattle.laws_chunks.proofs.CheckedSpans.{IsChecked, IsHeldTarget, are_disjoint, checked, filled_at, held_at, span_in}
use Rattle.laws_chunks.proofs.Spans.{overlap_self}

-- the id is of the chunk that is made of the span
abbrev pub IsMadeIn : TaskRow → Target → SegId → Type 0
IsMadeIn t x a = IsOf t.source x.span x.version a

-- the spans don't overlap; each is filled under a lock of the task, and no id of its chunk is of a chunk that is there
pub record AreTargets (b : Book) (t : TaskRow) (kind : LockKind) (ids tombs : List SegId) (xs : List Target) : Type 0 where
  pub disjoint : AreDisjoint xs
  pub held : (x : Target) → In x xs → IsHeldTarget b.posses t kind x
  pub filled : (x : Target) → In x xs → IsFilledSpan b t kind ids tombs x
  pub parts : (x : Target) → In x xs → is_filled ids tombs x.span ≡ true
  pub fresh : (x : Target) → In x xs → (c : ChunkRow) (a : SegId) → In c b.chunks → IsIn c a → IsMadeIn t x a → ⊥

module _ (b : Book) (t : TaskRow) (kind : LockKind) (given : Publish) (xs : List Target) (proper : list_all is_span given.spans ≡ true) where
  are_targets : IsChecked b.chunks b.posses t kind given xs → AreTargets b t kind given.ids given.tombstones xs
  are_targets c = record {
    disjoint = are_disjoint b t kind given xs proper c;
    held = held_at b t kind given xs proper c;
    filled = filled_at b t kind given xs proper c;
    parts = λ x i. c.filled x.span (span_in b t kind given xs proper c x i);
    fresh = fresh;
  } where
    fresh : (x : Target) → In x xs → (e : ChunkRow) (a : SegId) → In e b.chunks → IsIn e a → IsMadeIn t x a → ⊥
    fresh x i e a j k l =
        let f = filled_at b t kind given xs proper c x i in
        f.free (record {
          chunk = e;
          among = j;
          source_is = sym k.source_is ∙ l.source_is ∙ sym f.source_is;
          version_is = sym k.version_is ∙ l.version_is ∙ f.version_is;
          meets = subst (λ (s : Extent). overlap s x.span ≡ true) (sym l.span_is ∙ k.span_is) (overlap_self x.span f.proper);
        })

pub over_targets : (f : Filling) (b : Book) (t : TaskRow) (given : Publish) (xs : List Target) → list_all is_span given.spans ≡ true
    → check_over f b given t ≡ Ok xs → AreTargets b t (lock_for f) given.ids given.tombstones xs
over_targets f b t given xs proper ok = are_targets b t (lock_for f) given xs proper (checked f b given t xs (let_through f b given t xs ok))
