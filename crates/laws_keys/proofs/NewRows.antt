-- The segments that a publish adds.
use Rattle.std.proofs.Common.{List, filter, inl, inr, length, map, subst, sym, ℕ, ◌+◌, ◌++◌, ◌≡◌, ◌⊎◌}
use Rattle.std.proofs.lemmas.Bool.{and_parts}
use Rattle.seg_names.specs.declared.seg_id.SegId.{SegId}
use Rattle.book_rows.specs.Append.{as_row, is_copy_of, is_root_of, rows_of_root}
use Rattle.book_rows.specs.Ids.{is_of_span}
use Rattle.book_rows.specs.Lists.{In, gathered}
use Rattle.book_rows.specs.Over.{Target}
use Rattle.book_rows.specs.Rewrite.{copies_of, core_of, is_copied, is_taken_up, own_row, own_rows, pending_copy, tomb_row, upgrade_copy}
use Rattle.book_rows.specs.declared.rows.Book.{Book}
use Rattle.book_rows.specs.declared.rows.PendingRow.{PendingRow}
use Rattle.book_rows.specs.declared.rows.SegmentRow.{SegmentRow}
use Rattle.book_rows.specs.declared.rows.TaskRow.{TaskRow}
use Rattle.laws_chunks.proofs.Members.{In-append, In-filter, In-map}
use Rattle.laws_chunks.proofs.NumberedRows.{IsNumbered, numbered_In}
use Rattle.laws_chunks.proofs.PublicationOrder.{gathered_In}
use Rattle.laws_chunks.proofs.Spans.{same_id_means}

-- ---- appended

-- the segment of a pending whose root is one of the ids
pub record IsAppended (k : ℕ) (ids : List SegId) (ps : List PendingRow) (r : SegmentRow) : Type 0 where
  pub pending : PendingRow
  pub among : In pending ps
  pub listed : In pending.root ids
  pub is : r ≡ as_row k pending

-- a pending of the root
pub root_row : (k : ℕ) (a : SegId) (ps : List PendingRow) (r : SegmentRow) → In r (rows_of_root k a ps) → (p : PendingRow) × In p ps × (p.root ≡ a) × (r ≡ as_row k p)
root_row k a ps r i =
    let w = In-map (as_row k) r (filter (is_root_of a) ps ++ filter (is_copy_of a) ps) i in
    elim (In-append w.0 (filter (is_root_of a) ps) (filter (is_copy_of a) ps) w.1) [
      | inl j ↦ (let f = In-filter (is_root_of a) w.0 ps j in (w.0, f.0, same_id_means w.0.root a (and_parts _ _ f.1).0, w.2))
      | inr j ↦ (let f = In-filter (is_copy_of a) w.0 ps j in (w.0, f.0, same_id_means w.0.root a (and_parts _ _ f.1).0, w.2))
    ]

pub appended_row : (k : ℕ) (ids : List SegId) (ps : List PendingRow) (r : SegmentRow) → In r (gathered (λ a. rows_of_root k a ps) ids) → IsAppended k ids ps r
appended_row k ids ps r i =
    let w = gathered_In (λ a. rows_of_root k a ps) ids r i in
    let z = root_row k w.0 ps r w.2 in
    record { pending = z.0; among = z.1; listed = subst (λ (a : SegId). In a ids) (sym z.2) w.1; is = z.3 }

-- ---- of the ids and tombstones of a span

abbrev pub IsOwn : ℕ → List SegId → List SegId → Target → SegmentRow → Type 0
IsOwn k ids tombs x r = ((a : SegId) × In a (filter (is_of_span x.span) ids) × (r ≡ own_row k a)) ⊎ ((a : SegId) × In a (filter (is_of_span x.span) tombs) × (r ≡ tomb_row k a))

pub own_is : (k : ℕ) (ids tombs : List SegId) (x : Target) (r : SegmentRow) → In r (own_rows k ids tombs x.span) → IsOwn k ids tombs x r
own_is k ids tombs x r i = elim (In-append r (map (own_row k) (filter (is_of_span x.span) ids)) (map (tomb_row k) (filter (is_of_span x.span) tombs)) i) [
  | inl j ↦ inl (In-map (own_row k) r (filter (is_of_span x.span) ids) j)
  | inr j ↦ inr (In-map (tomb_row k) r (filter (is_of_span x.span) tombs) j)
]

pub own_at : (k : ℕ) (ids tombs : List SegId) (xs : List Target) (r : SegmentRow) → In r (gathered (λ x. own_rows k ids tombs x.span) xs) → (x : Target) × In x xs × IsOwn k ids tombs x r
own_at k ids tombs xs r i =
    let w = gathered_In (λ (x : Target). own_rows k ids tombs x.span) xs r i in
    (w.0, w.1, own_is k ids tombs w.0 r w.2)

-- ---- copies of upgrade roots

abbrev pub IsUpgradeCopy : Book → TaskRow → List SegId → Target → SegmentRow → Type 0
IsUpgradeCopy b t ids x r = IsNumbered (upgrade_copy t.source x.span x.version (length b.publications)) (core_of ids x.span) (filter (is_taken_up x.lock x.span) b.upgrades) r

pub copy_at : (b : Book) (t : TaskRow) (ids : List SegId) (xs : List Target) (r : SegmentRow) → In r (gathered (λ x. (copies_of b t ids x).segments) xs) → (x : Target) × In x xs × IsUpgradeCopy b t ids x r
copy_at b t ids xs r i =
    let w = gathered_In (λ (x : Target). (copies_of b t ids x).segments) xs r i in
    (w.0, w.1, numbered_In (upgrade_copy t.source w.0.span w.0.version (length b.publications)) (core_of ids w.0.span) (filter (is_taken_up w.0.lock w.0.span) b.upgrades) r w.2)

-- ---- copies of pendings

abbrev pub IsPendingCopy : Book → TaskRow → List SegId → Target → PendingRow → Type 0
IsPendingCopy b t ids x p = IsNumbered (pending_copy t.source x.span x.version) (core_of ids x.span + length (filter (is_taken_up x.lock x.span) b.upgrades)) (filter (is_copied t.source x.span) b.pendings) p

pub pending_copy_at : (b : Book) (t : TaskRow) (ids : List SegId) (xs : List Target) (p : PendingRow) → In p (gathered (λ x. (copies_of b t ids x).pendings) xs) → (x : Target) × In x xs × IsPendingCopy b t ids x p
pending_copy_at b t ids xs p i =
    let w = gathered_In (λ (x : Target). (copies_of b t ids x).pendings) xs p i in
    (w.0, w.1, numbered_In (pending_copy t.source w.0.span w.0.version) (core_of ids w.0.span + length (filter (is_taken_up w.0.lock w.0.span) b.upgrades)) (filter (is_copied t.source w.0.span) b.pendings) p w.2)
