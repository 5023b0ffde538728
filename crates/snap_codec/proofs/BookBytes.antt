-- Books read as they are written.
use Rattle.std.proofs.Common.{◌≡◌, ◌||◌, ◌-◌, ℕ, true, false, cond, List, [], ◌∷◌, ◌++◌, length, Result, Ok, Err, refl, sym, ap, subst, ◌∙◌}
use Rattle.std.specs.List.{AllByRecursion, list_all}
use Rattle.std.proofs.lemmas.List.{append-nil}
use Rattle.wire_fields.specs.Fields.{AreBytes}
use Rattle.book_rows.specs.Lists.{is_empty}
use Rattle.book_rows.specs.Shape.{IsLimited, fits_kind}
use Rattle.book_rows.specs.declared.kinds.PubKind.{PubKind}
use Rattle.book_rows.specs.declared.kinds.PubKind.TheVariants as kind
use Rattle.book_rows.specs.declared.rows.Book.{Book}
use Rattle.book_rows.specs.declared.rows.Publication.{Publication}
use Rattle.book_rows.specs.declared.rows.SegmentRow.{SegmentRow}
use Rattle.cmd_codec.proofs.Readers.{and_true}
use Rattle.snap_codec.specs.Rows.{segment_field, publication_field, book_field}
use Rattle.snap_codec.specs.Fits.{FitsSegment, FitsBook, FitsBy, AreMarked, IsWritten, IsSpelled, may_empty}
use Rattle.snap_codec.specs.Readers.{Reader}
use Rattle.snap_codec.specs.Grammar.{book_by, book_at}
use Rattle.snap_codec.specs.Snapshots.{whole, placed, book_of, WritesBook, IsNoSnapshot}
use Rattle.snap_codec.specs.Earlier.{earlier_book_at, earlier_book_of, HasNoTombstones}
use Rattle.snap_codec.proofs.Spells.{Spells, both, row, step, ok_is}
use Rattle.snap_codec.proofs.SingleFields.{a_long, an_int}
use Rattle.snap_codec.proofs.Combined.{a_list}
use Rattle.snap_codec.proofs.MarkBytes.{none_fit}
use Rattle.snap_codec.proofs.RowBytes.{a_task_row, a_posse_row, a_chunk_row, a_segment_row, a_pending_row, an_upgrade_row, a_publication, an_offset_row, a_supervisor_row, a_sequence_row, IsEarlierSegment, an_earlier_segment_row, IsEarlierPublication, an_earlier_publication}

-- a book, whose segments and publications are read so
book_spelled : {Segment : SegmentRow → Type 0} {segment : Reader SegmentRow} {Published : Publication → Type 0} {publication : Reader Publication}
    → Spells segment_field Segment segment → Spells publication_field Published publication
    → Spells book_field (FitsBy Segment Published) (book_by segment publication)
book_spelled segment publication =
    row _ (λ b. ((b.clock, (b.last, b.next_lock)), ((b.tasks, (b.posses, (b.chunks, (b.segments, (b.pendings, b.upgrades))))), (b.publications, (b.offsets, (b.supervisors, b.sequences)))))) (λ b. refl) (λ v. refl)
    (both
    (both an_int (both an_int a_long))
    (both
    (both (a_list a_task_row) (both (a_list a_posse_row) (both (a_list a_chunk_row) (both (a_list segment) (both (a_list a_pending_row) (a_list an_upgrade_row))))))
    (both (a_list publication) (both (a_list an_offset_row) (both (a_list a_supervisor_row) (a_list a_sequence_row))))))

pub a_book : Spells book_field IsSpelled book_at
a_book = book_spelled a_segment_row a_publication

an_earlier_book : Spells book_field (FitsBy IsEarlierSegment IsEarlierPublication) earlier_book_at
an_earlier_book = book_spelled an_earlier_segment_row an_earlier_publication

-- ---- to the end of the bytes

placed_ok : {A : Type 0} (count : ℕ) (r : Result A ℕ) (a : A) → placed count r ≡ Ok a → r ≡ Ok a
placed_ok count (Ok b) a e = e
placed_ok count (Err left) a e = absurd cc

last_ok : {A : Type 0} (a b : A) (rest : List ℕ) → cond (is_empty rest) (Ok a) (Err (length rest)) ≡ Ok b → (a ≡ b) × (rest ≡ [])
last_ok a b [] e = (ok_is a b e, refl)
last_ok a b (x ∷ xs) e = absurd cc

module _ {A : Type 0} {put : A → List ℕ} {Fits : A → Type 0} {read : Reader A} (s : Spells put Fits read) where
  pub whole_again : (a : A) → Fits a → placed (length (put a)) (whole read (put a)) ≡ Ok a
  unfolding whole
  whole_again a h =
      let e : read (put a) ≡ Ok (a, []) = ap read (sym (append-nil (put a))) ∙ s.again a [] h in
      rw e refl

  pub whole_taken : (bytes : List ℕ) (a : A) → AreBytes bytes → placed (length bytes) (whole read bytes) ≡ Ok a → (bytes ≡ put a) × Fits a
  unfolding whole
  whole_taken bytes a are e =
      let k = step s bytes are (λ (x : A × List ℕ). cond (is_empty x.1) (Ok x.0) (Err (length x.1))) a (placed_ok (length bytes) _ a e) in
      let l = last_ok k.value a k.rest k.more in
      (k.parts ∙ ap (λ (r : List ℕ). put k.value ++ r) l.1 ∙ append-nil (put k.value) ∙ ap put l.0, subst Fits l.0 k.fits)

pub book_again : (b : Book) → IsSpelled b → book_of (book_field b) ≡ Ok b
book_again = whole_again a_book

pub book_taken : (bytes : List ℕ) (b : Book) → AreBytes bytes → book_of bytes ≡ Ok b → (bytes ≡ book_field b) × IsSpelled b
book_taken = whole_taken a_book

-- bytes that don't read are no book's
pub no_snapshot : (bytes : List ℕ) (at : ℕ) → book_of bytes ≡ Err at → IsNoSnapshot bytes
no_snapshot bytes at e b h is =
    let read : book_of bytes ≡ Ok b = ap book_of is ∙ book_again b h in
    let never : Err at ≡ Ok b = sym e ∙ read in
    absurd cc

-- what decoding answers of a book that was read to the end
pub reads_book : (bytes : List ℕ) (b : Book) → AreBytes bytes → whole book_at bytes ≡ Ok b → (book_of bytes ≡ Ok b) × (bytes ≡ book_field b) × IsSpelled b
reads_book bytes b are e =
    let read : book_of bytes ≡ Ok b = ap (placed (length bytes)) e in
    let t = book_taken bytes b are read in
    (read, t.0, t.1)

-- and of bytes that don't read
pub reads_fault : (bytes : List ℕ) (left at : ℕ) → whole book_at bytes ≡ Err left → at ≡ length bytes - left → (book_of bytes ≡ Err at) × IsNoSnapshot bytes
reads_fault bytes left at e is =
    let read : book_of bytes ≡ Err at = ap (placed (length bytes)) e ∙ ap Err (sym is) in
    (read, no_snapshot bytes at read)

-- ---- books without tombstones

all_of : {A : Type 0} {P Q : A → Type 0} → ((a : A) → P a → Q a) → (xs : List A) → AllByRecursion P xs → AllByRecursion Q xs
all_of f [] h = tt
all_of f (x ∷ xs) h = (f x h.0, all_of f xs h.1)

all_both : {A : Type 0} {P Q R : A → Type 0} → ((a : A) → P a → Q a → R a) → (xs : List A) → AllByRecursion P xs → AllByRecursion Q xs → AllByRecursion R xs
all_both f [] h k = tt
all_both f (x ∷ xs) h k = (f x h.0 k.0, all_both f xs h.1 k.1)

segment_now : (r : SegmentRow) → IsEarlierSegment r → FitsSegment r
segment_now r h = (h.0, (h.1.1.0, h.1.1.1))

publication_now : (m : Publication) → IsEarlierPublication m → IsWritten m
publication_now m h = let k = none_fit m.kind m.empties h.1.0 in ((h.0, (k.0, h.1.1)), k.1)

segment_then : (r : SegmentRow) → FitsSegment r → r.tombstone ≡ false → IsEarlierSegment r
segment_then r h e = (h.0, (e, h.1))

publication_then : (m : Publication) → IsWritten m → m.empties ≡ [] → IsEarlierPublication m
publication_then m h e = (h.0.0, (e, h.0.1.1))

-- of a book whose tables but those of segments and publications fit, these two decide
fits_now : (b : Book) → FitsBy IsEarlierSegment IsEarlierPublication b → IsSpelled b
fits_now b h =
    let s = h.1.0 in
    let t = h.1.1 in (
      h.0,
      (
        (s.0, (s.1.0, (s.1.1.0, ((s.1.1.1.0.0, all_of segment_now b.segments s.1.1.1.0.1), s.1.1.1.1)))),
        ((t.0.0, all_of publication_now b.publications t.0.1), t.1),
      ),
    )

fits_then : (b : Book) → IsSpelled b → HasNoTombstones b → FitsBy IsEarlierSegment IsEarlierPublication b
fits_then b h none =
    let s = h.1.0 in
    let t = h.1.1 in (
      h.0,
      (
        (s.0, (s.1.0, (s.1.1.0, ((s.1.1.1.0.0, all_both segment_then b.segments s.1.1.1.0.1 none.0), s.1.1.1.1)))),
        ((t.0.0, all_both publication_then b.publications t.0.1 none.1), t.1),
      ),
    )

-- An earlier snapshot reads as the same book, which has no tombstones.
pub earlier_reads : (bytes : List ℕ) (b : Book) → AreBytes bytes → earlier_book_of bytes ≡ Ok b → (book_of bytes ≡ Ok b) × HasNoTombstones b
earlier_reads bytes b are e =
    let t = whole_taken an_earlier_book bytes b are e in
    let s = t.1.1.0 in (
      ap book_of t.0 ∙ book_again b (fits_now b t.1),
      (all_of (λ r h. h.1.0) b.segments s.1.1.1.0.1, all_of (λ m h. h.1.0) b.publications t.1.1.1.0.1),
    )

-- The bytes of a book without tombstones are an earlier snapshot.
pub earlier_written : (b : Book) → IsSpelled b → HasNoTombstones b → earlier_book_of (book_field b) ≡ Ok b
earlier_written b h none = whole_again an_earlier_book b (fits_then b h none)

-- ---- what is written

-- the values fit, and the tombstones stand where they may
pub spelled : (b : Book) → FitsBook b → AreMarked b.publications → IsSpelled b
spelled b h marks =
    let t = h.1.1 in
    (h.0, (h.1.0, ((t.0.0, all_both (λ m f k. (f, k)) b.publications t.0.1 marks), t.1)))

pub writes_book : (b : Book) (bytes : List ℕ) → bytes ≡ book_field b → FitsBook b → AreMarked b.publications → WritesBook b bytes
writes_book b bytes is h marks =
    let k = spelled b h marks in
    record { bytes_are = is; is_spelled = k; reads = ap book_of is ∙ book_again b k }

marked_by : (k : PubKind) (m : Publication) → fits_kind k m ≡ true → may_empty k || is_empty m.empties ≡ true
marked_by kind.Append m h = (and_true _ (is_empty m.empties) h).1
marked_by kind.Over m h = refl
marked_by kind.Replace m h = refl
marked_by kind.Drop m h = (and_true _ (is_empty m.empties) h).1
marked_by kind.Reset m h = (and_true _ (is_empty m.empties) h).1

marked_all : (ms : List Publication) → list_all (λ m. fits_kind m.kind m) ms ≡ true → AreMarked ms
marked_all [] h = tt
marked_all (m ∷ ms) h =
    let p = and_true (fits_kind m.kind m) (list_all (λ n. fits_kind n.kind n) ms) h in
    (marked_by m.kind m p.0, marked_all ms p.1)

-- A book within its limits can be written.
pub limited_marked : (b : Book) → IsLimited b → AreMarked b.publications
limited_marked b h = marked_all b.publications h.kinds

-- So can a book that was read.
pub spelled_marked : (b : Book) → IsSpelled b → AreMarked b.publications
spelled_marked b h = all_of (λ m k. k.1) b.publications h.1.1.0.1
