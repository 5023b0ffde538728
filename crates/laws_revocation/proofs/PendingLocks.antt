-- Pendings are of valid locks.
use Rattle.std.proofs.Common.{◌≡◌, ℕ, ◌+◌, ◌==◌, ◌&&◌, ◌||◌, not, Bool, true, false, List, [], ◌∷◌, ◌++◌, map, filter, length, refl, sym, ◌∙◌, inl, inr, ap, subst}
use Rattle.std.proofs.lemmas.Bool.{and_from, and_parts, cases_Bool, false≢true}
use Rattle.seg_names.specs.declared.seg_id.SegId.{SegId}
use Rattle.book_rows.specs.Allocation.{allotted_id, allotted_row}
use Rattle.book_rows.specs.Answer.{book_after, empty_book, next}
use Rattle.book_rows.specs.Grant.{revoked_in}
use Rattle.book_rows.specs.Ids.{is_listed}
use Rattle.book_rows.specs.Lists.{In, gathered, is_empty, stands_in}
use Rattle.book_rows.specs.Locks.{after_leave, ends, ends_at, left, stays, stripped}
use Rattle.book_rows.specs.Over.{Target}
use Rattle.book_rows.specs.Rewrite.{copies_of, core_of, is_copied, is_taken_up, pending_copy}
use Rattle.book_rows.specs.declared.answers.NewPending.{NewPending}
use Rattle.book_rows.specs.declared.rows.Book.{Book}
use Rattle.book_rows.specs.declared.rows.PendingRow.{PendingRow}
use Rattle.book_rows.specs.declared.rows.PosseRow.{PosseRow}
use Rattle.book_rows.specs.declared.rows.TaskRow.{TaskRow}
use Rattle.laws_chunks.proofs.Members.{In-append, In-filter, In-left, any_from_In, filter_In, map_In}
use Rattle.laws_chunks.proofs.NumberedRows.{numbered_In}
use Rattle.laws_chunks.proofs.PublicationOrder.{gathered_In}
use Rattle.laws_revocation.specs.HeldPendings.{EndingTakesPendings, HasHeldPendings, HasNoPending, HeldPendingsStay, NoPendingComes, ReachedHasHeldPendings, RevokingTakesPendings, SoundHasHeldPendings}
use Rattle.laws_revocation.specs.LockNumbers.{HasValidLock, IsOver}
use Rattle.laws_revocation.proofs.EachStep.{after_keeps}
use Rattle.laws_revocation.proofs.Facts.{Fact, IsKept, with_members}
use Rattle.laws_revocation.proofs.LaterLocks.{over_stays, revoked_is_over}
use Rattle.laws_revocation.proofs.Numbering.{numbers_stay}

pub sound_has_held_pendings : SoundHasHeldPendings
sound_has_held_pendings b h p i = let w = (h.rooted p i).has_posse in record { lock = w.posse; is_valid = w.is_valid; number_is = w.number_is }

-- each of the pendings is of a valid one of the locks
abbrev pub AreHeld : List PosseRow → List PendingRow → Type 0
AreHeld qs ps = (p : PendingRow) → In p ps → HasValidLock qs p.posse

-- ---- locks change

is_off : (b : Bool) → not b ≡ true → b ≡ false
is_off true e = sym e
is_off false e = refl

-- what isn't stripped
left_over : (gone : ℕ → Bool) (ps : List PendingRow) (p : PendingRow) → In p (stripped gone ps) → In p ps × (gone p.posse ≡ false)
left_over gone ps p i = let w = In-filter (λ p. not (gone p.posse)) p ps i in (w.0, is_off (gone p.posse) w.1)

held_members : (ms : PosseRow → List (List ℕ)) (qs : List PosseRow) (n : ℕ) → HasValidLock qs n → HasValidLock (map (with_members ms) qs) n
held_members ms qs n h = record {
  lock = with_members ms h.lock;
  is_valid = record { among = map_In (with_members ms) h.lock qs h.is_valid.among; valid = h.is_valid.valid };
  number_is = h.number_is;
}

held_revoked : (ns : List ℕ) (qs : List PosseRow) (n : ℕ) → stands_in ns n ≡ false → HasValidLock qs n → HasValidLock (map (revoked_in ns) qs) n
held_revoked ns qs n off h = record {
  lock = revoked_in ns h.lock;
  is_valid = record { among = map_In (revoked_in ns) h.lock qs h.is_valid.among; valid = neither h.lock.revoked (stands_in ns h.lock.number) h.is_valid.valid (rw h.number_is off) };
  number_is = h.number_is;
} where
  neither : (a b : Bool) → a ≡ false → b ≡ false → (a || b) ≡ false
  neither a b e f = rw (e, f) refl

held_more : (qs : List PosseRow) (new : PosseRow) (n : ℕ) → HasValidLock qs n → HasValidLock (qs ++ new ∷ []) n
held_more qs new n h = record { lock = h.lock; is_valid = record { among = In-left h.lock qs (new ∷ []) h.is_valid.among; valid = h.is_valid.valid }; number_is = h.number_is }

-- a lock of a number that doesn't end when the task leaves stays
held_left : (number : ℕ) (task : List ℕ) (qs : List PosseRow) (n : ℕ) → ends_at number task qs n ≡ false → HasValidLock qs n → HasValidLock (after_leave number task qs) n
held_left number task qs n off h = record {
  lock = left number task h.lock;
  is_valid = record { among = filter_In (stays number) (left number task h.lock) (map (left number task) qs) mapped remains; valid = h.is_valid.valid };
  number_is = h.number_is;
} where
  mapped : In (left number task h.lock) (map (left number task) qs)
  mapped = map_In (left number task) h.lock qs h.is_valid.among

  -- else the lock would end
  would_end : ((h.lock.number == number) && is_empty (left number task h.lock).members) ≡ true → ends_at number task qs n ≡ true
  would_end on =
      and_from (n == number) (ends number task qs)
      (subst (λ (m : ℕ). (m == number) ≡ true) h.number_is (and_parts (h.lock.number == number) (is_empty (left number task h.lock).members) on).0)
      (any_from_In (λ (p : PosseRow). (p.number == number) && is_empty p.members) (left number task h.lock) (map (left number task) qs) mapped on)

  remains : stays number (left number task h.lock) ≡ true
  remains = elim (cases_Bool ((h.lock.number == number) && is_empty (left number task h.lock).members)) [
    | inl on ↦ absurd (false≢true (sym off ∙ would_end on))
    | inr off_here ↦ ap not off_here
  ]

-- ---- pendings come and go

-- a copy is of its root's lock
copies_held : (b : Book) (t : TaskRow) (ids : List SegId) (xs : List Target) → AreHeld b.posses b.pendings → AreHeld b.posses (b.pendings ++ gathered (λ x. (copies_of b t ids x).pendings) xs)
copies_held b t ids xs h p i = elim (In-append p b.pendings (gathered (λ x. (copies_of b t ids x).pendings) xs) i) [
  | inl old ↦ h p old
  | inr new ↦ (let w = gathered_In (λ x. (copies_of b t ids x).pendings) xs p new in
      let z = numbered_In (pending_copy t.source w.0.span w.0.version) (core_of ids w.0.span + length (filter (is_taken_up w.0.lock w.0.span) b.upgrades)) (filter (is_copied t.source w.0.span) b.pendings) p w.2 in
      subst (HasValidLock b.posses) (ap (λ (x : PendingRow). x.posse) (sym z.is)) (h z.item (In-filter (is_copied t.source w.0.span) z.item b.pendings z.among).0))
]

allotted_held : (n : NewPending) (qs : List PosseRow) (ps : List PendingRow) (a : SegId) → HasValidLock qs n.posse → AreHeld qs ps → AreHeld qs (ps ++ allotted_row a n ∷ [])
allotted_held n qs ps a lock h p i = elim (In-append p ps (allotted_row a n ∷ []) i) [
  | inl old ↦ h p old
  | inr (inl same) ↦ subst (HasValidLock qs) (ap (λ (x : PendingRow). x.posse) (sym same)) lock
  | inr (inr none) ↦ absurd none
]

abbrev held_fact : Fact
held_fact next qs ps cs = AreHeld qs ps

held_kept : IsKept (λ c. Unit {0}) held_fact
held_kept = record {
  members = λ ms next qs ps cs h p i. held_members ms qs p.posse (h p i);
  revoked = λ ns next qs ps cs h p i. (let w = left_over (stands_in ns) ps p i in held_revoked ns qs p.posse w.1 (h p w.0));
  made = λ q next qs ps cs new h p i. held_more qs q p.posse (h p i);
  left = λ n task next qs ps cs h p i. (let w = left_over (ends_at n task qs) ps p i in held_left n task qs p.posse w.1 (h p w.0));
  allotted = λ n next qs ps cs lock h. allotted_held n qs ps (allotted_id cs n) lock h;
  appended = λ ids next qs ps cs h p i. h p (In-filter (λ p. not (is_listed ids p.root)) p ps i).0;
  inserted = λ b t task given xs form e h. h;
  replaced = λ b t task given xs form e h. copies_held b t given.ids xs h;
}

pub held_pendings_stay : HeldPendingsStay
held_pendings_stay b cs h = after_keeps held_fact held_kept b cs h

pub reached_has_held_pendings : ReachedHasHeldPendings
reached_has_held_pendings cs = held_pendings_stay empty_book cs (λ p i. absurd i)

-- ---- so none is of a lock that is revoked or gone

pub over_has_none : (n : ℕ) (b : Book) → HasHeldPendings b → IsOver n b → HasNoPending n b
over_has_none n b h over p i e = let w = h p i in false≢true (sym w.is_valid.valid ∙ over.lost w.lock w.is_valid.among (w.number_is ∙ e))

pub revoking_takes_pendings : RevokingTakesPendings
revoking_takes_pendings b c q numbers held i e =
    over_has_none q.number (next b c) (held_pendings_stay b (c ∷ []) held) (revoked_is_over (next b c) q (numbers_stay b (c ∷ []) numbers) i e)

pub ending_takes_pendings : EndingTakesPendings
ending_takes_pendings b c n held none p i e = let w = held_pendings_stay b (c ∷ []) held p i in none w.lock w.is_valid.among (w.number_is ∙ e)

pub no_pending_comes : NoPendingComes
no_pending_comes n b cs held over = over_has_none n (book_after b cs) (held_pendings_stay b cs held) (over_stays n b cs over)
