-- An id that was allocated waits as long as its lock is valid at the end: a lock that is valid then was valid throughout.
use Rattle.std.proofs.Common.{List, [], arith, ap, false, inl, inr, not, subst, sym, true, ℕ, ◌&&◌, ◌++◌, ◌<◌, ◌==◌, ◌∙◌, ◌∷◌, ◌≡◌, ◌≤◌, ◌⊎◌}
use Rattle.std.proofs.lemmas.Bool.{and_from, and_parts, cases_Bool, false≢true}
use Rattle.std.proofs.lemmas.Bool.Decides.{Decides-eqb}
use Rattle.std.specs.List.{list_all, list_any}
use Rattle.std.specs.Prelude.{Option}
use Rattle.seg_names.specs.declared.seg_id.SegId.{SegId}
use Rattle.book_rows.specs.Allocation.{is_root}
use Rattle.book_rows.specs.Answer.{answer, book_after, next}
use Rattle.book_rows.specs.Form.{keeps_form}
use Rattle.book_rows.specs.Lists.{In}
use Rattle.book_rows.specs.Locks.{is_member_of, posse_of}
use Rattle.book_rows.specs.Shape.{all_adds}
use Rattle.book_rows.specs.Sound.{Sound}
use Rattle.book_rows.specs.declared.commands.Command.{Command}
use Rattle.book_rows.specs.declared.commands.Command.TheVariants as Commands
use Rattle.book_rows.specs.declared.replies.Refusal.TheVariants as Refusals
use Rattle.book_rows.specs.declared.replies.Reply.TheVariants as Replies
use Rattle.book_rows.specs.declared.rows.Book.{Book}
use Rattle.book_rows.specs.declared.rows.PendingRow.{PendingRow}
use Rattle.book_rows.specs.declared.rows.PosseRow.{PosseRow}
use Rattle.book_rows.specs.declared.rows.Publication.{Publication}
use Rattle.laws_chunks.proofs.GrantedPlaces.{posse_is}
use Rattle.laws_chunks.proofs.Members.{In-all, In-left, any_In, none_In}
use Rattle.laws_chunks.proofs.PublicationOrder.{gathered_In}
use Rattle.laws_chunks.proofs.Spans.{same_id_means}
use Rattle.laws_revocation.specs.LockNumbers.{HasValidLock, IsOver}
use Rattle.laws_revocation.proofs.LaterLocks.{next_grows, over_stays}
use Rattle.laws_shown.specs.Appended.{IsRootPending}
use Rattle.laws_shown.specs.Growth.{GoesOn}
use Rattle.laws_shown.specs.Waiting.{IsHeldOn}
use Rattle.laws_shown.proofs.Alike.{In-gathered}
use Rattle.laws_shown.proofs.Allocating.{allocated_is_pending}
use Rattle.laws_shown.proofs.Answering.{member_from}
use Rattle.laws_shown.proofs.Appending.{appended_is_shown, pending_is_not_refused}
use Rattle.laws_shown.proofs.GoingOn.{publications_stay}
use Rattle.laws_shown.proofs.StayingPendings.{pendings_stay}
use Rattle.laws_shown.proofs.Testing.{is_on}
use Rattle.laws_ids.specs.Allocated.{AllocatedIsReady, IsAllocated, IsHeld, IsLetThrough, SoundAppendedStaysShown, after_append}
use Rattle.laws_sound.proofs.Joined.{next_is_sound, sound_after}

-- ---- a lock that is valid at the end was valid throughout

-- a valid lock has the number, or it is over
valid_or_over : (n : ℕ) (b : Book) → n < b.next_lock → HasValidLock b.posses n ⊎ IsOver n b
valid_or_over n b low = elim (cases_Bool (list_any (λ q. not q.revoked && (q.number == n)) b.posses)) [
  | inl on ↦ inl (found (any_In (λ q. not q.revoked && (q.number == n)) b.posses on))
  | inr off ↦ inr (record { given = low; lost = λ q i e. revoked q e (none_In (λ q. not q.revoked && (q.number == n)) q b.posses i off) })
] where
  found : (q : PosseRow) × In q b.posses × ((not q.revoked && (q.number == n)) ≡ true) → HasValidLock b.posses n
  found w =
      let both = and_parts (not w.0.revoked) (w.0.number == n) w.2 in
      record { lock = w.0; is_valid = record { among = w.1; valid = is_on w.0.revoked both.0 }; number_is = (Decides-eqb w.0.number n).0 both.1 }

  revoked : (q : PosseRow) → q.number ≡ n → (not q.revoked && (q.number == n)) ≡ false → q.revoked ≡ true
  revoked q e off = elim (cases_Bool q.revoked) [ inl on ↦ on | inr valid ↦ absurd (false≢true (sym off ∙ and_from (not q.revoked) (q.number == n) (ap not valid) ((Decides-eqb q.number n).1 e))) ]

was_valid : (n : ℕ) (cs : List Command) (b : Book) → n < b.next_lock → HasValidLock (book_after b cs).posses n → HasValidLock b.posses n
was_valid n cs b low held = elim (valid_or_over n b low) [
  | inl valid ↦ valid
  | inr over ↦ absurd (false≢true (sym held.is_valid.valid ∙ (over_stays n b cs over).lost held.lock held.is_valid.among held.number_is))
]

-- what no publication added at the end none had added before
adds_stay : (a : SegId) (ms later : List Publication) → GoesOn ms later → In a (all_adds ms) → In a (all_adds later)
adds_stay a ms later goes i =
    let w = gathered_In (λ (m : Publication). m.adds) ms a i in
    subst (λ (xs : List Publication). In a (all_adds xs)) (sym goes.1) (In-gathered (λ (m : Publication). m.adds) (ms ++ goes.0) w.0 a (In-left w.0 ms goes.0 w.1) w.2)

low_after : (n m k : ℕ) → n < m → m ≤ k → n < k
low_after n m k lt le = omega arith

-- so its pending is held on the way
held_on : (p : PendingRow) (cs : List Command) (b : Book) → list_all keeps_form cs ≡ true → Sound b → p.posse < b.next_lock → HasValidLock (book_after b cs).posses p.posse → (In p.root (all_adds (book_after b cs).publications) → ⊥) → IsHeldOn b cs p
held_on p [] b forms sound low held none = record { sound = sound; lock = held.lock; is_valid = held.is_valid; number_is = held.number_is; not_added = none }
held_on p (c ∷ cs) b forms sound low held none =
    let both = and_parts (keeps_form c) (list_all keeps_form cs) forms in
    let here : HasValidLock b.posses p.posse = was_valid p.posse (c ∷ cs) b low held in (
      record { sound = sound; lock = here.lock; is_valid = here.is_valid; number_is = here.number_is; not_added = λ i. none (adds_stay p.root b.publications (book_after b (c ∷ cs)).publications (publications_stay b (c ∷ cs)) i) },
      held_on p cs (next b c) both.1 (next_is_sound b c both.0 sound) (low_after p.posse b.next_lock (next b c).next_lock low (next_grows b (c ∷ []))) held none,
    )

-- ---- the law

-- an allocation and what comes behind it
waits_on : (b : Book) (c : Command) (cs : List Command) (a : SegId) (n : ℕ) → list_all keeps_form (c ∷ cs) ≡ true → Sound b → IsAllocated b c a n → IsHeld (book_after (next b c) cs) a n → IsRootPending (book_after (next b c) cs) a n
waits_on b c cs a n forms sound w held = stays (subst (λ (x : Command). IsRootPending (next b x) a n) (sym w.command_is) pending) where
  pending : IsRootPending (next b (Commands.Allocate w.task w.kind w.sequence w.previous w.at w.granularity w.now)) a n
  pending = allocated_is_pending b w.task w.kind w.sequence w.previous w.at w.granularity w.now a n w.revoked (ap (answer b) (sym w.command_is) ∙ w.answered)

  sound_next : Sound (next b c)
  sound_next = next_is_sound b c (and_parts (keeps_form c) (list_all keeps_form cs) forms).0 sound

  low : (p : PendingRow) → In p (next b c).pendings → p.posse < (next b c).next_lock
  low p i =
      let lock = (sound_next.rooted p i).has_posse in
      subst (λ (m : ℕ). m < (next b c).next_lock) lock.number_is (In-all (λ q. q.number < (next b c).next_lock) lock.posse (next b c).posses lock.is_valid.among sound_next.shape.keys.below)

  root_is : (p : PendingRow) → p.id ≡ a → is_root p ≡ true → p.root ≡ a
  root_is p e root = sym (same_id_means p.id p.root root) ∙ e

  stays : IsRootPending (next b c) a n → IsRootPending (book_after (next b c) cs) a n
  stays (p, i, e, posse, root) = (
    p,
    pendings_stay (next b c) cs p i (held_on p cs (next b c) (and_parts (keeps_form c) (list_all keeps_form cs) forms).1 sound_next (low p i)
        (subst (HasValidLock (book_after (next b c) cs).posses) (sym posse) held.lock) (λ j. held.not_added (subst (λ (x : SegId). In x (all_adds (book_after (next b c) cs).publications)) (root_is p e root) j))),
    e,
    posse,
    root,
  )

-- a task that is a member of the lock of a pending
member_by_number : (b : Book) → Sound b → (q : PosseRow) (n : ℕ) (task : List ℕ) → In q b.posses → q.number ≡ n → In task q.members → is_member_of (posse_of n b.posses) task ≡ true
member_by_number b sound q n task i e member = subst (λ (m : ℕ). is_member_of (posse_of m b.posses) task ≡ true) e (ap (λ (o : Option PosseRow). is_member_of o task) (posse_is b.posses q sound.shape.keys.numbers i) ∙ member_from task q member)

pub sound_appended_stays_shown : SoundAppendedStaysShown
sound_appended_stays_shown b a sound after task ids ranges forms among done t within kept =
    let both = and_parts (keeps_form (Commands.Append task ids ranges)) (list_all keeps_form after) forms in
    let still : Sound (after_append b task ids ranges after) = sound_after after (next b (Commands.Append task ids ranges)) both.1 (next_is_sound b (Commands.Append task ids ranges) both.0 sound) in
    appended_is_shown b task ids ranges after (record { sound = sound; done = done; still_sound = still }) a t among within kept

let_through : (b : Book) (a : SegId) (n : ℕ) → Sound b → IsRootPending b a n → IsLetThrough b a n
let_through b a n sound (p, j, id_is, posse, root) q task ids ranges i e member refused =
    pending_is_not_refused b p task ids ranges j root (member_by_number b sound q p.posse task i (e ∙ sym posse) member) (refused ∙ ap (λ (x : SegId). Replies.Refused (Refusals.NotAllocated x)) (sym id_is))

pub allocated_is_ready : AllocatedIsReady
allocated_is_ready b c cs a n sound forms w held =
    let later : Sound (book_after (next b c) cs) = sound_after (c ∷ cs) b forms sound in
    let waits = waits_on b c cs a n forms sound w held in
    record { waits = waits; let_through = let_through (book_after (next b c) cs) a n later waits; shown = sound_appended_stays_shown (book_after (next b c) cs) a later }
