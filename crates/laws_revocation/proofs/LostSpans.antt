-- The check of a span that a lost lock overlaps, and requests for locks and ids there.
use Rattle.std.proofs.Common.{◌≡◌, ℕ, ◌≤◌, Bool, true, false, cond, List, [], ◌∷◌, Some, None, Option, Result, Err, refl, sym, ◌∙◌, inl, inr, ap, subst, arith, fold, nat_lt}
use Rattle.std.proofs.lemmas.Bool.{false≢true}
use Rattle.std.proofs.lemmas.Bool.Decides.{nat_tests}
use Rattle.iv_span.specs.Extent.{Extent}
use Rattle.book_rows.specs.Allocation.{known_fault, lost_fault}
use Rattle.book_rows.specs.Grant.{blocks, counters_at, grant_by, grant_lock, is_fit, version_for}
use Rattle.book_rows.specs.LockSteps.{IdRequest, allocate_by, allocated, allotted_outcome, join_known, lock_outcome, locked, pending_for, placed}
use Rattle.book_rows.specs.Lists.{In}
use Rattle.book_rows.specs.Locks.{better, clear_by, is_held, is_lost, least, least_step}
use Rattle.book_rows.specs.Outcome.{Outcome, refused_or, running, running_as, task_of, unless}
use Rattle.book_rows.specs.PublishSteps.{asked, told_of}
use Rattle.book_rows.specs.declared.answers.GrantedLock.{GrantedLock}
use Rattle.book_rows.specs.declared.answers.Counters.{Counters}
use Rattle.book_rows.specs.declared.answers.Place.{Place}
use Rattle.book_rows.specs.declared.kinds.LockKind.TheVariants as LockKinds
use Rattle.book_rows.specs.declared.kinds.TaskStatus.{TaskStatus}
use Rattle.book_rows.specs.declared.replies.Refusal.{Refusal}
use Rattle.book_rows.specs.declared.replies.Refusal.TheVariants as Refusals
use Rattle.book_rows.specs.declared.rows.Book.{Book}
use Rattle.book_rows.specs.declared.rows.PendingRow.{PendingRow}
use Rattle.book_rows.specs.declared.rows.PosseRow.{PosseRow}
use Rattle.book_rows.specs.declared.rows.TaskRow.{TaskRow}
use Rattle.book_rows.specs.declared.rows.Want.{Want}
use Rattle.laws_locks.proofs.Targets.{told_revoked}
use Rattle.laws_chunks.proofs.LookUps.{least_none, least_some}
use Rattle.laws_revocation.specs.LostLocks.{HasLost, IsLeast, KnownIdIsRefused, LockIsRefused, NewIdIsRefused, Runs, SpanIsRefused, ToReplaceIsRefused}

-- ---- the least lock that passes a test

-- not above the one so far
abbrev IsUpTo : ℕ → Option PosseRow → Type 0
IsUpTo n None = Unit {0}
IsUpTo n (Some q) = n ≤ q.number

record IsLow (test : PosseRow → Bool) (best : Option PosseRow) (ps : List PosseRow) (n : ℕ) : Type 0 where
  pub so_far : IsUpTo n best
  pub later : (q : PosseRow) → In q ps → test q ≡ true → n ≤ q.number

better_low : (n : ℕ) (best : Option PosseRow) (x : PosseRow) → n ≤ (better best x).number → IsUpTo n best × (n ≤ x.number)
better_low n None x h = (tt, h)
better_low n (Some q) x h = by_test (nat_lt x.number q.number) refl h where
  by_test : (b : Bool) → nat_lt x.number q.number ≡ b → n ≤ (cond b x q).number → (n ≤ q.number) × (n ≤ x.number)
  by_test true e h = (grind (arith, nat_tests), h)
  by_test false e h = (h, grind (arith, nat_tests))

low_step : (test : PosseRow → Bool) (best : Option PosseRow) (x : PosseRow) (ps : List PosseRow) (n : ℕ) (b : Bool) → test x ≡ b → IsLow test (cond b (Some (better best x)) best) ps n → IsLow test best (x ∷ ps) n
low_step test best x ps n true e h =
    let w = better_low n best x h.so_far in
    record { so_far = w.0; later = λ q i on. elim i as (λ i. n ≤ q.number) [ inl same ↦ subst (λ (y : PosseRow). n ≤ y.number) (sym same) w.1 | inr j ↦ h.later q j on ] }
low_step test best x ps n false e h =
    record {
      so_far = h.so_far;
      later = λ q i on. elim i as (λ i. n ≤ q.number) [ inl same ↦ absurd (false≢true (sym e ∙ subst (λ (y : PosseRow). test y ≡ true) same on)) | inr j ↦ h.later q j on ];
    }

low_from : (test : PosseRow → Bool) (best : Option PosseRow) (ps : List PosseRow) (r : PosseRow) → fold (least_step test) best ps ≡ Some r → IsLow test best ps r.number
low_from test best [] r e = record { so_far = subst (IsUpTo r.number) (sym e) (itself r.number); later = λ q i. absurd i } where
  itself : (n : ℕ) → n ≤ n
  itself n = omega arith
low_from test best (x ∷ ps) r e = low_step test best x ps r.number (test x) refl (low_from test (least_step test best x) ps r e)

least_is : (test : PosseRow → Bool) (qs : List PosseRow) (q : PosseRow) → In q qs → test q ≡ true → (r : Option PosseRow) → least test qs ≡ r → (p : PosseRow) × IsLeast test qs p × (least test qs ≡ Some p)
least_is test qs q i on None e = absurd (false≢true (sym (least_none test qs e q i) ∙ on))
least_is test qs q i on (Some p) e =
    let w = least_some test qs p e in
    (p, record { among = w.0; passes = w.1; least = (low_from test None qs p e).later }, e)

-- the least lock that the task lost in the span
pub lost_there : (qs : List PosseRow) (task source : List ℕ) (span : Extent) → HasLost qs task source span → (p : PosseRow) × IsLeast (is_lost task source span) qs p × (least (is_lost task source span) qs ≡ Some p)
lost_there qs task source span h = least_is (is_lost task source span) qs h.lock h.among h.lost (least (is_lost task source span) qs) refl

pub span_is_refused : SpanIsRefused
span_is_refused qs task source span kind h =
    let w = lost_there qs task source span h in
    (w.0, w.1, ap (λ (o : Option PosseRow). clear_by o (least (is_held task source span kind) qs)) w.2)

-- ---- a running task

pub running_is : (b : Book) (task : List ℕ) (t : TaskRow) (f : TaskRow → Outcome) → Runs b task t → running (task_of task b.tasks) b f ≡ f t
running_is b task t f h = rw h.found (ap (λ (s : TaskStatus). running_as s b (f t)) h.runs)

-- a request there
grant_is_refused : (qs : List PosseRow) (k : Counters) (t : TaskRow) (w : Want) (p : PosseRow) → least (is_lost t.task t.source w.span) qs ≡ Some p → grant_lock qs k t w ≡ Err (Refusals.LockRevoked p.number)
grant_is_refused qs k t w p e = ap (λ (o : Option PosseRow). grant_by o (least (is_fit t w) qs) (least (blocks t w) qs) (version_for w.lock_kind k) qs k t w) e

pub lock_is_refused : LockIsRefused
lock_is_refused b task t kind span now runs lost =
    let w = lost_there b.posses t.task t.source span lost in
    let want : Want = record { lock_kind = kind; span = span } in
    (w.0, w.1, ap (λ (o : Outcome). o.reply) (running_is b task t (locked b want now) runs) ∙ ap (λ (r : Result GrantedLock Refusal). (refused_or r b (lock_outcome b t)).reply) (grant_is_refused b.posses (counters_at b now) t want w.0 w.2))

-- ---- allocate

pub known_id_is_refused : KnownIdIsRefused
known_id_is_refused b task t kind sequence previous at granularity now p runs found fits lost =
    let r : IdRequest = record { lock_kind = kind; sequence = sequence; previous = previous; at = at; granularity = granularity; now = now } in
    let w = lost_there b.posses t.task t.source p.id.span lost in
    let fault : known_fault b.posses t kind at p ≡ Some (Refusals.LockRevoked w.0.number) =
    ap (λ (x : Bool). cond x (lost_fault (least (is_lost t.task t.source p.id.span) b.posses)) (Some (Refusals.SequenceMismatch p.id))) fits ∙ ap lost_fault w.2 in (
      w.0,
      w.1,
      ap (λ (o : Outcome). o.reply) (running_is b task t (allocated b r) runs)
          ∙ (ap (λ (o : Option PendingRow). (allocate_by o b r t).reply) found
          ∙ ap (λ (o : Option Refusal). (unless o b (join_known b now t.task p)).reply) fault),
    )

pub new_id_is_refused : NewIdIsRefused
new_id_is_refused b task t kind sequence previous at granularity now found runs new there lost =
    let r : IdRequest = record { lock_kind = kind; sequence = sequence; previous = previous; at = at; granularity = granularity; now = now } in
    let w = lost_there b.posses t.task t.source found.span lost in
    let want : Want = record { lock_kind = kind; span = found.span } in (
      w.0,
      w.1,
      ap (λ (o : Outcome). o.reply) (running_is b task t (allocated b r) runs)
          ∙ (ap (λ (o : Option PendingRow). (allocate_by o b r t).reply) new
          ∙ (ap (λ (o : Result Place Refusal). (refused_or o b (placed b r t)).reply) there
          ∙ ap (λ (o : Result GrantedLock Refusal). (refused_or o b (λ l. allotted_outcome b t l (pending_for t r found l))).reply) (grant_is_refused b.posses (counters_at b now) t want w.0 w.2))),
    )

-- ---- what a replacement has to read

pub to_replace_is_refused : ToReplaceIsRefused
to_replace_is_refused b task t span runs lost =
    let w = span_is_refused b.posses t.task t.source span LockKinds.Replace lost in
    (w.0, w.1, ap (λ (o : Outcome). o.reply) (running_is b task t (asked b span) runs) ∙ ap (λ (r : Result PosseRow Refusal). (refused_or r b (told_of b)).reply) (told_revoked b.posses t LockKinds.Replace span w.0.number w.2))
