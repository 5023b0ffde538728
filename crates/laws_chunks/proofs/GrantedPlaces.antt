-- What a granted request leaves open, and the lock that it gives.
use Rattle.std.proofs.Common.{Bool, List, None, Ok, Option, Some, [], ap, bytes_eq, cond, false, inl, map, not, refl, subst, sym, true, ℤ, ◌&&◌, ◌==◌, ◌||◌, ◌∙◌, ◌∷◌, ◌≡◌}
use Rattle.std.proofs.lemmas.Bool.{and_parts, false≢true}
use Rattle.std.proofs.lemmas.Bool.Decides.{Decides-eqb}
use Rattle.std.proofs.lemmas.List.{append-nil}
use Rattle.std.proofs.lemmas.Slice.Eq.{bytes_eq-Decides}
use Rattle.iv_span.specs.Extent.{covers}
use Rattle.seg_names.specs.declared.seg_id.SegId.{SegId}
use Rattle.book_rows.specs.Grant.{book_granted, grant_lock, is_fit, joined_in, joins_lock, joins_row, last_after, makes_lock, makes_row, new_row, numbers_against, posses_after, revoked_in, version_for}
use Rattle.book_rows.specs.Kinds.{same_kind}
use Rattle.book_rows.specs.Lists.{In, stands_in}
use Rattle.book_rows.specs.Live.{IsValid}
use Rattle.book_rows.specs.Locks.{HasDistinctNumbers, is_member, posse_of, stripped}
use Rattle.book_rows.specs.declared.answers.GrantedLock.{GrantedLock}
use Rattle.book_rows.specs.declared.answers.Counters.{Counters}
use Rattle.book_rows.specs.declared.kinds.LockKind.{LockKind}
use Rattle.book_rows.specs.declared.rows.Book.{Book}
use Rattle.book_rows.specs.declared.rows.PosseRow.{PosseRow}
use Rattle.book_rows.specs.declared.rows.TaskRow.{TaskRow}
use Rattle.book_rows.specs.declared.rows.Want.{Want}
use Rattle.laws_locks.proofs.Grants.{lock_cases}
use Rattle.laws_chunks.specs.ChunksSound.{AreChunksSound}
use Rattle.laws_chunks.specs.LockMoves.{joined_locks, revoked}
use Rattle.laws_chunks.specs.Openings.{IsOpen}
use Rattle.laws_chunks.specs.Places.{IsOpenIn}
use Rattle.laws_chunks.proofs.GrantedRequests.{AreCounters, is_grant}
use Rattle.laws_chunks.proofs.LockFacts.{one_number}
use Rattle.laws_chunks.proofs.LookUps.{find_none, find_some, least_some}
use Rattle.laws_chunks.proofs.LosingLocks.{join_keeps, revoke_keeps}
use Rattle.laws_chunks.proofs.Members.{In-left, In-right, map_In}
use Rattle.laws_chunks.proofs.OpenPlacesFound.{grant_open, join_open, revoke_open}
use Rattle.laws_chunks.proofs.Spans.{covers_self}
use Rattle.book_rows.specs.declared.kinds.LockKind.TheVariants as LockKinds

-- ---- the kinds are the same

pub same_kind_means : (k l : LockKind) → same_kind k l ≡ true → k ≡ l
same_kind_means LockKinds.Exclusive LockKinds.Exclusive h = refl
same_kind_means LockKinds.Exclusive LockKinds.Shared h = absurd (false≢true h)
same_kind_means LockKinds.Exclusive LockKinds.Append h = absurd (false≢true h)
same_kind_means LockKinds.Exclusive LockKinds.Replace h = absurd (false≢true h)
same_kind_means LockKinds.Shared LockKinds.Exclusive h = absurd (false≢true h)
same_kind_means LockKinds.Shared LockKinds.Shared h = refl
same_kind_means LockKinds.Shared LockKinds.Append h = absurd (false≢true h)
same_kind_means LockKinds.Shared LockKinds.Replace h = absurd (false≢true h)
same_kind_means LockKinds.Append LockKinds.Exclusive h = absurd (false≢true h)
same_kind_means LockKinds.Append LockKinds.Shared h = absurd (false≢true h)
same_kind_means LockKinds.Append LockKinds.Append h = refl
same_kind_means LockKinds.Append LockKinds.Replace h = absurd (false≢true h)
same_kind_means LockKinds.Replace LockKinds.Exclusive h = absurd (false≢true h)
same_kind_means LockKinds.Replace LockKinds.Shared h = absurd (false≢true h)
same_kind_means LockKinds.Replace LockKinds.Append h = absurd (false≢true h)
same_kind_means LockKinds.Replace LockKinds.Replace h = refl

-- ---- what stays open, and the lock

-- the lock as it is afterwards: valid, of the number and version that it is granted with, of the task's source and the request's kind, and it contains the request's span
pub record HasGranted (qs : List PosseRow) (t : TaskRow) (w : Want) (l : GrantedLock) : Type 0 where
  pub lock : PosseRow
  pub is_valid : IsValid qs lock
  pub number_is : lock.number ≡ l.number
  pub version_is : lock.version ≡ l.version
  pub kind_is : lock.lock_kind ≡ w.lock_kind
  pub source_is : lock.source ≡ t.source
  pub within : covers lock.span w.span ≡ true

pub record LeavesOpen (b : Book) (t : TaskRow) (w : Want) (l : GrantedLock) : Type 0 where
  pub is_open : (a : SegId) → IsOpenIn b a → IsOpenIn (book_granted b t.task l.granted) a
  pub has_lock : HasGranted (posses_after b.posses t.task l.granted) t w l

module _ (b : Book) (k : Counters) (t : TaskRow) (w : Want) (same : AreCounters b k) (h : AreChunksSound b) where
  joined_open : (p : PosseRow) (a : SegId) → IsOpenIn b a → IsOpenIn (book_granted b t.task (joins_row k t p)) a
  joined_open p a o =
      subst (λ qs. IsOpen qs b.chunks b.segments (stripped (stands_in []) b.pendings) a) (sym (append-nil (map (joined_in (cond (is_member t.task p) [] (p.number ∷ [])) t.task) (map (revoked_in []) b.posses))))
      (join_open (cond (is_member t.task p) [] (p.number ∷ [])) t.task (revoked [] b) a (revoke_open [] b a o))

  joined_lock : (p : PosseRow) → In p b.posses → is_fit t w p ≡ true → HasGranted (posses_after b.posses t.task (joins_row k t p)) t w (joins_lock k t p)
  joined_lock p i fit =
      let one = and_parts (not p.revoked && bytes_eq p.source t.source && same_kind p.lock_kind w.lock_kind && bytes_eq p.group t.group && (p.priority == t.priority)) (covers p.span w.span) fit in
      let two = and_parts (not p.revoked && bytes_eq p.source t.source && same_kind p.lock_kind w.lock_kind && bytes_eq p.group t.group) (p.priority == t.priority) one.0 in
      let three = and_parts (not p.revoked && bytes_eq p.source t.source && same_kind p.lock_kind w.lock_kind) (bytes_eq p.group t.group) two.0 in
      let four = and_parts (not p.revoked && bytes_eq p.source t.source) (same_kind p.lock_kind w.lock_kind) three.0 in
      let five = and_parts (not p.revoked) (bytes_eq p.source t.source) four.0 in
      record {
        lock = joined_in (cond (is_member t.task p) [] (p.number ∷ [])) t.task (revoked_in [] p);
        is_valid = record {
          among = In-left (joined_in (cond (is_member t.task p) [] (p.number ∷ [])) t.task (revoked_in [] p)) (map (joined_in (cond (is_member t.task p) [] (p.number ∷ [])) t.task) (map (revoked_in []) b.posses)) []
              (map_In (joined_in (cond (is_member t.task p) [] (p.number ∷ [])) t.task) (revoked_in [] p) (map (revoked_in []) b.posses) (map_In (revoked_in []) p b.posses i));
          valid = unrevoked p.revoked five.0;
        };
        number_is = refl;
        version_is = refl;
        kind_is = same_kind_means p.lock_kind w.lock_kind four.1;
        source_is = (bytes_eq-Decides p.source t.source).0 five.1;
        within = one.1;
      } where
        unrevoked : (r : Bool) → not r ≡ true → (r || false) ≡ false
        unrevoked true e = absurd (false≢true e)
        unrevoked false e = refl

  made_open : (version : ℤ) → version_for w.lock_kind k ≡ Some version → (a : SegId) → IsOpenIn b a → IsOpenIn (book_granted b t.task (makes_row b.posses k t w version)) a
  made_open version given a o =
      grant_open (new_row k t w version) (last_after w.lock_kind k version) (joined_locks [] t.task (revoked (numbers_against t w b.posses) b)) a (is_grant b k t w version same given)
      (join_keeps [] t.task (revoked (numbers_against t w b.posses) b) (revoke_keeps (numbers_against t w b.posses) b h))
      (join_open [] t.task (revoked (numbers_against t w b.posses) b) a (revoke_open (numbers_against t w b.posses) b a o))

  made_lock : (version : ℤ) → HasGranted (posses_after b.posses t.task (makes_row b.posses k t w version)) t w (makes_lock b.posses k t w version)
  made_lock version = record {
    lock = new_row k t w version;
    is_valid = record { among = In-right (new_row k t w version) (map (joined_in [] t.task) (map (revoked_in (numbers_against t w b.posses)) b.posses)) (new_row k t w version ∷ []) (inl refl); valid = refl };
    number_is = refl;
    version_is = refl;
    kind_is = refl;
    source_is = refl;
    within = covers_self w.span;
  }

pub leaves_open : (b : Book) (k : Counters) (t : TaskRow) (w : Want) (l : GrantedLock) → AreCounters b k → AreChunksSound b → grant_lock b.posses k t w ≡ Ok l → LeavesOpen b t w l
leaves_open b k t w l same h e =
    lock_cases b.posses k t w (λ l. LeavesOpen b t w l)
    (λ p found. (let x = least_some (is_fit t w) b.posses p found in record { is_open = joined_open b k t w same h p; has_lock = joined_lock b k t w same h p x.0 x.1 }))
    (λ v version. record { is_open = made_open b k t w same h v version; has_lock = made_lock b k t w same h v }) l e

-- ---- the look-up of a lock by its number

pub posse_is : (qs : List PosseRow) (q : PosseRow) → HasDistinctNumbers qs → In q qs → posse_of q.number qs ≡ Some q
posse_is qs q distinct i = go (posse_of q.number qs) refl where
  go : (r : Option PosseRow) → posse_of q.number qs ≡ r → r ≡ Some q
  go None e = absurd (false≢true (sym (find_none (λ p. p.number == q.number) qs e q i) ∙ (Decides-eqb q.number q.number).1 refl))
  go (Some x) e = let w = find_some (λ p. p.number == q.number) qs x e in ap Some (one_number qs x q distinct w.0 i ((Decides-eqb x.number q.number).0 w.1))
