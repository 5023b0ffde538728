-- What granted requests keep, one and one after another.
use Rattle.std.proofs.Common.{◌≡◌, ℕ, ◌+◌, ℤ, Bool, true, false, cond, not, ◌&&◌, ◌||◌, ◌==◌, List, [], ◌∷◌, ◌++◌, map, filter, Some, Result, Ok, Err, refl, sym, inl, subst}
use Rattle.std.proofs.lemmas.List.{append-nil}
use Rattle.book_rows.specs.Grant.{both_granted, continued, grant, grant_all, grant_lock, granted_then, is_fit, joined_in, joins_row, makes_row, new_row, nothing_granted, numbers_against, posses_after, revoked_in}
use Rattle.book_rows.specs.Lists.{merged, stands_in}
use Rattle.book_rows.specs.Locks.{least, stripped}
use Rattle.book_rows.specs.declared.answers.Counters.{Counters}
use Rattle.book_rows.specs.declared.answers.Granted.{Granted}
use Rattle.book_rows.specs.declared.answers.GrantedLock.{GrantedLock}
use Rattle.book_rows.specs.declared.commands.Command.{Command}
use Rattle.book_rows.specs.declared.replies.Refusal.{Refusal}
use Rattle.book_rows.specs.declared.rows.ChunkRow.{ChunkRow}
use Rattle.book_rows.specs.declared.rows.PendingRow.{PendingRow}
use Rattle.book_rows.specs.declared.rows.PosseRow.{PosseRow}
use Rattle.book_rows.specs.declared.rows.TaskRow.{TaskRow}
use Rattle.book_rows.specs.declared.rows.Want.{Want}
use Rattle.laws_locks.proofs.Compatible.{any_merged}
use Rattle.laws_locks.proofs.Grants.{granted_cases, lock_cases, posses_after_both}
use Rattle.laws_locks.proofs.LookUps.{least_found}
use Rattle.laws_chunks.proofs.Members.{In-left, In-right, map_In}
use Rattle.laws_revocation.specs.LockNumbers.{HasValidLock}
use Rattle.laws_revocation.proofs.Facts.{Fact, IsKept}

-- ---- the lock that a request is granted is valid

fit_is_valid : (revoked a b c d e : Bool) → (not revoked && a && b && c && d && e) ≡ true → revoked ≡ false
fit_is_valid true a b c d e h = cc
fit_is_valid false a b c d e h = refl

not_revoked : (revoked off : Bool) → revoked ≡ false → off ≡ false → (revoked || off) ≡ false
not_revoked revoked off h e = rw (h, e) refl

joined_valid : (qs : List PosseRow) (k : Counters) (t : TaskRow) (w : Want) (p : PosseRow) → least (is_fit t w) qs ≡ Some p → HasValidLock (posses_after qs t.task (joins_row k t p)) p.number
joined_valid qs k t w p found =
    let at = least_found (is_fit t w) qs p found in
    let js : List ℕ = (joins_row k t p).joins in
    record {
      lock = joined_in js t.task (revoked_in [] p);
      is_valid = record {
        among = In-left (joined_in js t.task (revoked_in [] p)) (map (joined_in js t.task) (map (revoked_in []) qs)) [] (map_In (joined_in js t.task) (revoked_in [] p) (map (revoked_in []) qs) (map_In (revoked_in []) p qs at.0));
        valid = not_revoked p.revoked false (fit_is_valid p.revoked _ _ _ _ _ at.1) refl;
      };
      number_is = refl;
    }

made_valid : (qs : List PosseRow) (k : Counters) (t : TaskRow) (w : Want) (v : ℤ) → HasValidLock (posses_after qs t.task (makes_row qs k t w v)) k.next_lock
made_valid qs k t w v = record {
  lock = new_row k t w v;
  is_valid = record { among = In-right (new_row k t w v) (map (joined_in [] t.task) (map (revoked_in (numbers_against t w qs)) qs)) (new_row k t w v ∷ []) (inl refl); valid = refl };
  number_is = refl;
}

pub granted_valid : (qs : List PosseRow) (k : Counters) (t : TaskRow) (w : Want) (l : GrantedLock) → grant_lock qs k t w ≡ Ok l → HasValidLock (posses_after qs t.task l.granted) l.number
granted_valid qs k t w l e =
    lock_cases qs k t w (λ l. HasValidLock (posses_after qs t.task l.granted) l.number) (λ p found. joined_valid qs k t w p found) (λ v version. made_valid qs k t w v) l e

-- ---- what the pendings lose

-- one pending, which both, the first or neither takes
strip_one : (p : PendingRow) (i : List ℕ) (both rest : List PendingRow) (x y : Bool) → stands_in i p.posse ≡ y → both ≡ stripped (stands_in i) rest
    → cond (not (x || y)) (p ∷ both) both ≡ stripped (stands_in i) (cond (not x) (p ∷ rest) rest)
strip_one p i both rest true y e same = same
strip_one p i both rest false true e same = rw e same
strip_one p i both rest false false e same = rw (e, same) refl

strip_both : (a i : List ℕ) (ps : List PendingRow) → stripped (stands_in (merged a i)) ps ≡ stripped (stands_in i) (stripped (stands_in a) ps)
strip_both a i [] = refl
strip_both a i (p ∷ ps) =
    rw (any_merged (λ m. m == p.posse) a i)
    (strip_one p i (stripped (stands_in (merged a i)) ps) (stripped (stands_in a) ps) (stands_in a p.posse) (stands_in i p.posse) refl (strip_both a i ps))

-- ---- what the fact says after a grant

module _ (Formed : Command → Type 0) (fact : Fact) (kept : IsKept Formed fact) (cs : List ChunkRow) (t : TaskRow) where
  -- nobody is revoked, and the task joins locks or none
  joins_kept : (js : List ℕ) (next : ℕ) (qs : List PosseRow) (ps : List PendingRow) → fact next qs ps cs → fact next (map (joined_in js t.task) (map (revoked_in []) qs) ++ []) (stripped (stands_in []) ps) cs
  joins_kept js next qs ps h =
      rw append-nil (kept.members (λ q. q.members ++ map (λ (n : ℕ). t.task) (filter (λ n. n == q.number) js)) next (map (revoked_in []) qs) (stripped (stands_in []) ps) cs (kept.revoked [] next qs ps cs h))

  makes_kept : (qs : List PosseRow) (ps : List PendingRow) (k : Counters) (w : Want) (v : ℤ) → fact k.next_lock qs ps cs
      → fact (k.next_lock + 1) (posses_after qs t.task (makes_row qs k t w v)) (stripped (stands_in (numbers_against t w qs)) ps) cs
  makes_kept qs ps k w v h =
      let ns : List ℕ = numbers_against t w qs in
      kept.made (new_row k t w v) k.next_lock (map (joined_in [] t.task) (map (revoked_in ns) qs)) (stripped (stands_in ns) ps) cs refl
      (kept.members (λ q. q.members ++ map (λ (n : ℕ). t.task) (filter (λ n. n == q.number) [])) k.next_lock (map (revoked_in ns) qs) (stripped (stands_in ns) ps) cs (kept.revoked ns k.next_lock qs ps cs h))

  abbrev After : List PosseRow → List PendingRow → Granted → Type 0
  After qs ps g = fact g.after.next_lock (posses_after qs t.task g) (stripped (stands_in g.revoked) ps) cs

  pub granted_kept : (qs : List PosseRow) (ps : List PendingRow) (k : Counters) (w : Want) (g : Granted) → fact k.next_lock qs ps cs → grant qs k t w ≡ Ok g → After qs ps g
  granted_kept qs ps k w g h e = granted_cases qs k t w (After qs ps) (λ p found. joins_kept (joins_row k t p).joins k.next_lock qs ps h) (λ v version. makes_kept qs ps k w v h) g e

  -- ---- one request after another

  then_kept : (qs : List PosseRow) (ps : List PendingRow) (a g : Granted) (r : Result Granted Refusal) → granted_then t.task a r ≡ Ok g
      → ((i : Granted) → r ≡ Ok i → After (posses_after qs t.task a) (stripped (stands_in a.revoked) ps) i) → After qs ps g
  then_kept qs ps a g (Err why) e next = cc
  then_kept qs ps a g (Ok i) e next =
      let same : both_granted t.task a i ≡ g = cc in
      subst (After qs ps) same
      (subst (λ (rows : List PosseRow). fact i.after.next_lock rows (stripped (stands_in (merged a.revoked i.revoked)) ps) cs) (sym (posses_after_both qs t.task a i))
      (subst (λ (rows : List PendingRow). fact i.after.next_lock (posses_after (posses_after qs t.task a) t.task i) rows cs) (sym (strip_both a.revoked i.revoked ps)) (next i refl)))

  continued_kept : (qs : List PosseRow) (ps : List PendingRow) (ws : List Want) (g : Granted) (r : Result Granted Refusal) → continued t.task r (λ a. grant_all (posses_after qs t.task a) a.after t ws) ≡ Ok g
      → ((a i : Granted) → r ≡ Ok a → grant_all (posses_after qs t.task a) a.after t ws ≡ Ok i → After (posses_after qs t.task a) (stripped (stands_in a.revoked) ps) i) → After qs ps g
  continued_kept qs ps ws g (Err why) e next = cc
  continued_kept qs ps ws g (Ok a) e next = then_kept qs ps a g (grant_all (posses_after qs t.task a) a.after t ws) e (λ i f. next a i refl f)

  pub all_granted_kept : (ws : List Want) (qs : List PosseRow) (ps : List PendingRow) (k : Counters) (g : Granted) → fact k.next_lock qs ps cs → grant_all qs k t ws ≡ Ok g → After qs ps g
  all_granted_kept [] qs ps k g h e =
      let same : nothing_granted k ≡ g = cc in
      subst (After qs ps) same (joins_kept [] k.next_lock qs ps h)
  all_granted_kept (w ∷ ws) qs ps k g h e =
      continued_kept qs ps ws g (grant qs k t w) e (λ a i f n. all_granted_kept ws (posses_after qs t.task a) (stripped (stands_in a.revoked) ps) a.after i (granted_kept qs ps k w a h f) n)
