-- How requests are granted, one and one after another: from what each keeps follows what all keep.
use Rattle.std.proofs.Common.{◌≡◌, ℕ, ℤ, ◌==◌, List, [], ◌∷◌, map, filter, Some, None, Option, Result, Ok, Err, refl, sym, inl, inr, subst, append_assoc}
use Rattle.std.proofs.Math.Bool.{or_assoc}
use Rattle.std.specs.List.{list_any}
use Rattle.std.proofs.lemmas.List.{map-append}
use Rattle.std.proofs.lemmas.List.Elements.{filter-append}
use Rattle.book_rows.specs.Grant.{blocks, both_granted, continued, grant, grant_all, grant_by, grant_lock, granted_of, granted_then, is_fit, joined_in, joins_lock, joins_row, makes_lock, makes_row, new_row, nothing_granted, numbers_against, posses_after, revoked_in, version_for}
use Rattle.book_rows.specs.Lists.{In}
use Rattle.book_rows.specs.Locks.{is_lost, least}
use Rattle.book_rows.specs.declared.answers.Counters.{Counters}
use Rattle.book_rows.specs.declared.answers.Granted.{Granted}
use Rattle.book_rows.specs.declared.answers.GrantedLock.{GrantedLock}
use Rattle.book_rows.specs.declared.replies.Refusal.{Refusal}
use Rattle.book_rows.specs.declared.rows.PosseRow.{PosseRow}
use Rattle.book_rows.specs.declared.rows.TaskRow.{TaskRow}
use Rattle.book_rows.specs.declared.rows.Want.{Want}
use Rattle.laws_locks.proofs.Compatible.{any_merged}
use Rattle.laws_locks.proofs.Lists.{In-left, In-right, map_In}
use Rattle.laws_locks.proofs.LookUps.{least_found}

-- ---- a decision is one of two things

by_options : (ps : List PosseRow) (k : Counters) (t : TaskRow) (w : Want) (P : GrantedLock → Type 0) (lost fit block : Option PosseRow) (version : Option ℤ)
    → ((p : PosseRow) → fit ≡ Some p → P (joins_lock k t p)) → ((v : ℤ) → version ≡ Some v → P (makes_lock ps k t w v)) → (l : GrantedLock) → grant_by lost fit block version ps k t w ≡ Ok l → P l
by_options ps k t w P (Some lost) fit block version a b l e = cc
by_options ps k t w P None (Some p) block version a b l e = let same : joins_lock k t p ≡ l = cc in subst P same (a p refl)
by_options ps k t w P None None (Some block) version a b l e = cc
by_options ps k t w P None None None None a b l e = cc
by_options ps k t w P None None None (Some v) a b l e = let same : makes_lock ps k t w v ≡ l = cc in subst P same (b v refl)

-- what holds of the lock that is joined and of the one that is made holds of the lock that is granted
pub lock_cases : (ps : List PosseRow) (k : Counters) (t : TaskRow) (w : Want) (P : GrantedLock → Type 0)
    → ((p : PosseRow) → least (is_fit t w) ps ≡ Some p → P (joins_lock k t p)) → ((v : ℤ) → version_for w.lock_kind k ≡ Some v → P (makes_lock ps k t w v)) → (l : GrantedLock) → grant_lock ps k t w ≡ Ok l → P l
lock_cases ps k t w P a b l e =
    by_options ps k t w P (least (is_lost t.task t.source w.span) ps) (least (is_fit t w) ps) (least (blocks t w) ps) (version_for w.lock_kind k) a b l e

by_lock : (P : Granted → Type 0) (r : Result GrantedLock Refusal) → ((l : GrantedLock) → r ≡ Ok l → P l.granted) → (g : Granted) → granted_of r ≡ Ok g → P g
by_lock P (Err why) f g e = cc
by_lock P (Ok l) f g e = let same : l.granted ≡ g = cc in subst P same (f l refl)

-- and of what becomes of the locks
pub granted_cases : (ps : List PosseRow) (k : Counters) (t : TaskRow) (w : Want) (P : Granted → Type 0)
    → ((p : PosseRow) → least (is_fit t w) ps ≡ Some p → P (joins_row k t p)) → ((v : ℤ) → version_for w.lock_kind k ≡ Some v → P (makes_row ps k t w v)) → (g : Granted) → grant ps k t w ≡ Ok g → P g
granted_cases ps k t w P a b g e = by_lock P (grant_lock ps k t w) (lock_cases ps k t w (λ l. P l.granted) a b) g e

-- ---- the lock that is granted

-- it stands there afterwards, with the number, the span and the version that it is granted with
pub record Stands (qs : List PosseRow) (l : GrantedLock) : Type 0 where
  pub lock : PosseRow
  pub among : In lock qs
  pub number_is : lock.number ≡ l.number
  pub span_is : lock.span ≡ l.span
  pub version_is : lock.version ≡ l.version

pub granted_stands : (ps : List PosseRow) (k : Counters) (t : TaskRow) (w : Want) (l : GrantedLock) → grant_lock ps k t w ≡ Ok l → Stands (posses_after ps t.task l.granted) l
granted_stands ps k t w l e = lock_cases ps k t w (λ l. Stands (posses_after ps t.task l.granted) l) joins makes l e where
  joins : (p : PosseRow) → least (is_fit t w) ps ≡ Some p → Stands (posses_after ps t.task (joins_row k t p)) (joins_lock k t p)
  joins p found =
      let js : List ℕ = (joins_row k t p).joins in
      let stood : PosseRow = joined_in js t.task (revoked_in [] p) in
      record {
        lock = stood;
        among = In-left stood (map (joined_in js t.task) (map (revoked_in []) ps)) [] (map_In (joined_in js t.task) (revoked_in [] p) (map (revoked_in []) ps) (map_In (revoked_in []) p ps (least_found (is_fit t w) ps p found).0));
        number_is = refl;
        span_is = refl;
        version_is = refl;
      }

  makes : (v : ℤ) → version_for w.lock_kind k ≡ Some v → Stands (posses_after ps t.task (makes_row ps k t w v)) (makes_lock ps k t w v)
  makes v version = record {
    lock = new_row k t w v;
    among = In-right (new_row k t w v) (map (joined_in [] t.task) (map (revoked_in (numbers_against t w ps)) ps)) (new_row k t w v ∷ []) (inl refl);
    number_is = refl;
    span_is = refl;
    version_is = refl;
  }

-- ---- one request after another

-- a lock after both
row_both : (task : List ℕ) (g h : Granted) (p : PosseRow) → joined_in (both_granted task g h).joins task (revoked_in (both_granted task g h).revoked p) ≡ joined_in h.joins task (revoked_in h.revoked (joined_in g.joins task (revoked_in g.revoked p)))
row_both task g h p =
    rw (
      any_merged (λ n. n == p.number) g.revoked h.revoked,
      ← or_assoc p.revoked (list_any (λ n. n == p.number) g.revoked) (list_any (λ n. n == p.number) h.revoked),
      filter-append (λ n. n == p.number) g.joins h.joins,
      map-append (λ (n : ℕ). task) (filter (λ n. n == p.number) g.joins) (filter (λ n. n == p.number) h.joins),
      ← append_assoc,
    ) refl

rows_both : (task : List ℕ) (g h : Granted) (ps : List PosseRow) → map (joined_in (both_granted task g h).joins task) (map (revoked_in (both_granted task g h).revoked) ps) ≡ map (joined_in h.joins task) (map (revoked_in h.revoked) (map (joined_in g.joins task) (map (revoked_in g.revoked) ps)))
rows_both task g h [] = refl
rows_both task g h (p ∷ ps) = rw (row_both task g h p, rows_both task g h ps) refl

-- what both make is what the second makes of what the first made
pub posses_after_both : (ps : List PosseRow) (task : List ℕ) (g h : Granted) → posses_after ps task (both_granted task g h) ≡ posses_after (posses_after ps task g) task h
posses_after_both ps task g h =
    rw (
      rows_both task g h ps,
      map-append (revoked_in h.revoked) (map (joined_in g.joins task) (map (revoked_in g.revoked) ps)) g.rows,
      map-append (joined_in h.joins task) (map (revoked_in h.revoked) (map (joined_in g.joins task) (map (revoked_in g.revoked) ps))) (map (revoked_in h.revoked) g.rows),
    )
    (sym (append_assoc _ _ h.rows))

-- what holds of counters and locks, where each request keeps it, and where nothing is asked
module _ (P : Counters → List PosseRow → Type 0) (Good : Want → Type 0) (t : TaskRow)
    (nothing : (qs : List PosseRow) (k : Counters) → P k qs → P k (posses_after qs t.task (nothing_granted k)))
    (one : (qs : List PosseRow) (k : Counters) (w : Want) (g : Granted) → Good w → P k qs → grant qs k t w ≡ Ok g → P g.after (posses_after qs t.task g)) where
  then_kept : (qs : List PosseRow) (a g : Granted) (r : Result Granted Refusal) → granted_then t.task a r ≡ Ok g → ((i : Granted) → r ≡ Ok i → P i.after (posses_after (posses_after qs t.task a) t.task i))
      → P g.after (posses_after qs t.task g)
  then_kept qs a g (Err why) e next = cc
  then_kept qs a g (Ok i) e next =
      let same : both_granted t.task a i ≡ g = cc in
      subst (λ (g : Granted). P g.after (posses_after qs t.task g)) same (subst (λ (rows : List PosseRow). P i.after rows) (sym (posses_after_both qs t.task a i)) (next i refl))

  continued_kept : (qs : List PosseRow) (ws : List Want) (g : Granted) (r : Result Granted Refusal) → continued t.task r (λ a. grant_all (posses_after qs t.task a) a.after t ws) ≡ Ok g
      → ((a i : Granted) → r ≡ Ok a → grant_all (posses_after qs t.task a) a.after t ws ≡ Ok i → P i.after (posses_after (posses_after qs t.task a) t.task i)) → P g.after (posses_after qs t.task g)
  continued_kept qs ws g (Err why) e next = cc
  continued_kept qs ws g (Ok a) e next = then_kept qs a g (grant_all (posses_after qs t.task a) a.after t ws) e (λ i f. next a i refl f)

  -- any number of requests keep it
  pub all_kept : (ws : List Want) (qs : List PosseRow) (k : Counters) (g : Granted) → ((w : Want) → In w ws → Good w) → P k qs → grant_all qs k t ws ≡ Ok g → P g.after (posses_after qs t.task g)
  all_kept [] qs k g good h e =
      let same : nothing_granted k ≡ g = cc in
      subst (λ (g : Granted). P g.after (posses_after qs t.task g)) same (nothing qs k h)
  all_kept (w ∷ ws) qs k g good h e =
      continued_kept qs ws g (grant qs k t w) e (λ a i f n. all_kept ws (posses_after qs t.task a) a.after i (λ v j. good v (inr j)) (one qs k w a (good w (inl refl)) h f) n)
