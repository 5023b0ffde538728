-- New locks have new numbers, and the counters stay within their bounds.
use Rattle.std.proofs.Common.{◌≡◌, ◌≢◌, ℕ, ◌+◌, ◌<◌, ◌≤◌, ◌^◌, ℤ, pos, ◌+ℤ◌, ◌≤ℤ◌, Bool, true, false, cond, List, [], ◌∷◌, map, filter, length, Some, None, Option, Ok, Err, Result, refl, ap, subst, ◌∙◌, arith, nat_lt}
use Rattle.std.specs.List.{AllByRecursion}
use Rattle.std.specs.Int.{int_max}
use Rattle.std.specs.Ordering.{int_eq}
use Rattle.std.proofs.lemmas.Bool.{false≢true, ne_eqb}
use Rattle.std.proofs.lemmas.Bool.Decides.{Decides-int_eq}
use Rattle.std.proofs.lemmas.Int.{ints, clamps}
use Rattle.std.proofs.lemmas.List.{length-append, length-map}
use Rattle.book_rows.specs.Grant.{both_granted, continued, grant, grant_all, grant_by, granted_of, granted_then, is_against, joined_in, joins_row, makes_row, nothing_granted, posses_after, revoked_in, version_for}
use Rattle.book_rows.specs.Lists.{ascending}
use Rattle.book_rows.specs.Locks.{HasDistinctNumbers, same_number}
use Rattle.iv_time.specs.Range.{last_instant}
use Rattle.book_rows.specs.declared.answers.Counters.{Counters}
use Rattle.book_rows.specs.declared.answers.Granted.{Granted}
use Rattle.book_rows.specs.declared.kinds.LockKind.{LockKind}
use Rattle.book_rows.specs.declared.kinds.LockKind.TheVariants as LockKinds
use Rattle.book_rows.specs.declared.kinds.Table.{Table}
use Rattle.book_rows.specs.declared.replies.Refusal.{Refusal}
use Rattle.book_rows.specs.declared.rows.PosseRow.{PosseRow}
use Rattle.book_rows.specs.declared.rows.TaskRow.{TaskRow}
use Rattle.book_rows.specs.declared.rows.Want.{Want}
use Rattle.lock_posse.specs.Granting.{AreNew}
use Rattle.lock_posse.proofs.Rows.{all_append, all_map, all_weaker, pairs_append, pairs_map}
use Rattle.lockbox.specs.Decided.{AreCounters, WasDecided, if_room, too_full, with_room}
use Rattle.lockbox.proofs.Merging.{ascending_again}

-- ---- what is granted is one of two things

by_options : (ps : List PosseRow) (k : Counters) (t : TaskRow) (w : Want) (P : Granted → Type 0) (lost fit block : Option PosseRow) (version : Option ℤ)
    → ((p : PosseRow) → P (joins_row k t p))
    → ((v : ℤ) → version ≡ Some v → P (makes_row ps k t w v))
    → (g : Granted) → granted_of (grant_by lost fit block version ps k t w) ≡ Ok g → P g
by_options ps k t w P (Some lost) fit block version a b g e = cc
by_options ps k t w P None (Some p) block version a b g e = let same : joins_row k t p ≡ g = cc in subst P same (a p)
by_options ps k t w P None None (Some block) version a b g e = cc
by_options ps k t w P None None None None a b g e = cc
by_options ps k t w P None None None (Some v) a b g e = let same : makes_row ps k t w v ≡ g = cc in subst P same (b v refl)

granted_cases : (ps : List PosseRow) (k : Counters) (t : TaskRow) (w : Want) (P : Granted → Type 0)
    → ((p : PosseRow) → P (joins_row k t p))
    → ((v : ℤ) → version_for w.lock_kind k ≡ Some v → P (makes_row ps k t w v))
    → (g : Granted) → grant ps k t w ≡ Ok g → P g
granted_cases ps k t w P a b g e = by_options ps k t w P _ _ _ _ a b g e

-- ---- one request

pub one_number : (ps : List PosseRow) (k : Counters) (t : TaskRow) (w : Want) (g : Granted) → grant ps k t w ≡ Ok g → g.after.next_lock ≤ k.next_lock + 1
one_number ps k t w g e = granted_cases ps k t w (λ g. g.after.next_lock ≤ k.next_lock + 1) (λ p. omega arith) (λ v f. omega arith) g e

pub one_revoked : (ps : List PosseRow) (k : Counters) (t : TaskRow) (w : Want) (g : Granted) → grant ps k t w ≡ Ok g → ascending g.revoked ≡ g.revoked
one_revoked ps k t w g e = granted_cases ps k t w (λ g. ascending g.revoked ≡ g.revoked) (λ p. refl) (λ v f. ascending_again (map (λ p. p.number) (filter (is_against t w) ps))) g e

max_is : (b : Bool) (clock last v : ℤ) → (last ≡ last_instant → b ≡ true) → cond b None (Some (int_max clock (last +ℤ pos 1))) ≡ Some v
    → pos 0 ≤ℤ last → last ≤ℤ last_instant → clock ≤ℤ last_instant → (pos 0 ≤ℤ v) × (v ≤ℤ last_instant)
max_is true clock last v d e low high c = cc
max_is false clock last v d e low high c =
    let other : last ≢ last_instant = λ h. false≢true (d h) in
    let is : int_max clock (last +ℤ pos 1) ≡ v = cc in
    rw (← is) (omega (arith, ints, clamps, other), omega (arith, ints, clamps, other))

counters_with : (k : Counters) (v : ℤ) → AreCounters k → cond (int_eq k.last last_instant) None (Some (int_max k.clock (k.last +ℤ pos 1))) ≡ Some v
    → AreCounters (record k { last = v; next_lock = k.next_lock + 1 })
counters_with k v h e =
    let within = max_is (int_eq k.last last_instant) k.clock k.last v (Decides-int_eq k.last last_instant).1 e h.last_low h.last_is.1 h.clock_is.1 in
    let low : pos 0 ≤ℤ v = within.0 in
    let high : v ≤ℤ last_instant = within.1 in
    record { clock_is = h.clock_is; last_is = (omega (arith, ints), high); last_low = low }

counters_made : (kind : LockKind) (k : Counters) (v : ℤ) (ps : List PosseRow) (t : TaskRow) (w : Want) → w.lock_kind ≡ kind → AreCounters k → version_for kind k ≡ Some v
    → AreCounters (makes_row ps k t w v).after
counters_made LockKinds.Append k v ps t w is h e = rw is (record { clock_is = h.clock_is; last_is = h.last_is; last_low = h.last_low })
counters_made LockKinds.Exclusive k v ps t w is h e = rw is (counters_with k v h e)
counters_made LockKinds.Shared k v ps t w is h e = rw is (counters_with k v h e)
counters_made LockKinds.Replace k v ps t w is h e = rw is (counters_with k v h e)

pub one_counters : (ps : List PosseRow) (k : Counters) (t : TaskRow) (w : Want) (g : Granted) → AreCounters k → grant ps k t w ≡ Ok g → AreCounters g.after
one_counters ps k t w g h e = granted_cases ps k t w (λ g. AreCounters g.after) (λ p. h) (λ v f. counters_made w.lock_kind k v ps t w refl h f) g e

-- ---- new numbers

-- distinct numbers from this one on, below that one
record AreFrom (low high : ℕ) (rows : List PosseRow) : Type 0 where
  pub up : low ≤ high
  pub distinct : HasDistinctNumbers rows
  pub within : AllByRecursion (λ p. (low ≤ p.number) × (p.number < high)) rows

one_from : (ps : List PosseRow) (k : Counters) (t : TaskRow) (w : Want) (g : Granted) → grant ps k t w ≡ Ok g → AreFrom k.next_lock g.after.next_lock g.rows
one_from ps k t w g e =
    granted_cases ps k t w (λ g. AreFrom k.next_lock g.after.next_lock g.rows)
    (λ p. record { up = omega arith; distinct = tt; within = tt })
    (λ v f. record { up = omega arith; distinct = (tt, tt); within = ((omega arith, omega arith), tt) })
    g e

apart : (a b : ℕ) (p : PosseRow) → p.number < b → (q : PosseRow) → (b ≤ q.number) × (q.number < a) → same_number p q ≡ false
apart a b p lt q h =
    let over : b ≤ q.number = h.0 in
    ne_eqb p.number q.number (λ e. omega arith)

both_from : (task : List ℕ) (low mid : ℕ) (g h : Granted) → AreFrom low mid g.rows → AreFrom mid h.after.next_lock h.rows
    → AreFrom low h.after.next_lock (both_granted task g h).rows
both_from task low mid g h a b =
    let up = a.up in
    let up' = b.up in
    record {
      up = omega arith;
      distinct = pairs_append _ (map (joined_in h.joins task) (map (revoked_in h.revoked) g.rows)) h.rows
          (pairs_map _ _ (joined_in h.joins task) (λ x y e. e) (map (revoked_in h.revoked) g.rows) (pairs_map _ _ (revoked_in h.revoked) (λ x y e. e) g.rows a.distinct))
          b.distinct
          (
          all_map (λ p. AllByRecursion (λ q. same_number p q ≡ false) h.rows) (λ p. AllByRecursion (λ q. same_number p q ≡ false) h.rows) (joined_in h.joins task) (λ x e. e) (map (revoked_in h.revoked) g.rows)
          (
          all_map (λ p. (low ≤ p.number) × (p.number < mid)) (λ p. AllByRecursion (λ q. same_number p q ≡ false) h.rows) (revoked_in h.revoked)
          (λ p e. all_weaker _ _ (apart h.after.next_lock mid p e.1) h.rows b.within) g.rows a.within
          )
          );
      within = all_append (λ p. (low ≤ p.number) × (p.number < h.after.next_lock)) (map (joined_in h.joins task) (map (revoked_in h.revoked) g.rows)) h.rows
          (
          all_map (λ p. (low ≤ p.number) × (p.number < h.after.next_lock)) (λ p. (low ≤ p.number) × (p.number < h.after.next_lock)) (joined_in h.joins task) (λ x e. e) (map (revoked_in h.revoked) g.rows)
          (all_map (λ p. (low ≤ p.number) × (p.number < mid)) (λ p. (low ≤ p.number) × (p.number < h.after.next_lock)) (revoked_in h.revoked) (λ p e. below p e) g.rows a.within)
          )
          (all_weaker _ _ (λ p e. above p e) h.rows b.within);
    } where
      below : (p : PosseRow) → (low ≤ p.number) × (p.number < mid) → (low ≤ p.number) × (p.number < h.after.next_lock)
      below p e =
          let up' = b.up in
          let lt : p.number < mid = e.1 in
          (e.0, omega arith)

      above : (p : PosseRow) → (mid ≤ p.number) × (p.number < h.after.next_lock) → (low ≤ p.number) × (p.number < h.after.next_lock)
      above p e =
          let up = a.up in
          let le : mid ≤ p.number = e.0 in
          (omega arith, e.1)

then_from : (ps : List PosseRow) (k : Counters) (t : TaskRow) (w : Want) (ws : List Want) (r : Result Granted Refusal) (g : Granted)
    → ((a i : Granted) → grant_all (posses_after ps t.task a) a.after t ws ≡ Ok i → AreFrom a.after.next_lock i.after.next_lock i.rows)
    → grant ps k t w ≡ r → continued t.task r (λ a. grant_all (posses_after ps t.task a) a.after t ws) ≡ Ok g → AreFrom k.next_lock g.after.next_lock g.rows
then_from ps k t w ws (Err why) g next e f = cc
then_from ps k t w ws (Ok a) g next e f = then_granted (grant_all (posses_after ps t.task a) a.after t ws) refl f where
  then_granted : (r : Result Granted Refusal) → grant_all (posses_after ps t.task a) a.after t ws ≡ r → granted_then t.task a r ≡ Ok g → AreFrom k.next_lock g.after.next_lock g.rows
  then_granted (Err why) e' f' = cc
  then_granted (Ok i) e' f' =
      let same : both_granted t.task a i ≡ g = cc in
      subst (λ z. AreFrom k.next_lock z.after.next_lock z.rows) same (both_from t.task k.next_lock a.after.next_lock a i (one_from ps k t w a e) (next a i e'))

all_from : (ws : List Want) (ps : List PosseRow) (k : Counters) (t : TaskRow) (g : Granted) → grant_all ps k t ws ≡ Ok g → AreFrom k.next_lock g.after.next_lock g.rows
all_from [] ps k t g e =
    let same : nothing_granted k ≡ g = cc in
    subst (λ z. AreFrom k.next_lock z.after.next_lock z.rows) same (record { up = omega arith; distinct = tt; within = tt })
all_from (w ∷ ws) ps k t g e = then_from ps k t w ws (grant ps k t w) g (λ a i f. all_from ws (posses_after ps t.task a) a.after t i f) refl e

-- ---- what was decided

roomed : (o : Option Table) (g h : Granted) → if_room o h ≡ Ok g → h ≡ g
roomed (Some table) g h e = cc
roomed None g h e = cc

granted_with : (ps : List PosseRow) (task : List ℕ) (r : Result Granted Refusal) (g : Granted) → with_room ps task r ≡ Ok g → r ≡ Ok g
granted_with ps task (Err why) g e = cc
granted_with ps task (Ok h) g e = ap Ok (roomed (too_full ps task h) g h e)

granted_if : (b : Bool) (r : Result Granted Refusal) (why : Refusal) (g : Granted) → cond b r (Err why) ≡ Ok g → r ≡ Ok g
granted_if true r why g e = e
granted_if false r why g e = cc

pub decided_new : (ps : List PosseRow) (g : Granted) (task : List ℕ) → WasDecided ps g task → AreNew g.rows ps
decided_new ps g task d =
    let from = all_from d.wants ps d.counters d.row g (granted_with ps d.row.task (grant_all ps d.counters d.row d.wants) g (granted_if (nat_lt (d.counters.next_lock + length d.wants) (2 ^ 64)) _ _ g d.answer_is)) in
    (from.distinct, all_weaker (λ p. p.number < d.counters.next_lock) _ (λ p lt. all_weaker _ _ (apart g.after.next_lock d.counters.next_lock p lt) g.rows from.within) ps d.are_below)

-- ---- how many locks there are

pub length_after : (ps : List PosseRow) (task : List ℕ) (g : Granted) → length (posses_after ps task g) ≡ length ps + length g.rows
length_after ps task g =
    length-append (map (joined_in g.joins task) (map (revoked_in g.revoked) ps)) g.rows
    ∙ ap (λ n. n + length g.rows) (length-map (map (revoked_in g.revoked) ps) (joined_in g.joins task) ∙ length-map ps (revoked_in g.revoked))
