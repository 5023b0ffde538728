-- Numbers that no valid lock has, after locks were granted or left.
use Rattle.std.proofs.Common.{Bool, Err, List, Ok, Result, [], ap, arith, false, inl, inr, map, refl, subst, sym, true, ℕ, ℤ, ◌&&◌, ◌<◌, ◌==◌, ◌||◌, ◌∙◌, ◌∷◌, ◌≡◌, ◌⊎◌}
use Rattle.std.proofs.lemmas.Bool.{and_parts, false≢true, or_parts}
use Rattle.std.proofs.lemmas.Bool.Decides.{Decides-eqb}
use Rattle.book_rows.specs.Grant.{both_granted, continued, grant, grant_all, granted_then, joined_in, new_row, nothing_granted, posses_after, revoked_in}
use Rattle.book_rows.specs.Lists.{In, is_empty, stands_in}
use Rattle.book_rows.specs.Live.{IsValid}
use Rattle.book_rows.specs.Locks.{HasDistinctNumbers, after_leave, ends, ends_at, left, same_number, stays}
use Rattle.book_rows.specs.declared.answers.Counters.{Counters}
use Rattle.book_rows.specs.declared.answers.Granted.{Granted}
use Rattle.book_rows.specs.declared.replies.Refusal.{Refusal}
use Rattle.book_rows.specs.declared.rows.PosseRow.{PosseRow}
use Rattle.book_rows.specs.declared.rows.TaskRow.{TaskRow}
use Rattle.book_rows.specs.declared.rows.Want.{Want}
use Rattle.laws_locks.proofs.Compatible.{any_merged}
use Rattle.laws_locks.proofs.Grants.{all_kept, granted_cases, posses_after_both}
use Rattle.laws_chunks.proofs.LockFacts.{one_number}
use Rattle.laws_chunks.proofs.Members.{In-append, In-filter, In-map, any_In, pairs_filter, pairs_map}
use Rattle.laws_shown.specs.Waiting.{IsLost}

-- ---- after a grant

-- a valid lock of before, of this number, that isn't among those revoked
record IsOld (qs : List PosseRow) (revoked : List ℕ) (number : ℕ) : Type 0 where
  lock : PosseRow
  is_valid : IsValid qs lock
  number_is : lock.number ≡ number
  kept : stands_in revoked lock.number ≡ false

-- a valid lock is an old one, or new
old_or_new : (task : List ℕ) (g : Granted) (qs : List PosseRow) (q : PosseRow) → IsValid (posses_after qs task g) q → IsOld qs g.revoked q.number ⊎ In q g.rows
old_or_new task g qs q v = elim (In-append q (map (joined_in g.joins task) (map (revoked_in g.revoked) qs)) g.rows v.among) [ inl i ↦ inl (old i) | inr i ↦ inr i ] where
  old : In q (map (joined_in g.joins task) (map (revoked_in g.revoked) qs)) → IsOld qs g.revoked q.number
  old i =
      let x = In-map (joined_in g.joins task) q (map (revoked_in g.revoked) qs) i in
      let y = In-map (revoked_in g.revoked) x.0 qs x.1 in
      let same : q ≡ joined_in g.joins task (revoked_in g.revoked y.0) = x.2 ∙ ap (joined_in g.joins task) y.2 in
      let off = or_parts y.0.revoked (stands_in g.revoked y.0.number) (ap (λ (p : PosseRow). p.revoked) (sym same) ∙ v.valid) in
      record { lock = y.0; is_valid = record { among = y.1; valid = off.0 }; number_is = ap (λ (p : PosseRow). p.number) (sym same); kept = off.1 }

module _ (n : ℕ) (t : TaskRow) where
  -- the number is of none of the new locks
  abbrev IsNoNew : Granted → Type 0
  IsNoNew g = (q : PosseRow) → In q g.rows → q.number ≡ n → ⊥

  stays_lost : (qs : List PosseRow) (g : Granted) → IsNoNew g → IsLost qs n → IsLost (posses_after qs t.task g) n
  stays_lost qs g none lost q v e = elim (old_or_new t.task g qs q v) [ inl w ↦ lost w.lock w.is_valid (w.number_is ∙ e) | inr i ↦ none q i e ]

  becomes_lost : (qs : List PosseRow) (g : Granted) → IsNoNew g → stands_in g.revoked n ≡ true → IsLost (posses_after qs t.task g) n
  becomes_lost qs g none on q v e = elim (old_or_new t.task g qs q v) [
    | inl w ↦ absurd (false≢true (sym w.kept ∙ subst (λ (m : ℕ). stands_in g.revoked m ≡ true) (sym (w.number_is ∙ e)) on))
    | inr i ↦ none q i e
  ]

  -- a request makes a lock of the next number, or none
  one_new : (qs : List PosseRow) (k : Counters) (w : Want) (g : Granted) → n < k.next_lock → grant qs k t w ≡ Ok g → IsNoNew g × (n < g.after.next_lock)
  one_new qs k w g low e = granted_cases qs k t w (λ g. IsNoNew g × (n < g.after.next_lock)) (λ p f. (λ q i same. absurd i, low)) (λ v f. (of_new v, omega (arith, low))) g e where
    of_new : (v : ℤ) (q : PosseRow) → In q (new_row k t w v ∷ []) → q.number ≡ n → ⊥
    of_new v q (inl same) f = differs n k.next_lock low (sym f ∙ ap (λ (p : PosseRow). p.number) same) where
      differs : (n m : ℕ) → n < m → n ≡ m → ⊥
      differs n m low e = omega (arith, low, e)
    of_new v q (inr i) f = absurd i

  -- the number has no valid lock, and isn't one still to come
  abbrev IsGone : Counters → List PosseRow → Type 0
  IsGone k qs = (n < k.next_lock) × IsLost qs n

  one_gone : (qs : List PosseRow) (k : Counters) (w : Want) (g : Granted) → IsGone k qs → grant qs k t w ≡ Ok g → IsGone g.after (posses_after qs t.task g)
  one_gone qs k w g h e = let new = one_new qs k w g h.0 e in (new.1, stays_lost qs g new.0 h.1)

  pub all_gone : (ws : List Want) (qs : List PosseRow) (k : Counters) (g : Granted) → IsGone k qs → grant_all qs k t ws ≡ Ok g → IsGone g.after (posses_after qs t.task g)
  all_gone ws qs k g h e = all_kept IsGone (λ w. Unit {0}) t (λ qs k h. (h.0, stays_lost qs (nothing_granted k) (λ q i e. absurd i) h.1)) (λ qs k w g good h e. one_gone qs k w g h e) ws qs k g (λ w i. tt) h e

  -- the next number only grows
  abbrev IsLow : Counters → List PosseRow → Type 0
  IsLow k qs = n < k.next_lock

  pub all_low : (ws : List Want) (qs : List PosseRow) (k : Counters) (g : Granted) → n < k.next_lock → grant_all qs k t ws ≡ Ok g → n < g.after.next_lock
  all_low ws qs k g low e = all_kept IsLow (λ w. Unit {0}) t (λ qs k h. h) (λ qs k w g good h e. (one_new qs k w g h e).1) ws qs k g (λ w i. tt) low e

  -- one request, and a number of before
  pub one_fate : (qs : List PosseRow) (k : Counters) (w : Want) (g : Granted) → n < k.next_lock → grant qs k t w ≡ Ok g → (IsLost qs n → IsLost (posses_after qs t.task g) n) × (stands_in g.revoked n ≡ true → IsLost (posses_after qs t.task g) n)
  one_fate qs k w g low e = let new = one_new qs k w g low e in (stays_lost qs g new.0, becomes_lost qs g new.0)

  -- a number that is revoked on the way has no valid lock at the end
  either : (a b : Bool) → (a || b) ≡ true → (a ≡ true) ⊎ (b ≡ true)
  either true b h = inl refl
  either false b h = inr h

  pub all_revoked : (ws : List Want) (qs : List PosseRow) (k : Counters) (g : Granted) → n < k.next_lock → grant_all qs k t ws ≡ Ok g → stands_in g.revoked n ≡ true → IsLost (posses_after qs t.task g) n
  all_revoked [] qs k g low e on = let same : nothing_granted k ≡ g = cc in absurd (false≢true (subst (λ (g : Granted). stands_in g.revoked n ≡ true) (sym same) on))
  all_revoked (w ∷ ws) qs k g low e on = of_first (grant qs k t w) refl e (λ a i low e on. all_revoked ws (posses_after qs t.task a) a.after i low e on) where
    of_both : (a i : Granted) → grant qs k t w ≡ Ok a → grant_all (posses_after qs t.task a) a.after t ws ≡ Ok i → both_granted t.task a i ≡ g
        → (n < a.after.next_lock → stands_in i.revoked n ≡ true → IsLost (posses_after (posses_after qs t.task a) t.task i) n) → IsLost (posses_after qs t.task g) n
    of_both a i f e same rest =
        let new = one_new qs k w a low f in
        let on' : (stands_in a.revoked n || stands_in i.revoked n) ≡ true = sym (any_merged (λ m. m == n) a.revoked i.revoked) ∙ subst (λ (g : Granted). stands_in g.revoked n ≡ true) (sym same) on in
        subst (λ (g : Granted). IsLost (posses_after qs t.task g) n) same (subst (λ (qs : List PosseRow). IsLost qs n) (sym (posses_after_both qs t.task a i)) (elim (either (stands_in a.revoked n) (stands_in i.revoked n) on') [
          | inl first ↦ (all_gone ws (posses_after qs t.task a) a.after i (new.1, becomes_lost qs a new.0 first) e).1
          | inr later ↦ rest new.1 later
        ]))

    of_second : (a : Granted) (r : Result Granted Refusal) → grant qs k t w ≡ Ok a → grant_all (posses_after qs t.task a) a.after t ws ≡ r → granted_then t.task a r ≡ Ok g
        → ((i : Granted) → n < a.after.next_lock → grant_all (posses_after qs t.task a) a.after t ws ≡ Ok i → stands_in i.revoked n ≡ true → IsLost (posses_after (posses_after qs t.task a) t.task i) n) → IsLost (posses_after qs t.task g) n
    of_second a (Err why) f h e rest = cc
    of_second a (Ok i) f h e rest = of_both a i f h (let same : both_granted t.task a i ≡ g = cc in same) (λ low on. rest i low h on)

    of_first : (r : Result Granted Refusal) → grant qs k t w ≡ r → continued t.task r (λ a. grant_all (posses_after qs t.task a) a.after t ws) ≡ Ok g
        → ((a i : Granted) → n < a.after.next_lock → grant_all (posses_after qs t.task a) a.after t ws ≡ Ok i → stands_in i.revoked n ≡ true → IsLost (posses_after (posses_after qs t.task a) t.task i) n) → IsLost (posses_after qs t.task g) n
    of_first (Err why) f e rest = cc
    of_first (Ok a) f e rest = of_second a (grant_all (posses_after qs t.task a) a.after t ws) f refl e (λ i. rest a i)

-- ---- after a task has left a lock

module _ (number : ℕ) (task : List ℕ) (qs : List PosseRow) where
  mapped : HasDistinctNumbers qs → HasDistinctNumbers (map (left number task) qs)
  mapped d = pairs_map (λ p q. same_number p q ≡ false) (λ p q. same_number p q ≡ false) (left number task) (λ p q e. e) qs d

  pub distinct_left : HasDistinctNumbers qs → HasDistinctNumbers (after_leave number task qs)
  distinct_left d = pairs_filter (λ p q. same_number p q ≡ false) (stays number) (map (left number task) qs) (mapped d)

  pub still_lost : (n : ℕ) → IsLost qs n → IsLost (after_leave number task qs) n
  still_lost n lost q v e =
      let f = In-filter (stays number) q (map (left number task) qs) v.among in
      let w = In-map (left number task) q qs f.0 in
      lost w.0 (record { among = w.1; valid = ap (λ (x : PosseRow). x.revoked) (sym w.2) ∙ v.valid }) (ap (λ (x : PosseRow). x.number) (sym w.2) ∙ e)

  -- a lock that ends is gone
  pub ended_lost : (n : ℕ) → HasDistinctNumbers qs → ends_at number task qs n ≡ true → IsLost (after_leave number task qs) n
  ended_lost n d on q v e =
      let f = In-filter (stays number) q (map (left number task) qs) v.among in
      let both = and_parts (n == number) (ends number task qs) on in
      let x = any_In (λ p. (p.number == number) && is_empty p.members) (map (left number task) qs) both.1 in
      let there = and_parts (x.0.number == number) (is_empty x.0.members) x.2 in
      let one : x.0 ≡ q = one_number (map (left number task) qs) x.0 q (mapped d) x.1 f.0 ((Decides-eqb x.0.number number).0 there.0 ∙ sym (e ∙ (Decides-eqb n number).0 both.0)) in
      absurd (false≢true (rw (subst (λ (q : PosseRow). ((q.number == number) && is_empty q.members) ≡ true) one x.2) at f.1))
