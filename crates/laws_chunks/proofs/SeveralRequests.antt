-- Several requests for locks, each on the outcome of those before.
use Rattle.std.proofs.Common.{Bool, Err, List, Ok, Result, [], cond, false, filter, not, refl, subst, sym, true, ℕ, ◌==◌, ◌||◌, ◌∙◌, ◌∷◌, ◌≡◌}
use Rattle.book_rows.specs.Grant.{book_granted, both_granted, continued, counters_at, grant, grant_all, granted_then, nothing_granted, posses_after}
use Rattle.book_rows.specs.Lists.{merged, stands_in}
use Rattle.book_rows.specs.declared.answers.Counters.{Counters}
use Rattle.book_rows.specs.declared.answers.Granted.{Granted}
use Rattle.book_rows.specs.declared.replies.Refusal.{Refusal}
use Rattle.book_rows.specs.declared.rows.Book.{Book}
use Rattle.book_rows.specs.declared.rows.PendingRow.{PendingRow}
use Rattle.book_rows.specs.declared.rows.PosseRow.{PosseRow}
use Rattle.book_rows.specs.declared.rows.TaskRow.{TaskRow}
use Rattle.book_rows.specs.declared.rows.UpgradeRow.{UpgradeRow}
use Rattle.book_rows.specs.declared.rows.Want.{Want}
use Rattle.laws_locks.proofs.Compatible.{any_merged}
use Rattle.laws_locks.proofs.Grants.{granted_cases, posses_after_both}
use Rattle.laws_chunks.specs.ChunksSound.{AreChunksSound}
use Rattle.laws_chunks.specs.Commands.{AllGrantedKeeps}
use Rattle.laws_chunks.proofs.GrantedRequests.{AreCounters, granted_on, joined_keeps}

-- what the locks of two lists held goes with those of one list and then of the other
filter_both : {X : Type 0} (f : X → ℕ) (rs ss : List ℕ) (xs : List X) → filter (λ x. not (stands_in (merged rs ss) (f x))) xs ≡ filter (λ x. not (stands_in ss (f x))) (filter (λ x. not (stands_in rs (f x))) xs)
filter_both f rs ss [] = refl
filter_both f rs ss (x ∷ xs) = rw (any_merged (λ m. m == f x) rs ss, filter_both f rs ss xs) (step (stands_in rs (f x)) (stands_in ss (f x)) refl) where
  step : (a c : Bool) → stands_in ss (f x) ≡ c
      → cond (not (a || c)) (x ∷ filter (λ x. not (stands_in ss (f x))) (filter (λ x. not (stands_in rs (f x))) xs)) (filter (λ x. not (stands_in ss (f x))) (filter (λ x. not (stands_in rs (f x))) xs))
      ≡ filter (λ x. not (stands_in ss (f x))) (cond (not a) (x ∷ filter (λ x. not (stands_in rs (f x))) xs) (filter (λ x. not (stands_in rs (f x))) xs))
  step true c e = refl
  step false true e = rw e refl
  step false false e = rw e refl

with_locks : (b : Book) (k : Counters) (qs rs : List PosseRow) (ps os : List PendingRow) (us vs : List UpgradeRow) → qs ≡ rs → ps ≡ os → us ≡ vs
    → record b { clock = k.clock; last = k.last; next_lock = k.next_lock; posses = qs; pendings = ps; upgrades = us } ≡ record b { clock = k.clock; last = k.last; next_lock = k.next_lock; posses = rs; pendings = os; upgrades = vs }
with_locks b k qs rs ps os us vs e f g = cc

-- the book after both grants is that after one and then the other
book_both : (b : Book) (task : List ℕ) (g h : Granted) → book_granted b task (both_granted task g h) ≡ book_granted (book_granted b task g) task h
book_both b task g h =
    with_locks b h.after _ _ _ _ _ _ (posses_after_both b.posses task g h)
    (filter_both (λ (p : PendingRow). p.posse) g.revoked h.revoked b.pendings)
    (filter_both (λ (u : UpgradeRow). u.posse) g.revoked h.revoked b.upgrades)

-- a grant reads no publication
since_stays : (qs : List PosseRow) (k : Counters) (t : TaskRow) (w : Want) (g : Granted) → grant qs k t w ≡ Ok g → g.after.since ≡ k.since
since_stays qs k t w g e = granted_cases qs k t w (λ g. g.after.since ≡ k.since) (λ p found. refl) (λ v version. refl) g e

-- what holds of the book and is kept by each request is kept by all
module _ (P : Book → Type 0) (t : TaskRow) (nothing : (b : Book) (k : Counters) → AreCounters b k → P b → P (book_granted b t.task (nothing_granted k)))
    (one : (b : Book) (k : Counters) (w : Want) (g : Granted) → AreCounters b k → grant b.posses k t w ≡ Ok g → P b → P (book_granted b t.task g)) where
  then_kept : (b : Book) (a g : Granted) (r : Result Granted Refusal) → granted_then t.task a r ≡ Ok g → ((i : Granted) → r ≡ Ok i → P (book_granted (book_granted b t.task a) t.task i)) → P (book_granted b t.task g)
  then_kept b a g (Err why) e next = cc
  then_kept b a g (Ok i) e next =
      let same : both_granted t.task a i ≡ g = cc in
      subst (λ (g : Granted). P (book_granted b t.task g)) same (subst P (sym (book_both b t.task a i)) (next i refl))

  continued_kept : (b : Book) (ws : List Want) (g : Granted) (r : Result Granted Refusal) → continued t.task r (λ a. grant_all (posses_after b.posses t.task a) a.after t ws) ≡ Ok g
      → ((a i : Granted) → r ≡ Ok a → grant_all (posses_after b.posses t.task a) a.after t ws ≡ Ok i → P (book_granted (book_granted b t.task a) t.task i)) → P (book_granted b t.task g)
  continued_kept b ws g (Err why) e next = cc
  continued_kept b ws g (Ok a) e next = then_kept b a g (grant_all (posses_after b.posses t.task a) a.after t ws) e (λ i f. next a i refl f)

  pub all_kept : (ws : List Want) (b : Book) (k : Counters) (g : Granted) → AreCounters b k → P b → grant_all b.posses k t ws ≡ Ok g → P (book_granted b t.task g)
  all_kept [] b k g same h e =
      let is : nothing_granted k ≡ g = cc in
      subst (λ (g : Granted). P (book_granted b t.task g)) is (nothing b k same h)
  all_kept (w ∷ ws) b k g same h e =
      continued_kept b ws g (grant b.posses k t w) e
      (λ a i f n. all_kept ws (book_granted b t.task a) a.after i (record { last_is = refl; next_is = refl; since_is = since_stays b.posses k t w a f ∙ same.since_is }) (one b k w a same f h) n)

pub all_granted_keeps : AllGrantedKeeps
all_granted_keeps b now t ws g e h =
    all_kept AreChunksSound t (λ b k same h. joined_keeps b k t.task same [] [] h) (λ b k w g same e h. granted_on b k t w g same e h)
    ws b (counters_at b now) g (record { last_is = refl; next_is = refl; since_is = refl }) h e
