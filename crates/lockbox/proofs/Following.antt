-- Requests that follow others are decided on what these made.
use Rattle.std.proofs.Common.{◌≡◌, ℕ, Bool, true, false, ◌==◌, ◌||◌, List, [], ◌∷◌, map, filter, Ok, Err, Result, refl, sym, ap, ◌∙◌, append_assoc}
use Rattle.std.specs.List.{list_any}
use Rattle.std.proofs.lemmas.List.{append-nil, map-append}
use Rattle.std.proofs.lemmas.List.Elements.{filter-append}
use Rattle.book_rows.specs.Grant.{both_granted, continued, grant, grant_all, granted_then, joined_in, nothing_granted, posses_after, revoked_in}
use Rattle.book_rows.specs.Lists.{ascending}
use Rattle.book_rows.specs.declared.answers.Counters.{Counters}
use Rattle.book_rows.specs.declared.answers.Granted.{Granted}
use Rattle.book_rows.specs.declared.replies.Refusal.{Refusal}
use Rattle.book_rows.specs.declared.rows.PosseRow.{PosseRow}
use Rattle.book_rows.specs.declared.rows.TaskRow.{TaskRow}
use Rattle.book_rows.specs.declared.rows.Want.{Want}
use Rattle.lockbox.specs.Decided.{IsAnswer}
use Rattle.lockbox.specs.declared.fault.LockFault.{LockFault}
use Rattle.lockbox.specs.declared.fault.LockFault.TheVariants as Faults
use Rattle.lockbox.proofs.Merging.{any_merged, merged_assoc, or_assoc}

module _ (task : List ℕ) where
  -- ---- nothing

  or_false : (b : Bool) → (b || false) ≡ b
  or_false true = refl
  or_false false = refl

  row_after_nothing : (p : PosseRow) → joined_in [] task (revoked_in [] p) ≡ p
  row_after_nothing p = λ i. record p { revoked = or_false p.revoked i; members = append-nil p.members i }

  rows_after_nothing : (ps : List PosseRow) → map (joined_in [] task) (map (revoked_in []) ps) ≡ ps
  rows_after_nothing [] = refl
  rows_after_nothing (p ∷ ps) = λ i. row_after_nothing p i ∷ rows_after_nothing ps i

  pub after_nothing : (k : Counters) (ps : List PosseRow) → posses_after ps task (nothing_granted k) ≡ ps
  after_nothing k ps = append-nil (map (joined_in [] task) (map (revoked_in []) ps)) ∙ rows_after_nothing ps

  pub then_nothing : (g : Granted) → ascending g.revoked ≡ g.revoked → both_granted task g (nothing_granted g.after) ≡ g
  then_nothing g e = λ i. record {
    locks = append-nil g.locks i;
    joins = append-nil g.joins i;
    rows = after_nothing g.after g.rows i;
    revoked = e i;
    after = g.after;
  }

  -- ---- both

  row_both : (g h : Granted) (p : PosseRow) → joined_in (both_granted task g h).joins task (revoked_in (both_granted task g h).revoked p)
      ≡ joined_in h.joins task (revoked_in h.revoked (joined_in g.joins task (revoked_in g.revoked p)))
  row_both g h p =
      rw (
        any_merged (λ n. n == p.number) g.revoked h.revoked,
        ← or_assoc p.revoked (list_any (λ n. n == p.number) g.revoked) (list_any (λ n. n == p.number) h.revoked),
        filter-append (λ n. n == p.number) g.joins h.joins,
        map-append (λ (n : ℕ). task) (filter (λ n. n == p.number) g.joins) (filter (λ n. n == p.number) h.joins),
        ← append_assoc,
      ) refl

  rows_both : (g h : Granted) (ps : List PosseRow) → map (joined_in (both_granted task g h).joins task) (map (revoked_in (both_granted task g h).revoked) ps)
      ≡ map (joined_in h.joins task) (map (revoked_in h.revoked) (map (joined_in g.joins task) (map (revoked_in g.revoked) ps)))
  rows_both g h [] = refl
  rows_both g h (p ∷ ps) = rw (row_both g h p, rows_both g h ps) refl

  -- what both make is what the second makes of what the first made
  pub after_both : (g h : Granted) (ps : List PosseRow) → posses_after ps task (both_granted task g h) ≡ posses_after (posses_after ps task g) task h
  after_both g h ps =
      rw (
        rows_both g h ps,
        map-append (revoked_in h.revoked) (map (joined_in g.joins task) (map (revoked_in g.revoked) ps)) g.rows,
        map-append (joined_in h.joins task) (map (revoked_in h.revoked) (map (joined_in g.joins task) (map (revoked_in g.revoked) ps))) (map (revoked_in h.revoked) g.rows),
      )
      (sym (append_assoc _ _ h.rows))

  pub both_assoc : (f g h : Granted) → both_granted task f (both_granted task g h) ≡ both_granted task (both_granted task f g) h
  both_assoc f g h = λ i. record {
    locks = sym (append_assoc f.locks g.locks h.locks) i;
    joins = sym (append_assoc f.joins g.joins h.joins) i;
    rows = after_both g h f.rows i;
    revoked = sym (merged_assoc f.revoked g.revoked h.revoked) i;
    after = h.after;
  }

  both_then : (f g : Granted) (r : Result Granted Refusal) → granted_then task f (granted_then task g r) ≡ granted_then task (both_granted task f g) r
  both_then f g (Err why) = refl
  both_then f g (Ok h) = ap Ok (both_assoc f g h)

  -- a refused request refuses all
  pub stays_refused : (e : LockFault) (r : Result Granted Refusal) (g : Granted) (rest : Granted → Result Granted Refusal)
      → IsAnswer (Err e) r → IsAnswer (Err e) (granted_then task g (continued task r rest))
  stays_refused (Faults.Revoked n) r g rest h = ap (λ q. granted_then task g (continued task q rest)) h
  stays_refused (Faults.Conflict n) r g rest h = ap (λ q. granted_then task g (continued task q rest)) h
  stays_refused Faults.ClockEnd r g rest h = ap (λ q. granted_then task g (continued task q rest)) h
  stays_refused (Faults.Full table) r g rest h = ap (λ q. granted_then task g (continued task q rest)) h
  stays_refused Faults.OutOfMemory r g rest h = tt

module _ (ps : List PosseRow) (t : TaskRow) where
  -- one request more is granted
  pub one_more : (g h : Granted) (w : Want) (ws : List Want) → grant (posses_after ps t.task g) g.after t w ≡ Ok h
      → granted_then t.task g (grant_all (posses_after ps t.task g) g.after t (w ∷ ws))
      ≡ granted_then t.task (both_granted t.task g h) (grant_all (posses_after ps t.task (both_granted t.task g h)) h.after t ws)
  one_more g h w ws e =
      ap (λ r. granted_then t.task g (continued t.task r (λ f. grant_all (posses_after (posses_after ps t.task g) t.task f) f.after t ws))) e
      ∙ (
      both_then t.task g h (grant_all (posses_after (posses_after ps t.task g) t.task h) h.after t ws)
      ∙ ap (λ qs. granted_then t.task (both_granted t.task g h) (grant_all qs h.after t ws)) (sym (after_both t.task g h ps))
      )

  nothing_before : (r : Result Granted Refusal) (k : Counters) → granted_then t.task (nothing_granted k) r ≡ r
  nothing_before (Err why) k = refl
  nothing_before (Ok h) k = refl

  pub none_yet : (k : Counters) (ws : List Want) → granted_then t.task (nothing_granted k) (grant_all (posses_after ps t.task (nothing_granted k)) k t ws) ≡ grant_all ps k t ws
  none_yet k ws =
      nothing_before (grant_all (posses_after ps t.task (nothing_granted k)) k t ws) k
      ∙ ap (λ qs. grant_all qs k t ws) (after_nothing t.task k ps)
