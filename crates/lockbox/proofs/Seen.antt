-- What a request finds in its looks is what the rule searches for.
use Rattle.std.proofs.Common.{◌≡◌, ℕ, ◌<ℤ◌, Bool, true, false, cond, not, ◌==◌, ◌&&◌, ◌||◌, List, [], ◌∷◌, ◌++◌, map, filter, Some, None, Option, refl, sym, ap, ◌∙◌, inl, inr, nat_lt, nat_le}
use Rattle.std.specs.Prelude.{fold}
use Rattle.std.specs.List.{list_any}
use Rattle.std.specs.Option.{option_map}
use Rattle.std.specs.Str.{bytes_eq}
use Rattle.std.proofs.lemmas.Bool.{cases_Bool, and_parts}
use Rattle.std.proofs.lemmas.List.{map-append}
use Rattle.std.proofs.lemmas.List.Elements.{filter-append}
use Rattle.std.proofs.lemmas.List.Folds.{list_any-append}
use Rattle.std.proofs.lemmas.List.Sums.{fold-append}
use Rattle.std.proofs.lemmas.Slice.Eq.{bytes_eq-Decides}
use Rattle.iv_span.specs.Extent.{Extent, covers, overlap}
use Rattle.book_rows.specs.Grant.{is_against, is_fit, joined_in, posses_after, revoked_in}
use Rattle.book_rows.specs.Kinds.{go_together, same_kind}
use Rattle.book_rows.specs.Lists.{stands_in}
use Rattle.book_rows.specs.Locks.{better, is_member, least, least_step}
use Rattle.book_rows.specs.declared.answers.Granted.{Granted}
use Rattle.book_rows.specs.declared.kinds.LockKind.{LockKind}
use Rattle.book_rows.specs.declared.kinds.LockKind.TheVariants as LockKinds
use Rattle.book_rows.specs.declared.rows.PosseRow.{PosseRow}
use Rattle.book_rows.specs.declared.rows.TaskRow.{TaskRow}
use Rattle.book_rows.specs.declared.rows.Want.{Want}
use Rattle.lock_posse.specs.Granting.{granted_row}
use Rattle.lock_posse.specs.Keys.{is_over}
use Rattle.lock_posse.proofs.Granted.{granted_rows}
use Rattle.lock_posse.proofs.KeyLemmas.{covers_overlap, lost_over}
use Rattle.lockbox.specs.Searches.{better_found, found_of, found_step, passes_as}
use Rattle.lockbox.specs.declared.searches.Found.{Found}
use Rattle.lockbox.specs.declared.searches.Wanted.{Wanted}
use Rattle.lockbox.specs.declared.searches.Wanted.TheVariants as Wanteds

-- ---- a lock after what was granted so far

any_listed : (task : List ℕ) (n : ℕ) (js : List ℕ) → list_any (λ m. bytes_eq m task) (map (λ (j : ℕ). task) (filter (λ j. j == n) js)) ≡ stands_in js n
any_listed task n [] = refl
any_listed task n (j ∷ js) =
    elim (cases_Bool (j == n)) [
      | inl on ↦ rw on (ap (λ b. b || list_any (λ m. bytes_eq m task) (map (λ (k : ℕ). task) (filter (λ k. k == n) js))) ((bytes_eq-Decides task task).1 refl))
      | inr off ↦ rw off (any_listed task n js)
    ]

pub member_joined : (js task : List ℕ) (p : PosseRow) → is_member task (joined_in js task p) ≡ (is_member task p || stands_in js p.number)
member_joined js task p =
    list_any-append (λ m. bytes_eq m task) p.members (map (λ (j : ℕ). task) (filter (λ j. j == p.number) js)) ∙ ap (λ b. is_member task p || b) (any_listed task p.number js)

-- ---- what is looked for is over the span of the request

apart_go : (kind other : LockKind) (s o : Extent) → overlap s o ≡ false → go_together kind s other o ≡ true
apart_go LockKinds.Exclusive other s o apart = rw apart refl
apart_go LockKinds.Shared LockKinds.Exclusive s o apart = rw apart refl
apart_go LockKinds.Shared LockKinds.Shared s o apart = refl
apart_go LockKinds.Shared LockKinds.Append s o apart = rw apart refl
apart_go LockKinds.Shared LockKinds.Replace s o apart = rw apart refl
apart_go LockKinds.Append LockKinds.Exclusive s o apart = rw apart refl
apart_go LockKinds.Append LockKinds.Shared s o apart = rw apart refl
apart_go LockKinds.Append LockKinds.Append s o apart = refl
apart_go LockKinds.Append LockKinds.Replace s o apart = rw apart refl
apart_go LockKinds.Replace LockKinds.Exclusive s o apart = rw apart refl
apart_go LockKinds.Replace LockKinds.Shared s o apart = rw apart refl
apart_go LockKinds.Replace LockKinds.Append s o apart = rw apart refl
apart_go LockKinds.Replace LockKinds.Replace s o apart = rw apart refl

go_apart : (kind other : LockKind) (s o : Extent) → not (go_together kind s other o) ≡ true → overlap s o ≡ true
go_apart kind other s o on =
    elim (cases_Bool (overlap s o)) [
      | inl shared ↦ shared
      | inr apart ↦ (let clash : false ≡ true = rw (apart_go kind other s o apart) at on in cc)
    ]

module _ (t : TaskRow) (w : Want) (some : w.span.start <ℤ w.span.end) where
  fit_over : (p : PosseRow) → is_fit t w p ≡ true → is_over t.source w.span p ≡ true
  fit_over p on =
      let a = and_parts (not p.revoked && bytes_eq p.source t.source && same_kind p.lock_kind w.lock_kind && bytes_eq p.group t.group && (p.priority == t.priority)) (covers p.span w.span) on in
      let b = and_parts (not p.revoked && bytes_eq p.source t.source && same_kind p.lock_kind w.lock_kind && bytes_eq p.group t.group) (p.priority == t.priority) a.0 in
      let c = and_parts (not p.revoked && bytes_eq p.source t.source && same_kind p.lock_kind w.lock_kind) (bytes_eq p.group t.group) b.0 in
      let d = and_parts (not p.revoked && bytes_eq p.source t.source) (same_kind p.lock_kind w.lock_kind) c.0 in
      let e = and_parts (not p.revoked) (bytes_eq p.source t.source) d.0 in
      rw (e.1, covers_overlap p.span w.span some a.1) refl

  against_over : (p : PosseRow) → is_against t w p ≡ true → is_over t.source w.span p ≡ true
  against_over p on =
      let a = and_parts (not p.revoked && bytes_eq p.source t.source) (not (go_together p.lock_kind p.span w.lock_kind w.span)) on in
      let b = and_parts (not p.revoked) (bytes_eq p.source t.source) a.0 in
      rw (b.1, go_apart p.lock_kind w.lock_kind p.span w.span a.1) refl

  passes_over : (wanted : Wanted) (p : PosseRow) → passes_as wanted t w p ≡ true → is_over t.source w.span p ≡ true
  passes_over Wanteds.Lost p on = lost_over t.task t.source w.span p on
  passes_over Wanteds.Fit p on = fit_over p on
  passes_over Wanteds.Block p on = against_over p (and_parts (is_against t w p) (nat_le t.priority p.priority) on).0
  passes_over Wanteds.Against p on = against_over p on

  -- also where the lock is seen as it is after what was granted so far
  pub searched_over : (wanted : Wanted) (rs js : List ℕ) (p : PosseRow) → passes_as wanted t w (granted_row rs js t.task p) ≡ true → is_over t.source w.span p ≡ true
  searched_over wanted rs js p on = passes_over wanted (granted_row rs js t.task p) on

-- ---- the least that pass

module _ (task : List ℕ) where
  by_number : (b : Bool) (p q : PosseRow) → cond b (found_of task p) (found_of task q) ≡ found_of task (cond b p q)
  by_number true p q = refl
  by_number false p q = refl

  better_is : (best : Option PosseRow) (p : PosseRow) → better_found (option_map (found_of task) best) (found_of task p) ≡ found_of task (better best p)
  better_is None p = refl
  better_is (Some q) p = by_number (nat_lt p.number q.number) p q

  found_is : (b : Bool) (best : Option PosseRow) (p : PosseRow)
      → cond b (Some (better_found (option_map (found_of task) best) (found_of task p))) (option_map (found_of task) best) ≡ option_map (found_of task) (cond b (Some (better best p)) best)
  found_is true best p = ap Some (better_is best p)
  found_is false best p = refl

-- a search of locks as they are after a change that keeps the numbers is a search of the locks before it
module _ (rs js task : List ℕ) (test : PosseRow → Bool) where
  either_row : (b : Bool) (p q : PosseRow) → cond b (granted_row rs js task p) (granted_row rs js task q) ≡ granted_row rs js task (cond b p q)
  either_row true p q = refl
  either_row false p q = refl

  better_after : (best : Option PosseRow) (p : PosseRow) → better (option_map (granted_row rs js task) best) (granted_row rs js task p) ≡ granted_row rs js task (better best p)
  better_after None p = refl
  better_after (Some q) p = either_row (nat_lt p.number q.number) p q

  step_after : (b : Bool) (best : Option PosseRow) (p : PosseRow)
      → cond b (Some (better (option_map (granted_row rs js task) best) (granted_row rs js task p))) (option_map (granted_row rs js task) best) ≡ option_map (granted_row rs js task) (cond b (Some (better best p)) best)
  step_after true best p = ap Some (better_after best p)
  step_after false best p = refl

  fold_after : (best : Option PosseRow) (ps : List PosseRow)
      → fold (least_step test) (option_map (granted_row rs js task) best) (map (granted_row rs js task) ps) ≡ option_map (granted_row rs js task) (fold (least_step (λ p. test (granted_row rs js task p))) best ps)
  fold_after best [] = refl
  fold_after best (p ∷ ps) =
      ap (λ o. fold (least_step test) o (map (granted_row rs js task) ps)) (step_after (test (granted_row rs js task p)) best p)
      ∙ fold_after (least_step (λ q. test (granted_row rs js task q)) best p) ps

  pub least_after : (ps : List PosseRow) → least test (map (granted_row rs js task) ps) ≡ option_map (granted_row rs js task) (least (λ p. test (granted_row rs js task p)) ps)
  least_after ps = fold_after None ps

map_found : (rs js task : List ℕ) (o : Option PosseRow) → option_map (found_of task) (option_map (granted_row rs js task) o) ≡ option_map (λ p. found_of task (granted_row rs js task p)) o
map_found rs js task None = refl
map_found rs js task (Some p) = refl

-- what the look in the table finds
pub found_in : (rs js : List ℕ) (t : TaskRow) (w : Want) (wanted : Wanted) (ps : List PosseRow) (o : Option PosseRow)
    → o ≡ least (λ p. passes_as wanted t w (granted_row rs js t.task p)) ps
    → option_map (λ p. found_of t.task (granted_row rs js t.task p)) o ≡ option_map (found_of t.task) (least (passes_as wanted t w) (map (granted_row rs js t.task) ps))
found_in rs js t w wanted ps o is =
    ap (option_map (λ p. found_of t.task (granted_row rs js t.task p))) is
    ∙ (sym (map_found rs js t.task (least (λ p. passes_as wanted t w (granted_row rs js t.task p)) ps)) ∙ ap (option_map (found_of t.task)) (sym (least_after rs js t.task (passes_as wanted t w) ps)))

module _ (t : TaskRow) (w : Want) (wanted : Wanted) where
  all_found : (best : Option PosseRow) (ps : List PosseRow) → fold (found_step wanted t w) (option_map (found_of t.task) best) ps ≡ option_map (found_of t.task) (fold (least_step (passes_as wanted t w)) best ps)
  all_found best [] = refl
  all_found best (p ∷ ps) =
      ap (λ o. fold (found_step wanted t w) o ps) (found_is t.task (passes_as wanted t w p) best p)
      ∙ all_found (least_step (passes_as wanted t w) best p) ps

  -- the table, and then the new rows
  pub found_all : (ps : List PosseRow) (g : Granted) (best : Option Found) → best ≡ option_map (found_of t.task) (least (passes_as wanted t w) (map (granted_row g.revoked g.joins t.task) ps))
      → fold (found_step wanted t w) best g.rows ≡ option_map (found_of t.task) (least (passes_as wanted t w) (posses_after ps t.task g))
  found_all ps g best is =
      ap (λ o. fold (found_step wanted t w) o g.rows) is
      ∙ (
      all_found (least (passes_as wanted t w) (map (granted_row g.revoked g.joins t.task) ps)) g.rows
      ∙ ap (option_map (found_of t.task))
      (
      sym (fold-append (least_step (passes_as wanted t w)) None (map (granted_row g.revoked g.joins t.task) ps) g.rows)
      ∙ ap (λ qs. least (passes_as wanted t w) (qs ++ g.rows)) (granted_rows g.revoked g.joins t.task ps)
      )
      )

-- ---- the locks in the way

numbers_first : (rs js : List ℕ) (t : TaskRow) (w : Want) (ps : List PosseRow)
    → map (λ p. p.number) (filter (is_against t w) (map (joined_in js t.task) (map (revoked_in rs) ps))) ≡ map (λ p. p.number) (filter (λ p. is_against t w (granted_row rs js t.task p)) ps)
numbers_first rs js t w [] = refl
numbers_first rs js t w (p ∷ ps) =
    elim (cases_Bool (is_against t w (granted_row rs js t.task p))) [ inl on ↦ rw on (ap (λ ns. p.number ∷ ns) (numbers_first rs js t w ps)) | inr off ↦ rw off (numbers_first rs js t w ps) ]

pub numbers_after : (ps : List PosseRow) (g : Granted) (t : TaskRow) (w : Want)
    → map (λ p. p.number) (filter (λ p. is_against t w (granted_row g.revoked g.joins t.task p)) ps) ++ map (λ p. p.number) (filter (is_against t w) g.rows)
    ≡ map (λ p. p.number) (filter (is_against t w) (posses_after ps t.task g))
numbers_after ps g t w =
    let qs : List PosseRow = map (joined_in g.joins t.task) (map (revoked_in g.revoked) ps) in
    sym
    (
    ap (λ xs. map (λ (p : PosseRow). p.number) xs) (filter-append (is_against t w) qs g.rows)
    ∙ (
    map-append (λ (p : PosseRow). p.number) (filter (is_against t w) qs) (filter (is_against t w) g.rows)
    ∙ ap (λ ns. ns ++ map (λ (p : PosseRow). p.number) (filter (is_against t w) g.rows)) (numbers_first g.revoked g.joins t w ps)
    )
    )
