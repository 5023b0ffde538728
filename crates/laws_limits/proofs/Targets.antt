-- The spans of an insert or a replace with their locks: within the limits where the spans and the locks are.
use Rattle.std.proofs.Common.{◌≡◌, suc, true, ◌==◌, ◌&&◌, List, Ok, Some, refl, sym, ap, subst, length, nat_le, ℕ, Bool}
use Rattle.std.specs.List.{list_all}
use Rattle.std.proofs.lemmas.Bool.{and_from, and_parts}
use Rattle.iv_span.specs.Extent.{Extent}
use Rattle.iv_time.specs.Range.{is_instant}
use Rattle.seg_names.specs.Names.{is_name, is_task_id}
use Rattle.book_rows.specs.Form.{is_few, item_limit, priority_limit}
use Rattle.book_rows.specs.Locks.{posse_of}
use Rattle.book_rows.specs.Over.{Target, target_of, targets}
use Rattle.book_rows.specs.Shape.{is_posse_row}
use Rattle.book_rows.specs.Spans.{is_span}
use Rattle.book_rows.specs.declared.kinds.LockKind.{LockKind}
use Rattle.book_rows.specs.declared.rows.PosseRow.{PosseRow}
use Rattle.book_rows.specs.declared.rows.TaskRow.{TaskRow}
use Rattle.laws_locks.proofs.Lists.{In-list_all, found_In}
use Rattle.laws_locks.proofs.Targets.{targets_have}

-- a lock's version is an instant
pub posse_version : (q : PosseRow) → is_posse_row q ≡ true → is_instant q.version ≡ true
posse_version q h =
    let members = and_parts (is_task_id q.group && is_name q.source && is_span q.span && is_instant q.version && nat_le q.priority priority_limit) (list_all is_task_id q.members) h in
    let high = and_parts (is_task_id q.group && is_name q.source && is_span q.span && is_instant q.version) (nat_le q.priority priority_limit) members.0 in
    (and_parts (is_task_id q.group && is_name q.source && is_span q.span) (is_instant q.version) high.0).1

-- the lock of a number that is found
pub found_version : (n : ℕ) (qs : List PosseRow) (q : PosseRow) → list_all is_posse_row qs ≡ true → posse_of n qs ≡ Some q → is_instant q.version ≡ true
found_version n qs q h e = posse_version q (In-list_all is_posse_row q qs (found_In (λ p. p.number == n) q qs e).0 h)

-- span and version are within their limits
abbrev pub is_target : Target → Bool
is_target x = is_span x.span && is_instant x.version

-- the spans of a command with the locks that are found for them
module _ (qs : List PosseRow) (t : TaskRow) (kind : LockKind) where
  pub targets_fit : (spans : List Extent) (xs : List Target) → list_all is_posse_row qs ≡ true → list_all is_span spans ≡ true → targets qs t kind spans ≡ Ok xs → list_all is_target xs ≡ true
  targets_fit spans xs rows proper found =
      targets_have qs t kind (λ spans xs. list_all is_span spans ≡ true → list_all is_target xs ≡ true) (λ h. refl)
      (λ s q ss ys i held rest h.
      let both = and_parts (is_span s) (list_all is_span ss) h in
      and_from (is_target (target_of s q)) (list_all is_target ys) (and_from (is_span s) (is_instant q.version) both.0 (posse_version q (In-list_all is_posse_row q qs i rows))) (rest both.1))
      spans xs found proper

  pub few_targets : (spans : List Extent) (xs : List Target) → targets qs t kind spans ≡ Ok xs → is_few spans ≡ true → is_few xs ≡ true
  few_targets spans xs found h =
      let as_many : length xs ≡ length spans = targets_have qs t kind (λ spans xs. length xs ≡ length spans) refl (λ s q ss ys i held e. ap (λ n. suc n) e) spans xs found in
      subst (λ n. nat_le n item_limit ≡ true) (sym as_many) h
