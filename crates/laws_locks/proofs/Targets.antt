-- What the check of an insert or a replacement says, and which locks it finds.
use Rattle.std.proofs.Common.{Err, List, None, Ok, Option, Result, Some, [], ap, refl, subst, true, ℕ, ◌∷◌, ◌≡◌}
use Rattle.std.specs.Prelude.{option_map}
use Rattle.iv_span.specs.Extent.{Extent}
use Rattle.book_rows.specs.Lists.{In, on_ok, or_else}
use Rattle.book_rows.specs.Locks.{clear, clear_by, is_held, is_lost, least}
use Rattle.book_rows.specs.Over.{Filling, Inserting, Replacing, Target, bad_span, both_in_order, check_over, held_by, held_for, lock_for, or_err, target_of, targets, version_fault, way_fault}
use Rattle.book_rows.specs.Publications.{Publish}
use Rattle.book_rows.specs.declared.commands.Command.{Command}
use Rattle.book_rows.specs.declared.kinds.LockKind.{LockKind}
use Rattle.book_rows.specs.declared.replies.Refusal.{Refusal}
use Rattle.book_rows.specs.declared.rows.Book.{Book}
use Rattle.book_rows.specs.declared.rows.PosseRow.{PosseRow}
use Rattle.book_rows.specs.declared.rows.TaskRow.{TaskRow}
use Rattle.laws_locks.proofs.LookUps.{least_found}
use Rattle.book_rows.specs.declared.answers.Clear.TheVariants as Clears
use Rattle.book_rows.specs.declared.commands.Command.TheVariants as Commands
use Rattle.book_rows.specs.declared.replies.Refusal.TheVariants as Refusals

-- ---- the lock of a span

by_look_ups : (qs : List PosseRow) (t : TaskRow) (kind : LockKind) (s : Extent) (q : PosseRow) (lost held : Option PosseRow) → least (is_held t.task t.source s kind) qs ≡ held → held_by lost held s ≡ Ok q
    → In q qs × (is_held t.task t.source s kind q ≡ true)
by_look_ups qs t kind s q (Some lost) held e h = cc
by_look_ups qs t kind s q None None e h = cc
by_look_ups qs t kind s q None (Some x) e h =
    let same : x ≡ q = cc in
    subst (λ (q : PosseRow). In q qs × (is_held t.task t.source s kind q ≡ true)) same (least_found (is_held t.task t.source s kind) qs x e)

-- it is one of the locks, and the task holds it for the span
pub held_lock : (qs : List PosseRow) (t : TaskRow) (kind : LockKind) (s : Extent) (q : PosseRow) → held_for qs t kind s ≡ Ok q → In q qs × (is_held t.task t.source s kind q ≡ true)
held_lock qs t kind s q h = by_look_ups qs t kind s q (least (is_lost t.task t.source s) qs) (least (is_held t.task t.source s kind) qs) refl h

-- it is told as `clear` tells it
revoked_by : (lost held : Option PosseRow) (s : Extent) (n : ℕ) → clear_by lost held ≡ Clears.Revoked n → held_by lost held s ≡ Err (Refusals.LockRevoked n)
revoked_by (Some l) held s n e = let same : l.number ≡ n = cc in ap (λ n. Err (Refusals.LockRevoked n)) same
revoked_by None None s n e = cc
revoked_by None (Some q) s n e = cc

pub told_revoked : (qs : List PosseRow) (t : TaskRow) (kind : LockKind) (s : Extent) (n : ℕ) → clear qs t.task t.source s kind ≡ Clears.Revoked n → held_for qs t kind s ≡ Err (Refusals.LockRevoked n)
told_revoked qs t kind s n e = revoked_by (least (is_lost t.task t.source s) qs) (least (is_held t.task t.source s kind) qs) s n e

held_at : (lost held : Option PosseRow) (s : Extent) (n : ℕ) → clear_by lost held ≡ Clears.Held n → (q : PosseRow) × (held_by lost held s ≡ Ok q) × (q.number ≡ n)
held_at (Some l) held s n e = cc
held_at None None s n e = cc
held_at None (Some q) s n e = let same : q.number ≡ n = cc in (q, refl, same)

pub told_held : (qs : List PosseRow) (t : TaskRow) (kind : LockKind) (s : Extent) (n : ℕ) → clear qs t.task t.source s kind ≡ Clears.Held n → (q : PosseRow) × (held_for qs t kind s ≡ Ok q) × (q.number ≡ n)
told_held qs t kind s n e = held_at (least (is_lost t.task t.source s) qs) (least (is_held t.task t.source s kind) qs) s n e

-- ---- spans with their locks

-- what holds of no span, and of a span more with a lock that is held for it, holds of all that are found
module _ (qs : List PosseRow) (t : TaskRow) (kind : LockKind) (P : List Extent → List Target → Type 0) (none : P [] [])
    (more : (s : Extent) (q : PosseRow) (ss : List Extent) (xs : List Target) → In q qs → is_held t.task t.source s kind q ≡ true → P ss xs → P (s ∷ ss) (target_of s q ∷ xs)) where
  with_rest : (s : Extent) (ss : List Extent) (xs : List Target) (q : PosseRow) → held_for qs t kind s ≡ Ok q → ((ys : List Target) → targets qs t kind ss ≡ Ok ys → P ss ys)
      → (r : Result (List Target) Refusal) → targets qs t kind ss ≡ r → on_ok r (λ ys. Ok (target_of s q ∷ ys)) ≡ Ok xs → P (s ∷ ss) xs
  with_rest s ss xs q e all (Err why) d h = cc
  with_rest s ss xs q e all (Ok ys) d h =
      let same : target_of s q ∷ ys ≡ xs = cc in
      let w = held_lock qs t kind s q e in
      subst (λ (xs : List Target). P (s ∷ ss) xs) same (more s q ss ys w.0 w.1 (all ys d))

  by_lock : (s : Extent) (ss : List Extent) (xs : List Target) → ((ys : List Target) → targets qs t kind ss ≡ Ok ys → P ss ys)
      → (r : Result PosseRow Refusal) → held_for qs t kind s ≡ r → on_ok r (λ q. on_ok (targets qs t kind ss) (λ ys. Ok (target_of s q ∷ ys))) ≡ Ok xs → P (s ∷ ss) xs
  by_lock s ss xs all (Err why) e h = cc
  by_lock s ss xs all (Ok q) e h = with_rest s ss xs q e all (targets qs t kind ss) refl h

  pub targets_have : (spans : List Extent) (xs : List Target) → targets qs t kind spans ≡ Ok xs → P spans xs
  targets_have [] xs h = let same : [] ≡ xs = cc in subst (λ (xs : List Target). P [] xs) same none
  targets_have (s ∷ ss) xs h = by_lock s ss xs (targets_have ss) (held_for qs t kind s) refl h

-- ---- the cases of the check

-- the command that publishes in spans
abbrev pub fills : Filling → List ℕ → Publish → Command
fills Inserting task p = Commands.Insert task p.spans p.ids p.tombstones p.ranges
fills Replacing task p = Commands.Replace task p.spans p.ids p.tombstones p.ranges

-- none of them fails
pub record IsLetThrough (f : Filling) (b : Book) (p : Publish) (t : TaskRow) (xs : List Target) : Type 0 where
  pub filled : bad_span t.source p ≡ None
  pub held : targets b.posses t (lock_for f) p.spans ≡ Ok xs
  pub versions : version_fault b.chunks t.source xs (both_in_order p.ids p.tombstones) ≡ None
  pub free : way_fault f b p t xs ≡ None

pub no_fault : (o p : Option Refusal) → or_else o p ≡ None → (o ≡ None) × (p ≡ None)
no_fault None p h = (refl, h)
no_fault (Some why) p h = cc

ok_parts : (bad : Option Extent) (locks : Result (List Target) Refusal) (fault : List Target → Option Refusal) (xs : List Target) → or_err (option_map Refusals.BadSpan bad) (on_ok locks (λ xs. or_err (fault xs) (Ok xs))) ≡ Ok xs
    → (bad ≡ None) × (locks ≡ Ok xs) × (fault xs ≡ None)
ok_parts (Some s) locks fault xs h = cc
ok_parts None (Err why) fault xs h = cc
ok_parts None (Ok ys) fault xs h = go (fault ys) refl h where
  go : (r : Option Refusal) → fault ys ≡ r → or_err {X = List Target} r (Ok ys) ≡ Ok xs → (◌≡◌ {A = Option Extent} None None) × (◌≡◌ {A = Result (List Target) Refusal} (Ok ys) (Ok xs)) × (fault xs ≡ None)
  go (Some why) e f = cc
  go None e f = (let same : ys ≡ xs = cc in (refl, f, subst (λ (xs : List Target). fault xs ≡ None) same e))

pub let_through : (f : Filling) (b : Book) (p : Publish) (t : TaskRow) (xs : List Target) → check_over f b p t ≡ Ok xs → IsLetThrough f b p t xs
let_through f b p t xs h =
    let parts = ok_parts (bad_span t.source p) (targets b.posses t (lock_for f) p.spans) (λ xs. or_else (version_fault b.chunks t.source xs (both_in_order p.ids p.tombstones)) (way_fault f b p t xs)) xs h in
    let faults = no_fault (version_fault b.chunks t.source xs (both_in_order p.ids p.tombstones)) (way_fault f b p t xs) parts.2 in
    record { filled = parts.0; held = parts.1; versions = faults.0; free = faults.1 }
