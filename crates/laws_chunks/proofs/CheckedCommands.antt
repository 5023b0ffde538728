-- An insert or a replacement that its check lets through keeps the rules on chunks.
use Rattle.std.proofs.Common.{Bool, List, None, bytes_eq, ◌==◌, false, find, inl, inr, map, not, refl, sym, true, ℕ, ◌&&◌, ◌∙◌, ◌≡◌}
use Rattle.std.proofs.lemmas.Bool.{and_from, cases_Bool, false≢true}
use Rattle.std.proofs.lemmas.Bool.Decides.{Decides-eqb}
use Rattle.std.proofs.lemmas.Slice.Eq.{bytes_eq-Decides}
use Rattle.std.specs.List.{list_all}
use Rattle.iv_span.specs.Extent.{Extent, covers, overlap}
use Rattle.book_rows.specs.Allocation.{is_root}
use Rattle.book_rows.specs.Lists.{In, stands_in}
use Rattle.book_rows.specs.Over.{Inserting, Replacing, Target, root_fault, straddles_one, upgrade_fault}
use Rattle.book_rows.specs.Publications.{Publish}
use Rattle.book_rows.specs.Spans.{is_span, overlaps_one, straddles}
use Rattle.book_rows.specs.declared.rows.Book.{Book}
use Rattle.book_rows.specs.declared.rows.PendingRow.{PendingRow}
use Rattle.book_rows.specs.declared.rows.TaskRow.{TaskRow}
use Rattle.book_rows.specs.declared.rows.UpgradeRow.{UpgradeRow}
use Rattle.laws_locks.proofs.Lists.{none_mapped}
use Rattle.laws_locks.proofs.Targets.{IsLetThrough, let_through, no_fault}
use Rattle.laws_chunks.specs.Checks.{CheckedInsertKeeps, CheckedReplaceKeeps}
use Rattle.laws_chunks.specs.Inserts.{AreDisjoint, ArePlaced, IsInsertSpan}
use Rattle.laws_chunks.specs.Replacements.{IsReplaceSpan}
use Rattle.laws_chunks.proofs.CheckedSpans.{IsChecked, are_disjoint, are_placed, checked, filled_at, filled_number, filled_since, span_in, tombs_placed}
use Rattle.laws_chunks.proofs.InsertCommand.{inserted_keeps}
use Rattle.laws_chunks.proofs.LookUps.{find_none}
use Rattle.laws_chunks.proofs.Members.{any_from_In, map_In, none_In}
use Rattle.laws_chunks.proofs.ReplaceCommand.{replaced_keeps}
use Rattle.laws_chunks.proofs.Spans.{overlap_swap, same_id_from}
use Rattle.book_rows.specs.declared.kinds.LockKind.TheVariants as LockKinds
use Rattle.book_rows.specs.declared.replies.Refusal.TheVariants as Refusals

off_last : (b c : Bool) → (b && c) ≡ false → b ≡ true → c ≡ false
off_last true c h y = h
off_last false c h y = absurd (false≢true y)

on_last : (b c : Bool) → (b && not c) ≡ false → b ≡ true → c ≡ true
on_last true true h y = refl
on_last true false h y = sym h
on_last false c h y = absurd (false≢true y)

-- ---- an insert

module _ (b : Book) (t : TaskRow) (given : Publish) (xs : List Target) (proper : list_all is_span given.spans ≡ true) (through : IsLetThrough Inserting b given t xs) where
  over_checked : IsChecked b.chunks b.posses t LockKinds.Exclusive given xs
  over_checked = checked Inserting b given t xs through

  abbrev is_near : PendingRow → Bool
  is_near p = bytes_eq p.id.source t.source && overlaps_one given.spans p.id.span

  no_pending : (x : Target) → In x xs → (p : PendingRow) → In p b.pendings → p.id.source ≡ t.source → overlap p.id.span x.span ≡ false
  no_pending x i p j source = elim (cases_Bool (overlap p.id.span x.span)) [
    | inr off ↦ off
    | inl on ↦ absurd (false≢true (sym (none_In (λ s. overlap s p.id.span) x.span given.spans (span_in b t LockKinds.Exclusive given xs proper over_checked x i)
        (off_last (bytes_eq p.id.source t.source) (overlaps_one given.spans p.id.span) (find_none is_near b.pendings (none_mapped (λ (p : PendingRow). Refusals.PendingOverlap p.id) (find is_near b.pendings) through.free) p j) ((bytes_eq-Decides p.id.source t.source).1 source)))
        ∙ overlap_swap p.id.span x.span on))
  ]

  pub insert_span : (x : Target) → In x xs → IsInsertSpan b t given.ids given.tombstones x
  insert_span x i = record { filled = filled_at b t LockKinds.Exclusive given xs proper over_checked x i; no_pending = no_pending x i }

  inserted_disjoint : AreDisjoint xs
  inserted_disjoint = are_disjoint b t LockKinds.Exclusive given xs proper over_checked

  inserted_placed : ArePlaced xs given.ids
  inserted_placed = are_placed b t LockKinds.Exclusive given xs proper over_checked

  inserted_tombs : ArePlaced xs given.tombstones
  inserted_tombs = tombs_placed b t LockKinds.Exclusive given xs proper over_checked

pub checked_insert_keeps : CheckedInsertKeeps
checked_insert_keeps b t given xs proper ok h =
    let through = let_through Inserting b given t xs ok in
    inserted_keeps b t xs given
    (inserted_disjoint b t given xs proper through)
    (inserted_placed b t given xs proper through)
    (inserted_tombs b t given xs proper through)
    (insert_span b t given xs proper through) h

-- ---- a replacement

-- what straddles no span lies within each that it overlaps
lies_within : (spans : List Extent) (a s : Extent) → straddles_one spans a ≡ false → In s spans → overlap s a ≡ true → covers s a ≡ true
lies_within spans a s off i o = on_last (overlap s a) (covers s a) (none_In (λ s. straddles s a) s spans i off) o

module _ (b : Book) (t : TaskRow) (given : Publish) (xs : List Target) (proper : list_all is_span given.spans ≡ true) (through : IsLetThrough Replacing b given t xs) where
  c : IsChecked b.chunks b.posses t LockKinds.Replace given xs
  c = checked Replacing b given t xs through

  abbrev locks : List ℕ
  locks = map (λ (x : Target). x.lock) xs

  abbrev is_upgrade_across : UpgradeRow → Bool
  is_upgrade_across u = stands_in locks u.posse && straddles_one given.spans u.root.span

  abbrev is_root_across : PendingRow → Bool
  is_root_across p = is_root p && bytes_eq p.id.source t.source && straddles_one given.spans p.id.span

  grains : (upgrade_fault b.upgrades locks given.spans ≡ None) × (root_fault b.pendings t.source given.spans ≡ None)
  grains = no_fault (upgrade_fault b.upgrades locks given.spans) (root_fault b.pendings t.source given.spans) through.free

  roots_within : (x : Target) → In x xs → (r : PendingRow) → In r b.pendings → r.id ≡ r.root → r.id.source ≡ t.source → overlap r.id.span x.span ≡ true → covers x.span r.id.span ≡ true
  roots_within x i r j root source o =
      let off = off_last (is_root r && bytes_eq r.id.source t.source) (straddles_one given.spans r.id.span)
      (find_none is_root_across b.pendings (none_mapped (λ (p : PendingRow). Refusals.Granularity p.id) (find is_root_across b.pendings) grains.1) r j)
      (and_from (is_root r) (bytes_eq r.id.source t.source) (same_id_from r.id r.root root) ((bytes_eq-Decides r.id.source t.source).1 source)) in
      lies_within given.spans r.id.span x.span off (span_in b t LockKinds.Replace given xs proper c x i) (overlap_swap r.id.span x.span o)

  upgrades_within : (x : Target) → In x xs → (u : UpgradeRow) → In u b.upgrades → u.posse ≡ x.lock → overlap u.root.span x.span ≡ true → covers x.span u.root.span ≡ true
  upgrades_within x i u j e o =
      let listed : stands_in locks u.posse ≡ true = any_from_In (λ m. m == u.posse) x.lock locks (map_In (λ (x : Target). x.lock) x xs i) ((Decides-eqb x.lock u.posse).1 (sym e)) in
      let off = off_last (stands_in locks u.posse) (straddles_one given.spans u.root.span)
      (find_none is_upgrade_across b.upgrades (none_mapped (λ (u : UpgradeRow). Refusals.Granularity u.root) (find is_upgrade_across b.upgrades) grains.0) u j) listed in
      lies_within given.spans u.root.span x.span off (span_in b t LockKinds.Replace given xs proper c x i) (overlap_swap u.root.span x.span o)

  pub replace_span : (x : Target) → In x xs → IsReplaceSpan b t given.ids given.tombstones x
  replace_span x i = record {
    filled = filled_at b t LockKinds.Replace given xs proper c x i;
    number_is = filled_number b t LockKinds.Replace given xs proper c x i;
    since_is = filled_since b t LockKinds.Replace given xs proper c x i;
    roots_within = roots_within x i;
    upgrades_within = upgrades_within x i;
  }

  replaced_disjoint : AreDisjoint xs
  replaced_disjoint = are_disjoint b t LockKinds.Replace given xs proper c

  replaced_placed : ArePlaced xs given.ids
  replaced_placed = are_placed b t LockKinds.Replace given xs proper c

  replaced_tombs : ArePlaced xs given.tombstones
  replaced_tombs = tombs_placed b t LockKinds.Replace given xs proper c

pub checked_replace_keeps : CheckedReplaceKeeps
checked_replace_keeps b t given xs proper ok h =
    let through = let_through Replacing b given t xs ok in
    replaced_keeps b t xs given
    (replaced_disjoint b t given xs proper through)
    (replaced_placed b t given xs proper through)
    (replaced_tombs b t given xs proper through)
    (replace_span b t given xs proper through) h
