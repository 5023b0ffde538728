-- Upgrade rows whose roots are found among listed ids are those of the rule.
use Rattle.std.proofs.Common.{Bool, List, ap, not, ℕ, ◌&&◌, ◌==◌, ◌≡◌}
use Rattle.seg_names.specs.declared.seg_id.SegId.{SegId}
use Rattle.book_rows.specs.Kinds.{same_kind}
use Rattle.book_rows.specs.declared.kinds.LockKind.TheVariants as LockKinds
use Rattle.book_rows.specs.declared.rows.PosseRow.{PosseRow}
use Rattle.book_rows.specs.declared.rows.Publication.{Publication}
use Rattle.book_rows.specs.declared.rows.UpgradeRow.{UpgradeRow}
use Rattle.iv_span.specs.Extent.{covers}
use Rattle.laws_unsound.specs.ChunkRows.{is_upgrade}
use Rattle.laws_unsound.specs.Rows.{first_failing}
use Rattle.row_search.specs.Listed.{listed_from}
use Rattle.lock_rules.specs.Roots.{is_upgrade_by}
use Rattle.row_search.proofs.Listing.{found_since}
use Rattle.row_search.proofs.Walking.{any_same, failing_same}

upgrade_same : (qs : List PosseRow) (pubs : List Publication) (u : UpgradeRow) → is_upgrade_by qs (listed_from (λ m. m.adds) 0 pubs) u ≡ is_upgrade qs pubs u
upgrade_same qs pubs u =
    any_same _ _ qs (λ q. ap (λ (b : Bool). not q.revoked && ((q.number == u.posse) && (same_kind q.lock_kind LockKinds.Replace && (covers q.span u.root.span && b)))) (found_since u.root q.since 0 pubs))

pub upgrades_same : (k : ℕ) (qs : List PosseRow) (pubs : List Publication) (added : List (ℕ × SegId)) (us : List UpgradeRow) → added ≡ listed_from (λ m. m.adds) 0 pubs
    → first_failing k (is_upgrade_by qs added) us ≡ first_failing k (is_upgrade qs pubs) us
upgrades_same k qs pubs added us a = rw a (failing_same k (is_upgrade_by qs (listed_from (λ m. m.adds) 0 pubs)) (is_upgrade qs pubs) us (upgrade_same qs pubs))
