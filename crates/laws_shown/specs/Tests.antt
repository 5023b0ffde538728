-- Finite tests that decide the rules which speak of every instant.
use Rattle.std.specs.Prelude.{◌&&◌, ◌++◌, ◌==◌, ◌||◌, ◌∷◌, ◌≡◌, Bool, List, map, nat_le, not, true, ℕ, ℤ}
use Rattle.std.specs.Bool.{Decides}
use Rattle.std.specs.List.{list_all}
use Rattle.iv_span.specs.Extent.{Extent, has}
use Rattle.seg_names.specs.declared.seg_id.SegId.{SegId}
use Rattle.book_rows.specs.Carried.{is_seen_within}
use Rattle.book_rows.specs.Contents.{alive}
use Rattle.book_rows.specs.Kinds.{same_kind}
use Rattle.book_rows.specs.Lists.{In, gathered}
use Rattle.book_rows.specs.Live.{is_covered}
use Rattle.book_rows.specs.Publications.{spans_of}
use Rattle.book_rows.specs.Rules.{CarriesUpgrades, ShowsContents, upgraded}
use Rattle.book_rows.specs.Shape.{all_adds}
use Rattle.book_rows.specs.Visible.{is_visible, shown}
use Rattle.book_rows.specs.declared.rows.ChunkRow.{ChunkRow}
use Rattle.book_rows.specs.declared.rows.PosseRow.{PosseRow}
use Rattle.book_rows.specs.declared.rows.Publication.{Publication}
use Rattle.book_rows.specs.declared.rows.SegmentRow.{SegmentRow}
use Rattle.book_rows.specs.declared.rows.UpgradeRow.{UpgradeRow}
use Rattle.book_rows.specs.declared.kinds.LockKind.TheVariants as LockKinds
use Rattle.laws_shown.specs.Ends.{ends_within}

-- ---- what is shown

-- sources and roots of the segments and of the publications: of others nothing is shown, and nothing was added
abbrev pub sources_of : List SegmentRow → List Publication → List (List ℕ)
sources_of rows pubs = map (λ r. r.id.source) rows ++ map (λ m. m.source) pubs

abbrev pub roots_of : List SegmentRow → List Publication → List SegId
roots_of rows pubs = map (λ r. r.root) rows ++ all_adds pubs

-- at their ends may change what is visible and what the publications took away
abbrev pub turning_spans : List SegmentRow → List Publication → List Extent
turning_spans rows pubs = map (λ r. r.id.span) rows ++ gathered spans_of pubs

-- the root is shown as often as the publications put it there
abbrev pub is_shown_as_put : List SegmentRow → List Publication → List ℕ → SegId → ℤ → Bool
is_shown_as_put rows pubs source root t = shown rows source t root == alive (λ k. true) pubs source t root

-- at the start of its own span, and at each end within it
abbrev pub root_is_shown : List SegmentRow → List Publication → List ℕ → SegId → Bool
root_is_shown rows pubs source root = list_all (is_shown_as_put rows pubs source root) (ends_within root.span (turning_spans rows pubs))

abbrev pub shows_contents : List SegmentRow → List Publication → Bool
shows_contents rows pubs = list_all (λ source. list_all (root_is_shown rows pubs source) (roots_of rows pubs)) (sources_of rows pubs)

-- that decides whether what is shown at each instant is what the publications say
abbrev pub ShowsIsDecided : Type 0
ShowsIsDecided = (rows : List SegmentRow) (pubs : List Publication) → Decides (shows_contents rows pubs) (ShowsContents rows pubs)

-- ---- what a replacement has to carry

-- a valid replacing lock
abbrev pub is_replacing_lock : PosseRow → Bool
is_replacing_lock q = not q.revoked && same_kind q.lock_kind LockKinds.Replace

-- the roots of the upgrade rows and of the publications
abbrev pub upgrade_roots : List UpgradeRow → List Publication → List SegId
upgrade_roots us pubs = map (λ u. u.root) us ++ all_adds pubs

-- at their ends may change what is covered, what has the root, and what the publications took away
abbrev pub lock_turning_spans : List ChunkRow → List Publication → SegId → List Extent
lock_turning_spans cs pubs root = root.span ∷ (map (λ c. c.span) cs ++ gathered spans_of pubs)

-- the instant is covered, or the lock's upgrade rows have the root as often as it was added since
abbrev pub is_carried_as_added : List ChunkRow → List UpgradeRow → List Publication → PosseRow → SegId → ℤ → Bool
is_carried_as_added cs us pubs q root t = is_covered cs q t || (upgraded us q.number t root == alive (λ k. nat_le q.since k) pubs q.source t root)

-- at the start of the lock's span, and at each end within it
abbrev pub root_is_carried : List ChunkRow → List UpgradeRow → List Publication → PosseRow → SegId → Bool
root_is_carried cs us pubs q root = list_all (is_carried_as_added cs us pubs q root) (ends_within q.span (lock_turning_spans cs pubs root))

abbrev pub carries_upgrades : List PosseRow → List ChunkRow → List UpgradeRow → List Publication → Bool
carries_upgrades qs cs us pubs = list_all (λ q. not (is_replacing_lock q) || list_all (root_is_carried cs us pubs q) (upgrade_roots us pubs)) qs

-- that decides whether at each instant the upgrade rows are what was added since
abbrev pub CarriesIsDecided : Type 0
CarriesIsDecided = (qs : List PosseRow) (cs : List ChunkRow) (us : List UpgradeRow) (pubs : List Publication) → Decides (carries_upgrades qs cs us pubs) (CarriesUpgrades qs cs us pubs)

-- ---- what a replacement has to read

-- the row is visible at some instant of the span, within its root's own span
abbrev pub IsSeen : List SegmentRow → List ℕ → Extent → SegmentRow → Type 0
IsSeen rows source span r = (t : ℤ) × (has span t ≡ true) × (is_visible rows source t r ≡ true) × (has r.root.span t ≡ true)

-- the instants at which `to_replace` looks decide it
abbrev pub SeenIsDecided : Type 0
SeenIsDecided = (rows : List SegmentRow) (source : List ℕ) (span : Extent) (r : SegmentRow) → In r rows → Decides (is_seen_within rows source span r) (IsSeen rows source span r)
