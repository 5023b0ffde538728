-- No two upgrade rows are of one lock and one root.
use Rattle.std.proofs.Common.{Bool, List, None, Option, Some, [], ap, false, find, if◌then◌else◌, inl, inr, not, refl, subst, sym, true, ℕ, ◌&&◌, ◌+◌, ◌++◌, ◌==◌, ◌∙◌, ◌∷◌, ◌≡◌}
use Rattle.std.specs.Prelude.{option_map}
use Rattle.std.proofs.lemmas.Bool.{and_parts}
use Rattle.seg_names.specs.Ids.{same_id}
use Rattle.seg_names.specs.declared.seg_id.SegId.{SegId}
use Rattle.book_rows.specs.Allocation.{is_root}
use Rattle.book_rows.specs.Append.{append_fault, is_allocated, upgrade_by, upgrade_of, version_overlaps}
use Rattle.book_rows.specs.Lists.{In, gathered, stands_in}
use Rattle.book_rows.specs.Locks.{is_member_of, is_replacing, least, posse_of}
use Rattle.book_rows.specs.Rewrite.{is_used_up}
use Rattle.book_rows.specs.Rules.{IsAddedSince}
use Rattle.book_rows.specs.Shape.{AreDistinct, all_adds, all_empties, pending_ids, same_upgrade}
use Rattle.book_rows.specs.Sound.{Sound}
use Rattle.book_rows.specs.declared.rows.Book.{Book}
use Rattle.book_rows.specs.declared.rows.ChunkRow.{ChunkRow}
use Rattle.book_rows.specs.declared.rows.PendingRow.{PendingRow}
use Rattle.book_rows.specs.declared.rows.PosseRow.{PosseRow}
use Rattle.book_rows.specs.declared.rows.Publication.{Publication}
use Rattle.book_rows.specs.declared.rows.UpgradeRow.{UpgradeRow}
use Rattle.laws_chunks.proofs.LookUps.{find_none}
use Rattle.laws_chunks.proofs.Members.{In-left, In-right, any_In, map_In, pairs_append, pairs_between, pairs_filter}
use Rattle.laws_chunks.proofs.PublicationOrder.{gathered_In}
use Rattle.laws_chunks.proofs.PublishSteps.{IsKeptByPublishing}
use Rattle.laws_chunks.proofs.Spans.{same_id_means, same_id_swap}
use Rattle.laws_keys.specs.KeyLaws.{UpgradesStayDistinct}
use Rattle.laws_keys.proofs.PairLists.{pairs_gathered}
use Rattle.laws_keys.proofs.RowTables.{OfRows, of_book, rows_after}
use Rattle.book_rows.specs.declared.replies.Refusal.TheVariants as Refusals

abbrev UpgradeRows : OfRows
UpgradeRows cs rows pubs ps us = AreDistinct same_upgrade us

-- ---- what is appended

-- each id is that of a root pending
pub pending_of : (qs : List PosseRow) (ps : List PendingRow) (task : List ℕ) (ids : List SegId) → append_fault qs ps task ids ≡ None → (a : SegId) → In a ids → (p : PendingRow) × In p ps × (p.id ≡ a)
pending_of qs ps task ids h a i =
    let w = any_In (λ p. is_root p && same_id p.id a && is_member_of (posse_of p.posse qs) task) ps (on (is_allocated qs ps task a) (find_none (λ a. not (is_allocated qs ps task a)) ids (none (find (λ a. not (is_allocated qs ps task a)) ids) h) a i)) in
    let both = and_parts (is_root w.0 && same_id w.0.id a) (is_member_of (posse_of w.0.posse qs) task) w.2 in
    (w.0, w.1, same_id_means w.0.id a (and_parts (is_root w.0) (same_id w.0.id a) both.0).1) where
      none : (o : Option SegId) → option_map Refusals.NotAllocated o ≡ None → o ≡ None
      none None e = refl
      none (Some a) e = cc

      on : (b : Bool) → not b ≡ false → b ≡ true
      on true e = refl
      on false e = sym e

-- an added id is one of all that are added
pub added_In : (since k : ℕ) (pubs : List Publication) (a : SegId) → IsAddedSince since k pubs a → In a (all_adds pubs)
added_In since k [] a h = absurd h
added_In since k (m ∷ ms) a (inl h) = In-left a m.adds (all_adds ms) h.1
added_In since k (m ∷ ms) a (inr h) = In-right a m.adds (all_adds ms) (added_In since (k + 1) ms a h)

module _ (cs : List ChunkRow) (a : SegId) where
  root_is : (o : Option PosseRow) (u : UpgradeRow) → In u (upgrade_by cs a o) → u.root ≡ a
  root_is None u i = absurd i
  root_is (Some q) u i = go (version_overlaps cs q.source a.span q.version) i where
    go : (b : Bool) → In u (if b then [] else record { posse = q.number; root = a } ∷ []) → u.root ≡ a
    go true i = absurd i
    go false (inl e) = ap (λ (u : UpgradeRow). u.root) e
    go false (inr i) = absurd i

  at_most_one : (o : Option PosseRow) → AreDistinct same_upgrade (upgrade_by cs a o)
  at_most_one None = tt
  at_most_one (Some q) = go (version_overlaps cs q.source a.span q.version) where
    go : (b : Bool) → AreDistinct same_upgrade (if b then [] else record { posse = q.number; root = a } ∷ [])
    go true = tt
    go false = (tt, tt)

roots_differ : (u v : UpgradeRow) → same_id u.root v.root ≡ false → same_upgrade u v ≡ false
roots_differ u v off = none (u.posse == v.posse) (same_id u.root v.root) off where
  none : (a b : Bool) → b ≡ false → (a && b) ≡ false
  none true b e = e
  none false b e = refl

-- ---- the command

module _ (b : Book) (s : Sound b) where
  upgrades_appended : (task : List ℕ) (ids : List SegId) → AreDistinct same_id ids → append_fault b.posses b.pendings task ids ≡ None → AreDistinct same_upgrade (b.upgrades ++ gathered (upgrade_of b.posses b.chunks) ids)
  upgrades_appended task ids distinct fault =
      pairs_append (λ u v. same_upgrade u v ≡ false) b.upgrades (gathered (upgrade_of b.posses b.chunks) ids) s.shape.keys.upgrades
      (pairs_gathered (λ u v. same_upgrade u v ≡ false) (λ x y. same_id x y ≡ false) (upgrade_of b.posses b.chunks) ids distinct
      (λ a i. at_most_one b.chunks a (least (is_replacing a.source a.span) b.posses))
      (λ x y i j off u v k l. roots_differ u v (subst (λ c. same_id c v.root ≡ false) (sym (root_at x u k)) (subst (λ c. same_id x c ≡ false) (sym (root_at y v l)) off))))
      old_new where
        root_at : (a : SegId) (u : UpgradeRow) → In u (upgrade_of b.posses b.chunks a) → u.root ≡ a
        root_at a u i = root_is b.chunks a (least (is_replacing a.source a.span) b.posses) u i

        -- a root of before was added, a new one is pending
        old_new : (u v : UpgradeRow) → In u b.upgrades → In v (gathered (upgrade_of b.posses b.chunks) ids) → same_upgrade u v ≡ false
        old_new u v i j =
            let w = gathered_In (upgrade_of b.posses b.chunks) ids v j in
            let p = pending_of b.posses b.pendings task ids fault w.0 w.1 in
            let is : v.root ≡ p.0.id = root_at w.0 v w.2 ∙ sym p.2 in
            let up = s.upgrades u i in
            let old : In u.root (all_adds b.publications) = added_In up.posse.since 0 b.publications u.root up.added in
            let off : same_id p.0.id u.root ≡ false = pairs_between (λ x y. same_id x y ≡ false) (pending_ids b.pendings) (all_adds b.publications ++ all_empties b.publications) p.0.id u.root s.shape.keys.once
            (map_In (λ (p : PendingRow). p.id) p.0 b.pendings p.1) (In-left u.root (all_adds b.publications) (all_empties b.publications) old) in
            roots_differ u v (subst (λ c. same_id u.root c ≡ false) (sym is) (same_id_swap p.0.id u.root off))

  upgrades_published : IsKeptByPublishing (of_book UpgradeRows) b
  upgrades_published = record {
    pushed = λ m none clean free. s.shape.keys.upgrades;
    allocated = λ r t x l other fresh found e. pairs_filter (λ u v. same_upgrade u v ≡ false) (λ u. not (stands_in l.granted.revoked u.posse)) b.upgrades s.shape.keys.upgrades;
    appended = λ t ids ranges distinct among fault. upgrades_appended t.task ids distinct fault;
    inserted = λ t given xs proper ids_once tombs_once ok. s.shape.keys.upgrades;
    replaced = λ t given xs proper ids_once tombs_once ok. pairs_filter (λ u v. same_upgrade u v ≡ false) (λ u. not (is_used_up xs u)) b.upgrades s.shape.keys.upgrades;
    dropped = λ source span fault. s.shape.keys.upgrades;
  }

pub upgrades_stay_distinct : UpgradesStayDistinct
upgrades_stay_distinct b c form s =
    rows_after UpgradeRows (λ cs rows pubs ps us p u h. pairs_filter (λ u v. same_upgrade u v ≡ false) u us h) b c form s.shape.keys.upgrades (upgrades_published b s)
