-- An append is its roots one after another, and keeps the rules on chunks.
use Rattle.std.proofs.Common.{Bool, List, None, Option, Some, [], ap, append_assoc, bytes_eq, cond, false, filter, find, inl, inr, int_lt, length, map, not, refl, subst, sym, true, ℕ, ◌&&◌, ◌++◌, ◌==◌, ◌||◌, ◌∙◌, ◌∷◌, ◌≡◌, if◌then◌else◌}
use Rattle.std.proofs.lemmas.Bool.{and_from, and_parts, false≢true}
use Rattle.std.proofs.lemmas.Bool.Decides.{Decides-eqb, Decides-int_eq}
use Rattle.std.proofs.lemmas.List.{append-nil}
use Rattle.std.proofs.lemmas.List.Folds.{list_any-append}
use Rattle.std.proofs.lemmas.Slice.Eq.{bytes_eq-Decides}
use Rattle.std.specs.Ordering.{int_eq}
use Rattle.iv_span.specs.Extent.{covers, overlap}
use Rattle.seg_names.specs.Ids.{same_id}
use Rattle.seg_names.specs.declared.seg_id.SegId.{SegId}
use Rattle.book_rows.specs.Allocation.{is_root}
use Rattle.book_rows.specs.Append.{append_fault, is_allocated, is_copy_of, is_root_of, rows_of_root, upgrade_by, upgrade_of, version_overlaps, without_root, without_roots}
use Rattle.book_rows.specs.Ids.{is_listed}
use Rattle.book_rows.specs.Kinds.{same_kind}
use Rattle.book_rows.specs.Lists.{In, Pairs, gathered}
use Rattle.book_rows.specs.Locks.{is_member, is_member_of, is_replacing, least, posse_of}
use Rattle.book_rows.specs.Offsets.{advanced}
use Rattle.book_rows.specs.Publications.{appending, publication_of}
use Rattle.book_rows.specs.Rules.{AreCompatible}
use Rattle.book_rows.specs.Sequences.{published}
use Rattle.book_rows.specs.Shape.{AreDistinct, HaveMembers, same_task}
use Rattle.book_rows.specs.declared.rows.Book.{Book}
use Rattle.book_rows.specs.declared.rows.ChunkRow.{ChunkRow}
use Rattle.book_rows.specs.declared.rows.PendingRow.{PendingRow}
use Rattle.book_rows.specs.declared.rows.PosseRow.{PosseRow}
use Rattle.book_rows.specs.declared.rows.Ranges.{Ranges}
use Rattle.book_rows.specs.declared.rows.TaskRow.{TaskRow}
use Rattle.laws_locks.proofs.Lists.{none_mapped}
use Rattle.laws_chunks.specs.Appending.{AreNewUpgrades, IsAppend, IsReplacing, IsTaken}
use Rattle.laws_chunks.specs.Appends.{AppendedKeeps}
use Rattle.laws_chunks.specs.ChunksSound.{AreChunksSound}
use Rattle.laws_chunks.proofs.AppendingRoots.{append_keeps}
use Rattle.laws_chunks.proofs.GrantedPlaces.{same_kind_means}
use Rattle.laws_chunks.proofs.InsertCommand.{gathered_last}
use Rattle.laws_chunks.proofs.LockFacts.{beside_replace, one_number, pair_of}
use Rattle.laws_chunks.proofs.LookUps.{find_none, find_some, least_none, least_some}
use Rattle.laws_chunks.proofs.LosingLocks.{filter_all}
use Rattle.laws_chunks.proofs.Members.{In-all, any_In, any_from_In, both_true, filter_In}
use Rattle.laws_chunks.proofs.OtherTables.{others_keep}
use Rattle.laws_chunks.proofs.PushingPublications.{push_keeps}
use Rattle.laws_chunks.proofs.Spans.{overlap_both, same_id_from, same_id_means}
use Rattle.book_rows.specs.declared.kinds.LockKind.TheVariants as LockKinds
use Rattle.book_rows.specs.declared.kinds.PubKind.TheVariants as PubKinds
use Rattle.book_rows.specs.declared.replies.Refusal.TheVariants as Refusals

-- ---- lists

same_id_both : (a b : SegId) → same_id a b ≡ same_id b a
same_id_both a b = both_true (same_id a b) (same_id b a) (λ on. same_id_from b a (sym (same_id_means a b on))) (λ on. same_id_from a b (sym (same_id_means b a on)))

-- without some roots and then one more
without_more : (ids : List SegId) (a : SegId) (ps : List PendingRow) → without_root a (without_roots ids ps) ≡ without_roots (ids ++ a ∷ []) ps
without_more ids a [] = refl
without_more ids a (p ∷ ps) = rw (list_any-append (λ b. same_id b p.root) ids (a ∷ []), same_id_both a p.root, ← without_more ids a ps) (step (is_listed ids p.root) (same_id p.root a) refl) where
  step : (c d : Bool) → same_id p.root a ≡ d
      → filter (λ p. not (same_id p.root a)) (cond (not c) (p ∷ without_roots ids ps) (without_roots ids ps)) ≡ cond (not (c || (d || false))) (p ∷ without_root a (without_roots ids ps)) (without_root a (without_roots ids ps))
  step true d e = refl
  step false true e = rw e refl
  step false false e = rw e refl

-- a test that some root passes and no listed one is asked of the same pendings
filter_kept : (test : PendingRow → Bool) (ids : List SegId) (ps : List PendingRow) → ((p : PendingRow) → test p ≡ true → is_listed ids p.root ≡ false) → filter test (without_roots ids ps) ≡ filter test ps
filter_kept test ids [] h = refl
filter_kept test ids (p ∷ ps) h = step (is_listed ids p.root) (test p) refl refl (filter_kept test ids ps h) where
  step : (c d : Bool) → is_listed ids p.root ≡ c → test p ≡ d → filter test (without_roots ids ps) ≡ filter test ps → filter test (cond (not c) (p ∷ without_roots ids ps) (without_roots ids ps)) ≡ cond d (p ∷ filter test ps) (filter test ps)
  step true true e f rest = absurd (false≢true (sym (h p f) ∙ e))
  step true false e f rest = rest
  step false true e f rest = rw (f, rest) refl
  step false false e f rest = rw f rest

rows_kept : (k : ℕ) (ids : List SegId) (a : SegId) (ps : List PendingRow) → is_listed ids a ≡ false → rows_of_root k a (without_roots ids ps) ≡ rows_of_root k a ps
rows_kept k ids a ps off =
    rw (
      filter_kept (is_root_of a) ids ps (λ p on. other p (and_parts (same_id p.root a) (same_id p.id a) on).0),
      filter_kept (is_copy_of a) ids ps (λ p on. other p (and_parts (same_id p.root a) (not (same_id p.id a)) on).0),
    ) refl where
      other : (p : PendingRow) → same_id p.root a ≡ true → is_listed ids p.root ≡ false
      other p on = subst (λ (r : SegId). is_listed ids r ≡ false) (sym (same_id_means p.root a on)) off

-- ---- the upgrade row of a root

module _ (qs : List PosseRow) (cs : List ChunkRow) (a : SegId) (compatible : AreCompatible qs) (proper : int_lt a.span.start a.span.end ≡ true) where
  replacing_means : (q : PosseRow) → In q qs → is_replacing a.source a.span q ≡ true → IsReplacing qs a q
  replacing_means q i on =
      let one = and_parts (not q.revoked && bytes_eq q.source a.source && same_kind q.lock_kind LockKinds.Replace) (covers q.span a.span) on in
      let two = and_parts (not q.revoked && bytes_eq q.source a.source) (same_kind q.lock_kind LockKinds.Replace) one.0 in
      let three = and_parts (not q.revoked) (bytes_eq q.source a.source) two.0 in
      record { is_valid = record { among = i; valid = unrevoked q.revoked three.0 }; kind_is = same_kind_means q.lock_kind LockKinds.Replace two.1; source_is = (bytes_eq-Decides q.source a.source).0 three.1; covers_root = one.1 } where
        unrevoked : (r : Bool) → not r ≡ true → r ≡ false
        unrevoked true e = sym e
        unrevoked false e = refl

  replacing_from : (q : PosseRow) → IsReplacing qs a q → is_replacing a.source a.span q ≡ true
  replacing_from q r = rw (r.is_valid.valid, r.kind_is, (bytes_eq-Decides q.source a.source).1 r.source_is, r.covers_root) refl

  -- two replacing locks that contain the root are one
  one_replacing : (p q : PosseRow) → IsReplacing qs a p → IsReplacing qs a q → p ≡ q
  one_replacing p q x y = elim (beside_replace qs compatible p q x.is_valid y.is_valid y.kind_is (x.source_is ∙ sym y.source_is) (overlap_both p.span q.span a.span x.covers_root y.covers_root proper)) [
    | inl same ↦ same
    | inr other ↦ absurd (differ p x.kind_is other.0)
  ] where
    differ : (p : PosseRow) → p.lock_kind ≡ LockKinds.Replace → p.lock_kind ≡ LockKinds.Append → ⊥
    differ p e f = cc

  taken_means : (q : PosseRow) → version_overlaps cs q.source a.span q.version ≡ true → IsTaken cs q a.span
  taken_means q on =
      let w = any_In (λ c. bytes_eq c.source q.source && int_eq c.version q.version && overlap c.span a.span) cs on in
      let one = and_parts (bytes_eq w.0.source q.source && int_eq w.0.version q.version) (overlap w.0.span a.span) w.2 in
      let two = and_parts (bytes_eq w.0.source q.source) (int_eq w.0.version q.version) one.0 in
      record { chunk = w.0; among = w.1; source_is = (bytes_eq-Decides w.0.source q.source).0 two.0; version_is = (Decides-int_eq w.0.version q.version).0 two.1; meets = one.1 }

  taken_from : (q : PosseRow) → IsTaken cs q a.span → version_overlaps cs q.source a.span q.version ≡ true
  taken_from q k = any_from_In (λ c. bytes_eq c.source q.source && int_eq c.version q.version && overlap c.span a.span) k.chunk cs k.among
      (and_from (bytes_eq k.chunk.source q.source && int_eq k.chunk.version q.version) (overlap k.chunk.span a.span) (and_from (bytes_eq k.chunk.source q.source) (int_eq k.chunk.version q.version) ((bytes_eq-Decides k.chunk.source q.source).1 k.source_is) ((Decides-int_eq k.chunk.version q.version).1 k.version_is)) k.meets)

  by_taken : (q : PosseRow) → IsReplacing qs a q → (b : Bool) → version_overlaps cs q.source a.span q.version ≡ b → AreNewUpgrades qs cs a (if b then [] else record { posse = q.number; root = a } ∷ [])
  by_taken q r true e = inr (record { taken = λ p x. subst (λ (p : PosseRow). IsTaken cs p a.span) (one_replacing q p r x) (taken_means q e); new_is = refl })
  by_taken q r false e = inl (record { posse = q; replacing = r; free = λ k. false≢true (sym e ∙ taken_from q k); new_is = refl })

  by_lock : (r : Option PosseRow) → least (is_replacing a.source a.span) qs ≡ r → AreNewUpgrades qs cs a (upgrade_by cs a r)
  by_lock None e = inr (record { taken = λ q x. absurd (false≢true (sym (least_none (is_replacing a.source a.span) qs e q x.is_valid.among) ∙ replacing_from q x)); new_is = refl })
  by_lock (Some q) e = let w = least_some (is_replacing a.source a.span) qs q e in by_taken q (replacing_means q w.0 w.1) (version_overlaps cs q.source a.span q.version) refl

  pub new_upgrades : AreNewUpgrades qs cs a (upgrade_of qs cs a)
  new_upgrades = by_lock (least (is_replacing a.source a.span) qs) refl

-- ---- one root after another

-- the book after these roots are appended
abbrev after_roots : TaskRow → Option Ranges → Book → List SegId → Book
after_roots t ranges b ids = record b {
  segments = b.segments ++ gathered (λ a. rows_of_root (length b.publications) a b.pendings) ids;
  pendings = without_roots ids b.pendings;
  upgrades = b.upgrades ++ gathered (upgrade_of b.posses b.chunks) ids;
  publications = b.publications ++ publication_of PubKinds.Append t [] (appending ids ranges) ∷ [];
}

-- a root pending of the task's source has the id
record IsAllocated (b : Book) (t : TaskRow) (a : SegId) : Type 0 where
  pub root : PendingRow
  pub among : In root b.pendings
  pub id_is : root.id ≡ a
  pub is_root : root.id ≡ root.root
  pub source_is : t.source ≡ root.id.source

module _ (b : Book) (t : TaskRow) (ranges : Option Ranges) (h : AreChunksSound b) where
  none_yet : AreChunksSound (record b {
    segments = b.segments ++ [];
    pendings = without_roots [] b.pendings;
    upgrades = b.upgrades ++ [];
    publications = b.publications ++ publication_of PubKinds.Append t [] (appending [] ranges) ∷ [];
  })
  none_yet =
      subst (λ rows. AreChunksSound (record b { segments = rows; pendings = without_roots [] b.pendings; upgrades = b.upgrades ++ []; publications = b.publications ++ publication_of PubKinds.Append t [] (appending [] ranges) ∷ [] })) (sym (append-nil b.segments))
      (subst (λ ps. AreChunksSound (record b { pendings = ps; upgrades = b.upgrades ++ []; publications = b.publications ++ publication_of PubKinds.Append t [] (appending [] ranges) ∷ [] })) (sym (filter_all b.pendings))
      (subst (λ us. AreChunksSound (record b { upgrades = us; publications = b.publications ++ publication_of PubKinds.Append t [] (appending [] ranges) ∷ [] })) (sym (append-nil b.upgrades))
      (push_keeps (publication_of PubKinds.Append t [] (appending [] ranges)) b refl refl refl h)))

  one_more : (done : List SegId) (a : SegId) → is_listed done a ≡ false → IsAllocated b t a → AreChunksSound (after_roots t ranges b done) → AreChunksSound (after_roots t ranges b (done ++ a ∷ []))
  one_more done a off al sound =
      subst (λ rows. AreChunksSound (record b { segments = rows; pendings = without_roots (done ++ a ∷ []) b.pendings; upgrades = b.upgrades ++ gathered (upgrade_of b.posses b.chunks) (done ++ a ∷ []); publications = b.publications ++ publication_of PubKinds.Append t [] (appending (done ++ a ∷ []) ranges) ∷ [] })) rows_are
      (subst (λ ps. AreChunksSound (record b { segments = (b.segments ++ gathered (λ a. rows_of_root (length b.publications) a b.pendings) done) ++ rows_of_root (length b.publications) a (without_roots done b.pendings); pendings = ps; upgrades = b.upgrades ++ gathered (upgrade_of b.posses b.chunks) (done ++ a ∷ []); publications = b.publications ++ publication_of PubKinds.Append t [] (appending (done ++ a ∷ []) ranges) ∷ [] })) (without_more done a b.pendings)
      (subst (λ us. AreChunksSound (record b { segments = (b.segments ++ gathered (λ a. rows_of_root (length b.publications) a b.pendings) done) ++ rows_of_root (length b.publications) a (without_roots done b.pendings); pendings = without_root a (without_roots done b.pendings); upgrades = us; publications = b.publications ++ publication_of PubKinds.Append t [] (appending (done ++ a ∷ []) ranges) ∷ [] })) upgrades_are
      appended)) where
        rows_are : ((b.segments ++ gathered (λ a. rows_of_root (length b.publications) a b.pendings) done) ++ rows_of_root (length b.publications) a (without_roots done b.pendings)) ≡ (b.segments ++ gathered (λ a. rows_of_root (length b.publications) a b.pendings) (done ++ a ∷ []))
        rows_are = rw (gathered_last (λ a. rows_of_root (length b.publications) a b.pendings) done a, rows_kept (length b.publications) done a b.pendings off) (append_assoc b.segments (gathered (λ a. rows_of_root (length b.publications) a b.pendings) done) (rows_of_root (length b.publications) a b.pendings))

        upgrades_are : ((b.upgrades ++ gathered (upgrade_of b.posses b.chunks) done) ++ upgrade_of b.posses b.chunks a) ≡ (b.upgrades ++ gathered (upgrade_of b.posses b.chunks) (done ++ a ∷ []))
        upgrades_are = rw (gathered_last (upgrade_of b.posses b.chunks) done a) (append_assoc b.upgrades (gathered (upgrade_of b.posses b.chunks) done) (upgrade_of b.posses b.chunks a))

        proper : int_lt al.root.id.span.start al.root.id.span.end ≡ true
        proper = subst (λ (a : SegId). int_lt a.span.start a.span.end ≡ true) (sym al.is_root) (h.shape.root_spans al.root al.among)

        is_append : IsAppend (after_roots t ranges b done) b.publications (publication_of PubKinds.Append t [] (appending done ranges)) al.root (upgrade_of b.posses b.chunks al.root.id)
        is_append = record {
          among = filter_In (λ p. not (is_listed done p.root)) al.root b.pendings al.among (rw (← al.is_root, al.id_is, off) refl);
          is_root = al.is_root;
          source_is = al.source_is;
          made = new_upgrades b.posses b.chunks al.root.id h.compatible_locks proper;
          sinces = λ q v. h.shape.sinces q v.among;
        }

        appended : AreChunksSound (record b {
          segments = (b.segments ++ gathered (λ a. rows_of_root (length b.publications) a b.pendings) done) ++ rows_of_root (length b.publications) a (without_roots done b.pendings);
          pendings = without_root a (without_roots done b.pendings);
          upgrades = (b.upgrades ++ gathered (upgrade_of b.posses b.chunks) done) ++ upgrade_of b.posses b.chunks a;
          publications = b.publications ++ publication_of PubKinds.Append t [] (appending (done ++ a ∷ []) ranges) ∷ [];
        })
        appended = subst (λ (a : SegId). AreChunksSound (record b {
          segments = (b.segments ++ gathered (λ a. rows_of_root (length b.publications) a b.pendings) done) ++ rows_of_root (length b.publications) a (without_roots done b.pendings);
          pendings = without_root a (without_roots done b.pendings);
          upgrades = (b.upgrades ++ gathered (upgrade_of b.posses b.chunks) done) ++ upgrade_of b.posses b.chunks a;
          publications = b.publications ++ publication_of PubKinds.Append t [] (appending (done ++ a ∷ []) ranges) ∷ [];
        })) al.id_is (append_keeps (length b.publications) b.publications (publication_of PubKinds.Append t [] (appending done ranges)) al.root (upgrade_of b.posses b.chunks al.root.id) (after_roots t ranges b done) is_append sound)

  all_more : (done ids : List SegId) → Pairs (λ a c. same_id a c ≡ false) (done ++ ids) → ((a : SegId) → In a ids → IsAllocated b t a) → AreChunksSound (after_roots t ranges b done) → AreChunksSound (after_roots t ranges b (done ++ ids))
  all_more done [] distinct al sound = subst (λ ids. AreChunksSound (after_roots t ranges b ids)) (sym (append-nil done)) sound
  all_more done (a ∷ ids) distinct al sound =
      subst (λ ids. AreChunksSound (after_roots t ranges b ids)) (append_assoc done (a ∷ []) ids)
      (all_more (done ++ a ∷ []) ids (subst (λ ids. Pairs (λ a c. same_id a c ≡ false) ids) (sym (append_assoc done (a ∷ []) ids)) distinct) (λ c i. al c (inr i))
      (one_more done a (not_listed done distinct) (al a (inl refl)) sound)) where
        not_listed : (done : List SegId) → Pairs (λ a c. same_id a c ≡ false) (done ++ a ∷ ids) → is_listed done a ≡ false
        not_listed [] d = refl
        not_listed (c ∷ done) d = rw (In-all (λ x. same_id c x ≡ false) a (done ++ a ∷ ids) (later done) d.0, not_listed done d.1) refl where
          later : (done : List SegId) → In a (done ++ a ∷ ids)
          later [] = inl refl
          later (x ∷ done) = inr (later done)

-- ---- what the check says

module _ (b : Book) (t : TaskRow) (members : HaveMembers b.tasks b.posses) (keys : AreDistinct same_task b.tasks) (h : AreChunksSound b) (it : In t b.tasks) where
  -- a lock of which the task is a member is of its source
  member_source : (q : PosseRow) → In q b.posses → is_member t.task q ≡ true → t.source ≡ q.source
  member_source q i on =
      let w = any_In (λ m. bytes_eq m t.task) q.members on in
      let m = (members q i).tasks w.0 w.1 in
      let is : m.row.task ≡ t.task = m.task_is ∙ (bytes_eq-Decides w.0 t.task).0 w.2 in
      elim (pair_of (λ t u. same_task t u ≡ false) m.row t b.tasks keys m.among it) [
        | inl one ↦ ap (λ (x : TaskRow). x.source) (sym one) ∙ m.source_is
        | inr (inl off) ↦ absurd (false≢true (sym off ∙ (bytes_eq-Decides m.row.task t.task).1 is))
        | inr (inr off) ↦ absurd (false≢true (sym off ∙ (bytes_eq-Decides t.task m.row.task).1 (sym is)))
      ]

  member_of_means : (r : Option PosseRow) (number : ℕ) → posse_of number b.posses ≡ r → is_member_of r t.task ≡ true → (q : PosseRow) × In q b.posses × (q.number ≡ number) × (is_member t.task q ≡ true)
  member_of_means None number e on = absurd (false≢true on)
  member_of_means (Some q) number e on = let w = find_some (λ p. p.number == number) b.posses q e in (q, w.0, (Decides-eqb q.number number).0 w.1, on)

  allocated : (a : SegId) → is_allocated b.posses b.pendings t.task a ≡ true → IsAllocated b t a
  allocated a on =
      let w = any_In (λ p. is_root p && same_id p.id a && is_member_of (posse_of p.posse b.posses) t.task) b.pendings on in
      let one = and_parts (is_root w.0 && same_id w.0.id a) (is_member_of (posse_of w.0.posse b.posses) t.task) w.2 in
      let two = and_parts (is_root w.0) (same_id w.0.id a) one.0 in
      let q = member_of_means (posse_of w.0.posse b.posses) w.0.posse refl one.1 in
      let has = (h.rooted w.0 w.1).has_posse in
      let same : q.0 ≡ has.posse = one_number b.posses q.0 has.posse h.shape.numbers q.1 has.is_valid.among (q.2 ∙ sym has.number_is) in
      record { root = w.0; among = w.1; id_is = same_id_means w.0.id a two.1; is_root = same_id_means w.0.id w.0.root two.0; source_is = member_source q.0 q.1 q.3 ∙ ap (λ (x : PosseRow). x.source) same ∙ has.source_is }

  all_allocated : (ids : List SegId) → append_fault b.posses b.pendings t.task ids ≡ None → (a : SegId) → In a ids → IsAllocated b t a
  all_allocated ids e a i = allocated a (on (is_allocated b.posses b.pendings t.task a) (find_none (λ a. not (is_allocated b.posses b.pendings t.task a)) ids (none_mapped Refusals.NotAllocated (find (λ a. not (is_allocated b.posses b.pendings t.task a)) ids) e) a i)) where
    on : (b : Bool) → not b ≡ false → b ≡ true
    on true e = refl
    on false e = sym e

pub appended_keeps : AppendedKeeps
appended_keeps b t ids ranges distinct it fault members keys h =
    others_keep b.clock b.tasks (advanced b.offsets t.source ranges) b.supervisors (map (published t.group) b.sequences) (after_roots t ranges b ids)
    (all_more b t ranges h [] ids distinct (all_allocated b t members keys h it ids fault) (none_yet b t ranges h))
