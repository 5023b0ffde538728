-- Revoking locks, leaving one and joining some keep the rules.
use Rattle.std.proofs.Common.{Bool, List, [], ap, false, filter, inl, inr, int_le, int_lt, length, map, not, pos, refl, subst, sym, true, ℕ, ◌&&◌, ◌+◌, ◌<◌, ◌==◌, ◌∙◌, ◌∷◌, ◌≡◌, ◌≤◌, ◌⊎◌}
use Rattle.std.proofs.lemmas.Bool.{and_parts, cases_Bool, false≢true, or_parts}
use Rattle.std.proofs.lemmas.Bool.Decides.{Decides-eqb}
use Rattle.seg_names.specs.declared.seg_id.SegId.{SegId}
use Rattle.book_rows.specs.Grant.{joined_in, revoked_in}
use Rattle.book_rows.specs.Lists.{In, is_empty, stands_in}
use Rattle.book_rows.specs.Live.{IsLive, IsValid}
use Rattle.book_rows.specs.Locks.{HasDistinctNumbers, after_leave, ends, ends_at, left, same_number, stays, stripped, stripped_upgrades}
use Rattle.book_rows.specs.Rules.{AreCompatible, GoTogether}
use Rattle.book_rows.specs.declared.rows.Book.{Book}
use Rattle.book_rows.specs.declared.rows.PendingRow.{PendingRow}
use Rattle.book_rows.specs.declared.rows.PosseRow.{PosseRow}
use Rattle.book_rows.specs.declared.rows.UpgradeRow.{UpgradeRow}
use Rattle.laws_chunks.proofs.ChangeFacts.{DoesLose, IsSameLock, IsStillValid}
use Rattle.laws_chunks.proofs.LockFacts.{one_number}
use Rattle.laws_chunks.proofs.LostLocks.{strip_below_locks, strip_carries, strip_copies, strip_cores, strip_one_span, strip_rooted, strip_upgrades}
use Rattle.laws_chunks.proofs.Members.{In-filter, In-map, any_In, filter_In, map_In, none_In, pairs_filter, pairs_map}
use Rattle.laws_chunks.proofs.OnceAdded.{distinct_ids, once_fewer}
use Rattle.laws_chunks.specs.ChunksSound.{AreChunksSound, HasChunkShape}
use Rattle.laws_chunks.specs.LockMoves.{JoinKeeps, LeaveKeeps, RevokeKeeps}
use Rattle.book_rows.specs.declared.kinds.LockKind.TheVariants as LockKinds

pub stripped_in : (gone : ℕ → Bool) (ps : List PendingRow) (p : PendingRow) → In p (stripped gone ps) → In p ps
stripped_in gone ps p i = (In-filter (λ p. not (gone p.posse)) p ps i).0

pub record IsFrom (qs : List PosseRow) (q : PosseRow) : Type 0 where
  pub row : PosseRow
  pub among : In row qs
  pub same : IsSameLock row q

pub lose_keeps : (gone : ℕ → Bool) (after : List PosseRow) (b : Book) → DoesLose gone b.posses after → ((q : PosseRow) → In q after → IsFrom b.posses q) → HasDistinctNumbers after → AreCompatible after → AreChunksSound b
    → AreChunksSound (record b { posses = after; pendings = stripped gone b.pendings; upgrades = stripped_upgrades gone b.upgrades })
lose_keeps gone after b lose from numbers sound h =
    let s : HasChunkShape b = h.shape in
    record {
      shape = record {
        numbers = numbers;
        below = λ q i. (let f = from q i in subst (λ n. n < b.next_lock) f.same.number_is (s.below f.row f.among));
        versions = λ q i. (let f = from q i in subst (λ k. ((k ≡ LockKinds.Append) × (q.version ≡ pos 0)) ⊎ (int_lt (pos 0) q.version ≡ true)) f.same.kind_is (subst (λ v. ((f.row.lock_kind ≡ LockKinds.Append) × (v ≡ pos 0)) ⊎ (int_lt (pos 0) v ≡ true)) f.same.version_is (s.versions f.row f.among)));
        append_zero = λ q i e. (let f = from q i in sym f.same.version_is ∙ s.append_zero f.row f.among (f.same.kind_is ∙ e));
        upto = λ q i. (let f = from q i in subst (λ v. int_le v b.last ≡ true) f.same.version_is (s.upto f.row f.among));
        one_version = λ p q i j high e. (let f = from p i in let g = from q j in
            one_number after p q numbers i j (sym f.same.number_is ∙ ap (λ (x : PosseRow). x.number) (s.one_version f.row g.row f.among g.among (rw f.same.version_is high) (f.same.version_is ∙ e ∙ sym g.same.version_is)) ∙ g.same.number_is));
        sinces = λ q i. (let f = from q i in subst (λ n. n ≤ 0 + length b.publications) f.same.since_is (s.sinces f.row f.among));
        last_low = s.last_low;
        chunk_upto = s.chunk_upto;
        chunk_rows = λ a l. s.chunk_rows a (strip_live a l);
        chunk_spans = s.chunk_spans;
        root_spans = λ p i. s.root_spans p (stripped_in gone b.pendings p i);
        upgrade_spans = λ u i. s.upgrade_spans u (In-filter (λ (u : UpgradeRow). not (gone u.posse)) u b.upgrades i).0;
        once = once_fewer (λ p. not (gone p.posse)) b.pendings b.publications s.once;
        added = s.added;
        rows = s.rows;
        parts = λ p c i j k. s.parts p c (stripped_in gone b.pendings p i) j k;
      };
      compatible_locks = sound;
      one_span = strip_one_span gone b.posses after lose b.segments b.pendings h.one_span;
      below_locks = strip_below_locks gone b.posses after lose b.segments b.pendings h.below_locks;
      rooted = strip_rooted gone b.posses after lose b.pendings h.rooted;
      upgrades = strip_upgrades gone b.posses after lose b.upgrades b.publications h.upgrades;
      cores = strip_cores gone b.posses after lose b.chunks b.segments b.pendings h.cores;
      copies = strip_copies gone b.posses after lose b.chunks b.segments b.pendings (distinct_ids b.pendings b.publications s.once) h.rooted h.copies;
      carried = strip_carries gone b.posses after lose b.chunks b.upgrades b.publications h.carried;
      shown_contents = h.shown_contents;
    } where
      strip_live : (a : SegId) → IsLive b.segments (stripped gone b.pendings) a → IsLive b.segments b.pendings a
      strip_live a (inl u) = inl u
      strip_live a (inr p) = inr (p.0, stripped_in gone b.pendings p.0 p.1, p.2)

same_lock : (q : PosseRow) (members : List (List ℕ)) → IsSameLock q (record q { members = members })
same_lock q members = record { number_is = refl; kind_is = refl; source_is = refl; span_is = refl; version_is = refl; since_is = refl }

same_back : (q : PosseRow) (members : List (List ℕ)) → IsSameLock (record q { members = members }) q
same_back q members = record { number_is = refl; kind_is = refl; source_is = refl; span_is = refl; version_is = refl; since_is = refl }

-- ---- locks are revoked

module _ (ns : List ℕ) (qs : List PosseRow) where
  pub revoked_loses : DoesLose (stands_in ns) qs (map (revoked_in ns) qs)
  revoked_loses = record { back = back; forth = forth } where
    back : (q : PosseRow) → IsValid (map (revoked_in ns) qs) q → IsStillValid (stands_in ns) qs q
    back q v =
        let w = In-map (revoked_in ns) q qs v.among in
        let off = or_parts w.0.revoked (stands_in ns w.0.number) (ap (λ (p : PosseRow). p.revoked) (sym w.2) ∙ v.valid) in
        subst (IsStillValid (stands_in ns) qs) (sym w.2) (record {
          row = w.0;
          is_valid = record { among = w.1; valid = off.0 };
          same = record { number_is = refl; kind_is = refl; source_is = refl; span_is = refl; version_is = refl; since_is = refl };
          kept = off.1;
        })

    forth : (q : PosseRow) → IsValid qs q → stands_in ns q.number ≡ false → IsStillValid (stands_in ns) (map (revoked_in ns) qs) q
    forth q v off = record {
      row = revoked_in ns q;
      is_valid = record { among = map_In (revoked_in ns) q qs v.among; valid = rw (v.valid, off) refl };
      same = record { number_is = refl; kind_is = refl; source_is = refl; span_is = refl; version_is = refl; since_is = refl };
      kept = off;
    }

pub revoke_keeps : RevokeKeeps
revoke_keeps ns b h = lose_keeps (stands_in ns) (map (revoked_in ns) b.posses) b (revoked_loses ns b.posses) from numbers compatible_after h where
  from : (q : PosseRow) → In q (map (revoked_in ns) b.posses) → IsFrom b.posses q
  from q i = let w = In-map (revoked_in ns) q b.posses i in subst (IsFrom b.posses) (sym w.2) (record { row = w.0; among = w.1; same = record { number_is = refl; kind_is = refl; source_is = refl; span_is = refl; version_is = refl; since_is = refl } })

  numbers : HasDistinctNumbers (map (revoked_in ns) b.posses)
  numbers = pairs_map (λ p q. same_number p q ≡ false) (λ p q. same_number p q ≡ false) (revoked_in ns) (λ p q e. e) b.posses h.shape.numbers

  compatible_after : AreCompatible (map (revoked_in ns) b.posses)
  compatible_after = pairs_map GoTogether GoTogether (revoked_in ns) (λ p q r x y. r (or_parts _ _ x).0 (or_parts _ _ y).0) b.posses h.compatible_locks

-- ---- a task leaves

pub leave_keeps : LeaveKeeps
leave_keeps number task b h = lose_keeps (ends_at number task b.posses) (after_leave number task b.posses) b (record { back = back; forth = forth }) from distinct compatible_after h where
  mapped : HasDistinctNumbers (map (left number task) b.posses)
  mapped = pairs_map (λ p q. same_number p q ≡ false) (λ p q. same_number p q ≡ false) (left number task) (λ p q e. e) b.posses h.shape.numbers

  distinct : HasDistinctNumbers (after_leave number task b.posses)
  distinct = pairs_filter (λ p q. same_number p q ≡ false) (stays number) (map (left number task) b.posses) mapped

  compatible_after : AreCompatible (after_leave number task b.posses)
  compatible_after = pairs_filter GoTogether (stays number) (map (left number task) b.posses) (pairs_map GoTogether GoTogether (left number task) (λ p q r. r) b.posses h.compatible_locks)

  from : (q : PosseRow) → In q (after_leave number task b.posses) → IsFrom b.posses q
  from q i =
      let f = In-filter (stays number) q (map (left number task) b.posses) i in
      let w = In-map (left number task) q b.posses f.0 in
      subst (IsFrom b.posses) (sym w.2) (record { row = w.0; among = w.1; same = same_lock w.0 (left number task w.0).members })

  back : (q : PosseRow) → IsValid (after_leave number task b.posses) q → IsStillValid (ends_at number task b.posses) b.posses q
  back q v =
      let f = In-filter (stays number) q (map (left number task) b.posses) v.among in
      let w = In-map (left number task) q b.posses f.0 in
      record {
        row = w.0;
        is_valid = record { among = w.1; valid = ap (λ (x : PosseRow). x.revoked) (sym w.2) ∙ v.valid };
        same = subst (IsSameLock w.0) (sym w.2) (same_lock w.0 (left number task w.0).members);
        kept = elim (cases_Bool (ends_at number task b.posses q.number)) [
          | inr off ↦ off
          | inl on ↦
              let both = and_parts (q.number == number) (ends number task b.posses) on in
              let x = any_In (λ p. (p.number == number) && is_empty p.members) (map (left number task) b.posses) both.1 in
              let there = and_parts (x.0.number == number) (is_empty x.0.members) x.2 in
              let one : x.0 ≡ q = one_number (map (left number task) b.posses) x.0 q mapped x.1 f.0 ((Decides-eqb x.0.number number).0 there.0 ∙ sym ((Decides-eqb q.number number).0 both.0)) in
              absurd (false≢true (rw (subst (λ (q : PosseRow). ((q.number == number) && is_empty q.members) ≡ true) one x.2) at f.1))
        ];
      }

  forth : (q : PosseRow) → IsValid b.posses q → ends_at number task b.posses q.number ≡ false → IsStillValid (ends_at number task b.posses) (after_leave number task b.posses) q
  forth q v off = record {
    row = left number task q;
    is_valid = record { among = filter_In (stays number) (left number task q) (map (left number task) b.posses) (map_In (left number task) q b.posses v.among) staying; valid = v.valid };
    same = same_back q (left number task q).members;
    kept = off;
  } where
    staying : stays number (left number task q) ≡ true
    staying = elim (cases_Bool (q.number == number)) [
      | inr other ↦ rw other refl
      | inl is ↦ rw (none_In (λ p. (p.number == number) && is_empty p.members) (left number task q) (map (left number task) b.posses) (map_In (left number task) q b.posses v.among) (ends_off (q.number == number) (ends number task b.posses) is off)) refl
    ] where
      ends_off : (a c : Bool) → a ≡ true → (a && c) ≡ false → c ≡ false
      ends_off true c e f = f
      ends_off false c e f = absurd (false≢true e)

-- a task joins

pub filter_all : {X : Type 0} (xs : List X) → filter (λ x. true) xs ≡ xs
filter_all [] = refl
filter_all (x ∷ xs) = rw (filter_all xs) refl

module _ (ns task : List ℕ) (qs : List PosseRow) where
  joined_from : (q : PosseRow) → In q (map (joined_in ns task) qs) → IsFrom qs q
  joined_from q i = let w = In-map (joined_in ns task) q qs i in subst (IsFrom qs) (sym w.2) (record { row = w.0; among = w.1; same = same_lock w.0 (joined_in ns task w.0).members })

  pub joined_loses : DoesLose (λ n. false) qs (map (joined_in ns task) qs)
  joined_loses = record { back = back; forth = forth } where
    back : (q : PosseRow) → IsValid (map (joined_in ns task) qs) q → IsStillValid (λ n. false) qs q
    back q v =
        let w = In-map (joined_in ns task) q qs v.among in
        record {
          row = w.0;
          is_valid = record { among = w.1; valid = ap (λ (x : PosseRow). x.revoked) (sym w.2) ∙ v.valid };
          same = subst (IsSameLock w.0) (sym w.2) (same_lock w.0 (joined_in ns task w.0).members);
          kept = refl;
        }

    forth : (q : PosseRow) → IsValid qs q → false ≡ false → IsStillValid (λ n. false) (map (joined_in ns task) qs) q
    forth q v off = record {
      row = joined_in ns task q;
      is_valid = record { among = map_In (joined_in ns task) q qs v.among; valid = v.valid };
      same = same_back q (joined_in ns task q).members;
      kept = refl;
    }

pub join_keeps : JoinKeeps
join_keeps ns task b h =
    subst (λ ps. AreChunksSound (record b { posses = map (joined_in ns task) b.posses; pendings = ps })) (filter_all b.pendings)
    (subst (λ us. AreChunksSound (record b { posses = map (joined_in ns task) b.posses; pendings = stripped (λ n. false) b.pendings; upgrades = us })) (filter_all b.upgrades)
    (lose_keeps (λ n. false) (map (joined_in ns task) b.posses) b (joined_loses ns task b.posses) (joined_from ns task b.posses)
    (pairs_map (λ p q. same_number p q ≡ false) (λ p q. same_number p q ≡ false) (joined_in ns task) (λ p q e. e) b.posses h.shape.numbers)
    (pairs_map GoTogether GoTogether (joined_in ns task) (λ p q r. r) b.posses h.compatible_locks) h))

-- whoever becomes a member

module _ (members : PosseRow → List (List ℕ)) (qs : List PosseRow) where
  members_from : (q : PosseRow) → In q (map (λ (q : PosseRow). record q { members = members q }) qs) → IsFrom qs q
  members_from q i = let w = In-map (λ (q : PosseRow). record q { members = members q }) q qs i in subst (IsFrom qs) (sym w.2) (record { row = w.0; among = w.1; same = same_lock w.0 (members w.0) })

  members_lose : DoesLose (λ n. false) qs (map (λ (q : PosseRow). record q { members = members q }) qs)
  members_lose = record { back = back; forth = forth } where
    back : (q : PosseRow) → IsValid (map (λ (q : PosseRow). record q { members = members q }) qs) q → IsStillValid (λ n. false) qs q
    back q v =
        let w = In-map (λ (q : PosseRow). record q { members = members q }) q qs v.among in
        record {
          row = w.0;
          is_valid = record { among = w.1; valid = ap (λ (x : PosseRow). x.revoked) (sym w.2) ∙ v.valid };
          same = subst (IsSameLock w.0) (sym w.2) (same_lock w.0 (members w.0));
          kept = refl;
        }

    forth : (q : PosseRow) → IsValid qs q → false ≡ false → IsStillValid (λ n. false) (map (λ (q : PosseRow). record q { members = members q }) qs) q
    forth q v off = record {
      row = record q { members = members q };
      is_valid = record { among = map_In (λ (q : PosseRow). record q { members = members q }) q qs v.among; valid = v.valid };
      same = same_back q (members q);
      kept = refl;
    }

pub members_keep : (members : PosseRow → List (List ℕ)) (b : Book) → AreChunksSound b → AreChunksSound (record b { posses = map (λ (q : PosseRow). record q { members = members q }) b.posses })
members_keep members b h =
    subst (λ ps. AreChunksSound (record b { posses = map (λ (q : PosseRow). record q { members = members q }) b.posses; pendings = ps })) (filter_all b.pendings)
    (subst (λ us. AreChunksSound (record b { posses = map (λ (q : PosseRow). record q { members = members q }) b.posses; pendings = stripped (λ n. false) b.pendings; upgrades = us })) (filter_all b.upgrades)
    (lose_keeps (λ n. false) (map (λ (q : PosseRow). record q { members = members q }) b.posses) b (members_lose members b.posses) (members_from members b.posses)
    (pairs_map (λ p q. same_number p q ≡ false) (λ p q. same_number p q ≡ false) (λ (q : PosseRow). record q { members = members q }) (λ p q e. e) b.posses h.shape.numbers)
    (pairs_map GoTogether GoTogether (λ (q : PosseRow). record q { members = members q }) (λ p q r. r) b.posses h.compatible_locks) h))
