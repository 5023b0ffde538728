-- What the changes of sequences and of tasks keep of the reports.
use Rattle.std.proofs.Common.{◌≡◌, ℕ, ℤ, Bool, true, false, cond, ◌&&◌, ◌||◌, List, [], ◌∷◌, ◌++◌, map, Some, None, Option, refl, sym, ◌∙◌, ap, subst, arith, inl, inr, ◌⊎◌, bytes_eq, nat_le, nat_lt, ◌==◌}
use Rattle.std.specs.List.{AllByRecursion}
use Rattle.std.proofs.lemmas.Bool.{and_parts, false≢true, or_parts}
use Rattle.std.proofs.lemmas.Bool.Decides.{nat_tests}
use Rattle.book_rows.specs.Kinds.{is_unpublished, same_state}
use Rattle.book_rows.specs.Lists.{In, Pairs, is_empty}
use Rattle.book_rows.specs.Reports.{Ended, both_told, closed_at, ended, ended_by, first_bad, has_reported, is_told, kept, left_all, left_by, reported, told, told_again}
use Rattle.book_rows.specs.SequenceRules.{IsTaskOf, IsToldOnce, is_published}
use Rattle.book_rows.specs.Sequences.{abandoned, is_named, name_of, published, reaches, sequence_named, tasks_abandoned}
use Rattle.book_rows.specs.TaskSteps.{status_set}
use Rattle.book_rows.specs.declared.kinds.SeqState.TheVariants as States
use Rattle.book_rows.specs.declared.kinds.TaskStatus.{TaskStatus}
use Rattle.book_rows.specs.declared.rows.Offset.{Offset}
use Rattle.book_rows.specs.declared.rows.Report.{Report}
use Rattle.book_rows.specs.declared.rows.SequenceRow.{SequenceRow}
use Rattle.book_rows.specs.declared.rows.TaskRow.{TaskRow}
use Rattle.laws_locks.proofs.Lists.{In-all, In-append, In-left, In-map, all_map, all_push, map_In, pairs_map, pairs_push}
use Rattle.laws_offsets.proofs.Lists.{same_text}
use Rattle.laws_sequences.specs.ReportLaws.{AreTold}
use Rattle.laws_sequences.proofs.Abandoned.{abandoned_published}
use Rattle.laws_sequences.proofs.Counts.{KeepsKeys}
use Rattle.laws_sequences.proofs.KeptLinks.{keeps_closed, keeps_left, reaches_told}
use Rattle.laws_sequences.proofs.Publishings.{KeepsPublished}
use Rattle.laws_sequences.proofs.Replicas.{name_kept}

-- ---- changes that leave the reports

pub record KeepsReports (f : SequenceRow → SequenceRow) : Type 0 where
  pub published : KeepsPublished f
  pub reports : (u : SequenceRow) → (f u).reports ≡ u.reports

told_moved : (f : SequenceRow → SequenceRow) → KeepsReports f → (u : SequenceRow) → IsToldOnce u → IsToldOnce (f u)
told_moved f k u h = record {
  ends = λ e. at_ends e;
  told = subst (λ ss. AllByRecursion (λ r. reaches ss r.offsets ≡ true) (f u).reports) (sym (k.published.starts u)) (subst (λ rs. AllByRecursion (λ (r : Report). reaches u.starts r.offsets ≡ true) rs) (sym (k.reports u)) h.told);
  once = subst (λ rs. Pairs (λ (a b : Report). bytes_eq a.task b.task ≡ false) rs) (sym (k.reports u)) h.once;
} where
  at_ends : is_published (f u) ≡ true → reaches (f u).starts (f u).ends ≡ true
  at_ends e = let before : is_published u ≡ true = sym (k.published.state u) ∙ e in rw (k.published.starts u, k.published.ends u before) (h.ends before)

task_moved : (f : SequenceRow → SequenceRow) → KeepsKeys f → (ts : List TaskRow) (u : SequenceRow) (task : List ℕ) → IsTaskOf ts u task → IsTaskOf ts (f u) task
task_moved f k ts u task h = record { row = h.row; among = h.among; task_is = h.task_is; group_is = h.group_is ∙ sym (name_kept f k u) }

module _ (ts : List TaskRow) where
  pub are_told_map : (f : SequenceRow → SequenceRow) → KeepsReports f → (us : List SequenceRow) → AreTold ts us → AreTold ts (map f us)
  are_told_map f k us h = record { told = all_map IsToldOnce IsToldOnce f (told_moved f k) us h.told; reporters = λ u r i j. moved u r (In-map f u us i) j } where
    moved : (u : SequenceRow) (r : Report) → (v : SequenceRow) × In v us × (u ≡ f v) → In r u.reports → IsTaskOf ts u r.task
    moved u r from j =
        let here : In r from.0.reports = subst (λ rs. In r rs) (ap (λ (x : SequenceRow). x.reports) from.2 ∙ k.reports from.0) j in
        subst (λ (x : SequenceRow). IsTaskOf ts x r.task) (sym from.2) (task_moved f k.published.keys ts from.0 r.task (h.reporters from.0 r from.1 here))

  -- one that has no reports yet
  pub are_told_push : (us : List SequenceRow) (new : SequenceRow) → is_published new ≡ false → new.reports ≡ [] → AreTold ts us → AreTold ts (us ++ new ∷ [])
  are_told_push us new off none h = record {
    told = all_push IsToldOnce us new h.told (record {
      ends = λ e. absurd (false≢true (sym off ∙ e));
      told = subst (λ rs. AllByRecursion (λ (r : Report). reaches new.starts r.offsets ≡ true) rs) (sym none) tt;
      once = subst (λ rs. Pairs (λ (a b : Report). bytes_eq a.task b.task ≡ false) rs) (sym none) tt;
    });
    reporters = λ u r i j. by_place u r (In-append u us (new ∷ []) i) j;
  } where
    no_report : (r : Report) → In r new.reports → ⊥
    no_report r j = subst (λ rs. In r rs) none j

    by_place : (u : SequenceRow) (r : Report) → In u us ⊎ In u (new ∷ []) → In r u.reports → IsTaskOf ts u r.task
    by_place u r (inl i) j = h.reporters u r i j
    by_place u r (inr (inl same)) j = absurd (no_report r (subst (λ (x : SequenceRow). In r x.reports) same j))
    by_place u r (inr (inr i)) j = absurd i

  pub told_abandoned : (source : List ℕ) (group from : ℕ) (us : List SequenceRow) → AreTold ts us → AreTold ts (map (abandoned source group from) us)
  told_abandoned source group from us h = are_told_map (abandoned source group from) (record { published = abandoned_published source group from; reports = λ u. refl }) us h

  told_closed : (name : List ℕ) (clock : ℤ) (us : List SequenceRow) → AreTold ts us → AreTold ts (map (closed_at name clock) us)
  told_closed name clock us h = are_told_map (closed_at name clock) (record { published = (keeps_closed name clock).published; reports = λ u. refl }) us h

  told_ended_by : (o : Option SequenceRow) (name : List ℕ) (clock : ℤ) (us : List SequenceRow) → AreTold ts us → AreTold ts (ended_by o name clock us).sequences
  told_ended_by None name clock us h = h
  told_ended_by (Some u) name clock us h =
      either (is_unpublished u.state && is_empty u.live) (record { sequences = map (abandoned u.source u.group u.index) us; tasks = tasks_abandoned u.source u.group u.index us }) (record { sequences = map (closed_at name clock) us; tasks = [] })
      (told_abandoned u.source u.group u.index us h) (told_closed name clock us h) where
        either : (b : Bool) (x y : Ended) → AreTold ts x.sequences → AreTold ts y.sequences → AreTold ts (cond b x y).sequences
        either true x y h k = h
        either false x y h k = k

  pub told_ended : (name task : List ℕ) (clock : ℤ) (us : List SequenceRow) → AreTold ts us → AreTold ts (ended name task clock us).sequences
  told_ended name task clock us h =
      told_ended_by (sequence_named name (left_all task us)) name clock (left_all task us) (are_told_map (left_by task) (record { published = (keeps_left task).published; reports = λ u. refl }) us h)

-- ---- changes of tasks

pub told_set : (task : List ℕ) (status : TaskStatus) (ts : List TaskRow) (us : List SequenceRow) → AreTold ts us → AreTold (map (status_set task status) ts) us
told_set task status ts us h = record { told = h.told; reporters = λ u r i j. moved u r.task (h.reporters u r i j) } where
  moved : (u : SequenceRow) (id : List ℕ) → IsTaskOf ts u id → IsTaskOf (map (status_set task status) ts) u id
  moved u id x = record { row = status_set task status x.row; among = map_In (status_set task status) x.row ts x.among; task_is = x.task_is; group_is = x.group_is }

pub told_more : (rows ts : List TaskRow) (us : List SequenceRow) → AreTold ts us → AreTold (ts ++ rows) us
told_more rows ts us h = record { told = h.told; reporters = λ u r i j. moved u r.task (h.reporters u r i j) } where
  moved : (u : SequenceRow) (id : List ℕ) → IsTaskOf ts u id → IsTaskOf (ts ++ rows) u id
  moved u id x = record { row = x.row; among = In-left x.row ts rows x.among; task_is = x.task_is; group_is = x.group_is }

-- ---- publishing: the ends of those of the name reach their starts

pub told_published : (name : List ℕ) (ts : List TaskRow) (us : List SequenceRow) → ((u : SequenceRow) → In u us → is_named name u ≡ true → reaches u.starts u.ends ≡ true) → AreTold ts us → AreTold ts (map (published name) us)
told_published name ts us reach h = record {
  told = all_published us (λ u i. each (is_named name u) u refl (reach u i) (In-all IsToldOnce u us i h.told));
  reporters = λ u r i j. moved u r (In-map (published name) u us i) j;
} where
  each : (b : Bool) (u : SequenceRow) → is_named name u ≡ b → (is_named name u ≡ true → reaches u.starts u.ends ≡ true) → IsToldOnce u → IsToldOnce (record u { state = cond b States.Published u.state })
  each true u e reach h = record { ends = λ p. reach e; told = h.told; once = h.once }
  each false u e reach h = record { ends = h.ends; told = h.told; once = h.once }

  all_published : (vs : List SequenceRow) → ((u : SequenceRow) → In u vs → IsToldOnce (published name u)) → AllByRecursion IsToldOnce (map (published name) vs)
  all_published [] f = tt
  all_published (v ∷ vs) f = (f v (inl refl), all_published vs (λ u i. f u (inr i)))

  moved : (u : SequenceRow) (r : Report) → (v : SequenceRow) × In v us × (u ≡ published name v) → In r u.reports → IsTaskOf ts u r.task
  moved u r from j =
      let x = h.reporters from.0 r from.1 (subst (λ rs. In r rs) (ap (λ (y : SequenceRow). y.reports) from.2) j) in
      subst (λ (y : SequenceRow). IsTaskOf ts y r.task) (sym from.2) (record { row = x.row; among = x.among; task_is = x.task_is; group_is = x.group_is })

-- ---- a report

-- no partition is bad where the offsets reach the starts
pub none_bad : (ss os : List Offset) → first_bad ss os ≡ None → reaches ss os ≡ true
none_bad [] [] e = refl
none_bad [] (o ∷ os) e = cc
none_bad (s ∷ ss) [] e = cc
none_bad (s ∷ ss) (o ∷ os) e = by_tests s.partition o.partition s.offset o.offset (first_bad ss os) (reaches ss os) e (none_bad ss os) where
  by_tests : (p q a b : ℕ) (rest : Option ℕ) (r : Bool) → cond (nat_lt q p) (Some q) (cond (nat_lt p q || nat_lt b a) (Some p) rest) ≡ None → (rest ≡ None → r ≡ true) → (((p == q) && nat_le a b) && r) ≡ true
  by_tests p q a b rest r e f = grind (arith, nat_tests)

not_reported : (rs : List Report) (task : List ℕ) → has_reported rs task ≡ false → AllByRecursion (λ r. bytes_eq r.task task ≡ false) rs
not_reported [] task e = tt
not_reported (r ∷ rs) task e = let both = or_parts (bytes_eq r.task task) (has_reported rs task) e in (both.0, not_reported rs task both.1)

reaches_again : (b : Bool) (ss os ns : List Offset) → reaches ss os ≡ true → reaches ss (cond b (both_told os ns) os) ≡ true
reaches_again true ss os ns h = reaches_told ss os ns h
reaches_again false ss os ns h = h

kept_told : (b : Bool) (new : Report) (ss : List Offset) (rs : List Report) → reaches ss new.offsets ≡ true → AllByRecursion (λ r. reaches ss r.offsets ≡ true) rs → AllByRecursion (λ r. reaches ss r.offsets ≡ true) (cond b (map (told_again new) rs) (rs ++ new ∷ []))
kept_told true new ss rs n a = all_map _ _ (told_again new) (λ r h. reaches_again (bytes_eq r.task new.task) ss r.offsets new.offsets h) rs a
kept_told false new ss rs n a = all_push _ rs new a n

kept_once : (b : Bool) (new : Report) (rs : List Report) → has_reported rs new.task ≡ b → Pairs (λ a c. bytes_eq a.task c.task ≡ false) rs → Pairs (λ a c. bytes_eq a.task c.task ≡ false) (cond b (map (told_again new) rs) (rs ++ new ∷ []))
kept_once true new rs e o = pairs_map _ _ (told_again new) (λ a c h. h) rs o
kept_once false new rs e o = pairs_push _ rs new o (not_reported rs new.task e)

-- a report that is kept is of a task that had reported, or of the one that tells
kept_task : (b : Bool) (new : Report) (rs : List Report) (r : Report) → In r (cond b (map (told_again new) rs) (rs ++ new ∷ [])) → ((q : Report) × In q rs × (r.task ≡ q.task)) ⊎ (r.task ≡ new.task)
kept_task true new rs r i = let from = In-map (told_again new) r rs i in inl (from.0, from.1, ap (λ (x : Report). x.task) from.2)
kept_task false new rs r i = elim (In-append r rs (new ∷ []) i) [
  | inl j ↦ inl (r, j, refl)
  | inr (inl same) ↦ inr (ap (λ (x : Report). x.task) same)
  | inr (inr none) ↦ absurd none
]

telling : (c : Bool) (new : Report) (u : SequenceRow) → (c ≡ true → reaches u.starts new.offsets ≡ true) → IsToldOnce u → IsToldOnce (record u { state = cond c States.Paused u.state; reports = cond c (kept new u.reports) u.reports })
telling true new u n h = record {
  ends = λ e. absurd (false≢true e);
  told = kept_told (has_reported u.reports new.task) new u.starts u.reports (n refl) h.told;
  once = kept_once (has_reported u.reports new.task) new u.reports refl h.once;
}
telling false new u n h = record { ends = h.ends; told = h.told; once = h.once }

module _ (ts : List TaskRow) (us : List SequenceRow) (t : TaskRow) (offsets : List Offset) (among : In t ts) where
  abbrev new : Report
  new = record { task = t.task; offsets = offsets }

  told_task : (c : Bool) (u : SequenceRow) (r : Report) → (c ≡ true → name_of u ≡ t.group) → ((q : Report) → In q u.reports → IsTaskOf ts u q.task) → In r (cond c (kept new u.reports) u.reports) → IsTaskOf ts u r.task
  told_task false u r g f i = f r i
  told_task true u r g f i = elim (kept_task (has_reported u.reports t.task) new u.reports r i) [
    | inl old ↦ subst (λ id. IsTaskOf ts u id) (sym old.2) (f old.0 old.1)
    | inr now ↦ record { row = t; among = among; task_is = sym now; group_is = sym (g refl) }
  ]

  -- the offsets reach the starts of each sequence of the task's group
  pub told_reported : (clock : ℤ) → ((u : SequenceRow) → In u us → is_named t.group u ≡ true → reaches u.starts offsets ≡ true) → AreTold ts us → AreTold ts (map (reported t.group new clock) us)
  told_reported clock reach h = subst (λ vs. AreTold ts vs) (twice us) (are_told_map ts (closed_at t.group clock) (record { published = (keeps_closed t.group clock).published; reports = λ u. refl }) (map (told t.group new) us) first) where
    twice : (vs : List SequenceRow) → map (closed_at t.group clock) (map (told t.group new) vs) ≡ map (reported t.group new clock) vs
    twice [] = refl
    twice (v ∷ vs) = ap (λ rest. reported t.group new clock v ∷ rest) (twice vs)

    named_where : (u : SequenceRow) → is_told t.group u ≡ true → is_named t.group u ≡ true
    named_where u e = (and_parts (is_named t.group u) (same_state u.state States.Reading || same_state u.state States.Paused) e).0

    all_told : (vs : List SequenceRow) → ((u : SequenceRow) → In u vs → IsToldOnce (told t.group new u)) → AllByRecursion IsToldOnce (map (told t.group new) vs)
    all_told [] f = tt
    all_told (v ∷ vs) f = (f v (inl refl), all_told vs (λ u i. f u (inr i)))

    moved : (u : SequenceRow) (r : Report) → (v : SequenceRow) × In v us × (u ≡ told t.group new v) → In r u.reports → IsTaskOf ts u r.task
    moved u r from j =
        let x = told_task (is_told t.group from.0) from.0 r (λ e. same_text (name_of from.0) t.group (named_where from.0 e)) (λ q i. h.reporters from.0 q from.1 i) (subst (λ rs. In r rs) (ap (λ (y : SequenceRow). y.reports) from.2) j) in
        subst (λ (y : SequenceRow). IsTaskOf ts y r.task) (sym from.2) (record { row = x.row; among = x.among; task_is = x.task_is; group_is = x.group_is })

    first : AreTold ts (map (told t.group new) us)
    first = record {
      told = all_told us (λ u i. telling (is_told t.group u) new u (λ e. reach u i (named_where u e)) (In-all IsToldOnce u us i h.told));
      reporters = λ u r i j. moved u r (In-map (told t.group new) u us i) j;
    }
