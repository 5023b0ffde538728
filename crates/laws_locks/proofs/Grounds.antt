-- What granted requests keep of the counters and of the limits, keys, members and compatibility of locks.
use Rattle.std.proofs.Common.{◌≡◌, ℕ, ℤ, Bool, true, false, cond, ◌==◌, List, [], ◌∷◌, ◌++◌, map, filter, Some, Ok, refl, sym, ◌∙◌, inl, inr, ap, subst, ◌⊎◌, bytes_eq}
use Rattle.std.specs.List.{list_all}
use Rattle.std.proofs.lemmas.Bool.{and_parts}
use Rattle.std.proofs.lemmas.Bool.Decides.{Decides-eqb}
use Rattle.std.proofs.lemmas.List.{append-nil}
use Rattle.std.proofs.lemmas.Slice.Eq.{bytes_eq-Decides}
use Rattle.seg_names.specs.Names.{is_task_id}
use Rattle.book_rows.specs.Form.{is_want}
use Rattle.book_rows.specs.Grant.{grant, grant_all, is_fit, joined_in, joins_row, makes_row, new_row, nothing_granted, numbers_against, posses_after, revoked_in, version_for}
use Rattle.book_rows.specs.Lists.{In, is_empty}
use Rattle.book_rows.specs.Locks.{is_member, least}
use Rattle.book_rows.specs.Rules.{AreCompatible}
use Rattle.book_rows.specs.Shape.{AreDistinct, HasMembers, HaveMembers, IsMemberTask, is_task_row}
use Rattle.book_rows.specs.declared.answers.Counters.{Counters}
use Rattle.book_rows.specs.declared.answers.Granted.{Granted}
use Rattle.book_rows.specs.declared.kinds.TaskStatus.TheVariants as Statuses
use Rattle.book_rows.specs.declared.rows.PosseRow.{PosseRow}
use Rattle.book_rows.specs.declared.rows.TaskRow.{TaskRow}
use Rattle.book_rows.specs.declared.rows.Want.{Want}
use Rattle.laws_locks.specs.LockShape.{AreInstants, AreLockRows}
use Rattle.laws_locks.proofs.Compatible.{compatible_joined, compatible_new, compatible_revoked}
use Rattle.laws_locks.proofs.Instants.{new_version}
use Rattle.laws_locks.proofs.Lists.{In-append, In-list_all, In-map, all_from_In, none_In, pairs_push}
use Rattle.laws_locks.proofs.LockRows.{rows_joined, rows_new, rows_revoked}
use Rattle.laws_locks.proofs.Grants.{all_kept, granted_cases}
use Rattle.laws_locks.proofs.LookUps.{least_found, one_number}

-- ---- what holds before and after each request

pub record IsGround (ts : List TaskRow) (pubs : ℕ) (k : Counters) (qs : List PosseRow) : Type 0 where
  pub since : k.since ≡ pubs
  pub instants : AreInstants k.clock k.last
  pub rows : AreLockRows k.last k.next_lock k.since qs
  pub members : HaveMembers ts qs
  pub compatible : AreCompatible qs

-- the task runs, by the row of it in the list, which has its group, source and priority
pub record IsAtWork (ts : List TaskRow) (t : TaskRow) : Type 0 where
  pub limits : is_task_row t ≡ true
  pub row : TaskRow
  pub among : In row ts
  pub task_is : row.task ≡ t.task
  pub runs : row.status ≡ Statuses.Running
  pub group_is : row.group ≡ t.group
  pub source_is : row.source ≡ t.source
  pub priority_is : row.priority ≡ t.priority

pub task_limits : (t : TaskRow) → is_task_row t ≡ true → is_task_id t.task ≡ true
task_limits t h = (and_parts _ _ (and_parts _ _ (and_parts _ _ (and_parts _ _ (and_parts _ _ h).0).0).0).0).0

-- ---- members after revocations and joins

-- the members of a lock that the task joins or not
pub record IsJoined (t : TaskRow) (q : PosseRow) (extra : List (List ℕ)) : Type 0 where
  pub extra_is : (extra ≡ []) ⊎ (extra ≡ t.task ∷ [])
  pub new : In t.task extra → is_member t.task q ≡ false
  pub group_is : In t.task extra → q.group ≡ t.group
  pub source_is : In t.task extra → q.source ≡ t.source
  pub priority_is : In t.task extra → q.priority ≡ t.priority

only_one : (x task : List ℕ) (extra : List (List ℕ)) → (extra ≡ []) ⊎ (extra ≡ task ∷ []) → In x extra → x ≡ task
only_one x task extra (inl e) i = absurd (subst (λ (xs : List (List ℕ)). In x xs) e i)
only_one x task extra (inr e) i = elim (subst (λ (xs : List (List ℕ)). In x xs) e i) as (λ j. x ≡ task) [ inl same ↦ same | inr none ↦ absurd none ]

joined_task : (ts : List TaskRow) (t : TaskRow) (q : PosseRow) (ms : List (List ℕ)) (r : Bool) (x : List ℕ) → IsAtWork ts t → x ≡ t.task → q.group ≡ t.group → q.source ≡ t.source → q.priority ≡ t.priority
    → IsMemberTask ts (record q { members = ms; revoked = r }) x
joined_task ts t q ms r x work same group source priority = record {
  row = work.row;
  among = work.among;
  task_is = work.task_is ∙ sym same;
  runs = work.runs;
  group_is = work.group_is ∙ sym group;
  source_is = work.source_is ∙ sym source;
  priority_is = work.priority_is ∙ sym priority;
}

some_still : (ms extra : List (List ℕ)) → is_empty ms ≡ false → is_empty (ms ++ extra) ≡ false
some_still [] extra e = cc
some_still (m ∷ ms) extra e = refl

distinct_still : (t : TaskRow) (q : PosseRow) (extra : List (List ℕ)) → IsJoined t q extra → (extra ≡ []) ⊎ (extra ≡ t.task ∷ []) → AreDistinct bytes_eq q.members → AreDistinct bytes_eq (q.members ++ extra)
distinct_still t q extra j (inl e) h = subst (λ (xs : List (List ℕ)). AreDistinct bytes_eq (q.members ++ xs)) (sym e) (rw append-nil h)
distinct_still t q extra j (inr e) h =
    subst (λ (xs : List (List ℕ)). AreDistinct bytes_eq (q.members ++ xs)) (sym e)
    (pairs_push _ q.members t.task h (all_from_In _ q.members (λ m i. none_In (λ m. bytes_eq m t.task) m q.members i (j.new (subst (λ (xs : List (List ℕ)). In t.task xs) (sym e) (inl refl))))))

pub has_joined : (ts : List TaskRow) (t : TaskRow) (q : PosseRow) (extra : List (List ℕ)) (r : Bool) → IsAtWork ts t → IsJoined t q extra → HasMembers ts q → HasMembers ts (record q { members = q.members ++ extra; revoked = r })
has_joined ts t q extra r work j m = record {
  some = some_still q.members extra m.some;
  distinct = distinct_still t q extra j j.extra_is m.distinct;
  tasks = λ x i. elim (In-append x q.members extra i) [
    | inl old ↦ (let u = m.tasks x old in record {
      row = u.row;
      among = u.among;
      task_is = u.task_is;
      runs = u.runs;
      group_is = u.group_is;
      source_is = u.source_is;
      priority_is = u.priority_is;
    })
    | inr new ↦ (let same : x ≡ t.task = only_one x t.task extra j.extra_is new in
        let here : In t.task extra = subst (λ (y : List ℕ). In y extra) same new in
        joined_task ts t q (q.members ++ extra) r x work same (j.group_is here) (j.source_is here) (j.priority_is here))
  ];
}

-- the locks after revocations and joins, each as it was before
pub members_changed : (ts : List TaskRow) (joins revoked task : List ℕ) (qs : List PosseRow) → ((q : PosseRow) → In q qs → HasMembers ts q → HasMembers ts (joined_in joins task (revoked_in revoked q))) → HaveMembers ts qs
    → HaveMembers ts (map (joined_in joins task) (map (revoked_in revoked) qs))
members_changed ts joins revoked task qs f h q i =
    let one = In-map (joined_in joins task) q (map (revoked_in revoked) qs) i in
    let two = In-map (revoked_in revoked) one.0 qs one.1 in
    subst (λ (x : PosseRow). HasMembers ts x) (sym (one.2 ∙ ap (joined_in joins task) two.2)) (f two.0 two.1 (h two.0 two.1))

nobody_joins : (t : TaskRow) (q : PosseRow) → IsJoined t q []
nobody_joins t q = record { extra_is = inl refl; new = λ i. absurd i; group_is = λ i. absurd i; source_is = λ i. absurd i; priority_is = λ i. absurd i }

-- ---- the task joins a lock

joins_by : (t : TaskRow) (w : Want) (p q : PosseRow) (b : Bool) → is_member t.task p ≡ b → is_fit t w p ≡ true → ((p.number == q.number) ≡ true → p ≡ q) → (c : Bool) → (p.number == q.number) ≡ c
    → IsJoined t q (map (λ (n : ℕ). t.task) (filter (λ n. n == q.number) (cond b [] (p.number ∷ []))))
joins_by t w p q true e fit one c d = nobody_joins t q
joins_by t w p q false e fit one false d = rw d (nobody_joins t q)
joins_by t w p q false e fit one true d =
    let same : p ≡ q = one d in
    let reach = and_parts _ _ fit in
    let high = and_parts _ _ reach.0 in
    let group = and_parts _ _ high.0 in
    let kind = and_parts _ _ group.0 in
    let source = and_parts _ _ kind.0 in
    rw d (record {
      extra_is = inr refl;
      new = λ i. subst (λ (x : PosseRow). is_member t.task x ≡ false) same e;
      group_is = λ i. subst (λ (x : PosseRow). x.group ≡ t.group) same ((bytes_eq-Decides p.group t.group).0 group.1);
      source_is = λ i. subst (λ (x : PosseRow). x.source ≡ t.source) same ((bytes_eq-Decides p.source t.source).0 source.1);
      priority_is = λ i. subst (λ (x : PosseRow). x.priority ≡ t.priority) same ((Decides-eqb p.priority t.priority).0 high.1);
    })

ground_joins : (ts : List TaskRow) (pubs : ℕ) (qs : List PosseRow) (k : Counters) (t : TaskRow) (w : Want) (p : PosseRow) → IsAtWork ts t → IsGround ts pubs k qs → least (is_fit t w) qs ≡ Some p → IsGround ts pubs k (posses_after qs t.task (joins_row k t p))
ground_joins ts pubs qs k t w p work h found =
    let at = least_found (is_fit t w) qs p found in
    let js : List ℕ = (joins_row k t p).joins in
    record {
      since = h.since;
      instants = h.instants;
      rows = rw append-nil (rows_joined k.last k.next_lock k.since js t.task _ (task_limits t work.limits) (rows_revoked k.last k.next_lock k.since [] qs h.rows));
      members = rw append-nil (members_changed ts js [] t.task qs
          (λ q i m. has_joined ts t q _ _ work (joins_by t w p q (is_member t.task p) refl at.1 (λ e. one_number qs p q h.rows.numbers at.0 i e) (p.number == q.number) refl) m) h.members);
      compatible = rw append-nil (compatible_joined js t.task _ (compatible_revoked [] qs h.compatible));
    }

-- ---- the task gets a new lock

new_members : (ts : List TaskRow) (k : Counters) (t : TaskRow) (w : Want) (v : ℤ) → IsAtWork ts t → HasMembers ts (new_row k t w v)
new_members ts k t w v work = record {
  some = refl;
  distinct = (tt, tt);
  tasks = λ x i. joined_task ts t (new_row k t w v) (t.task ∷ []) false x work (only_one x t.task (t.task ∷ []) (inr refl) i) refl refl refl;
}

members_new : (ts : List TaskRow) (qs : List PosseRow) (new q : PosseRow) → HaveMembers ts qs → HasMembers ts new → In q (qs ++ new ∷ []) → HasMembers ts q
members_new ts qs new q h m i = elim (In-append q qs (new ∷ []) i) [
  | inl old ↦ h q old
  | inr (inl same) ↦ subst (λ (x : PosseRow). HasMembers ts x) (sym same) m
  | inr (inr none) ↦ absurd none
]

ground_makes : (ts : List TaskRow) (pubs : ℕ) (qs : List PosseRow) (k : Counters) (t : TaskRow) (w : Want) (v : ℤ) → IsAtWork ts t → is_want w ≡ true → IsGround ts pubs k qs → version_for w.lock_kind k ≡ Some v
    → IsGround ts pubs (makes_row qs k t w v).after (posses_after qs t.task (makes_row qs k t w v))
ground_makes ts pubs qs k t w v work wanted h version =
    let new = new_version w.lock_kind k v h.instants version in
    let ns : List ℕ = numbers_against t w qs in
    record {
      since = h.since;
      instants = record { clock = h.instants.clock; last = new.last };
      rows = rows_new k t w v _ work.limits wanted new (rows_joined k.last k.next_lock k.since [] t.task _ (task_limits t work.limits) (rows_revoked k.last k.next_lock k.since ns qs h.rows));
      members = λ q i. members_new ts _ (new_row k t w v) q (members_changed ts [] ns t.task qs (λ q i m. has_joined ts t q [] _ work (nobody_joins t q) m) h.members) (new_members ts k t w v work) i;
      compatible = compatible_new qs k t w v h.compatible;
    }

-- one request keeps what holds
pub ground_granted : (ts : List TaskRow) (pubs : ℕ) (qs : List PosseRow) (k : Counters) (t : TaskRow) (w : Want) (g : Granted) → IsAtWork ts t → is_want w ≡ true → IsGround ts pubs k qs → grant qs k t w ≡ Ok g
    → IsGround ts pubs g.after (posses_after qs t.task g)
ground_granted ts pubs qs k t w g work wanted h e =
    granted_cases qs k t w (λ g. IsGround ts pubs g.after (posses_after qs t.task g)) (λ p found. ground_joins ts pubs qs k t w p work h found) (λ v version. ground_makes ts pubs qs k t w v work wanted h version) g e

-- ---- one request after another

ground_nothing : (ts : List TaskRow) (pubs : ℕ) (t : TaskRow) → IsAtWork ts t → (qs : List PosseRow) (k : Counters) → IsGround ts pubs k qs → IsGround ts pubs k (posses_after qs t.task (nothing_granted k))
ground_nothing ts pubs t work qs k h = record {
  since = h.since;
  instants = h.instants;
  rows = rw append-nil (rows_joined k.last k.next_lock k.since [] t.task _ (task_limits t work.limits) (rows_revoked k.last k.next_lock k.since [] qs h.rows));
  members = rw append-nil (members_changed ts [] [] t.task qs (λ q i m. has_joined ts t q [] _ work (nobody_joins t q) m) h.members);
  compatible = rw append-nil (compatible_joined [] t.task _ (compatible_revoked [] qs h.compatible));
}

-- any number of requests keep what holds
pub ground_all : (ts : List TaskRow) (pubs : ℕ) (t : TaskRow) (ws : List Want) (qs : List PosseRow) (k : Counters) (g : Granted) → IsAtWork ts t → list_all is_want ws ≡ true → IsGround ts pubs k qs → grant_all qs k t ws ≡ Ok g
    → IsGround ts pubs g.after (posses_after qs t.task g)
ground_all ts pubs t ws qs k g work wanted h e =
    all_kept (λ k qs. IsGround ts pubs k qs) (λ w. is_want w ≡ true) t (ground_nothing ts pubs t work) (λ qs k w g good h e. ground_granted ts pubs qs k t w g work good h e) ws qs k g
    (λ w i. In-list_all is_want w ws i wanted) h e
