-- What abandoning, ending, resetting and other changes keep of the replicas that haven't ended.
use Rattle.std.proofs.Common.{◌≡◌, ℕ, ℤ, Bool, true, false, cond, not, ◌&&◌, List, [], ◌∷◌, map, filter, Some, None, Option, refl, sym, ◌∙◌, ap, subst, arith, inl, inr, bytes_eq, nat_le}
use Rattle.std.proofs.lemmas.Bool.Decides.{nat_tests}
use Rattle.std.proofs.lemmas.Bool.{and_from, and_parts, cases_Bool, false≢true}
use Rattle.book_rows.specs.Kinds.{has_ended, is_unpublished}
use Rattle.book_rows.specs.Lists.{In, gathered, is_empty}
use Rattle.book_rows.specs.Reports.{Ended, closed_at, ended, ended_by, left_all, left_by}
use Rattle.book_rows.specs.SequenceRules.{HasLive}
use Rattle.book_rows.specs.Sequences.{abandoned, is_abandoned_by, is_named, is_open, name_of, sequence_named, tasks_abandoned}
use Rattle.book_rows.specs.Shape.{AreDistinct, same_task}
use Rattle.book_rows.specs.TaskSteps.{all_failed, status_set}
use Rattle.book_rows.specs.declared.kinds.SeqState.TheVariants as States
use Rattle.book_rows.specs.declared.kinds.TaskStatus.{TaskStatus}
use Rattle.book_rows.specs.declared.kinds.TaskStatus.TheVariants as Statuses
use Rattle.book_rows.specs.declared.rows.Book.{Book}
use Rattle.book_rows.specs.declared.rows.SequenceRow.{SequenceRow}
use Rattle.book_rows.specs.declared.rows.TaskRow.{TaskRow}
use Rattle.laws_locks.specs.LockShape.{AreTaskRows}
use Rattle.laws_locks.proofs.Lists.{In-all, In-filter, In-map, filter_In, found_In, none_found, pair_of}
use Rattle.laws_locks.proofs.TaskRows.{task_rows_set}
use Rattle.laws_offsets.proofs.Lists.{same_text, text_same}
use Rattle.laws_sequences.specs.SoundLaws.{AreLives, HasLives}
use Rattle.laws_sequences.proofs.Counts.{group_from}
use Rattle.laws_sequences.proofs.KeptLinks.{keeps_closed}
use Rattle.laws_sequences.proofs.Lines.{all_failed_keeps}
use Rattle.laws_sequences.proofs.LiveRows.{fail_rows, gathered_In, gathered_from, ids_apart, live_ended, live_failed, live_ids, live_row, rows_failed, without, without_all, without_every, without_none}

-- each lists its live tasks
abbrev pub AreListed : List TaskRow → List SequenceRow → Type 0
AreListed ts us = (u : SequenceRow) → In u us → u.live ≡ live_ids u ts

-- no two have one name
abbrev pub HaveNames : List SequenceRow → Type 0
HaveNames us = (u v : SequenceRow) → In u us → In v us → name_of u ≡ name_of v → u ≡ v

pub names_map : (f : SequenceRow → SequenceRow) → ((u : SequenceRow) → name_of (f u) ≡ name_of u) → (us : List SequenceRow) → HaveNames us → HaveNames (map f us)
names_map f k us h x y i j e =
    let a = In-map f x us i in
    let c = In-map f y us j in
    let named : name_of a.0 ≡ name_of c.0 = sym (k a.0) ∙ ap (λ (w : SequenceRow). name_of w) (sym a.2) ∙ e ∙ ap (λ (w : SequenceRow). name_of w) c.2 ∙ k c.0 in
    a.2 ∙ ap f (h a.0 c.0 a.1 c.1 named) ∙ sym c.2

-- ---- sequences that are hit are abandoned, and their tasks fail

abbrev pub hit_row : (SequenceRow → Bool) → SequenceRow → SequenceRow
hit_row hit u = record u { state = cond (hit u) States.Abandoned u.state; live = cond (hit u) [] u.live }

abbrev pub hit_ids : (SequenceRow → Bool) → List SequenceRow → List (List ℕ)
hit_ids hit us = gathered (λ u. u.live) (filter hit us)

module _ (ts : List TaskRow) (us : List SequenceRow) (distinct : AreDistinct same_task ts) (names : HaveNames us) (listed : AreListed ts us) (hit : SequenceRow → Bool) where
  -- a task of one that isn't hit is none of those that fail
  hit_apart : (u : SequenceRow) → In u us → hit u ≡ false → (x y : List ℕ) → In x (live_ids u ts) → In y (hit_ids hit us) → bytes_eq x y ≡ false
  hit_apart u i off x y j k =
      let from = gathered_from y (filter hit us) k in
      let found = In-filter hit from.0 us from.1 in
      ids_apart ts u from.0 x y distinct j (subst (λ ids. In y ids) (listed from.0 found.0) from.2) (λ same. other from.0 found.0 found.1 same) where
        other : (v : SequenceRow) → In v us → hit v ≡ true → name_of u ≡ name_of v → ⊥
        other v k on same = false≢true (sym off ∙ subst (λ (w : SequenceRow). hit w ≡ true) (sym (names u v i k same)) on)

  hit_listed : (u : SequenceRow) → In u us → (b : Bool) → hit u ≡ b → cond b [] u.live ≡ live_ids u (fail_rows (hit_ids hit us) ts)
  hit_listed u i true e =
      sym (live_failed u (hit_ids hit us) ts ∙ (ap (without_all (hit_ids hit us)) (sym (listed u i)) ∙ without_every (hit_ids hit us) u.live (λ x j. gathered_In x u (filter hit us) (filter_In hit u us i e) j)))
  hit_listed u i false e = listed u i ∙ sym (live_failed u (hit_ids hit us) ts ∙ without_none (hit_ids hit us) (live_ids u ts) (hit_apart u i e))

  hit_some : (u : SequenceRow) → (hit u ≡ false → is_unpublished u.state ≡ true → is_empty u.live ≡ false) → (b : Bool) → hit u ≡ b → is_unpublished (cond b States.Abandoned u.state) ≡ true → is_empty (cond b [] u.live) ≡ false
  hit_some u f true e p = absurd (false≢true p)
  hit_some u f false e p = f e p

  pub hit_live : (w : SequenceRow) → In w (map (hit_row hit) us) → ((u : SequenceRow) → In u us → hit u ≡ false → is_unpublished u.state ≡ true → is_empty u.live ≡ false) → HasLive (fail_rows (hit_ids hit us) ts) w
  hit_live w i f =
      let from = In-map (hit_row hit) w us i in
      subst (λ (x : SequenceRow). HasLive (fail_rows (hit_ids hit us) ts) x) (sym from.2) (record { live = hit_listed from.0 from.1 (hit from.0) refl; some = hit_some from.0 (f from.0 from.1) (hit from.0) refl })

-- ---- a task ends

module _ (ts : List TaskRow) (us : List SequenceRow) (t : TaskRow) (status : TaskStatus) (rows : AreTaskRows ts) (names : HaveNames us) (live : (u : SequenceRow) → In u us → HasLive ts u) (among : In t ts) (ends : has_ended status ≡ true) where
  abbrev after : List TaskRow
  after = map (status_set t.task status) ts

  abbrev left : List SequenceRow
  left = left_all t.task us

  left_names : HaveNames left
  left_names = names_map (left_by t.task) (λ u. refl) us names

  left_listed : AreListed after left
  left_listed w i =
      let from = In-map (left_by t.task) w us i in
      subst (λ (x : SequenceRow). x.live ≡ live_ids x after) (sym from.2) (ap (without t.task) (live from.0 from.1).live ∙ sym (live_ended from.0 t.task status ends ts))

  -- the task is of no sequence of another name
  not_its : (u : SequenceRow) → In u us → is_named t.group u ≡ false → (x : List ℕ) → In x u.live → bytes_eq x t.task ≡ false
  not_its u i off x j = elim (cases_Bool (bytes_eq x t.task)) [
    | inr away ↦ away
    | inl on ↦
        let row = live_row u ts x (subst (λ ids. In x ids) (live u i).live j) in
        absurd (false≢true (sym off ∙ text_same (name_of u) t.group (sym row.3 ∙ ap (λ (y : TaskRow). y.group) (one row.0 row.1 (row.2 ∙ same_text x t.task on)))))
  ] where
    one : (q : TaskRow) → In q ts → q.task ≡ t.task → q ≡ t
    one q i same = elim (pair_of (λ (a b : TaskRow). same_task a b ≡ false) q t ts rows.keys i among) [
      | inl is ↦ is
      | inr (inl away) ↦ absurd (false≢true (sym away ∙ text_same q.task t.task same))
      | inr (inr away) ↦ absurd (false≢true (sym away ∙ text_same t.task q.task (sym same)))
    ]

  left_some : (w : SequenceRow) → In w left → is_named t.group w ≡ false → is_unpublished w.state ≡ true → is_empty w.live ≡ false
  left_some w i off p =
      let from = In-map (left_by t.task) w us i in
      let away : is_named t.group from.0 ≡ false = subst (λ (x : SequenceRow). is_named t.group x ≡ false) from.2 off in
      let unpublished : is_unpublished from.0.state ≡ true = subst (λ (x : SequenceRow). is_unpublished x.state ≡ true) from.2 p in
      subst (λ (x : SequenceRow). is_empty x.live ≡ false) (sym from.2)
      (subst (λ ids. is_empty ids ≡ false) (sym (without_none (t.task ∷ []) from.0.live (λ x y j k. only from.0 from.1 away x y j k))) ((live from.0 from.1).some unpublished)) where
        only : (u : SequenceRow) → In u us → is_named t.group u ≡ false → (x y : List ℕ) → In x u.live → In y (t.task ∷ []) → bytes_eq x y ≡ false
        only u i off x y j (inl same) = rw same (not_its u i off x j)
        only u i off x y j (inr k) = absurd k

  named_once : (v w : SequenceRow) → In v left → In w left → is_named t.group v ≡ true → is_named t.group w ≡ true → w ≡ v
  named_once v w i j e f = left_names w v j i (same_text (name_of w) t.group f ∙ sym (same_text (name_of v) t.group e))

  -- the sequence of the task closes, or nothing becomes of it
  closed_live : (clock : ℤ) (v : SequenceRow) → In v left → is_named t.group v ≡ true → (is_unpublished v.state && is_empty v.live) ≡ false → (w : SequenceRow) → In w (map (closed_at t.group clock) left) → HasLive after w
  closed_live clock v i named e w j =
      let from = In-map (closed_at t.group clock) w left j in
      subst (λ (x : SequenceRow). HasLive after x) (sym from.2) (record {
        live = left_listed from.0 from.1;
        some = λ p. some from.0 from.1 (is_named t.group from.0) refl (sym ((keeps_closed t.group clock).unpublished from.0) ∙ p);
      }) where
        not_empty : (a b : Bool) → (a && b) ≡ false → a ≡ true → b ≡ false
        not_empty true b e p = e
        not_empty false b e p = absurd (false≢true p)

        some : (x : SequenceRow) → In x left → (b : Bool) → is_named t.group x ≡ b → is_unpublished x.state ≡ true → is_empty x.live ≡ false
        some x k false off p = left_some x k off p
        some x k true on p =
            let same : x ≡ v = named_once v x i k named on in
            subst (λ (y : SequenceRow). is_empty y.live ≡ false) (sym same) (not_empty (is_unpublished v.state) (is_empty v.live) e (subst (λ (y : SequenceRow). is_unpublished y.state ≡ true) same p))

  -- it is abandoned with the later ones
  gone_live : (v : SequenceRow) → In v left → is_named t.group v ≡ true → (is_unpublished v.state && is_empty v.live) ≡ true → (w : SequenceRow) → In w (map (abandoned v.source v.group v.index) left) → HasLive (fail_rows (tasks_abandoned v.source v.group v.index left) after) w
  gone_live v i named e w j =
      hit_live after left (task_rows_set t.task status ts rows).keys left_names left_listed (is_abandoned_by v.source v.group v.index) w j
      (λ x k off p. left_some x k (other x k off (is_named t.group x) refl) p) where
        le_itself : (n : ℕ) → nat_le n n ≡ true
        le_itself n = grind (arith, nat_tests)

        itself : is_abandoned_by v.source v.group v.index v ≡ true
        itself =
            and_from (is_open v.source v.group v) (nat_le v.index v.index)
            (and_from _ (is_unpublished v.state) (group_from v.source v.group v refl refl) (and_parts (is_unpublished v.state) (is_empty v.live) e).0) (le_itself v.index)

        other : (x : SequenceRow) → In x left → is_abandoned_by v.source v.group v.index x ≡ false → (b : Bool) → is_named t.group x ≡ b → is_named t.group x ≡ false
        other x k off false n = n
        other x k off true n = absurd (false≢true (sym off ∙ subst (λ (y : SequenceRow). is_abandoned_by v.source v.group v.index y ≡ true) (sym (named_once v x i k named n)) itself))

  ended_live : (clock : ℤ) (o : Option SequenceRow) → sequence_named t.group left ≡ o → (w : SequenceRow) → In w (ended_by o t.group clock left).sequences → HasLive (fail_rows (ended_by o t.group clock left).tasks after) w
  ended_live clock None e w i = record { live = left_listed w i; some = λ p. left_some w i (In-all (λ (x : SequenceRow). is_named t.group x ≡ false) w left i (none_found (is_named t.group) left e)) p }
  ended_live clock (Some v) e w i =
      let found = found_In (is_named t.group) v left e in
      either (is_unpublished v.state && is_empty v.live) (record { sequences = map (abandoned v.source v.group v.index) left; tasks = tasks_abandoned v.source v.group v.index left }) (record { sequences = map (closed_at t.group clock) left; tasks = [] }) refl
      (gone_live v found.0 found.1) (closed_live clock v found.0 found.1) w i where
        either : (b : Bool) (x y : Ended) → (is_unpublished v.state && is_empty v.live) ≡ b
            → ((is_unpublished v.state && is_empty v.live) ≡ true → (w : SequenceRow) → In w x.sequences → HasLive (fail_rows x.tasks after) w)
            → ((is_unpublished v.state && is_empty v.live) ≡ false → (w : SequenceRow) → In w y.sequences → HasLive (fail_rows y.tasks after) w)
            → (w : SequenceRow) → In w (cond b x y).sequences → HasLive (fail_rows (cond b x y).tasks after) w
        either true x y e f g = f e
        either false x y e f g = g e

  pub lives_ended : (clock : ℤ) (w : SequenceRow) → In w (ended t.group t.task clock us).sequences → HasLive (fail_rows (ended t.group t.task clock us).tasks after) w
  lives_ended clock w i = ended_live clock (sequence_named t.group left) refl w i

-- ---- several tasks fail in a book

pub rows_stay : (tasks : List (List ℕ)) (ts : List TaskRow) → AreTaskRows ts → AreTaskRows (fail_rows tasks ts)
rows_stay [] ts h = h
rows_stay (task ∷ rest) ts h = rows_stay rest (map (status_set task Statuses.Failed) ts) (task_rows_set task Statuses.Failed ts h)

pub sequences_stay : (tasks : List (List ℕ)) (c : Book) → (all_failed tasks c).sequences ≡ c.sequences
sequences_stay tasks c = all_failed_keeps (λ d. d.sequences ≡ c.sequences) (λ n task d e. e) (λ task d e. e) tasks c refl

pub lives_failed : (tasks : List (List ℕ)) (c : Book) → AreTaskRows c.tasks → ((u : SequenceRow) → In u c.sequences → HasLive (fail_rows tasks c.tasks) u) → HasLives (all_failed tasks c)
lives_failed tasks c rows live =
    subst (λ ts. AreLives ts (all_failed tasks c).sequences) (sym (rows_failed tasks c))
    (subst (λ us. AreLives (fail_rows tasks c.tasks) us) (sym (sequences_stay tasks c)) (record { tasks = rows_stay tasks c.tasks rows; live = live }))

-- ---- changes that leave the live replicas

pub lives_map : (f : SequenceRow → SequenceRow) → ((u : SequenceRow) → name_of (f u) ≡ name_of u) → ((u : SequenceRow) → (f u).live ≡ u.live) → ((u : SequenceRow) → is_unpublished (f u).state ≡ true → is_unpublished u.state ≡ true) → (ts : List TaskRow) (us : List SequenceRow) → AreLives ts us → AreLives ts (map f us)
lives_map f named same unpublished ts us h = record { tasks = h.tasks; live = λ w i. moved w (In-map f w us i) } where
  at_name : (u : SequenceRow) → live_ids u ts ≡ live_ids (f u) ts
  at_name u = ap (λ name. map (λ (t : TaskRow). t.task) (filter (λ t. bytes_eq t.group name && not (has_ended t.status)) ts)) (sym (named u))

  moved : (w : SequenceRow) → (u : SequenceRow) × In u us × (w ≡ f u) → HasLive ts w
  moved w from =
      let old = h.live from.0 from.1 in
      subst (λ (x : SequenceRow). HasLive ts x) (sym from.2) (record { live = same from.0 ∙ old.live ∙ at_name from.0; some = λ p. subst (λ ids. is_empty ids ≡ false) (sym (same from.0)) (old.some (unpublished from.0 p)) })
