-- Soundness of small books, rule by rule.
use Rattle.std.proofs.Common.{◌≡◌, ◌∙◌, ◌∷◌, Bool, List, [], ap, arith, false, inl, inr, refl, suc, sym, subst, true, true≢false, zero, ℕ}
use Rattle.std.specs.Fmt.{digits}
use Rattle.std.specs.Str.{is_utf8, chars}
use lib.Utf8.{encode}
use Rattle.std.specs.Prelude.{None, Option, Some}
use Rattle.book_rows.specs.Lists.{In, at_place}
use Rattle.book_rows.specs.Names.{begins_with, compact_prefix}
use Rattle.book_rows.specs.SequenceRules.{is_sup_task}
use Rattle.book_rows.specs.Shape.{HasMembers, HasShape, IsMemberTask}
use Rattle.book_rows.specs.declared.rows.Book.{Book}
use Rattle.book_rows.specs.declared.rows.PosseRow.{PosseRow}
use Rattle.book_rows.specs.declared.rows.TaskRow.{TaskRow}
use Rattle.scenes.specs.Script.{after, a, b, c, hour, now, now1, w}
use Rattle.cases_rules.specs.SoundBookCases.{SequencesGoOn, SoundAfterRevocation, three_locks}
use Rattle.book_rows.specs.declared.kinds.LockKind.TheVariants as LockKinds
use Rattle.book_rows.specs.declared.kinds.TaskKind.{TaskKind}
use Rattle.book_rows.specs.declared.kinds.TaskKind.TheVariants as TaskKinds
use Rattle.book_rows.specs.declared.kinds.TaskStatus.TheVariants as Statuses
use Rattle.book_rows.proofs.EmptySound.{dead}

never : false ≡ true → ⊥
never e = true≢false (sym e)

-- ---- the rows

abbrev task_row : List ℕ → TaskKind → ℕ → TaskRow
task_row task kind priority = record { task = task; group = task; source = w; kind = kind; priority = priority; status = Statuses.Running; wants = [] }

abbrev a_row : TaskRow
a_row = task_row a TaskKinds.Batch 50

abbrev b_row : TaskRow
b_row = task_row b TaskKinds.Batch 50

abbrev c_row : TaskRow
c_row = task_row c TaskKinds.Compaction 25

abbrev the_tasks : List TaskRow
the_tasks = a_row ∷ b_row ∷ c_row ∷ []

-- the lock that is revoked, or stands as if it weren't
abbrev first_lock : Bool → PosseRow
first_lock gone = record { number = 1; lock_kind = LockKinds.Exclusive; group = c; source = w; span = hour; version = now; priority = 25; members = c ∷ []; revoked = gone; since = 0 }

abbrev second_lock : PosseRow
second_lock = record { number = 2; lock_kind = LockKinds.Exclusive; group = a; source = w; span = hour; version = now1; priority = 50; members = a ∷ []; revoked = false; since = 0 }

-- ---- members

member_c : (gone : Bool) (task : List ℕ) → In task (c ∷ []) → IsMemberTask the_tasks (first_lock gone) task
member_c gone task (inl e) = record { row = c_row; among = inr (inr (inl refl)); task_is = sym e; runs = refl; group_is = refl; source_is = refl; priority_is = refl }
member_c gone task (inr i) = absurd i

member_a : (task : List ℕ) → In task (a ∷ []) → IsMemberTask the_tasks second_lock task
member_a task (inl e) = record { row = a_row; among = inl refl; task_is = sym e; runs = refl; group_is = refl; source_is = refl; priority_is = refl }
member_a task (inr i) = absurd i

have_members : (gone : Bool) (q : PosseRow) → In q (first_lock gone ∷ second_lock ∷ []) → HasMembers the_tasks q
have_members gone q (inl e) = subst (λ (x : PosseRow). HasMembers the_tasks x) (sym e) (record { some = refl; distinct = (tt, tt); tasks = member_c gone })
have_members gone q (inr (inl e)) = subst (λ (x : PosseRow). HasMembers the_tasks x) (sym e) (record { some = refl; distinct = (tt, tt); tasks = member_a })
have_members gone q (inr (inr i)) = absurd i

-- ---- no task is one that the program makes itself

no_replica : (t : TaskRow) → In t the_tasks → is_sup_task t ≡ true → ⊥
no_replica t (inl e) h = never (sym (ap is_sup_task e) ∙ h)
no_replica t (inr (inl e)) h = never (sym (ap is_sup_task e) ∙ h)
no_replica t (inr (inr (inl e))) h = never (sym (ap is_sup_task e) ∙ h)
no_replica t (inr (inr (inr i))) h = i

is_compaction : Option TaskRow → Bool
is_compaction None = false
is_compaction (Some t) = begins_with compact_prefix t.task

no_place : (k : ℕ) → is_compaction (at_place k the_tasks) ≡ false
unfolding is_compaction
no_place zero = refl
no_place (suc zero) = refl
no_place (suc (suc zero)) = refl
no_place (suc (suc (suc k))) = refl

no_compaction : (k : ℕ) (t : TaskRow) → at_place k the_tasks ≡ Some t → begins_with compact_prefix t.task ≡ true → ⊥
unfolding is_compaction
no_compaction k t e h = never (sym (no_place k) ∙ (ap is_compaction e ∙ h))

-- ---- the whole

-- the book with the first lock as it is, or as if it weren't revoked
abbrev with_first : Bool → Book
with_first gone = record (after three_locks) { posses = first_lock gone ∷ second_lock ∷ [] }

pub has_shape : (gone : Bool) → HasShape (with_first gone)
unfolding is_utf8 chars encode
has_shape gone = record {
  limits = record {
    room = refl;
    clock = refl;
    last = refl;
    tasks = refl;
    posses = refl;
    chunks = refl;
    segments = refl;
    pendings = refl;
    upgrades = refl;
    publications = refl;
    offsets = refl;
    supervisors = refl;
    sequences = refl;
    kinds = refl;
    states = refl;
  };
  keys = record {
    tasks = ((refl, (refl, tt)), ((refl, tt), (tt, tt)));
    numbers = ((refl, tt), (tt, tt));
    ascending = ((omega arith, tt), (tt, tt));
    below = (omega arith, (omega arith, tt));
    chunks = tt;
    ids = tt;
    upgrades = tt;
    offsets = tt;
    supervisors = tt;
    sequences = tt;
    requests = tt;
    once = tt;
  };
  versions = record { locks = refl; chunks = refl; kinds = refl; distinct = ((refl, tt), (tt, tt)) };
  members = have_members gone;
  chunks = record { segments = λ x i. absurd i; pendings = λ x i. absurd i; adds = λ x i. absurd i; empties = λ x i. absurd i };
  commits = record { commits = refl; locks = refl; spans = refl };
  roots = record { tombstones = λ r i. absurd i; others = λ r i. absurd i };
}

pub sound_after_revocation : SoundAfterRevocation
sound_after_revocation = record {
  shape = has_shape true;
  compatible_locks = ((λ e f. absurd (true≢false e), tt), (tt, tt));
  one_span = λ x y l. absurd (dead x l);
  below_locks = λ x q l. absurd (dead x l);
  rooted = λ p i. absurd i;
  upgrades = λ u i. absurd i;
  cores = record {
    live = λ c a i. absurd i;
    owned = λ c q i. absurd i;
    zero_version = λ c i. absurd i;
    shared = λ c q i. absurd i;
    replace = λ c q i. absurd i;
    within = λ c q i. absurd i;
  };
  copies = record {
    cores = λ a b d l. absurd (dead a l);
    contains = λ r b i. absurd i;
    copies = λ r b i. absurd i;
  };
  carried = λ q t root v kind has_it open_it. refl;
  shown_contents = λ source t root. refl;
  tiled = λ source stream partition. refl;
  sequences = record {
    sequences = λ u i. absurd i;
    groups = λ s i. absurd i;
    replicas = λ t i h. absurd (no_replica t i h);
    compactions = λ k t e h. absurd (no_compaction k t e h);
    publications = λ m i. absurd i;
  };
}

-- ---- sequences

pub sequences_go_on : SequencesGoOn
unfolding digits
sequences_go_on = (
  refl,
  refl,
  (refl, refl, refl),
  (record { starts = refl; ends = λ x. absurd (never x) }, (record { starts = refl; ends = λ x. refl }, (record { starts = refl; ends = λ x. absurd (never x) }, tt))),
)
