-- What a tick adds, in a book whose ids are its own.
use Rattle.std.proofs.Common.{◌≡◌, false, List, [], ◌∷◌, ◌++◌, None, refl, inl, inr}
use Rattle.book_rows.specs.Grant.{moment}
use Rattle.book_rows.specs.Lists.{In, Pairs}
use Rattle.book_rows.specs.Outcome.{all_tables, is_full, no_room}
use Rattle.book_rows.specs.Shape.{same_task}
use Rattle.book_rows.specs.declared.kinds.Table.{Table}
use Rattle.book_rows.specs.declared.kinds.Table.TheVariants as Tables
use Rattle.book_rows.specs.declared.rows.Book.{Book}
use Rattle.laws_locks.specs.Commands.{ticked_tasks}
use Rattle.laws_locks.proofs.Lists.{In-all}
use Rattle.laws_locks.proofs.Rooms.{has_room}
use Rattle.laws_locks.proofs.Ticking.{tick_keeps_locks}
use Rattle.laws_sequences.specs.TickLaws.{SoundHasOwnIds, SoundTickAddsRows, TickKeepsSoundLocks, TickedIdsAreNew, TickedTasksAreRows}
use Rattle.laws_sequences.proofs.Replicas.{In-right}
use Rattle.laws_sequences.proofs.RuleParts.{all_counted}
use Rattle.laws_sequences.proofs.TickWalk.{walk_ticked}

pub ticked_tasks_are_rows : TickedTasksAreRows
ticked_tasks_are_rows b now tasks h = (walk_ticked b.offsets (moment b now) b.tasks b.publications b.sequences b.supervisors h.supervisors h.supervised.room h.replicas h.counted h.supervised.each).tasks tasks

-- ---- new ids

later_pairs : {X : Type 0} (R : X → X → Type 0) (xs ys : List X) → Pairs R (xs ++ ys) → Pairs R ys
later_pairs R [] ys h = h
later_pairs R (x ∷ xs) ys h = later_pairs R xs ys h.1

across : {X : Type 0} (R : X → X → Type 0) (x y : X) (xs ys : List X) → Pairs R (xs ++ ys) → In x xs → In y ys → R x y
across R x y [] ys h i j = absurd i
across R x y (z ∷ xs) ys h (inl same) j = rw same (In-all (R z) y (xs ++ ys) (In-right y xs ys j) h.0)
across R x y (z ∷ xs) ys h (inr i) j = across R x y xs ys h.1 i j

pub ticked_ids_are_new : TickedIdsAreNew
ticked_ids_are_new b now tasks h =
    let rows = ticked_tasks_are_rows b now tasks h in
    record {
      distinct = later_pairs (λ t u. same_task t u ≡ false) b.tasks (ticked_tasks b now) rows.keys;
      apart = λ t new i j. across (λ t u. same_task t u ≡ false) t new b.tasks (ticked_tasks b now) rows.keys i j;
    }

pub tick_keeps_sound_locks : TickKeepsSoundLocks
tick_keeps_sound_locks now b form own h = tick_keeps_locks now b form (ticked_tasks_are_rows b now h.0.tasks own) h

-- ---- a sound book

-- where all tables have room, each has
module _ (b : Book) where
  rest_fits : (t : Table) (ts : List Table) → no_room (t ∷ ts) b ≡ None → (is_full t b ≡ false) × (no_room ts b ≡ None)
  rest_fits t ts e = has_room (is_full t b) t (no_room ts b) e

  each_fits : (ts : List Table) (t : Table) → In t ts → no_room ts b ≡ None → is_full t b ≡ false
  each_fits [] t i e = absurd i
  each_fits (x ∷ xs) t (inl same) e = rw same (rest_fits x xs e).0
  each_fits (x ∷ xs) t (inr i) e = each_fits xs t i (rest_fits x xs e).1

pub sound_has_own_ids : SoundHasOwnIds
sound_has_own_ids b sound = record {
  supervisors = record {
    rows = sound.shape.limits.supervisors;
    sources = sound.shape.keys.supervisors;
    room = each_fits b all_tables Tables.Supervisors (inr (inr (inr (inr (inr (inr (inr (inr (inr (inr (inl refl))))))))))) sound.shape.limits.room;
  };
  supervised = record {
    room = each_fits b all_tables Tables.Sequences (inr (inr (inr (inr (inr (inr (inr (inr (inr (inr (inr (inl refl)))))))))))) sound.shape.limits.room;
    each = λ u i. (sound.sequences.sequences u i).supervised;
  };
  counted = all_counted b sound.sequences;
  replicas = sound.sequences.replicas;
}

pub sound_tick_adds_rows : SoundTickAddsRows
sound_tick_adds_rows b now sound = ticked_tasks_are_rows b now (record { rows = sound.shape.limits.tasks; keys = sound.shape.keys.tasks }) (sound_has_own_ids b sound)
