-- The laws of all rules, joined.
use Rattle.std.proofs.Common.{◌≡◌, Bool, List, [], ◌∷◌, false, inl, inr, int_le, length, nat_le, refl, true, ◌&&◌}
use Rattle.std.specs.List.{list_all}
use Rattle.std.proofs.lemmas.Bool.{and_from, and_parts}
use Rattle.seg_names.specs.Names.{is_name, is_task_id}
use Rattle.book_rows.specs.Answer.{book_after, empty_book, next}
use Rattle.book_rows.specs.Form.{KeepsForm, is_want, keeps_form, priority_limit}
use Rattle.book_rows.specs.Lists.{In}
use Rattle.book_rows.specs.Shape.{HasShape, is_task_row}
use Rattle.book_rows.specs.Sound.{Sound}
use Rattle.book_rows.specs.declared.commands.Command.{Command}
use Rattle.book_rows.specs.declared.rows.Book.{Book}
use Rattle.book_rows.specs.declared.rows.ChunkRow.{ChunkRow}
use Rattle.book_rows.specs.declared.rows.TaskRow.{TaskRow}
use Rattle.book_rows.proofs.EmptySound.{empty_is_sound}
use Rattle.laws_locks.specs.LockShape.{HasSoundLocks}
use Rattle.laws_chunks.specs.ChunksSound.{AreChunksSound}
use Rattle.laws_chunks.proofs.EveryCommand.{every_command_keeps}
use Rattle.laws_chunks.proofs.SoundChunks.{sound_has_sound_chunks}
use Rattle.laws_offsets.specs.OffsetShape.{HasOffsetShape, HaveNamedSources}
use Rattle.laws_locks.proofs.Lists.{pass_weaker}
use Rattle.laws_offsets.proofs.Reaching.{tiles_stay}
use Rattle.laws_offsets.proofs.ShapeKept.{offset_shape_stays, shape_has_offset_shape}
use Rattle.laws_sequences.proofs.SequencesKept.{sound_keeps_sequences}
use Rattle.laws_limits.specs.Limits.{AreLimited}
use Rattle.laws_limits.proofs.Limits.{limits_stay}
use Rattle.laws_keys.specs.KeyLaws.{AreKeyed}
use Rattle.laws_keys.proofs.Joined.{keys_stay}
use Rattle.laws_sound.specs.Soundness.{EveryCommandKeepsSound, ReachedBooksAreSound}
use Rattle.laws_sound.proofs.LockRows.{locks_of, locks_stay}

-- a test that holds of each row holds of all
all_hold : {X : Type 0} (p : X → Bool) (xs : List X) → ((x : X) → In x xs → p x ≡ true) → list_all p xs ≡ true
all_hold p [] h = refl
all_hold p (x ∷ xs) h = and_from (p x) (list_all p xs) (h x (inl refl)) (all_hold p xs (λ y i. h y (inr i)))

third : (u v w x y z : Bool) → (u && v && w && x && y && z) ≡ true → w ≡ true
third u v true x y z h = refl
third true true false x y z h = absurd (cc)
third true false false x y z h = absurd (cc)
third false v false x y z h = absurd (cc)

-- the sources of tasks that are within their limits are names
named_sources : (ts : List TaskRow) → list_all is_task_row ts ≡ true → HaveNamedSources ts
named_sources ts h = pass_weaker is_task_row (λ t. is_name t.source) (λ t e. third (is_task_id t.task) (is_task_id t.group) (is_name t.source) (nat_le t.priority priority_limit) (nat_le (length t.wants) 64) (list_all is_want t.wants) e) ts h

module _ (b : Book) (c : Command) (form : KeepsForm c) (s : Sound b) where
  locks : HasSoundLocks (next b c)
  locks = locks_stay b c form s

  chunks : AreChunksSound (next b c)
  chunks = every_command_keeps c b form (locks_of b s).0 (sound_has_sound_chunks b s)

  limits : AreLimited (next b c)
  limits = limits_stay b c form s

  keyed : AreKeyed (next b c)
  keyed = keys_stay b c form s

  offsets : HasOffsetShape (next b c)
  offsets = offset_shape_stays b c form (named_sources b.tasks s.shape.limits.tasks) (shape_has_offset_shape b s.shape)

  shape : HasShape (next b c)
  shape = record {
    limits = record {
      room = limits.room;
      clock = locks.0.instants.clock;
      last = locks.0.instants.last;
      tasks = locks.0.tasks.rows;
      posses = locks.0.locks.rows;
      chunks = limits.chunks;
      segments = limits.segments;
      pendings = limits.pendings;
      upgrades = limits.upgrades;
      publications = limits.publications;
      offsets = offsets.rows.limits;
      supervisors = limits.supervisors;
      sequences = limits.sequences;
      kinds = limits.kinds;
      states = limits.states;
    };
    keys = record {
      tasks = locks.0.tasks.keys;
      numbers = locks.0.locks.numbers;
      ascending = locks.0.locks.ascending;
      below = locks.0.locks.below;
      chunks = chunks.shape.rows;
      ids = keyed.ids;
      upgrades = keyed.upgrades;
      offsets = offsets.rows.order;
      supervisors = keyed.supervisors;
      sequences = keyed.sequences;
      requests = keyed.requests;
      once = chunks.shape.once;
    };
    versions = record {
      locks = locks.0.locks.versions;
      chunks = all_hold (λ (d : ChunkRow). int_le d.version (next b c).last) (next b c).chunks chunks.shape.chunk_upto;
      kinds = locks.0.locks.kinds;
      distinct = locks.0.locks.distinct;
    };
    members = locks.0.members;
    chunks = keyed.chunks;
    commits = keyed.commits;
    roots = keyed.roots;
  }

  pub next_is_sound : Sound (next b c)
  next_is_sound = record {
    shape = shape;
    compatible_locks = locks.1;
    one_span = chunks.one_span;
    below_locks = chunks.below_locks;
    rooted = chunks.rooted;
    upgrades = chunks.upgrades;
    cores = chunks.cores;
    copies = chunks.copies;
    carried = chunks.carried;
    shown_contents = chunks.shown_contents;
    tiled = tiles_stay b c form s.tiled;
    sequences = sound_keeps_sequences b c form s;
  }

pub every_command_keeps_sound : EveryCommandKeepsSound
every_command_keeps_sound c b form s = next_is_sound b c form s

-- ---- lists of commands

pub sound_after : (cs : List Command) (b : Book) → list_all keeps_form cs ≡ true → Sound b → Sound (book_after b cs)
sound_after [] b forms s = s
sound_after (c ∷ cs) b forms s =
    let both = and_parts (keeps_form c) (list_all keeps_form cs) forms in
    sound_after cs (next b c) both.1 (next_is_sound b c both.0 s)

pub reached_books_are_sound : ReachedBooksAreSound
reached_books_are_sound cs forms = sound_after cs empty_book forms empty_is_sound
