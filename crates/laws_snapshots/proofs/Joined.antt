-- A sound book has bytes, and commands keep that.
use Rattle.std.proofs.Common.{◌≡◌, ◌<◌, ◌≤◌, ℕ, true, false, List, [], ◌∷◌, arith, length, map, nat_le, nat_lt, refl, subst}
use Rattle.std.specs.List.{AllByRecursion, list_all}
use Rattle.std.proofs.lemmas.List.{length-map}
use Rattle.std.proofs.lemmas.Bool.{and_from, and_parts}
use Rattle.std.proofs.lemmas.Bool.Decides.{nat_tests}
use Rattle.iv_time.specs.Range.{is_instant}
use Rattle.book_rows.specs.Answer.{book_after, empty_book, next}
use Rattle.book_rows.specs.Form.{keeps_form}
use Rattle.book_rows.specs.Lists.{In}
use Rattle.book_rows.specs.Outcome.{part_limit, row_limit}
use Rattle.book_rows.specs.Shape.{HasMembers, is_chunk_row, is_offset_row, is_pending_row, is_posse_row, is_publication_row, is_segment_row, is_sequence_row, is_supervisor_row, is_task_row, is_upgrade_row}
use Rattle.book_rows.specs.Sound.{Sound}
use Rattle.book_rows.specs.declared.commands.Command.{Command}
use Rattle.book_rows.specs.declared.kinds.Table.TheVariants as Tables
use Rattle.book_rows.specs.declared.rows.Book.{Book}
use Rattle.book_rows.specs.declared.rows.ChunkRow.{ChunkRow}
use Rattle.book_rows.specs.declared.rows.PosseRow.{PosseRow}
use Rattle.book_rows.specs.declared.rows.Publication.{Publication}
use Rattle.book_rows.specs.declared.rows.SegmentRow.{SegmentRow}
use Rattle.book_rows.specs.declared.rows.SpanSince.{SpanSince}
use Rattle.book_rows.specs.declared.rows.TaskRow.{TaskRow}
use Rattle.laws_locks.proofs.Lists.{In-all, In-list_all, all_from_In, map_In, none_In}
use Rattle.laws_limits.proofs.Rooms.{each_in_room}
use Rattle.laws_sound.proofs.Joined.{every_command_keeps_sound, reached_books_are_sound}
use Rattle.snap_codec.specs.Fits.{FitsChunk, FitsLong, FitsNumbers, FitsOffsetRow, FitsPosse, FitsSequence, FitsShort, FitsSupervisor, FitsTask, IsSpelled}
use Rattle.snap_codec.proofs.BookBytes.{book_again, limited_marked, spelled}
use Rattle.laws_snapshots.specs.Bytes.{EveryCommandKeepsBytes, HaveShortCores, ReachedBooksHaveBytes, ReachedBooksReadAgain, SoundBooksHaveBytes}
use Rattle.laws_snapshots.proofs.Numbers.{each_fits, instant_fits, short_upto, short_within, within}
use Rattle.laws_snapshots.proofs.Counting.{texts_no_longer}
use Rattle.laws_snapshots.proofs.Rows.{chunk_fits, offset_row_fits, pending_fits, posse_fits, publication_fits, segment_fits, supervisor_fits, task_fits, upgrade_fits}
use Rattle.laws_snapshots.proofs.Sequences.{sequence_fits}
use Rattle.laws_snapshots.proofs.Cores.{AreShort, cores_stay_short, has_short_core}

-- ---- a sound book

abbrev texts : List TaskRow → List (List ℕ)
texts ts = map (λ t. t.task) ts

module _ (b : Book) (s : Sound b) where
  few : (xs : ℕ) → nat_lt row_limit xs ≡ false → FitsShort xs
  few n h = short_within 262144 n (omega arith) h

  -- no more publications than a table has rows
  few_published : length b.publications ≤ 262144
  few_published = within 262144 (length b.publications) (each_in_room b s.shape.limits.room Tables.Publications)

  -- the number of a lock is below that of the next one
  next_low : b.next_lock ≤ 9007199254740992
  next_low = within 9007199254740992 b.next_lock (each_in_room b s.shape.limits.room Tables.Numbers)

  number_fits : (q : PosseRow) → In q b.posses → FitsLong q.number
  number_fits q i = let below = In-all (λ (p : PosseRow). p.number < b.next_lock) q b.posses i s.shape.keys.below in omega (arith, below, next_low)

  -- its members are distinct tasks
  members_short : (q : PosseRow) → In q b.posses → FitsShort (length q.members)
  members_short q i =
      let m : HasMembers b.tasks q = s.shape.members q i in
      let fewer = texts_no_longer q.members (texts b.tasks) m.distinct (λ text j. (let t = m.tasks text j in subst (λ (x : List ℕ). In x (texts b.tasks)) t.task_is (map_In (λ (t : TaskRow). t.task) t.row b.tasks t.among))) in
      let rows = within 262144 (length b.tasks) (each_in_room b s.shape.limits.room Tables.Tasks) in
      omega (arith, fewer, length-map b.tasks (λ (t : TaskRow). t.task), rows)

  -- a number of commits is at most that of the publications
  commits_fit : (n : ℕ) → nat_le n (length b.publications) ≡ true → FitsLong n
  commits_fit n h = let le : n ≤ length b.publications = grind (arith, nat_tests) in omega (arith, le, few_published)

  commit_fits : (n : ℕ) → nat_lt n (length b.publications) ≡ true → FitsLong n
  commit_fits n h = let less : n < length b.publications = grind (arith, nat_tests) in omega (arith, less, few_published)

  posses : AllByRecursion FitsPosse b.posses
  posses = all_from_In FitsPosse b.posses (λ q i. posse_fits q (In-list_all is_posse_row q b.posses i s.shape.limits.posses) (number_fits q i) (members_short q i)
      (commits_fit q.since (In-list_all (λ (p : PosseRow). nat_le p.since (length b.publications)) q b.posses i s.shape.commits.locks)))

  chunks : HaveShortCores b.chunks → AllByRecursion FitsChunk b.chunks
  chunks cores = all_from_In FitsChunk b.chunks (λ c i. chunk_fits c (In-list_all is_chunk_row c b.chunks i s.shape.limits.chunks) (In-all (λ (d : ChunkRow). FitsShort d.core) c b.chunks i cores)
      (short_within 1000000 c.next (omega arith) (none_In (λ (d : ChunkRow). nat_lt part_limit d.next) c b.chunks i (each_in_room b s.shape.limits.room Tables.Parts))))

  pub sound_has_bytes : HaveShortCores b.chunks → IsSpelled b
  sound_has_bytes cores =
      let limits = s.shape.limits in
      let room = each_in_room b limits.room in
      let numbers : FitsNumbers b = (instant_fits b.clock limits.clock, (instant_fits b.last (and_parts (is_instant b.last) _ limits.last).0, lock_fits)) in
      let segments = all_from_In _ b.segments (λ r i. segment_fits r (In-list_all is_segment_row r b.segments i limits.segments) (commit_fits r.commit (In-list_all (λ (x : SegmentRow). nat_lt x.commit (length b.publications)) r b.segments i s.shape.commits.commits))) in
      let pendings = all_from_In _ b.pendings (λ p i. pending_fits p (In-list_all is_pending_row p b.pendings i limits.pendings) (let own = (s.rooted p i).has_posse in subst FitsLong own.number_is (number_fits own.posse own.is_valid.among))) in
      let upgrades = all_from_In _ b.upgrades (λ u i. upgrade_fits u (In-list_all is_upgrade_row u b.upgrades i limits.upgrades) (let own = s.upgrades u i in subst FitsLong own.number_is (number_fits own.posse own.is_valid.among))) in
      let publications = all_from_In _ b.publications (λ m i. publication_fits m (In-list_all is_publication_row m b.publications i limits.publications)
      (each_fits (λ (z : SpanSince). nat_le z.since (length b.publications)) (λ z. FitsLong z.since) (λ z e. commits_fit z.since e) m.spans (In-list_all (λ (n : Publication). list_all (λ (z : SpanSince). nat_le z.since (length b.publications)) n.spans) m b.publications i s.shape.commits.spans))) in
      let sequences = all_from_In FitsSequence b.sequences (λ u i. sequence_fits b (room Tables.Tasks) (room Tables.Sequences) limits.supervisors s.sequences u i (In-list_all is_sequence_row u b.sequences i limits.sequences)) in
      spelled b (
        numbers,
        (
          (
            (few (length b.tasks) (room Tables.Tasks), each_fits is_task_row FitsTask task_fits b.tasks limits.tasks),
            (
              (few (length b.posses) (room Tables.Locks), posses),
              (
                (few (length b.chunks) (room Tables.Chunks), chunks cores),
                (
                  (few (length b.segments) (room Tables.Segments), segments),
                  ((few (length b.pendings) (room Tables.Pendings), pendings), (few (length b.upgrades) (room Tables.Upgrades), upgrades)),
                ),
              ),
            ),
          ),
          (
            (few (length b.publications) (room Tables.Publications), publications),
            (
              (few (length b.offsets) (room Tables.Offsets), each_fits is_offset_row FitsOffsetRow offset_row_fits b.offsets limits.offsets),
              (
                (few (length b.supervisors) (room Tables.Supervisors), each_fits is_supervisor_row FitsSupervisor supervisor_fits b.supervisors limits.supervisors),
                (few (length b.sequences) (room Tables.Sequences), sequences),
              ),
            ),
          ),
        ),
      )
      (limited_marked b limits)
    where
      lock_fits : FitsLong b.next_lock
      lock_fits = omega (arith, next_low)

pub sound_books_have_bytes : SoundBooksHaveBytes
sound_books_have_bytes b s cores = sound_has_bytes b s cores

-- ---- commands

-- cores of a book that has bytes, and as a test of each
cores_of : (b : Book) → IsSpelled b → AreShort b
cores_of b h = all (b.chunks) h.1.0.1.1.0.1 where
  one : (n : ℕ) → FitsShort n → nat_le n 4294967295 ≡ true
  one n h = grind (arith, nat_tests)

  all : (cs : List ChunkRow) → AllByRecursion FitsChunk cs → list_all has_short_core cs ≡ true
  all [] k = refl
  all (c ∷ cs) k = and_from (has_short_core c) (list_all has_short_core cs) (one c.core k.0.1.1.1.0) (all cs k.1)

have_short : (b : Book) → AreShort b → HaveShortCores b.chunks
have_short b h = each_fits has_short_core (λ (c : ChunkRow). FitsShort c.core) (λ c e. short_upto 4294967295 c.core (omega arith) e) b.chunks h

pub every_command_keeps_bytes : EveryCommandKeepsBytes
every_command_keeps_bytes b c form s h = sound_has_bytes (next b c) (every_command_keeps_sound c b form s) (have_short (next b c) (cores_stay_short b c form (cores_of b h)))

-- ---- lists of commands

cores_after : (cs : List Command) (b : Book) → list_all keeps_form cs ≡ true → AreShort b → AreShort (book_after b cs)
cores_after [] b forms h = h
cores_after (c ∷ cs) b forms h =
    let both = and_parts (keeps_form c) (list_all keeps_form cs) forms in
    cores_after cs (next b c) both.1 (cores_stay_short b c both.0 h)

pub reached_books_have_bytes : ReachedBooksHaveBytes
reached_books_have_bytes cs forms = sound_has_bytes (book_after empty_book cs) (reached_books_are_sound cs forms) (have_short (book_after empty_book cs) (cores_after cs empty_book forms refl))

pub reached_books_read_again : ReachedBooksReadAgain
reached_books_read_again cs forms = book_again (book_after empty_book cs) (reached_books_have_bytes cs forms)
