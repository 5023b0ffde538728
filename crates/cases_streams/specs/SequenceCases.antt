-- Worked cases of names, of sequences in line, and of what a tick adds: what the laws suppose is met there, and what they say is so.
use Rattle.std.specs.Prelude.{◌++◌, ◌∷◌, ◌≡◌, List, [], bytes_eq, codes, false, filter, map, true, ℕ}
use Rattle.std.specs.List.{list_all}
use Rattle.book_rows.specs.Answer.{next}
use Rattle.book_rows.specs.Form.{AllKeepForm, KeepsForm}
use Rattle.book_rows.specs.Names.{replica_name, sequence_name}
use Rattle.book_rows.specs.SequenceRules.{is_live_replica}
use Rattle.book_rows.specs.Sequences.{name_of, partitions_of, positions}
use Rattle.book_rows.specs.Shape.{is_supervisor_row}
use Rattle.book_rows.specs.Sound.{Sound}
use Rattle.book_rows.specs.declared.commands.Command.{Command}
use Rattle.book_rows.specs.declared.kinds.SeqState.{SeqState}
use Rattle.book_rows.specs.declared.commands.Command.TheVariants as Commands
use Rattle.book_rows.specs.declared.kinds.LockKind.TheVariants as LockKinds
use Rattle.book_rows.specs.declared.kinds.SeqState.TheVariants as States
use Rattle.book_rows.specs.declared.kinds.TaskKind.TheVariants as TaskKinds
use Rattle.book_rows.specs.declared.kinds.TaskStatus.TheVariants as Statuses
use Rattle.laws_locks.specs.Commands.{ticked_tasks}
use Rattle.laws_locks.specs.LockShape.{AreTaskRows, HasSoundLocks}
use Rattle.laws_sequences.specs.Links.{HasLinks}
use Rattle.laws_sequences.specs.NameLaws.{IsKey}
use Rattle.cases_streams.specs.SequenceScenes.{AreSeenLinked, closed_row, first_closed, first_published, name, other_row, publication, publish, reading_row, replica, rows, second_opened, source, stream, tasks}
use Rattle.scenes.specs.Script.{after, day, next_day}
use Rattle.scenes.specs.Supervising.{first_group_at, minutes_later, supervisor}
use Rattle.laws_sequences.specs.TickLaws.{HasOwnIds}

-- ---- names

abbrev pub NamesAreTexts : Type 0
NamesAreTexts = IsKey source 0 12 × (sequence_name source 0 12 ≡ codes "sup:w:0:12") × (replica_name (sequence_name source 0 12) 1 ≡ codes "sup:w:0:12:1")

-- a row has the name of its own source, group and index, and others have others, also where the digits are the same
abbrev pub NamesTell : Type 0
NamesTell =
    IsKey closed_row.source closed_row.group closed_row.index
    × (name_of closed_row ≡ sequence_name source 0 0)
    × IsKey source 1 12
    × IsKey source 11 2
    × (bytes_eq (sequence_name source 1 12) (sequence_name source 11 2) ≡ false)
    × IsKey (codes "w1") 1 2
    × (bytes_eq (sequence_name (codes "w1") 1 2) (sequence_name source 11 2) ≡ false)

abbrev pub ReplicasTell : Type 0
ReplicasTell =
    IsKey source 0 1
    × IsKey source 0 12
    × (replica 0 12 1 ≡ codes "sup:w:0:12:1")
    × (bytes_eq (replica 0 1 21) (replica 0 12 1) ≡ false)
    × (bytes_eq (replica 0 12 11) (replica 0 12 1) ≡ false)

-- ---- sequences in line

-- commands that keep their form lead to the book, whose sequences are in line
abbrev pub SequencesAreInLine : Type 0
SequencesAreInLine =
    AllKeepForm second_opened
    × HasLinks (after second_opened)
    × ((after second_opened).supervisors ≡ supervisor ∷ [])
    × ((after second_opened).sequences ≡ rows)
    × ((after second_opened).tasks ≡ tasks)
    × AreSeenLinked (after second_opened).offsets rows (closed_row ∷ reading_row ∷ []) (other_row ∷ [])

-- one command more: the next sequence starts at the offsets that are stored then
abbrev pub LineGoesOn : Type 0
LineGoesOn =
    KeepsForm (publish 1 10 9)
    × HasLinks (after second_opened)
    × ((after first_published).publications ≡ publication ∷ [])
    × (positions (after first_published).offsets source stream (partitions_of supervisor 0) ≡ first_group_at 10 9)
    × AreSeenLinked (after first_published).offsets (after first_published).sequences (reading_row ∷ []) (other_row ∷ [])

-- the book is sound
abbrev pub SoundIsInLine : Type 0
SoundIsInLine =
    Sound (after second_opened)
    × (list_all is_supervisor_row (after second_opened).supervisors ≡ true)
    × AreSeenLinked (after second_opened).offsets (after second_opened).sequences (closed_row ∷ reading_row ∷ []) (other_row ∷ [])

-- ---- what a tick adds

-- what it needs holds in a book whose sequences are in line, and in a sound one: each task is a replica of a sequence
abbrev pub IdsAreOwn : Type 0
IdsAreOwn =
    HasLinks (after second_opened)
    × Sound (after second_opened)
    × (list_all is_supervisor_row (after second_opened).supervisors ≡ true)
    × (map (λ u. name_of u) (after second_opened).sequences ≡ name 0 0 ∷ name 1 0 ∷ name 0 1 ∷ [])
    × (map (λ t. t.group) (after second_opened).tasks ≡ name 0 0 ∷ name 0 0 ∷ name 1 0 ∷ name 1 0 ∷ name 0 1 ∷ name 0 1 ∷ [])

abbrev pub TickAddsNewIds : Type 0
TickAddsNewIds =
    AreTaskRows (after first_closed).tasks
    × HasOwnIds (after first_closed)
    × (map (λ t. t.task) (after first_closed).tasks ≡ replica 0 0 0 ∷ replica 0 0 1 ∷ replica 1 0 0 ∷ replica 1 0 1 ∷ [])
    × (map (λ t. t.task) (ticked_tasks (after first_closed) (minutes_later 1)) ≡ replica 0 1 0 ∷ replica 0 1 1 ∷ [])
    × AreTaskRows ((after first_closed).tasks ++ ticked_tasks (after first_closed) (minutes_later 1))

-- of a sound book: the first sequence is late, and the tasks of another are added
abbrev pub SoundTickAdds : Type 0
SoundTickAdds =
    Sound (after second_opened)
    × (map (λ t. t.task) (ticked_tasks (after second_opened) (minutes_later 30)) ≡ replica 0 2 0 ∷ replica 0 2 1 ∷ [])
    × AreTaskRows ((after second_opened).tasks ++ ticked_tasks (after second_opened) (minutes_later 30))

abbrev pub batch : List ℕ
batch = codes "a"

-- a task of another kind holds two locks
abbrev pub locked : List Command
locked =
    first_closed ++ Commands.Submit batch batch source TaskKinds.Batch 50 [] ∷ Commands.Manage (minutes_later 0)
    ∷ Commands.Lock batch LockKinds.Exclusive day (minutes_later 0) ∷ Commands.Lock batch LockKinds.Exclusive next_day (minutes_later 0) ∷ []

abbrev pub TickKeepsTwoLocks : Type 0
TickKeepsTwoLocks =
    KeepsForm (Commands.Tick (minutes_later 1))
    × HasOwnIds (after locked)
    × HasSoundLocks (after locked)
    × (map (λ t. t.task) (next (after locked) (Commands.Tick (minutes_later 1))).tasks ≡ replica 0 0 0 ∷ replica 0 0 1 ∷ replica 1 0 0 ∷ replica 1 0 1 ∷ batch ∷ replica 0 1 0 ∷ replica 0 1 1 ∷ [])
    × (map (λ q. q.span) (next (after locked) (Commands.Tick (minutes_later 1))).posses ≡ day ∷ next_day ∷ [])
    × HasSoundLocks (next (after locked) (Commands.Tick (minutes_later 1)))

-- ---- what changes the states of sequences: they stand in the order 0:0, 1:0, 0:1

abbrev pub HasStates : List Command → List SeqState → Type 0
HasStates more states = map (λ u. u.state) (after (second_opened ++ more)).sequences ≡ states

abbrev pub StatesChange : Type 0
StatesChange =
    HasStates [] (States.Closed ∷ States.Reading ∷ States.Reading ∷ [])
    × HasStates (publish 1 10 9 ∷ []) (States.Published ∷ States.Reading ∷ States.Reading ∷ [])
    × HasStates (Commands.Manage (minutes_later 1) ∷ Commands.Checkpoint (replica 0 1 0) (first_group_at 11 9) ∷ []) (States.Closed ∷ States.Reading ∷ States.Paused ∷ [])
    × HasStates (Commands.Manage (minutes_later 1) ∷ Commands.Checkpoint (replica 0 1 0) (first_group_at 11 9) ∷ Commands.End (replica 0 1 1) Statuses.Failed ∷ []) (States.Closed ∷ States.Reading ∷ States.Closed ∷ [])
    × HasStates (Commands.End (replica 0 0 0) Statuses.Failed ∷ Commands.End (replica 0 0 1) Statuses.Failed ∷ []) (States.Abandoned ∷ States.Reading ∷ States.Abandoned ∷ [])
    × HasStates (Commands.Reset source (codes "other") (first_group_at 5 5) ∷ []) (States.Closed ∷ States.Reading ∷ States.Reading ∷ [])
    × HasStates (Commands.Reset source stream (first_group_at 5 5) ∷ []) (States.Abandoned ∷ States.Abandoned ∷ States.Abandoned ∷ [])
    × HasStates (Commands.Tick (minutes_later 30) ∷ []) (States.Abandoned ∷ States.Reading ∷ States.Abandoned ∷ States.Reading ∷ [])
    × HasStates (Commands.Tick (minutes_later 60) ∷ []) (States.Abandoned ∷ States.Paused ∷ States.Abandoned ∷ States.Reading ∷ [])

-- ---- who is live

-- a replica that ends leaves its sequence, and only that
abbrev pub ReplicaLeaves : Type 0
ReplicaLeaves =
    (map (λ u. u.live) (after (second_opened ++ Commands.End (replica 1 0 0) Statuses.Failed ∷ [])).sequences
    ≡ (replica 0 0 0 ∷ replica 0 0 1 ∷ []) ∷ (replica 1 0 1 ∷ []) ∷ (replica 0 1 0 ∷ replica 0 1 1 ∷ []) ∷ [])
    × (map (λ t. t.task) (filter (is_live_replica closed_row) (after second_opened).tasks) ≡ closed_row.live)
    × (map (λ t. t.task) (filter (is_live_replica reading_row) (after second_opened).tasks) ≡ reading_row.live)
