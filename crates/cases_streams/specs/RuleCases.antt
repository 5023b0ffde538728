-- Worked cases of the whole rule on sequences, and of reports.
use Rattle.std.specs.Prelude.{◌++◌, ◌∷◌, ◌≡◌, List, [], codes, false, map, true}
use Rattle.std.specs.List.{list_any}
use Rattle.book_rows.specs.Answer.{empty_book, next}
use Rattle.book_rows.specs.Form.{AllKeepForm, KeepsForm}
use Rattle.book_rows.specs.Lists.{count}
use Rattle.book_rows.specs.Names.{begins_with, compact_name, compact_prefix}
use Rattle.book_rows.specs.SequenceRules.{AreSequencesSound, HasLive, IsTaskOf, IsToldOnce, has_ranges_of, is_of_sequence}
use Rattle.book_rows.specs.Sequences.{reaches}
use Rattle.book_rows.specs.Sound.{Sound}
use Rattle.book_rows.specs.declared.commands.Command.{Command}
use Rattle.book_rows.specs.declared.commands.Command.TheVariants as Commands
use Rattle.book_rows.specs.declared.kinds.TaskKind.TheVariants as TaskKinds
use Rattle.book_rows.specs.declared.kinds.TaskStatus.TheVariants as Statuses
use Rattle.book_rows.specs.declared.rows.Book.{Book}
use Rattle.book_rows.specs.declared.rows.TaskRow.{TaskRow}
use Rattle.laws_sequences.specs.Links.{HasLinks}
use Rattle.laws_sequences.specs.ReportLaws.{HasReports}
use Rattle.cases_streams.specs.SequenceScenes.{AreSeenLinked, closed_row, first_published, other_row, publication, publish, published_row, reading_row, replica, second_opened, source}
use Rattle.scenes.specs.Script.{after}
use Rattle.scenes.specs.Supervising.{first_group_at, minutes_later}
use Rattle.laws_sequences.specs.SoundLaws.{HasTables}

-- ---- the rule

-- what it says of the book in which the first sequence is published, as far as that is seen
abbrev pub RuleIsSeen : Book → Type 0
RuleIsSeen b =
    (b.sequences ≡ published_row ∷ other_row ∷ reading_row ∷ [])
    × AreSeenLinked b.offsets b.sequences (reading_row ∷ []) (other_row ∷ [])
    × IsToldOnce published_row
    × (count (is_of_sequence published_row) b.publications ≡ 1)
    × (has_ranges_of published_row publication.ranges ≡ true)
    × (count (is_of_sequence reading_row) b.publications ≡ 0)
    × HasLive b.tasks published_row
    × HasLive b.tasks other_row
    × HasLive b.tasks reading_row

-- a publish keeps the rule, in a sound book, with the tables that the rule reads
abbrev pub RuleIsKept : Type 0
RuleIsKept =
    KeepsForm (publish 1 10 9)
    × Sound (after second_opened)
    × HasTables (after second_opened)
    × AreSequencesSound (after second_opened)
    × AllKeepForm first_published
    × RuleIsSeen (after first_published)

-- ---- reports

-- the sound book has reports of the first sequence's replicas, which reach its starts
abbrev pub ReportsAreTold : Type 0
ReportsAreTold =
    Sound (after second_opened)
    × AllKeepForm second_opened
    × (map (λ u. u.reports) (after second_opened).sequences ≡ closed_row.reports ∷ [] ∷ [] ∷ [])
    × IsToldOnce closed_row
    × IsTaskOf (after second_opened).tasks closed_row (replica 0 0 0)
    × IsTaskOf (after second_opened).tasks closed_row (replica 0 0 1)
    × (list_any (λ t. begins_with compact_prefix t.task) (after second_opened).tasks ≡ false)

abbrev pub started : List Command
started = second_opened ++ Commands.Manage (minutes_later 1) ∷ []

abbrev pub reports : Command
reports = Commands.Checkpoint (replica 0 1 0) (first_group_at 11 9)

-- a replica of the second reports
abbrev pub ReportIsKept : Type 0
ReportIsKept =
    KeepsForm reports
    × HasLinks (after started)
    × HasReports (after started)
    × (map (λ u. u.reports) (after (started ++ reports ∷ [])).sequences ≡ closed_row.reports ∷ [] ∷ (record { task = replica 0 1 0; offsets = first_group_at 11 9 } ∷ []) ∷ [])
    × (reaches reading_row.starts (first_group_at 11 9) ≡ true)
    × IsTaskOf (after (started ++ reports ∷ [])).tasks reading_row (replica 0 1 0)

-- ---- compactions: no command makes one yet, so the book is written down

abbrev pub compaction : TaskRow
compaction = record { task = compact_name source 0; group = compact_name source 0; source = source; kind = TaskKinds.Compaction; priority = 25; status = Statuses.Running; wants = [] }

abbrev pub compacting : Book
compacting = record empty_book { tasks = compaction ∷ [] }

abbrev pub submits : Command
submits = Commands.Submit (codes "a") (codes "a") source TaskKinds.Batch 50 []

-- its task is named after its place, also when another is added
abbrev pub CompactionIsKept : Type 0
CompactionIsKept =
    KeepsForm submits
    × HasLinks compacting
    × HasReports compacting
    × (compact_name source 0 ≡ codes "compact:w:0")
    × (map (λ t. t.task) (next compacting submits).tasks ≡ codes "compact:w:0" ∷ codes "a" ∷ [])
