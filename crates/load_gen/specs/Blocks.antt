-- The commands of a block.
use Rattle.std.specs.Prelude.{◌%◌, ◌+◌, ◌==◌, ◌∷◌, List, None, [], codes, if◌then◌else◌, ℕ}
use Rattle.iv_span.specs.Extent.{Extent}
use Rattle.iv_time.specs.declared.granularity.Granularity.TheVariants as Granularities
use Rattle.seg_names.specs.declared.seg_id.SegId.{SegId}
use Rattle.book_rows.specs.declared.commands.Command.{Command}
use Rattle.book_rows.specs.declared.commands.Command.TheVariants as Commands
use Rattle.book_rows.specs.declared.kinds.LockKind.TheVariants as LockKinds
use Rattle.book_rows.specs.declared.kinds.TaskKind.{TaskKind}
use Rattle.book_rows.specs.declared.kinds.TaskKind.TheVariants as TaskKinds
use Rattle.book_rows.specs.declared.kinds.TaskStatus.TheVariants as Statuses
use Rattle.book_rows.specs.declared.rows.Want.{Want}
use Rattle.load_gen.specs.Draws.{name_of, now_of, span_of}
use Rattle.load_gen.specs.declared.generator.Hour.{Hour}

-- the id in an hour, of its version and its next part
abbrev pub id_of : Extent → Hour → SegId
id_of span hour = record { source = codes "load"; span = span; version = hour.version; part = hour.next }

abbrev pub starts : ℕ → TaskKind → ℕ → List Want → Command
starts block kind priority wants = Commands.Submit (name_of block) (name_of block) (codes "load") kind priority wants

abbrev pub allocating : ℕ → Extent → Command
allocating block span = Commands.Allocate (name_of block) LockKinds.Append (name_of block) None span.start Granularities.Hour (now_of block)

abbrev pub appends : ℕ → Extent → Hour → Command
appends block span hour = Commands.Append (name_of block) (id_of span hour ∷ []) None

abbrev pub asking : ℕ → Extent → Command
asking block span = Commands.ToReplace (name_of block) span

abbrev pub replaces : ℕ → Extent → Command
replaces block span = Commands.Replace (name_of block) (span ∷ []) (id_of span (record { version = now_of block; next = 0 }) ∷ []) [] None

abbrev pub ending : ℕ → Command
ending block = Commands.End (name_of block) Statuses.Success

-- a task appends an id that it allocates
abbrev pub appending : ℕ → Extent → Hour → List Command
appending block span hour = starts block TaskKinds.Realtime 75 [] ∷ Commands.Manage (now_of block) ∷ allocating block span ∷ appends block span hour ∷ ending block ∷ []

-- a task replaces the hour, under the lock that it waits for
abbrev pub replacing : ℕ → Extent → List Command
replacing block span =
    starts block TaskKinds.Batch 50 (record { lock_kind = LockKinds.Replace; span = span } ∷ [])
    ∷ Commands.Manage (now_of block) ∷ asking block span ∷ replaces block span ∷ ending block ∷ []

-- each fourth block replaces
abbrev pub commands_of : ℕ → ℕ → Hour → List Command
commands_of block number hour = if block % 4 == 3 then replacing block (span_of number) else appending block (span_of number) hour

-- what is known of the hour then
abbrev pub hour_after : ℕ → Hour → Hour
hour_after block hour = if block % 4 == 3 then record { version = now_of block; next = 1 } else record { version = hour.version; next = hour.next + 1 }
