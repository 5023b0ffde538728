-- The form of a command: what holds of each that the readers make.
use Rattle.std.specs.Prelude.{◌&&◌, ◌==◌, ◌||◌, ◌≡◌, Bool, List, None, Option, Some, false, is_some, length, nat_le, nat_lt, not, true, ℕ}
use Rattle.std.specs.List.{list_all}
use Rattle.iv_span.specs.Extent.{Extent}
use Rattle.iv_time.specs.Durations.{is_duration}
use Rattle.iv_time.specs.Range.{is_instant}
use Rattle.seg_names.specs.Names.{is_between, is_name, is_name_byte, is_task_id}
use Rattle.seg_names.specs.declared.seg_id.SegId.{SegId}
use Rattle.book_rows.specs.Ids.{id_before}
use Rattle.book_rows.specs.Kinds.{has_ended}
use Rattle.book_rows.specs.Lists.{is_empty, list_links}
use Rattle.book_rows.specs.Names.{begins_with, compact_prefix, sup_prefix}
use Rattle.book_rows.specs.Outcome.{number_limit}
use Rattle.book_rows.specs.Spans.{is_span, span_at_most}
use Rattle.book_rows.specs.declared.commands.Command.{Command}
use Rattle.book_rows.specs.declared.commands.What.{What}
use Rattle.book_rows.specs.declared.kinds.LockKind.{LockKind}
use Rattle.book_rows.specs.declared.limits.TheConstants.{ITEM_LIMIT, OFFSET_LIMIT, PARTITION_LIMIT, PRIORITY_LIMIT, REPLICA_LIMIT, WANT_LIMIT}
use Rattle.book_rows.specs.declared.rows.Offset.{Offset}
use Rattle.book_rows.specs.declared.rows.Range.{Range}
use Rattle.book_rows.specs.declared.rows.Ranges.{Ranges}
use Rattle.book_rows.specs.declared.rows.Want.{Want}
use Rattle.book_rows.specs.declared.commands.Command.TheVariants as Commands
use Rattle.book_rows.specs.declared.kinds.LockKind.TheVariants as LockKinds
use Rattle.book_rows.specs.declared.commands.What.TheVariants as Whats

-- ---- texts

-- a name's byte or `:`
abbrev pub is_submit_byte : ℕ → Bool
is_submit_byte x = is_name_byte x || (x == 58)

-- 1 to 200 such bytes that don't begin as the ids that the program makes itself
abbrev pub is_submit_text : List ℕ → Bool
is_submit_text text =
    nat_le 1 (length text) && nat_le (length text) 200 && list_all is_submit_byte text && not (begins_with sup_prefix text) && not (begins_with compact_prefix text)

-- ---- numbers and lists

abbrev pub item_limit : ℕ
item_limit = ITEM_LIMIT

abbrev pub priority_limit : ℕ
priority_limit = PRIORITY_LIMIT

abbrev pub partition_limit : ℕ
partition_limit = PARTITION_LIMIT

abbrev pub offset_limit : ℕ
offset_limit = OFFSET_LIMIT

abbrev pub want_limit : ℕ
want_limit = WANT_LIMIT

abbrev pub replica_limit : ℕ
replica_limit = REPLICA_LIMIT

abbrev pub is_few : {X : Type 0} → List X → Bool
is_few xs = nat_le (length xs) item_limit

abbrev pub is_some_few : {X : Type 0} → List X → Bool
is_some_few xs = nat_le 1 (length xs) && is_few xs

-- ---- spans and ids

abbrev pub is_want : Want → Bool
is_want x = is_span x.span

-- its part is a number of 32 bits
abbrev pub is_id : SegId → Bool
is_id a = is_name a.source && is_span a.span && is_instant a.version && nat_le a.part 4294967295

abbrev pub is_optional_id : Option SegId → Bool
is_optional_id None = true
is_optional_id (Some a) = is_id a

-- distinct ids in id order
abbrev pub are_ids : List SegId → Bool
are_ids ids = is_few ids && list_all is_id ids && list_links id_before ids

-- spans by start and then end; they may repeat or overlap
abbrev pub are_spans : List Extent → Bool
are_spans spans = is_some_few spans && list_all is_span spans && list_links span_at_most spans

-- ---- partitions

abbrev pub is_offset : Offset → Bool
is_offset o = nat_le o.partition partition_limit && nat_le o.offset offset_limit

-- distinct partitions, ascending
abbrev pub are_offsets : List Offset → Bool
are_offsets os = is_few os && list_all is_offset os && list_links (λ a b. nat_lt a.partition b.partition) os

abbrev pub is_range : Range → Bool
is_range r = nat_le r.partition partition_limit && nat_le r.start offset_limit && nat_le r.end offset_limit

abbrev pub are_parts : List Range → Bool
are_parts rs = is_few rs && list_all is_range rs && list_links (λ a b. nat_lt a.partition b.partition) rs

abbrev pub are_ranges_of : Option Ranges → Bool
are_ranges_of None = true
are_ranges_of (Some ranges) = is_name ranges.stream && not (is_empty ranges.parts) && are_parts ranges.parts

-- ---- commands

-- a lock that may be asked for together with an id
abbrev pub may_allocate : LockKind → Bool
may_allocate LockKinds.Replace = false
may_allocate _ = true

abbrev pub is_shown : What → Bool
is_shown Whats.Tasks = true
is_shown Whats.Locks = true
is_shown (Whats.Timeline source) = is_name source
is_shown (Whats.Contents source) = is_name source
is_shown (Whats.Offsets source) = is_name source
is_shown (Whats.Sequences source) = is_name source

-- the lists of an insert or a replace
abbrev pub are_lists : List Extent → List SegId → List SegId → Option Ranges → Bool
are_lists spans ids tombs ranges =
    are_spans spans && are_ids ids && are_ids tombs && not (is_empty ids && is_empty tombs) && are_ranges_of ranges

-- numbers and lists are within their limits, instants are in range, lists are in order, ids and partitions are distinct
abbrev pub keeps_form : Command → Bool
keeps_form (Commands.Submit task group source kind priority locks) =
    is_submit_text task && is_submit_text group && is_name source && nat_le priority priority_limit && nat_le (length locks) want_limit && list_all is_want locks
keeps_form (Commands.Manage now) = is_instant now
keeps_form (Commands.Lock task lock_kind span now) = is_task_id task && is_span span && is_instant now
keeps_form (Commands.Unlock task lock) = is_task_id task && nat_lt lock number_limit
keeps_form (Commands.Allocate task lock_kind sequence previous at granularity now) =
    is_task_id task && may_allocate lock_kind && is_name sequence && is_optional_id previous && is_instant at && is_instant now
keeps_form (Commands.Append task ids ranges) = is_task_id task && are_ids ids && are_ranges_of ranges && (not (is_empty ids) || is_some ranges)
keeps_form (Commands.Insert task spans ids tombstones ranges) = is_task_id task && are_lists spans ids tombstones ranges
keeps_form (Commands.Replace task spans ids tombstones ranges) = is_task_id task && are_lists spans ids tombstones ranges
keeps_form (Commands.End task status) = is_task_id task && has_ended status
keeps_form (Commands.Drop source span) = is_name source && is_span span
keeps_form (Commands.Reset source stream offsets) = is_name source && is_name stream && are_offsets offsets
keeps_form (Commands.Supervise source stream partitions task_count replicas task_duration completion_timeout) =
    is_name source && is_name stream && is_between 1 item_limit partitions && is_between 1 item_limit task_count
    && is_between 1 replica_limit replicas && is_duration task_duration && is_duration completion_timeout
keeps_form (Commands.Tick now) = is_instant now
keeps_form (Commands.Paused task offsets) = is_task_id task && not (is_empty offsets) && are_offsets offsets
keeps_form (Commands.Checkpoint task offsets) = is_task_id task && not (is_empty offsets) && are_offsets offsets
keeps_form (Commands.ToReplace task span) = is_task_id task && is_span span
keeps_form (Commands.Show what) = is_shown what

abbrev pub KeepsForm : Command → Type 0
KeepsForm c = keeps_form c ≡ true

-- each command of the list keeps its form
abbrev pub AllKeepForm : List Command → Type 0
AllKeepForm cs = list_all keeps_form cs ≡ true
