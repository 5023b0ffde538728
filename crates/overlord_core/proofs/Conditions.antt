-- What the deciders ask of commands that keep their form.
use Rattle.std.proofs.Common.{List, Option, is_some, nat_lt, not, true, ℕ, ℤ, ◌&&◌, ◌||◌, ◌≡◌}
use Rattle.std.specs.List.{list_all}
use Rattle.std.proofs.lemmas.Bool.{and_parts}
use Rattle.iv_time.specs.Range.{is_instant}
use Rattle.iv_time.specs.declared.granularity.Granularity.{Granularity}
use Rattle.seg_names.specs.Names.{is_name, is_task_id}
use Rattle.seg_names.specs.declared.seg_id.SegId.{SegId}
use Rattle.book_rows.specs.Form.{KeepsForm, are_ids, are_offsets, are_ranges_of, is_few, is_offset, is_optional_id, may_allocate}
use Rattle.book_rows.specs.Lists.{is_empty, list_links}
use Rattle.book_rows.specs.declared.commands.Command.TheVariants as Commands
use Rattle.book_rows.specs.declared.kinds.LockKind.{LockKind}
use Rattle.book_rows.specs.declared.rows.Offset.{Offset}
use Rattle.book_rows.specs.declared.rows.Ranges.{Ranges}
use Rattle.stream_offsets.specs.Room.{ranges_ascend}
use Rattle.overlord_core.proofs.Plans.{ranges_rise}

-- the partitions of a reset ascend
pub partitions_ascend : (source stream : List ℕ) (os : List Offset) → KeepsForm (Commands.Reset source stream os) → list_links (λ a b. nat_lt a.partition b.partition) os ≡ true
partitions_ascend source stream os h =
    let all = and_parts (is_name source && is_name stream) (are_offsets os) h in
    (and_parts (is_few os && list_all is_offset os) (list_links (λ a b. nat_lt a.partition b.partition) os) all.1).1

-- the instants of a request for an id
pub asks_instants : (task : List ℕ) (kind : LockKind) (sequence : List ℕ) (previous : Option SegId) (at : ℤ) (granularity : Granularity) (now : ℤ) → KeepsForm (Commands.Allocate task kind sequence previous at granularity now)
    → (is_instant at ≡ true) × (is_instant now ≡ true)
asks_instants task kind sequence previous at granularity now h =
    let both = and_parts (is_task_id task && may_allocate kind && is_name sequence && is_optional_id previous && is_instant at) (is_instant now) h in
    ((and_parts (is_task_id task && may_allocate kind && is_name sequence && is_optional_id previous) (is_instant at) both.0).1, both.1)

-- the partitions of an append's ranges ascend
pub append_ranges_rise : (task : List ℕ) (ids : List SegId) (ranges : Option Ranges) → KeepsForm (Commands.Append task ids ranges) → ranges_ascend ranges ≡ true
append_ranges_rise task ids ranges h =
    let both = and_parts (is_task_id task && are_ids ids && are_ranges_of ranges) (not (is_empty ids) || is_some ranges) h in
    ranges_rise ranges (and_parts (is_task_id task && are_ids ids) (are_ranges_of ranges) both.0).1
