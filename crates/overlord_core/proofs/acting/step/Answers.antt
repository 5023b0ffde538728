use Rattle.std.proofs.Common.{rules, subst, sym, ℤ}
use Rattle.std.proofs.lemmas.Int.{to_z-of_z}
use mir.Val.{SFits}
use mir.Syntax.{w64}
use Rattle.book_rows.specs.Answer.{next}
use Rattle.book_rows.specs.Form.{KeepsForm}
use Rattle.book_rows.specs.Outcome.{task_of}
use Rattle.book_rows.specs.Over.{Inserting, Replacing}
use Rattle.book_rows.specs.Sound.{Sound}
use Rattle.book_rows.specs.declared.commands.Command.{Command}
use Rattle.book_rows.specs.declared.commands.Command.TheVariants as Commands
use Rattle.laws_sound.proofs.Joined.{next_is_sound}
use Rattle.laws_sound.proofs.LockRows.{locks_of}
use Rattle.overlord_core.proofs.Conditions.{append_ranges_rise, asks_instants, partitions_ascend}
use Rattle.overlord_core.proofs.Plans.{sound_as_lent}
use Rattle.overlord_core.proofs.acting.step.Goals as goal

pub manage-requires-clause-sound : goal.manage-requires-clause-sound
manage-requires-clause-sound c = locks_of c.args.core.now c.requires.sound

pub lock-requires-clause-sound : goal.lock-requires-clause-sound
lock-requires-clause-sound c = locks_of c.args.core.now c.requires.sound

pub allocate-requires-clause-at : goal.allocate-requires-clause-at
allocate-requires-clause-at c =
    let form : KeepsForm (Commands.Allocate c.in-Allocate.task c.in-Allocate.lock_kind c.in-Allocate.sequence c.in-Allocate.previous c.in-Allocate.at c.in-Allocate.granularity c.in-Allocate.now) = subst KeepsForm c.in-Allocate.is c.requires.form in
    let fits : SFits w64 c.in-Allocate.at = search rules in
    simp to_z-of_z (asks_instants c.in-Allocate.task c.in-Allocate.lock_kind c.in-Allocate.sequence c.in-Allocate.previous c.in-Allocate.at c.in-Allocate.granularity c.in-Allocate.now form).0

pub allocate-requires-clause-instant : goal.allocate-requires-clause-instant
allocate-requires-clause-instant c =
    let form : KeepsForm (Commands.Allocate c.in-Allocate.task c.in-Allocate.lock_kind c.in-Allocate.sequence c.in-Allocate.previous c.in-Allocate.at c.in-Allocate.granularity c.in-Allocate.now) = subst KeepsForm c.in-Allocate.is c.requires.form in
    let fits : SFits w64 c.in-Allocate.now = search rules in
    simp to_z-of_z (asks_instants c.in-Allocate.task c.in-Allocate.lock_kind c.in-Allocate.sequence c.in-Allocate.previous c.in-Allocate.at c.in-Allocate.granularity c.in-Allocate.now form).1

pub reset-requires : goal.reset-requires
reset-requires c =
    let form : KeepsForm (Commands.Reset c.in-Reset.source c.in-Reset.stream c.in-Reset.offsets) = subst KeepsForm c.in-Reset.is c.requires.form in
    rw c.as_slice-in-Reset.ensures (partitions_ascend c.in-Reset.source c.in-Reset.stream c.in-Reset.offsets form)

pub append-requires-clause-after : goal.append-requires-clause-after
append-requires-clause-after c =
    let after : Sound (next c.args.core.now (Commands.Append c.in-Append.task c.in-Append.ids c.in-Append.ranges)) = subst (λ (x : Command). Sound (next c.args.core.now x)) c.in-Append.is (next_is_sound c.args.core.now c.args.command.now c.requires.form c.requires.sound) in
    rw c.as_slice.ensures after

pub append-requires-clause-ascend : goal.append-requires-clause-ascend
append-requires-clause-ascend c =
    let form : KeepsForm (Commands.Append c.in-Append.task c.in-Append.ids c.in-Append.ranges) = subst KeepsForm c.in-Append.is c.requires.form in
    append_ranges_rise c.in-Append.task c.in-Append.ids c.in-Append.ranges form

pub fill-requires-clause-after : goal.fill-requires-clause-after
fill-requires-clause-after c =
    let after : Sound (next c.args.core.now (Commands.Insert c.in-Insert.task c.in-Insert.spans c.in-Insert.ids c.in-Insert.tombstones c.in-Insert.ranges)) = subst (λ (x : Command). Sound (next c.args.core.now x)) c.in-Insert.is (next_is_sound c.args.core.now c.args.command.now c.requires.form c.requires.sound) in
    sound_as_lent Inserting (task_of c.in-Insert.task c.args.core.now.tasks) c.args.core.now c.in-Insert.ranges c.as_slice-in-Insert.ensures c.as_slice-in-Insert-2.ensures c.as_slice-in-Insert-3.ensures after

pub fill-requires-in-Replace-clause-after : goal.fill-requires-in-Replace-clause-after
fill-requires-in-Replace-clause-after c =
    let after : Sound (next c.args.core.now (Commands.Replace c.in-Replace.task c.in-Replace.spans c.in-Replace.ids c.in-Replace.tombstones c.in-Replace.ranges)) = subst (λ (x : Command). Sound (next c.args.core.now x)) c.in-Replace.is (next_is_sound c.args.core.now c.args.command.now c.requires.form c.requires.sound) in
    sound_as_lent Replacing (task_of c.in-Replace.task c.args.core.now.tasks) c.args.core.now c.in-Replace.ranges c.as_slice-in-Replace.ensures c.as_slice-in-Replace-2.ensures c.as_slice-in-Replace-3.ensures after

pub tick-requires-clause-after : goal.tick-requires-clause-after
tick-requires-clause-after c =
    let fits : SFits w64 c.in-Tick.now = search rules in
    let after : Sound (next c.args.core.now (Commands.Tick c.in-Tick.now)) = subst (λ (x : Command). Sound (next c.args.core.now x)) c.in-Tick.is (next_is_sound c.args.core.now c.args.command.now c.requires.form c.requires.sound) in
    subst (λ (now : ℤ). Sound (next c.args.core.now (Commands.Tick now))) (sym (to_z-of_z w64 c.in-Tick.now fits)) after
