use Rattle.std.proofs.Common.{◌++◌}
use Rattle.std.proofs.lemmas.Result.{on_ok_weaker}
use Rattle.cmd_codec.specs.Fields.{short, signed}
use Rattle.cmd_codec.proofs.Limits.{four_puts}
use Rattle.cmd_codec.proofs.fields.put_supervision.Goals as goal

pub returns : goal.returns
returns c =
    on_ok_weaker c.put_durations.result
    (λ e. four_puts c.args.out.now.items (short c.args.partitions) (short c.args.task_count) (short c.args.replicas) (signed c.args.task_duration.now ++ signed c.args.completion_timeout.now)
    c.put_short.new.out.items c.put_short-2.new.out.items c.put_short-3.new.out.items c.put_durations.new.out.items
    c.in_ok-put_short.ensures c.in_ok-put_short-2.ensures c.in_ok-put_short-3.ensures e)
    c.put_durations.ensures
