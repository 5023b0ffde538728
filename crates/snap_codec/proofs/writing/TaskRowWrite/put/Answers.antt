use Rattle.std.proofs.Common.{[], ◌∷◌}
use Rattle.std.proofs.lemmas.Result.{on_ok_weaker}
use Rattle.wire_fields.specs.Fields.{text_field}
use Rattle.cmd_codec.specs.Fields.{kind_code, status_code, short}
use Rattle.snap_codec.proofs.Counted.{put_then}
use Rattle.snap_codec.proofs.writing.TaskRowWrite.put.Goals as goal

pub returns-clause-bytes : goal.returns-clause-bytes
returns-clause-bytes c =
    let s = c.args.self.now in
    on_ok_weaker c.put-7.result
    (λ e.
    put_then c.args.out.now.items (text_field s.task) _ c.put.new.out.items c.put-7.new.out.items c.in_ok-put.ensures.bytes (
    put_then c.put.new.out.items (text_field s.group) _ c.put-2.new.out.items c.put-7.new.out.items c.in_ok-put-2.ensures.bytes (
    put_then c.put-2.new.out.items (text_field s.source) _ c.put-3.new.out.items c.put-7.new.out.items c.in_ok-put-3.ensures.bytes (
    put_then c.put-3.new.out.items (kind_code s.kind ∷ []) _ c.put-4.new.out.items c.put-7.new.out.items c.in_ok-put-4.ensures.bytes (
    put_then c.put-4.new.out.items (short s.priority) _ c.put-5.new.out.items c.put-7.new.out.items c.in_ok-put-5.ensures.bytes (
    put_then c.put-5.new.out.items (status_code s.status ∷ []) _ c.put-6.new.out.items c.put-7.new.out.items c.in_ok-put-6.ensures.bytes (e)))))))
    c.put-7.ensures.bytes
