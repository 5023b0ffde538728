use Rattle.std.proofs.Common.{[], ◌∷◌}
use Rattle.std.proofs.lemmas.Result.{on_ok_weaker}
use Rattle.wire_fields.specs.Fields.{text_field}
use Rattle.cmd_codec.specs.Fields.{short, signed, offset_field}
use Rattle.snap_codec.specs.Fields.{state_code, list_field}
use Rattle.snap_codec.proofs.Counted.{put_then}
use Rattle.snap_codec.proofs.writing.SequenceRowWrite.put.Goals as goal

pub returns-clause-bytes : goal.returns-clause-bytes
returns-clause-bytes c =
    let s = c.args.self.now in
    on_ok_weaker c.put-10.result
    (λ e.
    put_then c.args.out.now.items (text_field s.source) _ c.put.new.out.items c.put-10.new.out.items c.in_ok-put.ensures.bytes (
    put_then c.put.new.out.items (short s.group) _ c.put-2.new.out.items c.put-10.new.out.items c.in_ok-put-2.ensures.bytes (
    put_then c.put-2.new.out.items (short s.index) _ c.put-3.new.out.items c.put-10.new.out.items c.in_ok-put-3.ensures.bytes (
    put_then c.put-3.new.out.items (state_code s.state ∷ []) _ c.put-4.new.out.items c.put-10.new.out.items c.in_ok-put-4.ensures.bytes (
    put_then c.put-4.new.out.items (signed s.opened) _ c.put-5.new.out.items c.put-10.new.out.items c.in_ok-put-5.ensures.bytes (
    put_then c.put-5.new.out.items (signed s.closed) _ c.put-6.new.out.items c.put-10.new.out.items c.in_ok-put-6.ensures.bytes (
    put_then c.put-6.new.out.items (list_field offset_field s.starts) _ c.put-7.new.out.items c.put-10.new.out.items c.in_ok-put-7.ensures.bytes (
    put_then c.put-7.new.out.items (list_field offset_field s.ends) _ c.put-8.new.out.items c.put-10.new.out.items c.in_ok-put-8.ensures.bytes (
    put_then c.put-8.new.out.items (list_field text_field s.live) _ c.put-9.new.out.items c.put-10.new.out.items c.in_ok-put-9.ensures.bytes (e))))))))))
    c.put-10.ensures.bytes
