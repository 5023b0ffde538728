use Rattle.host_desk.specs.Replay.{items_of, start}
use Rattle.host_desk.specs.ReplayLaws.{said_after, seen_after_say}
use Rattle.host_desk.proofs.memory.MemHost.keep_said.Goals as goal

pub invariant_of-self : goal.invariant_of-self
invariant_of-self c =
    let m = c.args.self.now in
    let s = start (items_of m.first.items) in record {
      four = m.four;
      seen = seen_after_say s m.calls.items c.put_out.new.calls.items (items_of m.files.items) c.args.piece.now m.seen c.in-Ok.ensures.kept;
      told = said_after s m.calls.items c.put_out.new.calls.items m.said.items c.put_out.new.said.items c.args.piece.now m.told c.in-Ok.ensures.said c.in-Ok.ensures.kept;
    }
