use Rattle.std.proofs.Common.{◌∙◌, ap, length}
use Rattle.host_desk.proofs.Images.{four_first}
use Rattle.host_desk.proofs.memory.MemHost.image.Goals as goal

pub new-requires-clause-four : goal.new-requires-clause-four
new-requires-clause-four c = let m = c.args.self.now in ap length c.deref.ensures.value ∙ four_first m.first.items m.files.items m.calls.items m.four m.seen
