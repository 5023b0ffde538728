use Rattle.std.proofs.Common.{arith}
use Rattle.std.proofs.lemmas.Result.{on_ok_weaker}
use Rattle.gate_log.proofs.Appending.{end_there, first_step, second_step, added}
use Rattle.gate_log.proofs.log.put_record.Goals as goal

pub write_through-requires-clause-place : goal.write_through-requires-clause-place
write_through-requires-clause-place g c = λ told. omega (arith, end_there ((g.H.Host.desk c.args.host.now).seen c.args.file) c.args.place (c.requires.ended told))

pub returns-in_err-write_through-clause-any_moment :
    goal.returns-in_err-write_through-clause-any_moment
returns-in_err-write_through-clause-any_moment g c = λ told.
    let b = c.bytes.ensures in
    first_step c.args.file c.args.place c.args.frame.now c.bytes.result.now (g.H.Host.desk c.args.host.now) (c.requires.ended told) b.some b.fits b.bytes (g.H.Host.desk c.write_through.new.host) (c.write_through.ensures.any_moment told)

pub returns-clause-any_moment : goal.returns-clause-any_moment
returns-clause-any_moment g c = λ told.
    let b = c.bytes.ensures in
    second_step c.args.file c.args.place c.args.frame.now c.bytes.result.now (g.H.Host.desk c.args.host.now) (c.requires.ended told) b.some b.fits b.bytes (g.H.Host.desk c.write_through.new.host) (c.in_ok-write_through.ensures.written told) (g.H.Host.desk c.write_through-2.new.host) (c.write_through.ensures.any_moment told) (c.write_through-2.ensures.any_moment told)

pub returns-clause-added : goal.returns-clause-added
returns-clause-added g c = λ told.
    let b = c.bytes.ensures in
    on_ok_weaker c.write_through-2.result (added c.args.file c.args.place c.args.frame.now c.bytes.result.now (g.H.Host.desk c.args.host.now) (c.requires.ended told) b.some b.fits b.bytes (g.H.Host.desk c.write_through.new.host) (c.in_ok-write_through.ensures.written told) ((g.H.Host.desk c.write_through-2.new.host).seen c.args.file)) (c.write_through-2.ensures.written told)
