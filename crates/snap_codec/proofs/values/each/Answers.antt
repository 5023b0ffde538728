use Rattle.std.proofs.lemmas.Result.{err_from_is_err_and}
use Rattle.snap_codec.specs.Readers.{each_at}
use Rattle.snap_codec.proofs.Counted.{goes_on, ends, is_done}
use Rattle.snap_codec.proofs.values.each.Goals as goal

pub returns-in_err-read : goal.returns-in_err-read
returns-in_err-read g c =
    let p = err_from_is_err_and c.from_residual.result c.from_residual.ensures.1 in
    rw (p.1, p.2) (ends g.T.Read.reads c.in_err-read.field-0.0 c.loop.items.items c.args.count c.loop.counter c.loop.cursor.rest (each_at g.T.Read.reads c.args.count c.args.cursor.now.rest) c.loop-test.true c.in_err-read.ensures c.loop.invariant)

pub loop-preserved : goal.loop-preserved
loop-preserved g c = rw c.in_ok-push.ensures.items (goes_on g.T.Read.reads c.loop.items.items c.args.count c.loop.counter c.loop.cursor.rest c.in_ok-read.field-0 c.read.new.cursor.rest (each_at g.T.Read.reads c.args.count c.args.cursor.now.rest) c.loop-test.true c.in_ok-read.ensures c.loop.invariant)

pub returns : goal.returns
returns g c = is_done g.T.Read.reads c.loop.items.items c.args.count c.loop.counter c.loop.cursor.rest (each_at g.T.Read.reads c.args.count c.args.cursor.now.rest) c.loop-test.false c.loop.invariant
