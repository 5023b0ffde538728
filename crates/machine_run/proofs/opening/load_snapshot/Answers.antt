use Rattle.std.proofs.Common.{◌≡◌, ◌<◌, ◌+◌, ℕ, List, length, take, drop, arith}
use Rattle.std.proofs.lemmas.List.{length-drop, length-take-le}
use Rattle.gate_log.specs.Log.{Describes, Mark, snapshot_in}
use Rattle.machine_run.proofs.opening.load_snapshot.Goals as goal

-- a log that is read up to its snapshot has as many bytes of it as it tells
snapshot_size : (log : Mark) (bytes : List ℕ) → Describes log bytes → log.place ≡ 26 + log.snapshot_length → length (snapshot_in log bytes) ≡ log.snapshot_length
snapshot_size log bytes describes place = length-take-le log.snapshot_length (drop 26 bytes) (omega (arith, length-drop 26 bytes, describes.there, place))

pub returns-then-snapshot_length-longest-clause-no : goal.returns-then-snapshot_length-longest-clause-no
returns-then-snapshot_length-longest-clause-no g c = λ told same.
    let bytes = (g.H.Host.desk c.args.host.now).seen 0 in
    let size = snapshot_size c.args.log.now bytes (c.requires.describes told) c.requires.place in
    g.met.M.Machine.kept.too_long (snapshot_in c.args.log.now bytes) (omega (arith, size, c.snapshot_length.ensures, c.longest.ensures, c.if-snapshot_length-longest.true))
