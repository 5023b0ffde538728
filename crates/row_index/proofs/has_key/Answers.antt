use Rattle.std.proofs.Common.{◌≡◌, ◌<◌, rules}
use Rattle.row_index.proofs.IndexLemmas.{in_at, place_of}
use Rattle.row_index.proofs.has_key.Goals as goal

pub returns-then-eq-clause-found : goal.returns-then-eq-clause-found
returns-then-eq-clause-found g c =
    let same : c.key.result ≡ c.args.key = search rules in
    λ _. in_at c.args.key (g.T.Keyed.keys c.args.row.now) c.loop-at.at (rw (← same) c.key.ensures)

pub returns-clause-missing : goal.returns-clause-missing
returns-clause-missing g c =
    λ _ there.
    let p = place_of c.args.key (g.T.Keyed.keys c.args.row.now) there in
    let within : p.0 < c.loop-at.at = search rules in
    c.loop-at.invariant p.0 within p.2
