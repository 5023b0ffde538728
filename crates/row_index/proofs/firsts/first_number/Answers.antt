use Rattle.std.proofs.Common.{◌<◌, rules}
use Rattle.row_index.proofs.IndexLemmas.{place_of}
use Rattle.row_index.proofs.firsts.first_number.Goals as goal

pub returns-clause-sound : goal.returns-clause-sound
returns-clause-sound g c = c.loop-at.invariant.0

pub returns-clause-least : goal.returns-clause-least
returns-clause-least g c =
    λ s r found on.
    let own = g.met.Q.Query.covers c.args.query.now r on in
    let p = place_of own.0 (g.Q.Query.ranges c.args.query.now) own.2 in
    let within : p.0 < c.loop-at.at = search rules in
    c.loop-at.invariant.1 p.0 own.0 within p.2 s r own.1 found on own.4 (c.requires s r found own.1 own.3)
