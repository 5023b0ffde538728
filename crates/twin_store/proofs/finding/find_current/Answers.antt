use Rattle.std.proofs.Common.{ℕ, List, Option}
use Rattle.gate_log.specs.Log.{Mark}
use Rattle.twin_store.specs.Pairs.{second_file, choice}
use Rattle.twin_store.specs.Finding.{header_of, IsChosen, FindsCurrent}
use Rattle.twin_store.proofs.Found.{if_ok, finds_before, chosen_found}
use Rattle.twin_store.proofs.finding.find_current.Goals as goal

pub returns-in-Ok-clause-found : goal.returns-in-Ok-clause-found
returns-in-Ok-clause-found g c =
    let tells = g.H.Host.tells in
    let pair = c.args.pair in
    let files : ℕ → List ℕ = (g.H.Host.desk c.args.host.now).seen in
    let first : Option Mark = c.in_ok-first.first in
    let second : Option Mark = c.in-Ok.second in
    let more = finds_before tells (second_file pair) c.args.limit files (g.H.Host.desk c.find_log.new.host).seen second (λ told. (c.find_log.ensures.disk told).seen) c.in-Ok.ensures.found in
    if_ok (IsChosen (choice (header_of first) (header_of second)) first second) (FindsCurrent tells pair c.args.limit files) c.current_of.result
    (λ log chosen. chosen_found tells pair c.args.limit files c.requires.number first second log c.in_ok-first.ensures.found more chosen) c.current_of.ensures.chosen
