use Rattle.std.proofs.Common.{◌≡◌, ◌<◌, ℕ, true, false, IsTrue, List, [], length, OnOk, IfErr, sym, ◌∙◌, ap, subst}
use Rattle.host_desk.specs.Since.{Since}
use Rattle.input_lines.specs.Reading.{Reading, unread}
use Rattle.machine_run.specs.Runs.{Left}
use Rattle.machine_run.specs.LineItems.{LineItem, items_of, Breaks, ReadsOn, LineFails, LinesEnd}
use Rattle.machine_run.specs.Ends.{HasRun, RunStop}
use Rattle.machine_run.proofs.ReadTo.{read_all, read_within}
use Rattle.machine_run.proofs.Exits.{ok_map}
use Rattle.machine_run.proofs.line_run.run_lines.Goals as goal

pub run_store-requires-clause-fits : goal.run_store-requires-clause-fits
run_store-requires-clause-fits g c = λ told ended. absurd (let both : false ≡ true = sym (ap (λ (r : Reading). r.is_ended) c.new-feed.ensures) ∙ ended in cc)

pub returns-clause-any_moment : goal.returns-clause-any_moment
returns-clause-any_moment g c = λ told tells state opens.
    let old = g.H.Host.desk c.args.host.now in
    let new = g.H.Host.desk c.run_store.new.host in
    let bytes : List ℕ = g.S.Source.remaining c.args.source.now in
    subst (λ (r : Reading). Since (Left g.M.Machine.rules state (items_of (unread r bytes)) old.said) old new) c.new-feed.ensures (c.run_store.ensures.any_moment told tells state opens)

pub returns-clause-now : goal.returns-clause-now
returns-clause-now g c = λ told tells state opens.
    let old = g.H.Host.desk c.args.host.now in
    let new = g.H.Host.desk c.run_store.new.host in
    let bytes : List ℕ = g.S.Source.remaining c.args.source.now in
    subst (λ (r : Reading). Left g.M.Machine.rules state (items_of (unread r bytes)) old.said new.said new.seen) c.new-feed.ensures (c.run_store.ensures.now told tells state opens)

pub returns-clause-done : goal.returns-clause-done
returns-clause-done g c = λ told tells.
    let old = g.H.Host.desk c.args.host.now in
    let new = g.H.Host.desk c.run_store.new.host in
    let bytes : List ℕ = g.S.Source.remaining c.args.source.now in
    subst (λ (r : Reading). OnOk c.run_store.result (HasRun g.M.Machine.rules c.args.bounds.batch c.args.bounds.log (items_of (unread r bytes)) old new)) c.new-feed.ensures (c.run_store.ensures.done told tells)

pub returns-clause-read : goal.returns-clause-read
returns-clause-read g c = λ tells.
    let bytes : List ℕ = g.S.Source.remaining c.args.source.now in
    let faults = g.S.Source.faults c.args.source.now in
    let reader : Reading = c.run_store.new.feed.reader in
    let left : List ℕ = g.S.Source.remaining c.run_store.new.source in
    let later = g.S.Source.faults c.run_store.new.source in
    let goes = subst (λ (r : Reading). ReadsOn g.S.Source.tells r bytes faults reader left later) c.new-feed.ensures c.run_store.ensures.goes in
    ok_map (LinesEnd g.S.Source.tells reader left) ((left ≡ []) × (length bytes < c.args.limit)) c.run_store.result (read_all g.S.Source.tells c.args.limit bytes faults reader left later goes tells) c.run_store.ensures.ended

pub returns-clause-within : goal.returns-clause-within
returns-clause-within g c = λ tells.
    let bytes : List ℕ = g.S.Source.remaining c.args.source.now in
    let faults = g.S.Source.faults c.args.source.now in
    let reader : Reading = c.run_store.new.feed.reader in
    let left : List ℕ = g.S.Source.remaining c.run_store.new.source in
    let later = g.S.Source.faults c.run_store.new.source in
    let goes = subst (λ (r : Reading). ReadsOn g.S.Source.tells r bytes faults reader left later) c.new-feed.ensures c.run_store.ensures.goes in
    read_within g.S.Source.tells c.args.limit bytes faults reader left later goes tells

pub returns-clause-stop : goal.returns-clause-stop
returns-clause-stop g c =
    let old = g.H.Host.desk c.args.host.now in
    let new = g.H.Host.desk c.run_store.new.host in
    let bytes : List ℕ = g.S.Source.remaining c.args.source.now in
    let faults = g.S.Source.faults c.args.source.now in
    let left : List ℕ = g.S.Source.remaining c.run_store.new.source in
    let later = g.S.Source.faults c.run_store.new.source in
    subst (λ (r : Reading). IfErr c.run_store.result (RunStop g.M.Machine.rules c.args.bounds.batch c.args.bounds.log (items_of (unread r bytes)) g.H.Host.tells (IsTrue g.H.Host.tells × IsTrue g.S.Source.tells) (LineFails g.S.Source.tells r bytes faults left later) (λ (items : List LineItem). Breaks r bytes left (length items)) old new)) c.new-feed.ensures c.run_store.ensures.stop
