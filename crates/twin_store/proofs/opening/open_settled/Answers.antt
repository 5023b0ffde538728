use Rattle.std.proofs.Common.{◌≡◌, ℕ, List, Option, IsTrue, sym, subst}
use Rattle.gate_log.specs.Log.{Mark}
use Rattle.twin_store.specs.Pairs.{neither, choice_in, second_file}
use Rattle.twin_store.specs.Stores.{Stands}
use Rattle.twin_store.specs.Finding.{IsFoundCurrent, FindsCurrent}
use Rattle.twin_store.proofs.Openings.{found_there, stands_found, settled_still, making_since, making_kept}
use Rattle.twin_store.proofs.opening.open_settled.Goals as goal

pub returns-in-Some-clause-stands : goal.returns-in-Some-clause-stands
returns-in-Some-clause-stands g c = λ told.
    let a = g.H.Host.desk c.args.host.now in
    let b = g.H.Host.desk c.find_current.new.host in
    let found : IsFoundCurrent g.H.Host.tells c.args.pair c.args.limit a.seen c.in-Some.log = subst (λ (o : Option Mark). FindsCurrent g.H.Host.tells c.args.pair c.args.limit a.seen o) c.in-Some.is c.in_ok-log.ensures.found in
    subst (λ (m : Mark). Stands m b) (sym c.over.ensures) (stands_found a b c.args.pair c.args.limit c.in-Some.log (c.find_current.ensures.disk told) found.is_opened (found.current told) (found.read told) (c.requires.first_settled told) (c.requires.second_settled told))

pub returns-in-Some-clause-room : goal.returns-in-Some-clause-room
returns-in-Some-clause-room g c = λ told none.
    let files = (g.H.Host.desk c.args.host.now).seen in
    let found : IsFoundCurrent g.H.Host.tells c.args.pair c.args.limit files c.in-Some.log = subst (λ (o : Option Mark). FindsCurrent g.H.Host.tells c.args.pair c.args.limit files o) c.in-Some.is c.in_ok-log.ensures.found in
    absurd (found_there files c.args.pair c.args.limit c.in-Some.log found.is_opened (found.current told) none)

pub returns-in-None-clause-any_moment : goal.returns-in-None-clause-any_moment
returns-in-None-clause-any_moment g c = λ told.
    let a = g.H.Host.desk c.args.host.now in
    let b = g.H.Host.desk c.find_current.new.host in
    let d = g.H.Host.desk c.make_new.new.host in
    let looks = c.find_current.ensures.disk told in
    let none : IsTrue g.H.Host.tells → choice_in c.args.pair a.seen ≡ neither = subst (λ (o : Option Mark). FindsCurrent g.H.Host.tells c.args.pair c.args.limit a.seen o) c.in-None.is c.in_ok-log.ensures.found in
    let still : choice_in c.args.pair b.seen ≡ neither = subst (λ (s : ℕ → List ℕ). choice_in c.args.pair s ≡ neither) (sym looks.seen) (none told) in
    making_since c.args.pair c.requires.number b still d (c.make_new.ensures.any_moment told) a looks (settled_still a b (second_file c.args.pair) looks (c.requires.second_settled told)) (λ t s f le is. g.met.H.Host.counts_now told c.args.host.now t s f le is)

pub returns-in-None-clause-files : goal.returns-in-None-clause-files
returns-in-None-clause-files g c = λ told.
    let a = g.H.Host.desk c.args.host.now in
    let b = g.H.Host.desk c.find_current.new.host in
    let d = g.H.Host.desk c.make_new.new.host in
    let looks = c.find_current.ensures.disk told in
    let none : IsTrue g.H.Host.tells → choice_in c.args.pair a.seen ≡ neither = subst (λ (o : Option Mark). FindsCurrent g.H.Host.tells c.args.pair c.args.limit a.seen o) c.in-None.is c.in_ok-log.ensures.found in
    let still : choice_in c.args.pair b.seen ≡ neither = subst (λ (s : ℕ → List ℕ). choice_in c.args.pair s ≡ neither) (sym looks.seen) (none told) in
    making_kept c.args.pair c.requires.number b still d (c.make_new.ensures.any_moment told) a looks (settled_still a b (second_file c.args.pair) looks (c.requires.second_settled told)) (λ i less. g.met.H.Host.reads_now told c.make_new.new.host i less)
