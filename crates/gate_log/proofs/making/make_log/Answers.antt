use Rattle.std.proofs.Common.{◌≡◌, ◌∷◌, [], List, ℕ, ap, sym, ◌∙◌, arith}
use Rattle.gate_log.specs.Format.{says, is_log, new_rest, new_file}
use Rattle.gate_log.proofs.Made.{says_new, describes_new}
use Rattle.gate_log.proofs.making.make_log.Goals as goal

pub returns-clause-says : goal.returns-clause-says
returns-clause-says g c = λ told.
    let rest : c.deref.result.now ≡ new_rest c.args.generation c.args.snapshot.now = c.deref.ensures.value ∙ c.in_ok-rest.ensures in
    ap says (c.in_ok-make_file.ensures.made told ∙ ap (λ (l : List ℕ). 1 ∷ l) rest) ∙ says_new c.args.generation c.args.snapshot.now c.ranges.generation.fits (omega arith)

pub returns-clause-ended : goal.returns-clause-ended
returns-clause-ended g c = λ told.
    let rest : c.deref.result.now ≡ new_rest c.args.generation c.args.snapshot.now = c.deref.ensures.value ∙ c.in_ok-rest.ensures in
    record {
      generation = c.args.generation;
      snapshot = c.args.snapshot.now;
      bodies = [];
      is = ap says (c.in_ok-make_file.ensures.made told ∙ ap (λ (l : List ℕ). 1 ∷ l) rest) ∙ says_new c.args.generation c.args.snapshot.now c.ranges.generation.fits (omega arith)
          ∙ ap (λ (p : ℕ). is_log c.args.generation c.args.snapshot.now [] p) (sym c.at.ensures.place);
    }

pub returns-clause-describes : goal.returns-clause-describes
returns-clause-describes g c = λ told.
    let rest : c.deref.result.now ≡ new_rest c.args.generation c.args.snapshot.now = c.deref.ensures.value ∙ c.in_ok-rest.ensures in
    let made : (g.H.Host.desk c.make_file.new.host).seen c.args.file ≡ new_file c.args.generation c.args.snapshot.now = c.in_ok-make_file.ensures.made told ∙ ap (λ (l : List ℕ). 1 ∷ l) rest in
    describes_new c.args.generation c.args.snapshot.now c.ranges.generation.fits (omega arith) c.args.file c.args.limit c.at.result ((g.H.Host.desk c.make_file.new.host).seen c.args.file) c.at.ensures.value made
