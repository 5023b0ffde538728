use Rattle.std.proofs.Common.{◌∙◌, ap, codes, option_map, sym}
use Rattle.clap.specs.Words.{Text, found_of}
use Rattle.clap.proofs.WalkLemmas.{first_value-rows}
use Rattle.program_words.specs.Forms.{run}
use Rattle.program_words.proofs.reading.run_in.Goals as goal

pub returns-in_err-store : goal.returns-in_err-store
returns-in_err-store c =
    let given = first_value-rows (found_of c.args.found.now) (codes "store") in
    rw c.from_residual.ensures (sym (ap (option_map (λ (store : Text). run store)) (sym given ∙ sym c.in_err-store.ensures)))

pub returns : goal.returns
returns c =
    let given = first_value-rows (found_of c.args.found.now) (codes "store") in
    sym (ap (option_map (λ (store : Text). run store)) (sym given ∙ sym c.in_ok-store.ensures))
