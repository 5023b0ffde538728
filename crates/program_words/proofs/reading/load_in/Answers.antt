use Rattle.std.proofs.Common.{◌∙◌, None, Some, codes, refl, sym}
use Rattle.clap.specs.Words.{first_of, found_of, rows_of}
use Rattle.clap.proofs.WalkLemmas.{first_value-rows}
use Rattle.program_words.proofs.Rows.{load_rows}
use Rattle.program_words.proofs.reading.load_in.Goals as goal

pub returns-in_err-number : goal.returns-in_err-number
returns-in_err-number c =
    let rows = rows_of (found_of c.args.found.now) in
    let number = sym (first_value-rows (found_of c.args.found.now) (codes "number")) ∙ sym c.in_err-number.ensures in
    rw c.from_residual.ensures (sym (load_rows rows None (first_of (codes "blocks") rows) (first_of (codes "store") rows) number refl refl))

pub returns-in_err-blocks : goal.returns-in_err-blocks
returns-in_err-blocks c =
    let rows = rows_of (found_of c.args.found.now) in
    let number = sym (first_value-rows (found_of c.args.found.now) (codes "number")) ∙ sym c.in_ok-number.ensures in
    let blocks = sym (first_value-rows (found_of c.args.found.now) (codes "blocks")) ∙ sym c.in_err-blocks.ensures in
    rw c.from_residual-in_err-blocks.ensures (sym (load_rows rows (Some c.in_ok-number.number.now) None (first_of (codes "store") rows) number blocks refl))

pub returns-in_err-store : goal.returns-in_err-store
returns-in_err-store c =
    let rows = rows_of (found_of c.args.found.now) in
    let number = sym (first_value-rows (found_of c.args.found.now) (codes "number")) ∙ sym c.in_ok-number.ensures in
    let blocks = sym (first_value-rows (found_of c.args.found.now) (codes "blocks")) ∙ sym c.in_ok-blocks.ensures in
    let store = sym (first_value-rows (found_of c.args.found.now) (codes "store")) ∙ sym c.in_err-store.ensures in
    rw c.from_residual-in_err-store.ensures (sym (load_rows rows (Some c.in_ok-number.number.now) (Some c.in_ok-blocks.blocks.now) None number blocks store))

pub returns : goal.returns
returns c =
    let rows = rows_of (found_of c.args.found.now) in
    let number = sym (first_value-rows (found_of c.args.found.now) (codes "number")) ∙ sym c.in_ok-number.ensures in
    let blocks = sym (first_value-rows (found_of c.args.found.now) (codes "blocks")) ∙ sym c.in_ok-blocks.ensures in
    let store = sym (first_value-rows (found_of c.args.found.now) (codes "store")) ∙ sym c.in_ok-store.ensures in
    c.load_with.ensures ∙ sym (load_rows rows (Some c.in_ok-number.number.now) (Some c.in_ok-blocks.blocks.now) (Some c.in_ok-store.store.now) number blocks store)
