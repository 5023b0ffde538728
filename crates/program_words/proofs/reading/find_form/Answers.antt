use Rattle.std.proofs.Common.{◌∙◌, ◌≡◌, None, Option, Some, is_some, map, refl, string_bytes, sym, true}
use Rattle.clap.specs.Words.{app_of}
use Rattle.program_words.specs.Forms.{Form, form_of}
use Rattle.program_words.proofs.Taken.{given, taken}
use Rattle.program_words.proofs.reading.find_form.Goals as goal

-- what is there is some form
form_there : (o : Option Form) → is_some o ≡ true → (form : Form) × (o ≡ Some form)
form_there None there = cc
form_there (Some form) there = (form, refl)

pub returns-in-Some : goal.returns-in-Some
returns-in-Some c = λ there.
    let words = map string_bytes c.args.words.now in
    let wanted = form_there (form_of words) there in
    let found = given (app_of c.in_ok-command.command) words c.in-Ok.matches c.in_ok-command.ensures c.in-Ok.ensures.matches wanted.0 wanted.1 in
    wanted.1 ∙ sym (c.in-Some.ensures ∙ found)

pub returns-in-Ok : goal.returns-in-Ok
returns-in-Ok c = λ there.
    let words = map string_bytes c.args.words.now in
    let wanted = form_there (form_of words) there in
    let found = given (app_of c.in_ok-command.command) words c.in-Ok.matches c.in_ok-command.ensures c.in-Ok.ensures.matches wanted.0 wanted.1 in
    let both : None ≡ Some wanted.0 = c.in-None.ensures ∙ found in
    cc

pub returns : goal.returns
returns c = λ there.
    let words = map string_bytes c.args.words.now in
    let wanted = form_there (form_of words) there in
    absurd (c.in_default.not-OutOfMemory (c.kind.ensures ∙ c.in-Err.ensures.passes (taken (app_of c.in_ok-command.command) words c.in_ok-command.ensures wanted.0 wanted.1)))
