use Rattle.std.proofs.Common.{◌∙◌, ap, subst, sym}
use Rattle.book_rows.specs.Fits.{reply_fits}
use Rattle.book_rows.specs.Sound.{Sound}
use Rattle.book_rows.specs.declared.replies.Reply.{Reply}
use Rattle.book_rows.specs.declared.rows.Book.{Book}
use Rattle.laws_sound.proofs.Joined.{next_is_sound}
use Rattle.laws_texts.proofs.EachCommand.{answers_have_texts}
use Rattle.overlord_core.proofs.Whole.{sound_of}
use Rattle.overlord_core.proofs.acting.Overlord.act.Goals as goal

pub invariant_of-self : goal.invariant_of-self
invariant_of-self c = λ unspent.
    subst (λ (b : Book). Sound b) (sym c.in-Ok.ensures.book) (next_is_sound c.self.inside.core c.args.command.now c.requires.form (c.self.invariant unspent))

pub returns-in-Ok-clause-fits : goal.returns-in-Ok-clause-fits
returns-in-Ok-clause-fits c =
    ap (λ (r : Reply). reply_fits r) c.in-Ok.ensures.reply
    ∙ answers_have_texts c.self.inside.core c.args.command.now c.requires.form (c.self.invariant c.if-self.false)

pub returns-in-Ok-clause-sound : goal.returns-in-Ok-clause-sound
returns-in-Ok-clause-sound c = λ b e.
    sound_of c.self.inside.spent c.step.new.core b
    (λ unspent.
    subst (λ (b : Book). Sound b) (sym c.in-Ok.ensures.book) (next_is_sound c.self.inside.core c.args.command.now c.requires.form (c.self.invariant unspent)))
    e
