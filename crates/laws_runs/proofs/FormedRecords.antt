-- The commands of a record keep their form, so a record leads from a sound book to a sound one.
use Rattle.std.proofs.Common.{◌≡◌, ◌∷◌, Bool, List, None, Option, Some, [], cond, false, length, refl, subst, suc, true, zero, ℕ}
use Rattle.std.specs.List.{list_all}
use Rattle.std.proofs.lemmas.Bool.{and_from, and_parts}
use Rattle.wire_fields.specs.Fields.{◌>>=◌}
use Rattle.wire_fields.proofs.FieldsTaken.{bind_some}
use Rattle.book_rows.specs.Answer.{changes, next}
use Rattle.book_rows.specs.Form.{keeps_form}
use Rattle.book_rows.specs.Sound.{Sound}
use Rattle.book_rows.specs.declared.commands.Command.{Command}
use Rattle.book_rows.specs.declared.rows.Book.{Book}
use Rattle.cmd_codec.specs.Reading.{code_at, command_at, tag_of, values_at}
use Rattle.cmd_codec.specs.Records.{body_of, commands_of, each_to_end}
use Rattle.cmd_codec.proofs.Readers.{some_is, when_some}
use Rattle.overlord_rules.specs.OverlordRules.{apply, restore_by, restore_of}
use Rattle.laws_sound.proofs.Joined.{every_command_keeps_sound}

read_form : (bytes : List ℕ) (read : Command × List ℕ) → command_at bytes ≡ Some read → keeps_form read.0 ≡ true
unfolding command_at
read_form bytes read e =
    let a = bind_some (code_at tag_of bytes) (λ t. values_at t.0 t.1 >>= λ (x : Command × List ℕ). cond (keeps_form x.0) (Some x) None) read e in
    let b = bind_some (values_at a.0.0 a.0.1) (λ (x : Command × List ℕ). cond (keeps_form x.0) (Some x) None) read a.2 in
    let g = when_some (keeps_form b.0.0) (Some b.0) read b.2 in
    subst (λ (x : Command × List ℕ). keeps_form x.0 ≡ true) (some_is b.0 read g.1) g.0

forms_to_end : (n : ℕ) (bytes : List ℕ) (cs : List Command) → each_to_end command_at n bytes ≡ Some cs → list_all keeps_form cs ≡ true
unfolding each_to_end
forms_to_end zero [] cs e = let none : [] ≡ cs = cc in subst (λ (xs : List Command). list_all keeps_form xs ≡ true) none refl
forms_to_end (suc n) [] cs e = let none : [] ≡ cs = cc in subst (λ (xs : List Command). list_all keeps_form xs ≡ true) none refl
forms_to_end zero (x ∷ xs) cs e = absurd (cc)
forms_to_end (suc n) (x ∷ xs) cs e =
    let b = bind_some (command_at (x ∷ xs)) (λ (first : Command × List ℕ). each_to_end command_at n first.1 >>= λ (others : List Command). Some (first.0 ∷ others)) cs e in
    let d = bind_some (each_to_end command_at n b.0.1) (λ (others : List Command). Some (b.0.0 ∷ others)) cs b.2 in
    subst (λ (ys : List Command). list_all keeps_form ys ≡ true) (some_is (b.0.0 ∷ d.0) cs d.2) (and_from (keeps_form b.0.0) (list_all keeps_form d.0) (read_form (x ∷ xs) b.0 b.1) (forms_to_end n b.0.1 d.0 d.1))

pub record_forms : (body : List ℕ) (cs : List Command) → commands_of body ≡ Some cs → list_all keeps_form cs ≡ true
unfolding body_of
record_forms [] cs e = absurd (cc)
record_forms (x ∷ xs) cs e = forms_to_end (length (x ∷ xs)) (x ∷ xs) cs e

-- ---- commands that are carried out

applied_sound : (cs : List Command) (b after : Book) → list_all keeps_form cs ≡ true → apply b cs ≡ Some after → Sound b → Sound after
applied_sound [] b after forms e s = let same : b ≡ after = cc in subst Sound same s
applied_sound (c ∷ cs) b after forms e s =
    let both = and_parts (keeps_form c) (list_all keeps_form cs) forms in
    by (changes b c) e (λ e. applied_sound cs (next b c) after both.1 e (every_command_keeps_sound c b both.0 s))
  where
    by : (goes : Bool) → cond goes (apply (next b c) cs) None ≡ Some after → (apply (next b c) cs ≡ Some after → Sound after) → Sound after
    by true e rest = rest e
    by false e rest = absurd (cc)

pub restored_sound : (b : Book) (body : List ℕ) (after : Book) → Sound b → restore_of b body ≡ Some after → Sound after
unfolding restore_of
restored_sound b body after s e = by (commands_of body) (λ cs is. record_forms body cs is) e
  where
    by : (o : Option (List Command)) → ((cs : List Command) → o ≡ Some cs → list_all keeps_form cs ≡ true) → restore_by b o ≡ Some after → Sound after
    by None forms e = absurd (cc)
    by (Some cs) forms e = applied_sound cs b after (forms cs refl) e s
