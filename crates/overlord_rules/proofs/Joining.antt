-- A command before the commands of a record, which reads as the command and those.
use Rattle.std.proofs.Common.{◌≡◌, ℕ, zero, suc, ◌+◌, ◌<◌, ◌≤◌, List, [], ◌∷◌, ◌++◌, length, Option, Some, None, refl, sym, ap, ◌∙◌, arith}
use Rattle.std.proofs.lemmas.List.{length-append}
use Rattle.wire_fields.specs.Fields.{◌>>=◌}
use Rattle.book_rows.specs.declared.commands.Command.{Command}
use Rattle.cmd_codec.specs.Spelling.{spelling}
use Rattle.cmd_codec.specs.Reading.{command_at}
use Rattle.cmd_codec.specs.Records.{each_to_end, body_of, commands_of}
use Rattle.cmd_codec.proofs.Commands.{command_again}
use Rattle.cmd_codec.proofs.RecordBytes.{some_bytes}
use Rattle.overlord_rules.specs.LineCommands.{SpellingsJoin}

-- none is read of no bytes, whatever the number
nothing_left : (m : ℕ) → each_to_end command_at m [] ≡ Some []
unfolding each_to_end
nothing_left zero = refl
nothing_left (suc m) = refl

-- a command at the front of bytes, and then the others
step_of : (n : ℕ) (bytes : List ℕ) (c : Command) (rest : List ℕ) → 0 < length bytes → command_at bytes ≡ Some (c, rest) → each_to_end command_at (suc n) bytes ≡ (each_to_end command_at n rest >>= λ (cs : List Command). Some (c ∷ cs))
unfolding each_to_end
step_of n [] c rest lt e = absurd (omega arith)
step_of n (x ∷ xs) c rest lt e = rw e refl

no_step : (n : ℕ) (x : ℕ) (bytes : List ℕ) → command_at (x ∷ bytes) ≡ None → each_to_end command_at (suc n) (x ∷ bytes) ≡ None
unfolding each_to_end
no_step n x bytes e = rw e refl

no_room : (x : ℕ) (bytes : List ℕ) → each_to_end command_at zero (x ∷ bytes) ≡ None
unfolding each_to_end
no_room x bytes = refl

-- what is read behind the first command, with the one number and the other
module _ (m n x : ℕ) (bytes : List ℕ) (cs : List Command) (is : each_to_end command_at (suc m) (x ∷ bytes) ≡ Some cs) (later : (rest : List ℕ) (ds : List Command) → each_to_end command_at m rest ≡ Some ds → each_to_end command_at n rest ≡ Some ds) where
  count_rest : (c : Command) (rest : List ℕ) → command_at (x ∷ bytes) ≡ Some (c, rest) → (o : Option (List Command)) → each_to_end command_at m rest ≡ o → each_to_end command_at (suc n) (x ∷ bytes) ≡ Some cs
  count_rest c rest e None f = absurd (let none : each_to_end command_at (suc m) (x ∷ bytes) ≡ None = step_of m (x ∷ bytes) c rest (omega arith) e ∙ ap (λ (o : Option (List Command)). o >>= λ (ds : List Command). Some (c ∷ ds)) f in let both : None ≡ Some cs = sym none ∙ is in cc)
  count_rest c rest e (Some ds) f =
      let was : each_to_end command_at (suc m) (x ∷ bytes) ≡ Some (c ∷ ds) = step_of m (x ∷ bytes) c rest (omega arith) e ∙ ap (λ (o : Option (List Command)). o >>= λ (es : List Command). Some (c ∷ es)) f in
      let now : each_to_end command_at (suc n) (x ∷ bytes) ≡ Some (c ∷ ds) = step_of n (x ∷ bytes) c rest (omega arith) e ∙ ap (λ (o : Option (List Command)). o >>= λ (es : List Command). Some (c ∷ es)) (later rest ds f) in
      now ∙ sym was ∙ is

  count_first : (o : Option (Command × List ℕ)) → command_at (x ∷ bytes) ≡ o → each_to_end command_at (suc n) (x ∷ bytes) ≡ Some cs
  count_first None e = absurd (let both : None ≡ Some cs = sym (no_step m x bytes e) ∙ is in cc)
  count_first (Some first) e = count_rest first.0 first.1 e (each_to_end command_at m first.1) refl

-- what is read with a number is read with a greater one
count_more : (m n : ℕ) (bytes : List ℕ) (cs : List Command) → m ≤ n → each_to_end command_at m bytes ≡ Some cs → each_to_end command_at n bytes ≡ Some cs
count_more m n [] cs le is = nothing_left n ∙ sym (nothing_left m) ∙ is
count_more zero n (x ∷ bytes) cs le is = absurd (let both : None ≡ Some cs = sym (no_room x bytes) ∙ is in cc)
count_more (suc m) zero (x ∷ bytes) cs le is = absurd (omega (arith, le))
count_more (suc m) (suc n) (x ∷ bytes) cs le is = count_first m n x bytes cs is (λ rest ds read. count_more m n rest ds (omega (arith, le)) read) (command_at (x ∷ bytes)) refl

-- a body that has commands has bytes, and is read to its end
body_some : (body : List ℕ) (cs : List Command) → commands_of body ≡ Some cs → (0 < length body) × (each_to_end command_at (length body) body ≡ Some cs)
unfolding body_of
body_some [] cs is = absurd (cc)
body_some (x ∷ xs) cs is = (omega arith, is)

body_all : (body : List ℕ) → 0 < length body → commands_of body ≡ each_to_end command_at (length body) body
unfolding body_of
body_all [] lt = absurd (omega arith)
body_all (x ∷ xs) lt = refl

-- The spelling of a command before a record reads as the command before the record's.
pub joined_again : SpellingsJoin
joined_again c more cs spelled is = by (length (spelling c ++ more)) refl
  where
    size : length (spelling c ++ more) ≡ length (spelling c) + length more
    size = length-append (spelling c) more

    some : 0 < length (spelling c ++ more)
    some = omega (arith, size, some_bytes c spelled)

    by : (n : ℕ) → length (spelling c ++ more) ≡ n → commands_of (spelling c ++ more) ≡ Some (c ∷ cs)
    by zero e = absurd (omega (arith, e, some))
    by (suc n) e =
        body_all (spelling c ++ more) some
        ∙ ap (λ (k : ℕ). each_to_end command_at k (spelling c ++ more)) e
        ∙ step_of n (spelling c ++ more) c more some (command_again c more spelled)
        ∙ ap (λ (o : Option (List Command)). o >>= λ (ds : List Command). Some (c ∷ ds)) (count_more (length more) n more cs (omega (arith, size, e, some_bytes c spelled)) (body_some more cs is).1)
