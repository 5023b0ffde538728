-- A core that answered a command holds its book.
use Rattle.std.proofs.Common.{◌≡◌, Err, IfOk, None, Ok, Option, Result, Some, false, refl, subst, sym, true}
use Rattle.std.specs.Result.{IsErr}
use Rattle.std.specs.Option.{ForSome}
use Rattle.book_core.specs.declared.outcomes.Outcome.{Outcome}
use Rattle.book_rows.specs.declared.commands.Command.{Command}
use Rattle.book_rows.specs.declared.rows.Book.{Book}
use Rattle.overlord_core.specs.Acted.{IsActed}
use Rattle.overlord_run.specs.Held.{book_in}

pub held : {E : Type 0} (old new : Option Book) (c : Command) (r : Result Outcome E) → IfOk r (λ o. ForSome old (λ b. IsActed o new b c)) → (old ≡ None → IsErr r) → IfOk r (λ o. new ≡ Some (book_in new))
held old new c (Err e) done spent = tt
held None new c (Ok o) done spent = absurd (let fails : false ≡ true = spent refl in cc)
held (Some b) new c (Ok o) done spent = subst (λ (n : Option Book). n ≡ Some (book_in n)) (sym (done b refl).book) refl
