-- What follows from clauses on a result.
use Rattle.std.proofs.Common.{Result, Ok, Err, IfOk, OnOk, OnErr}

pub on_both : {T E P Q R C : Type 0} (r : Result T E) → IfOk r (λ x. P) → OnOk r Q → OnErr r R → (P → Q → C) → (R → C) → C
on_both (Ok x) p q k f g = f p q
on_both (Err e) p q k f g = g k

pub ok_then : {T E : Type 0} {P Q : T → Type 0} (r : Result T E) → IfOk r P → ((x : T) → P x → Q x) → IfOk r Q
ok_then (Ok x) h f = f x h
ok_then (Err e) h f = tt
