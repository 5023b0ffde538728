-- What follows from clauses on a result.
use Rattle.std.proofs.Common.{Result, Ok, Err, OnOk, OnErr}

pub OnOk_then : {T E P Q : Type 0} (r : Result T E) → OnOk r P → (P → Q) → OnOk r Q
OnOk_then (Ok x) h f = f h
OnOk_then (Err e) h f = tt

pub either : {T E P Q C : Type 0} (r : Result T E) → OnOk r P → OnErr r Q → (P → C) → (Q → C) → C
either (Ok x) h k f g = f h
either (Err e) h k f g = g k
