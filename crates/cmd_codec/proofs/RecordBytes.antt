-- Reading one command after another.
use Rattle.std.proofs.Common.{◌≡◌, ℕ, zero, suc, ◌+◌, ◌<◌, ◌≤◌, List, [], ◌∷◌, ◌++◌, length, true, false, Option, Some, None, refl, sym, ap, subst, ◌∙◌, append_assoc, arith, inr}
use Rattle.std.proofs.lemmas.List.{length-append, append-nil}
use Rattle.std.proofs.lemmas.List.Concat.{flat_map-cons}
use Rattle.wire_fields.specs.Fields.{◌>>=◌, AreBytes}
use Rattle.wire_fields.proofs.FieldsTaken.{AreBytes-append_right}
use Rattle.book_rows.specs.declared.commands.Command.{Command}
use Rattle.book_rows.specs.declared.commands.Command.TheVariants.{Submit, Manage, Lock, Unlock, Allocate, Append, Insert, Replace, End, Drop, Reset, Supervise, Tick, Paused, Checkpoint, ToReplace, Show}
use Rattle.cmd_codec.specs.Spelling.{spelling}
use Rattle.cmd_codec.specs.Reading.{command_at}
use Rattle.cmd_codec.specs.Records.{IsSpelled, AreSpelled, record_of, each_to_end, body_of, commands_of, IsNoCommand, IsFirstFault}
use Rattle.cmd_codec.proofs.Commands.{command_again, command_takes}

record_push : (cs : List Command) (c : Command) → record_of (cs ++ c ∷ []) ≡ record_of cs ++ spelling c
record_push [] c = flat_map-cons spelling c [] ∙ append-nil (spelling c)
record_push (x ∷ xs) c = flat_map-cons spelling x (xs ++ c ∷ []) ∙ ap (λ (r : List ℕ). spelling x ++ r) (record_push xs c) ∙ sym (append_assoc (spelling x) (record_of xs) (spelling c)) ∙ ap (λ (r : List ℕ). r ++ spelling c) (sym (flat_map-cons spelling x xs))

spelled_push : (cs : List Command) (c : Command) → AreSpelled cs → IsSpelled c → AreSpelled (cs ++ c ∷ [])
spelled_push [] c h k = (k, tt)
spelled_push (x ∷ xs) c h k = (h.0, spelled_push xs c h.1 k)

-- a spelling isn't empty
pub some_bytes : (c : Command) → IsSpelled c → 0 < length (spelling c)
some_bytes (Submit task group source kind priority locks) h = omega arith
some_bytes (Manage now) h = omega arith
some_bytes (Lock task kind span now) h = omega arith
some_bytes (Unlock task lock) h = omega arith
some_bytes (Allocate task kind sequence previous at granularity now) h = omega arith
some_bytes (Append task ids ranges) h = omega arith
some_bytes (Insert task spans ids tombstones ranges) h = omega arith
some_bytes (Replace task spans ids tombstones ranges) h = omega arith
some_bytes (End task status) h = omega arith
some_bytes (Drop source span) h = omega arith
some_bytes (Reset source stream offsets) h = omega arith
some_bytes (Supervise source stream partitions task_count replicas task_duration completion_timeout) h = omega arith
some_bytes (Tick now) h = omega arith
some_bytes (Paused task offsets) h = omega arith
some_bytes (Checkpoint task offsets) h = omega arith
some_bytes (ToReplace task span) h = let no : false ≡ true = h.1 in absurd cc
some_bytes (Show what) h = let no : false ≡ true = h.1 in absurd cc

-- one more command of a record
pub record More (body bytes rest : List ℕ) (cs : List Command) (c : Command) : Type 0 where
  pub parts : body ≡ record_of (cs ++ c ∷ []) ++ rest
  pub spelled : AreSpelled (cs ++ c ∷ [])
  pub fits : AreBytes rest
  pub less : length rest < length bytes

pub more : (body bytes rest : List ℕ) (cs : List Command) (c : Command) → body ≡ record_of cs ++ bytes → AreSpelled cs → AreBytes bytes → command_at bytes ≡ Some (c, rest) → More body bytes rest cs c
more body bytes rest cs c parts spelled fits read =
    let t = command_takes bytes c rest fits read in
    record {
      parts = parts ∙ ap (λ (x : List ℕ). record_of cs ++ x) t.0 ∙ sym (append_assoc (record_of cs) (spelling c) rest) ∙ ap (λ (x : List ℕ). x ++ rest) (sym (record_push cs c));
      spelled = spelled_push cs c spelled t.1;
      fits = AreBytes-append_right (spelling c) rest (subst AreBytes t.0 fits);
      less = omega (arith, ap length t.0, length-append (spelling c) rest, some_bytes c t.1);
    }

pub no_command : (bytes : List ℕ) → command_at bytes ≡ None → IsNoCommand bytes
no_command bytes h c x k e = let again = command_again c x k in let no : None ≡ Some (c, x) = sym h ∙ ap command_at e ∙ again in cc

pub nothing_begins : IsNoCommand []
nothing_begins c x k e = let s = some_bytes c k in let l : 0 ≡ length (spelling c) + length x = ap length e ∙ length-append (spelling c) x in absurd (omega arith)

-- a command at the front of bytes, of which there are some
to_end_step : (n : ℕ) (bytes : List ℕ) (c : Command) (rest : List ℕ) → 0 < length bytes → command_at bytes ≡ Some (c, rest) → each_to_end command_at (suc n) bytes ≡ (each_to_end command_at n rest >>= λ (cs : List Command). Some (c ∷ cs))
unfolding each_to_end
to_end_step n [] c rest lt e = absurd (omega arith)
to_end_step n (x ∷ xs) c rest lt e = rw e refl

first_of : (c : Command) (cs : List Command) (tail : List ℕ) → record_of (c ∷ cs) ++ tail ≡ spelling c ++ (record_of cs ++ tail)
first_of c cs tail = ap (λ (r : List ℕ). r ++ tail) (flat_map-cons spelling c cs) ∙ append_assoc (spelling c) (record_of cs) tail

first_length : (c : Command) (cs : List Command) (tail : List ℕ) → IsSpelled c → length (record_of cs ++ tail) < length (record_of (c ∷ cs) ++ tail)
first_length c cs tail h = omega (arith, ap length (first_of c cs tail), length-append (spelling c) (record_of cs ++ tail), some_bytes c h)

none_before : (o : Option (List Command)) → o ≡ (o >>= λ (ds : List Command). Some ([] ++ ds))
none_before (Some ds) = refl
none_before None = refl

one_more : (c : Command) (cs : List Command) (o : Option (List Command)) → ((o >>= λ (ds : List Command). Some (cs ++ ds)) >>= λ (ds : List Command). Some (c ∷ ds)) ≡ (o >>= λ (ds : List Command). Some ((c ∷ cs) ++ ds))
one_more c cs (Some ds) = refl
one_more c cs None = refl

-- commands, and then what the bytes after them give
to_end_of : (n : ℕ) (cs : List Command) (tail : List ℕ) → AreSpelled cs → length (record_of cs ++ tail) ≤ n → (found : Option (List Command)) → ((m : ℕ) → length tail ≤ m → each_to_end command_at m tail ≡ found)
    → each_to_end command_at n (record_of cs ++ tail) ≡ (found >>= λ (ds : List Command). Some (cs ++ ds))
to_end_of n [] tail h le found last = last n le ∙ none_before found
to_end_of zero (c ∷ cs) tail h le found last = absurd (omega (arith, first_length c cs tail h.0))
to_end_of (suc n) (c ∷ cs) tail h le found last =
    let less = first_length c cs tail h.0 in
    let read : command_at (record_of (c ∷ cs) ++ tail) ≡ Some (c, record_of cs ++ tail) = ap command_at (first_of c cs tail) ∙ command_again c (record_of cs ++ tail) h.0 in
    let rest = to_end_of n cs tail h.1 (omega (arith, less)) found last in
    to_end_step n (record_of (c ∷ cs) ++ tail) c (record_of cs ++ tail) (omega (arith, less)) read ∙ ap (λ (o : Option (List Command)). o >>= λ (ds : List Command). Some (c ∷ ds)) rest ∙ one_more c cs found

nothing_left : (m : ℕ) → each_to_end command_at m [] ≡ Some []
unfolding each_to_end
nothing_left zero = refl
nothing_left (suc m) = refl

all_bytes : (body : List ℕ) → 0 < length body → commands_of body ≡ each_to_end command_at (length body) body
unfolding body_of
all_bytes [] lt = absurd (omega arith)
all_bytes (x ∷ xs) lt = refl

record_some : (cs : List Command) → AreSpelled cs → 0 < length cs → 0 < length (record_of cs)
record_some [] h lt = absurd (omega arith)
record_some (c ∷ cs) h lt = omega (arith, first_length c cs [] h.0, ap length (append-nil (record_of (c ∷ cs))))

-- The spelling of commands, at least one, reads as these commands.
pub commands_again : (cs : List Command) → AreSpelled cs → 0 < length cs → commands_of (record_of cs) ≡ Some cs
commands_again cs h lt =
    let bytes : record_of cs ++ [] ≡ record_of cs = append-nil (record_of cs) in
    let read = to_end_of (length (record_of cs)) cs [] h (omega (arith, ap length bytes)) (Some []) (λ m le. nothing_left m) in
    all_bytes (record_of cs) (record_some cs h lt) ∙ ap (each_to_end command_at (length (record_of cs))) (sym bytes) ∙ read ∙ ap Some (append-nil cs)

-- The spelling of one command reads as this command.
pub one_again : (c : Command) → IsSpelled c → commands_of (spelling c) ≡ Some (c ∷ [])
one_again c h = ap commands_of (sym (flat_map-cons spelling c [] ∙ append-nil (spelling c))) ∙ commands_again (c ∷ []) (h, tt) (omega arith)

-- a body that is read to its end
pub whole : (body rest : List ℕ) (cs : List Command) → body ≡ record_of cs ++ rest → AreSpelled cs → length rest ≤ 0 → 0 < length rest + length cs → (commands_of body ≡ Some cs) × (body ≡ record_of cs) × AreSpelled cs × (0 < length cs)
whole body [] cs parts h le lt =
    let is : body ≡ record_of cs = parts ∙ append-nil (record_of cs) in
    let some : 0 < length cs = omega (arith, lt) in
    (ap commands_of is ∙ commands_again cs h some, is, h, some)
whole body (x ∷ xs) cs parts h le lt = absurd (omega (arith, le))

stops : (bytes : List ℕ) → 0 < length bytes → command_at bytes ≡ None → (m : ℕ) → length bytes ≤ m → each_to_end command_at m bytes ≡ None
unfolding each_to_end
stops [] lt e m le = absurd (omega arith)
stops (x ∷ xs) lt e zero le = refl
stops (x ∷ xs) lt e (suc m) le = rw e refl

-- a body in which a command doesn't read
pub faulty : (body rest : List ℕ) (cs : List Command) → body ≡ record_of cs ++ rest → AreSpelled cs → 0 < length rest → command_at rest ≡ None → commands_of body ≡ None
faulty body rest cs parts h lt e =
    let n = length (record_of cs ++ rest) in
    let some : 0 < n = omega (arith, lt, length-append (record_of cs) rest) in
    ap commands_of parts ∙ all_bytes (record_of cs ++ rest) some ∙ to_end_of n cs rest h (omega arith) None (stops rest lt e)

-- an empty body has no command, and its first fault is at its start
pub empty_body : (body : List ℕ) → length body ≡ 0 → (commands_of body ≡ None) × IsFirstFault body 0
unfolding body_of
empty_body [] e = (refl, ([], [], refl, tt, refl, nothing_begins, inr refl))
empty_body (x ∷ xs) e = absurd (omega (arith, e))
