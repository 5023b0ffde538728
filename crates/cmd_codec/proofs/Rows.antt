-- What is read value after value is what is read as a row of pairs.
use Rattle.std.proofs.Common.{◌≡◌, ℕ, Bool, true, false, List, [], Option, Some, None, cond, refl, ◌∙◌}
use Rattle.std.specs.Int.{w32, w64}
use Rattle.wire_fields.specs.Fields.{◌>>=◌, number_at, signed_at}
use Rattle.book_rows.specs.declared.commands.Command.TheVariants.{Submit, Lock, Unlock, Allocate, Append, End, Drop, Reset, Supervise, Paused, Checkpoint}
use Rattle.book_rows.specs.Lists.{is_empty}
use Rattle.cmd_codec.specs.Reading.{Reader, name_at, task_at, kind_of, lock_kind_of, status_of, granularity_of, code_at, span_at, id_at, want_at, offset_at, range_at, list_at, option_at, ranges_at, submit_at, lock_at, unlock_at, allocate_at, append_at, plain_at, marked_at, end_at, drop_at, reset_at, supervise_at, paused_at, checkpoint_at}
use Rattle.cmd_codec.specs.Pairs.{both_at, tombstones_at}
use Rattle.cmd_codec.specs.declared.values.Tombstones.{Tombstones}
use Rattle.cmd_codec.proofs.Overwrites.{Make}

-- what is made of a row that was read, in two steps
done_twice : {A B Z : Type 0} (read : Option (B × List ℕ)) (a : A) (f : (A × B) × List ℕ → Option Z) → (read >>= λ b. f ((a, b.0), b.1)) ≡ ((read >>= λ b. Some ((a, b.0), b.1)) >>= f)
done_twice None a f = refl
done_twice (Some b) a f = refl

paired_on : {A B Z : Type 0} (read : Option (A × List ℕ)) (second : Reader B) (f : (A × B) × List ℕ → Option Z) (g : A × List ℕ → Option Z)
    → ((a : A × List ℕ) → g a ≡ (second a.1 >>= λ b. f ((a.0, b.0), b.1)))
    → (read >>= g) ≡ ((read >>= λ a. second a.1 >>= λ b. Some ((a.0, b.0), b.1)) >>= f)
paired_on None second f g step = refl
paired_on (Some a) second f g step = step a ∙ done_twice (second a.1) a.0 f

-- a first value, where what follows it is read as one more
paired : {A B Z : Type 0} (first : Reader A) (second : Reader B) (bytes : List ℕ) (f : (A × B) × List ℕ → Option Z) (g : A × List ℕ → Option Z)
    → ((a : A × List ℕ) → g a ≡ (second a.1 >>= λ b. f ((a.0, b.0), b.1)))
    → (first bytes >>= g) ≡ (both_at first second bytes >>= f)
unfolding both_at
paired first second bytes f g step = paired_on (first bytes) second f g step

pub id : (bytes : List ℕ) → id_at bytes ≡ (both_at name_at (both_at span_at (both_at signed_at (number_at w32))) bytes >>= λ v. Some (record { source = v.0.0; span = v.0.1.0; version = v.0.1.1.0; part = v.0.1.1.1 }, v.1))
unfolding id_at
id bytes = paired _ _ _ _ _ (λ a. paired _ _ _ _ _ (λ b. paired _ _ _ _ _ (λ c. refl)))

pub want : (bytes : List ℕ) → want_at bytes ≡ (both_at (code_at lock_kind_of) span_at bytes >>= λ v. Some (record { lock_kind = v.0.0; span = v.0.1 }, v.1))
unfolding want_at
want bytes = paired _ _ _ _ _ (λ a. refl)

pub offset : (bytes : List ℕ) → offset_at bytes ≡ (both_at (number_at w32) (number_at w64) bytes >>= λ v. Some (record { partition = v.0.0; offset = v.0.1 }, v.1))
unfolding offset_at
offset bytes = paired _ _ _ _ _ (λ a. refl)

pub range : (bytes : List ℕ) → range_at bytes ≡ (both_at (number_at w32) (both_at (number_at w64) (number_at w64)) bytes >>= λ v. Some (record { partition = v.0.0; start = v.0.1.0; end = v.0.1.1 }, v.1))
unfolding range_at
range bytes = paired _ _ _ _ _ (λ a. paired _ _ _ _ _ (λ b. refl))

pub ranges : (bytes : List ℕ) → ranges_at bytes ≡ (both_at name_at (list_at range_at) bytes >>= λ v. Some (record { stream = v.0.0; parts = v.0.1 }, v.1))
unfolding ranges_at
ranges bytes = paired _ _ _ _ _ (λ a. refl)

pub submit : (bytes : List ℕ) → submit_at bytes ≡ (both_at task_at (both_at task_at (both_at name_at (both_at (code_at kind_of) (both_at (number_at w32) (list_at want_at))))) bytes >>= λ v. Some (Submit v.0.0 v.0.1.0 v.0.1.1.0 v.0.1.1.1.0 v.0.1.1.1.1.0 v.0.1.1.1.1.1, v.1))
unfolding submit_at
submit bytes = paired _ _ _ _ _ (λ a. paired _ _ _ _ _ (λ b. paired _ _ _ _ _ (λ c. paired _ _ _ _ _ (λ d. paired _ _ _ _ _ (λ e. refl)))))

pub lock : (bytes : List ℕ) → lock_at bytes ≡ (both_at task_at (both_at (code_at lock_kind_of) (both_at span_at signed_at)) bytes >>= λ v. Some (Lock v.0.0 v.0.1.0 v.0.1.1.0 v.0.1.1.1, v.1))
unfolding lock_at
lock bytes = paired _ _ _ _ _ (λ a. paired _ _ _ _ _ (λ b. paired _ _ _ _ _ (λ c. refl)))

pub unlock : (bytes : List ℕ) → unlock_at bytes ≡ (both_at task_at (number_at w64) bytes >>= λ v. Some (Unlock v.0.0 v.0.1, v.1))
unfolding unlock_at
unlock bytes = paired _ _ _ _ _ (λ a. refl)

pub allocate : (bytes : List ℕ) → allocate_at bytes ≡ (both_at task_at (both_at (code_at lock_kind_of) (both_at name_at (both_at (option_at id_at) (both_at signed_at (both_at (code_at granularity_of) signed_at))))) bytes >>= λ v. Some (Allocate v.0.0 v.0.1.0 v.0.1.1.0 v.0.1.1.1.0 v.0.1.1.1.1.0 v.0.1.1.1.1.1.0 v.0.1.1.1.1.1.1, v.1))
unfolding allocate_at
allocate bytes = paired _ _ _ _ _ (λ a. paired _ _ _ _ _ (λ b. paired _ _ _ _ _ (λ c. paired _ _ _ _ _ (λ d. paired _ _ _ _ _ (λ e. paired _ _ _ _ _ (λ f. refl))))))

pub append : (bytes : List ℕ) → append_at bytes ≡ (both_at task_at (both_at (list_at id_at) (option_at ranges_at)) bytes >>= λ v. Some (Append v.0.0 v.0.1.0 v.0.1.1, v.1))
unfolding append_at
append bytes = paired _ _ _ _ _ (λ a. paired _ _ _ _ _ (λ b. refl))

pub plain : (make : Make) (bytes : List ℕ) → plain_at make bytes ≡ (both_at task_at (both_at (list_at span_at) (both_at (list_at id_at) (option_at ranges_at))) bytes >>= λ v. Some (make v.0.0 v.0.1.0 v.0.1.1.0 [] v.0.1.1.1, v.1))
unfolding plain_at
plain make bytes = paired _ _ _ _ _ (λ a. paired _ _ _ _ _ (λ b. paired _ _ _ _ _ (λ c. refl)))

unless : {Y Z : Type 0} (b : Bool) (y : Y) (f : Y → Option Z) → cond b None (f y) ≡ (cond b None (Some y) >>= f)
unless true y f = refl
unless false y f = refl

-- a test of what was read, before or after it is handed on
unless_on : {A Y Z : Type 0} (read : Option A) (test : A → Bool) (made : A → Y) (f : Y → Option Z)
    → (read >>= λ a. cond (test a) None (f (made a))) ≡ ((read >>= λ a. cond (test a) None (Some (made a))) >>= f)
unless_on None test made f = refl
unless_on (Some a) test made f = unless (test a) (made a) f

marked_last : {Z : Type 0} (bytes : List ℕ) (f : Tombstones × List ℕ → Option Z) → (list_at id_at bytes >>= λ t. cond (is_empty t.0) None (f (record { ids = t.0 }, t.1))) ≡ (tombstones_at bytes >>= f)
unfolding tombstones_at
marked_last bytes f = unless_on (list_at id_at bytes) (λ t. is_empty t.0) (λ t. (record { ids = t.0 }, t.1)) f

pub marked : (make : Make) (bytes : List ℕ) → marked_at make bytes ≡ (both_at task_at (both_at (list_at span_at) (both_at (list_at id_at) (both_at (option_at ranges_at) tombstones_at))) bytes >>= λ v. Some (make v.0.0 v.0.1.0 v.0.1.1.0 v.0.1.1.1.1.ids v.0.1.1.1.0, v.1))
unfolding marked_at
marked make bytes = paired _ _ _ _ _ (λ a. paired _ _ _ _ _ (λ b. paired _ _ _ _ _ (λ c. paired _ _ _ _ _ (λ d. marked_last d.1 _))))

pub end : (bytes : List ℕ) → end_at bytes ≡ (both_at task_at (code_at status_of) bytes >>= λ v. Some (End v.0.0 v.0.1, v.1))
unfolding end_at
end bytes = paired _ _ _ _ _ (λ a. refl)

pub drop : (bytes : List ℕ) → drop_at bytes ≡ (both_at name_at span_at bytes >>= λ v. Some (Drop v.0.0 v.0.1, v.1))
unfolding drop_at
drop bytes = paired _ _ _ _ _ (λ a. refl)

pub reset : (bytes : List ℕ) → reset_at bytes ≡ (both_at name_at (both_at name_at (list_at offset_at)) bytes >>= λ v. Some (Reset v.0.0 v.0.1.0 v.0.1.1, v.1))
unfolding reset_at
reset bytes = paired _ _ _ _ _ (λ a. paired _ _ _ _ _ (λ b. refl))

pub supervise : (bytes : List ℕ) → supervise_at bytes ≡ (both_at name_at (both_at name_at (both_at (number_at w32) (both_at (number_at w32) (both_at (number_at w32) (both_at signed_at signed_at))))) bytes >>= λ v. Some (Supervise v.0.0 v.0.1.0 v.0.1.1.0 v.0.1.1.1.0 v.0.1.1.1.1.0 v.0.1.1.1.1.1.0 v.0.1.1.1.1.1.1, v.1))
unfolding supervise_at
supervise bytes = paired _ _ _ _ _ (λ a. paired _ _ _ _ _ (λ b. paired _ _ _ _ _ (λ c. paired _ _ _ _ _ (λ d. paired _ _ _ _ _ (λ e. paired _ _ _ _ _ (λ f. refl))))))

pub paused : (bytes : List ℕ) → paused_at bytes ≡ (both_at task_at (list_at offset_at) bytes >>= λ v. Some (Paused v.0.0 v.0.1, v.1))
unfolding paused_at
paused bytes = paired _ _ _ _ _ (λ a. refl)

pub checkpoint : (bytes : List ℕ) → checkpoint_at bytes ≡ (both_at task_at (list_at offset_at) bytes >>= λ v. Some (Checkpoint v.0.0 v.0.1, v.1))
unfolding checkpoint_at
checkpoint bytes = paired _ _ _ _ _ (λ a. refl)
