-- What reads as a command of a tag is spelled by it.
use Rattle.std.proofs.Common.{◌≡◌, ℕ, true, List, ◌∷◌, ◌++◌, Some, refl, ap, subst}
use Rattle.wire_fields.specs.Fields.{AreBytes}
use Rattle.book_rows.specs.declared.commands.Command.{Command}
use Rattle.book_rows.specs.declared.commands.Command.TheVariants.{Submit, Manage, Lock, Unlock, Allocate, Append, End, Drop, Reset, Supervise, Tick, Paused, Checkpoint}
use Rattle.cmd_codec.specs.Spelling.{spelling, has_tag}
use Rattle.cmd_codec.specs.Reading.{submit_at, manage_at, lock_at, unlock_at, allocate_at, append_at, end_at, drop_at, reset_at, supervise_at, tick_at, paused_at, checkpoint_at}
use Rattle.cmd_codec.proofs.FieldLists.{takes1, takes2, takes3, takes4, takes6, takes7}
use Rattle.cmd_codec.proofs.Numbers.{a_count, long_number, an_instant, a_duration, a_name, a_task}
use Rattle.cmd_codec.proofs.FieldBytes.{a_kind, a_lock_kind, a_status, a_granularity, a_span, an_id, a_want, an_offset}
use Rattle.cmd_codec.proofs.Lists.{list_of, option_of, some_ranges}

-- the tag and the bytes after it are the command's spelling and the rest
abbrev pub IsSpelledBy : ℕ → List ℕ → Command → List ℕ → Type 0
IsSpelledBy tag bytes c rest = (tag ∷ bytes ≡ spelling c ++ rest) × (has_tag c ≡ true)

pub submit_takes : (bytes : List ℕ) (c : Command) (rest : List ℕ) → AreBytes bytes → submit_at bytes ≡ Some (c, rest) → IsSpelledBy 1 bytes c rest
unfolding submit_at
submit_takes bytes c rest fits h =
    let t = takes6 a_task a_task a_name a_kind a_count (list_of a_want) Submit bytes c rest fits h in
    subst (λ (x : Command). IsSpelledBy 1 bytes x rest) t.made (ap (λ (r : List ℕ). 1 ∷ r) t.parts, refl)

pub manage_takes : (bytes : List ℕ) (c : Command) (rest : List ℕ) → AreBytes bytes → manage_at bytes ≡ Some (c, rest) → IsSpelledBy 2 bytes c rest
unfolding manage_at
manage_takes bytes c rest fits h =
    let t = takes1 an_instant Manage bytes c rest fits h in
    subst (λ (x : Command). IsSpelledBy 2 bytes x rest) t.made (ap (λ (r : List ℕ). 2 ∷ r) t.parts, refl)

pub lock_takes : (bytes : List ℕ) (c : Command) (rest : List ℕ) → AreBytes bytes → lock_at bytes ≡ Some (c, rest) → IsSpelledBy 3 bytes c rest
unfolding lock_at
lock_takes bytes c rest fits h =
    let t = takes4 a_task a_lock_kind a_span an_instant Lock bytes c rest fits h in
    subst (λ (x : Command). IsSpelledBy 3 bytes x rest) t.made (ap (λ (r : List ℕ). 3 ∷ r) t.parts, refl)

pub unlock_takes : (bytes : List ℕ) (c : Command) (rest : List ℕ) → AreBytes bytes → unlock_at bytes ≡ Some (c, rest) → IsSpelledBy 4 bytes c rest
unfolding unlock_at
unlock_takes bytes c rest fits h =
    let t = takes2 a_task long_number Unlock bytes c rest fits h in
    subst (λ (x : Command). IsSpelledBy 4 bytes x rest) t.made (ap (λ (r : List ℕ). 4 ∷ r) t.parts, refl)

pub allocate_takes : (bytes : List ℕ) (c : Command) (rest : List ℕ) → AreBytes bytes → allocate_at bytes ≡ Some (c, rest) → IsSpelledBy 5 bytes c rest
unfolding allocate_at
allocate_takes bytes c rest fits h =
    let t = takes7 a_task a_lock_kind a_name (option_of an_id) an_instant a_granularity an_instant Allocate bytes c rest fits h in
    subst (λ (x : Command). IsSpelledBy 5 bytes x rest) t.made (ap (λ (r : List ℕ). 5 ∷ r) t.parts, refl)

pub append_takes : (bytes : List ℕ) (c : Command) (rest : List ℕ) → AreBytes bytes → append_at bytes ≡ Some (c, rest) → IsSpelledBy 6 bytes c rest
unfolding append_at
append_takes bytes c rest fits h =
    let t = takes3 a_task (list_of an_id) (option_of some_ranges) Append bytes c rest fits h in
    subst (λ (x : Command). IsSpelledBy 6 bytes x rest) t.made (ap (λ (r : List ℕ). 6 ∷ r) t.parts, refl)

pub end_takes : (bytes : List ℕ) (c : Command) (rest : List ℕ) → AreBytes bytes → end_at bytes ≡ Some (c, rest) → IsSpelledBy 9 bytes c rest
unfolding end_at
end_takes bytes c rest fits h =
    let t = takes2 a_task a_status End bytes c rest fits h in
    subst (λ (x : Command). IsSpelledBy 9 bytes x rest) t.made (ap (λ (r : List ℕ). 9 ∷ r) t.parts, refl)

pub drop_takes : (bytes : List ℕ) (c : Command) (rest : List ℕ) → AreBytes bytes → drop_at bytes ≡ Some (c, rest) → IsSpelledBy 10 bytes c rest
unfolding drop_at
drop_takes bytes c rest fits h =
    let t = takes2 a_name a_span Drop bytes c rest fits h in
    subst (λ (x : Command). IsSpelledBy 10 bytes x rest) t.made (ap (λ (r : List ℕ). 10 ∷ r) t.parts, refl)

pub reset_takes : (bytes : List ℕ) (c : Command) (rest : List ℕ) → AreBytes bytes → reset_at bytes ≡ Some (c, rest) → IsSpelledBy 11 bytes c rest
unfolding reset_at
reset_takes bytes c rest fits h =
    let t = takes3 a_name a_name (list_of an_offset) Reset bytes c rest fits h in
    subst (λ (x : Command). IsSpelledBy 11 bytes x rest) t.made (ap (λ (r : List ℕ). 11 ∷ r) t.parts, refl)

pub supervise_takes : (bytes : List ℕ) (c : Command) (rest : List ℕ) → AreBytes bytes → supervise_at bytes ≡ Some (c, rest) → IsSpelledBy 12 bytes c rest
unfolding supervise_at
supervise_takes bytes c rest fits h =
    let t = takes7 a_name a_name a_count a_count a_count a_duration a_duration Supervise bytes c rest fits h in
    subst (λ (x : Command). IsSpelledBy 12 bytes x rest) t.made (ap (λ (r : List ℕ). 12 ∷ r) t.parts, refl)

pub tick_takes : (bytes : List ℕ) (c : Command) (rest : List ℕ) → AreBytes bytes → tick_at bytes ≡ Some (c, rest) → IsSpelledBy 13 bytes c rest
unfolding tick_at
tick_takes bytes c rest fits h =
    let t = takes1 an_instant Tick bytes c rest fits h in
    subst (λ (x : Command). IsSpelledBy 13 bytes x rest) t.made (ap (λ (r : List ℕ). 13 ∷ r) t.parts, refl)

pub paused_takes : (bytes : List ℕ) (c : Command) (rest : List ℕ) → AreBytes bytes → paused_at bytes ≡ Some (c, rest) → IsSpelledBy 14 bytes c rest
unfolding paused_at
paused_takes bytes c rest fits h =
    let t = takes2 a_task (list_of an_offset) Paused bytes c rest fits h in
    subst (λ (x : Command). IsSpelledBy 14 bytes x rest) t.made (ap (λ (r : List ℕ). 14 ∷ r) t.parts, refl)

pub checkpoint_takes : (bytes : List ℕ) (c : Command) (rest : List ℕ) → AreBytes bytes → checkpoint_at bytes ≡ Some (c, rest) → IsSpelledBy 15 bytes c rest
unfolding checkpoint_at
checkpoint_takes bytes c rest fits h =
    let t = takes2 a_task (list_of an_offset) Checkpoint bytes c rest fits h in
    subst (λ (x : Command). IsSpelledBy 15 bytes x rest) t.made (ap (λ (r : List ℕ). 15 ∷ r) t.parts, refl)
