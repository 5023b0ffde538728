-- What is granted to a task, as changes of locks one by one.
use Rattle.std.specs.Prelude.{ℕ, ℤ, ◌==◌, ◌||◌, ◌++◌, ◌∷◌, false, true, List, None, Option, Some, [], cond, map, unwrap_or}
use Rattle.book_rows.specs.Locks.{posse_of}
use Rattle.book_rows.specs.declared.rows.PosseRow.{PosseRow}
use Rattle.lock_posse.specs.Granting.{members_in}
use Rattle.lock_posse.specs.Keys.{member_keys}
use Rattle.lock_posse.specs.declared.updates.Granting.{Granting}

-- the lock of that number is revoked where the change revokes, and gets the members where it has some
abbrev pub after_granting : Granting → PosseRow → PosseRow
after_granting q p = record p {
  revoked = cond (q.number == p.number) (p.revoked || q.revokes) p.revoked;
  members = cond (q.number == p.number) (unwrap_or q.members p.members) p.members;
}

abbrev pub granting_keys : Option (List (List ℕ)) → List (ℕ × ℤ)
granting_keys None = []
granting_keys (Some members) = member_keys members

abbrev pub revoking : ℕ → Granting
revoking number = record { number = number; revokes = true; members = None }

-- the lock, where there is one, gets its members after the task joins these
abbrev pub joining : Option PosseRow → List ℕ → List ℕ → List Granting
joining None joins task = []
joining (Some p) joins task = record { number = p.number; revokes = false; members = Some (members_in joins task p) } ∷ []

abbrev pub joinings : List PosseRow → List ℕ → List ℕ → List ℕ → List Granting
joinings ps joins task [] = []
joinings ps joins task (n ∷ ns) = joining (posse_of n ps) joins task ++ joinings ps joins task ns

-- first the locks that are revoked, and then those that the task joins
abbrev pub grantings : List PosseRow → List ℕ → List ℕ → List ℕ → List Granting
grantings ps revoked joins task = map revoking revoked ++ joinings ps joins task joins
