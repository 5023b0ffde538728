-- What a request looks for among the locks.
use Rattle.std.specs.Prelude.{Bool, List, None, Option, Some, [], ◌∷◌, cond, nat_lt, ℕ}
use Rattle.book_rows.specs.Grant.{blocks, is_against, is_fit}
use Rattle.book_rows.specs.Locks.{is_lost, is_member}
use Rattle.book_rows.specs.declared.answers.Counters.{Counters}
use Rattle.book_rows.specs.declared.answers.GrantedLock.{GrantedLock}
use Rattle.book_rows.specs.declared.rows.PosseRow.{PosseRow}
use Rattle.book_rows.specs.declared.rows.TaskRow.{TaskRow}
use Rattle.book_rows.specs.declared.rows.Want.{Want}
use Rattle.lockbox.specs.declared.searches.Found.{Found}
use Rattle.lockbox.specs.declared.searches.Wanted.{Wanted}
use Rattle.lockbox.specs.declared.searches.Wanted.TheVariants as Wanteds

-- the lock is one that is looked for
abbrev pub passes_as : Wanted → TaskRow → Want → PosseRow → Bool
passes_as Wanteds.Lost t w p = is_lost t.task t.source w.span p
passes_as Wanteds.Fit t w p = is_fit t w p
passes_as Wanteds.Block t w p = blocks t w p
passes_as Wanteds.Against t w p = is_against t w p

abbrev pub found_of : List ℕ → PosseRow → Found
found_of task p = record { number = p.number; span = p.span; version = p.version; member = is_member task p }

-- the one of the lower number, and the earlier of two that have one number
abbrev pub better_found : Option Found → Found → Found
better_found None f = f
better_found (Some g) f = cond (nat_lt f.number g.number) f g

abbrev pub found_step : Wanted → TaskRow → Want → Option Found → PosseRow → Option Found
found_step wanted t w best p = cond (passes_as wanted t w p) (Some (better_found best (found_of t.task p))) best

-- the task joins a lock that was found
abbrev pub joins_found : Counters → Found → GrantedLock
joins_found k f = record {
  number = f.number;
  span = f.span;
  version = f.version;
  granted = record { locks = f.number ∷ []; joins = cond f.member [] (f.number ∷ []); rows = []; revoked = []; after = k };
}
