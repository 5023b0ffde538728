-- A load, and how far it is.
use Rattle.std.specs.Prelude.{◌+◌, ◌++◌, ◌≡◌, ◌≤◌, List, [], get_or, length, pos, replicate, set, suc, true, zero, ℕ}
use Rattle.std.specs.List.{All}
use Rattle.iv_time.specs.Range.{is_instant}
use Rattle.book_rows.specs.declared.commands.Command.{Command}
use Rattle.load_gen.specs.Blocks.{commands_of, hour_after}
use Rattle.load_gen.specs.Draws.{draw, hour_of}
use Rattle.load_gen.specs.declared.generator.Hour.{Hour}

-- the number that was drawn last, how many blocks were given, and what is known of each hour
pub record Load : Type 0 where
  pub drawn : ℕ
  pub blocks : ℕ
  pub hours : List Hour

-- an hour in which nothing was published
abbrev pub no_hour : Hour
no_hour = record { version = pos 0; next = 0 }

-- the load of a number, of which no block was given
abbrev pub begun : ℕ → Load
begun number = record { drawn = number; blocks = 0; hours = replicate 720 no_hour }

-- the hour of the next block
abbrev pub next_hour : Load → ℕ
next_hour g = hour_of (draw g.drawn)

-- the commands of the next block
abbrev pub block_of : Load → List Command
block_of g = commands_of g.blocks (next_hour g) (get_or g.hours (next_hour g) no_hour)

-- the load once it is given
abbrev pub after : Load → Load
after g = record {
  drawn = draw g.drawn;
  blocks = g.blocks + 1;
  hours = set g.hours (next_hour g) (hour_after g.blocks (get_or g.hours (next_hour g) no_hour));
}

-- the commands of so many blocks more
abbrev pub commands_from : ℕ → Load → List Command
commands_from zero g = []
commands_from (suc n) g = block_of g ++ commands_from n (after g)

-- The commands of a load: of so many blocks, from this number on.
abbrev pub load : ℕ → ℕ → List Command
load number blocks = commands_from blocks (begun number)

-- ---- what holds on the way

-- its version is an instant, and its next part is at most the number of blocks
pub record IsHourOf (blocks : ℕ) (hour : Hour) : Type 0 where
  pub instant : is_instant hour.version ≡ true
  pub few : hour.next ≤ blocks

pub record IsOnTheWay (blocks : ℕ) (hours : List Hour) : Type 0 where
  pub all : length hours ≡ 720
  pub few : blocks ≤ 50000
  pub each : All (IsHourOf blocks) hours
