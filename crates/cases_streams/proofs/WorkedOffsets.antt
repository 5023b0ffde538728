-- The worked cases, computed.
use Rattle.std.proofs.Common.{◌≡◌, ℕ, refl, arith, inl, inr, true}
use Rattle.std.specs.Str.{chars, is_utf8}
use lib.Utf8.{encode}
use Rattle.std.specs.List.{list_all}
use Rattle.book_rows.specs.Form.{keeps_form}
use Rattle.book_rows.specs.Shape.{HasShape}
use Rattle.cases_streams.specs.OffsetCases.{BookHasShape, EachOffsetOnce, FaultIsSeen, FirstFaultIsTold, NamesGoOn, RangesStartThere, ShapeGoesOn, TilesGoOn, book, commands, goes_on}
use Rattle.laws_offsets.specs.OffsetShape.{HasNames, HasOffsetShape}
use Rattle.laws_offsets.specs.Tiling.{Tiles}
use Rattle.book_rows.specs.Answer.{next}
use Rattle.laws_offsets.proofs.Lists.{some_is}
use Rattle.laws_offsets.proofs.Reaching.{reached_books_tile}

-- the commands keep their form, and so lead to a book that tiles
forms : list_all keeps_form commands ≡ true
unfolding is_utf8 chars encode
forms = refl

tiled : Tiles book
tiled = reached_books_tile commands forms

pub tiles_go_on : TilesGoOn
unfolding is_utf8 chars encode
tiles_go_on = (refl, tiled, refl, refl, refl)

pub each_offset_once : EachOffsetOnce
each_offset_once = (forms, tiled, refl, refl, refl, refl, refl, refl, refl, refl, refl, refl, refl, refl)

-- ---- comparing

pub fault_is_seen : FaultIsSeen
fault_is_seen = (
  ((omega arith, λ y e. some_is 12 y e), ((omega arith, λ y e. some_is 3 y e), ((omega arith, λ y e. cc), tt))),
  refl,
  λ all. never (all.1.0.1 3 refl),
  refl,
) where
  never : ◌≡◌ {A = ℕ} 4 3 → ⊥
  never e = omega arith

pub first_fault_is_told : FirstFaultIsTold
first_fault_is_told = (
  refl,
  ((omega arith, λ y e. some_is 12 y e), tt),
  refl,
  inr (3, refl, omega arith, refl, never),
  refl,
  refl,
  inl (refl, omega arith),
) where
  never : ◌≡◌ {A = ℕ} 4 3 → ⊥
  never e = omega arith

pub ranges_start_there : RangesStartThere
ranges_start_there = (
  refl,
  refl,
  refl,
  inl refl,
  refl,
  (omega arith, λ y e. some_is 12 y e),
  inr (inl refl),
  refl,
  (omega arith, λ y e. cc),
)

-- ---- the shape

offsets_shape : HasOffsetShape book
offsets_shape = record { rows = record { limits = refl; order = ((refl, tt), (tt, tt)) }; room = refl; ranges = record { limits = refl; points = refl } }

whole_shape : HasShape book
unfolding is_utf8 chars encode
whole_shape = record {
  limits = record {
    room = refl;
    clock = refl;
    last = refl;
    tasks = refl;
    posses = refl;
    chunks = refl;
    segments = refl;
    pendings = refl;
    upgrades = refl;
    publications = refl;
    offsets = refl;
    supervisors = refl;
    sequences = refl;
    kinds = refl;
    states = refl;
  };
  keys = record {
    tasks = (tt, tt);
    numbers = tt;
    ascending = tt;
    below = tt;
    chunks = tt;
    ids = tt;
    upgrades = tt;
    offsets = ((refl, tt), (tt, tt));
    supervisors = tt;
    sequences = tt;
    requests = tt;
    once = tt;
  };
  versions = record { locks = refl; chunks = refl; kinds = refl; distinct = tt };
  members = λ q i. absurd i;
  chunks = record { segments = λ a i. absurd i; pendings = λ a i. absurd i; adds = λ a i. absurd i; empties = λ a i. absurd i };
  commits = record { commits = refl; locks = refl; spans = refl };
  roots = record { tombstones = λ r i. absurd i; others = λ r i. absurd i };
}

pub book_has_shape : BookHasShape
book_has_shape = (whole_shape, offsets_shape)

names : HasNames book
names = record { tasks = refl; supervisors = refl }

shape_after : HasOffsetShape (next book goes_on)
shape_after = record { rows = record { limits = refl; order = ((refl, (refl, tt)), ((refl, tt), (tt, tt))) }; room = refl; ranges = record { limits = refl; points = refl } }

pub shape_goes_on : ShapeGoesOn
unfolding is_utf8 chars encode
shape_goes_on = (forms, offsets_shape, names, refl, shape_after)

pub names_go_on : NamesGoOn
unfolding is_utf8 chars encode
names_go_on = (names, refl, refl, record { tasks = refl; supervisors = refl }, refl, refl, record { tasks = refl; supervisors = refl })
