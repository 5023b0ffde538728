-- Worked places at which bytes are no book's. The book's numbers have 24 bytes, and each table's count has four.
use Rattle.std.specs.Prelude.{◌++◌, ◌∷◌, ◌≡◌, Err, List, [], ℕ}
use Rattle.snap_codec.specs.Snapshots.{book_of}
use Rattle.cases_snapshots.specs.BookCases.{first_moment, one_4, one_8, text_r, text_w, whole_day, zero_4, zero_8}

abbrev pub DoesNotRead : List ℕ → ℕ → Type 0
DoesNotRead bytes at = book_of bytes ≡ Err at

-- the book's numbers, and so many empty tables
abbrev pub numbers : List ℕ
numbers = first_moment ++ zero_8 ++ one_8

abbrev pub six_tables : List ℕ
six_tables = zero_4 ++ zero_4 ++ zero_4 ++ zero_4 ++ zero_4 ++ zero_4

-- no bytes; seven of eight; a count of which a byte is missing
abbrev pub ShortHasPlace : Type 0
ShortHasPlace =
    DoesNotRead [] 0
    × DoesNotRead (0 ∷ 0 ∷ 0 ∷ 0 ∷ 0 ∷ 0 ∷ 0 ∷ []) 0
    × DoesNotRead (numbers ++ six_tables ++ zero_4 ++ zero_4 ++ zero_4 ++ 0 ∷ 0 ∷ 0 ∷ []) 60

-- one byte behind the empty book
abbrev pub LongHasPlace : Type 0
LongHasPlace = DoesNotRead (numbers ++ six_tables ++ zero_4 ++ zero_4 ++ zero_4 ++ zero_4 ++ 0 ∷ []) 64

-- the task's id is empty; its source has a space; its source lacks a byte
abbrev pub TextHasPlace : Type 0
TextHasPlace =
    DoesNotRead (numbers ++ one_4 ++ 0 ∷ []) 28
    × DoesNotRead (numbers ++ one_4 ++ text_r ++ text_r ++ 1 ∷ 32 ∷ []) 32
    × DoesNotRead (numbers ++ one_4 ++ text_r ++ text_r ++ 2 ∷ 119 ∷ []) 32

-- a kind of task 5; a publication of code 8, behind six tables
abbrev pub CodeHasPlace : Type 0
CodeHasPlace =
    DoesNotRead (numbers ++ one_4 ++ text_r ++ text_r ++ text_w ++ 5 ∷ []) 34
    × DoesNotRead (numbers ++ six_tables ++ one_4 ++ 8 ∷ []) 52

-- a chunk whose span is empty, and one whose span ends too soon
abbrev pub SpanHasPlace : Type 0
SpanHasPlace =
    DoesNotRead (numbers ++ zero_4 ++ zero_4 ++ one_4 ++ text_w ++ zero_8 ++ zero_8) 38
    × DoesNotRead (numbers ++ zero_4 ++ zero_4 ++ one_4 ++ text_w ++ zero_8 ++ zero_4) 46

-- a publication of code 6 with the day, no ids and no tombstones
abbrev pub NoTombstonesHavePlace : Type 0
NoTombstonesHavePlace = DoesNotRead (numbers ++ six_tables ++ one_4 ++ 6 ∷ text_r ++ text_w ++ one_4 ++ whole_day ++ zero_8 ++ zero_4 ++ zero_4) 89
