-- Which lists keep a command's form: how long they may be, in which order they stand, and what may repeat.
use Rattle.book_rows.specs.declared.commands.Command.{Command}
use Rattle.book_rows.specs.declared.rows.Range.{Range}
use Rattle.book_rows.specs.declared.rows.Want.{Want}
use Rattle.iv_span.specs.Extent.{Extent}
use Rattle.seg_names.specs.declared.seg_id.SegId.{SegId}
use Rattle.std.specs.Prelude.{List, [], codes, map, replicate, reverse, suc, zero, ℕ, ◌++◌, ◌+◌, ◌∷◌}
use Rattle.scenes.specs.Publishing.{range, ranges_of}
use Rattle.scenes.specs.Asking.{insert_all}
use Rattle.book_rows.specs.Form.{AllKeepForm}
use Rattle.scenes.specs.Script.{v, a, day, hour, id, insert, morning, next_day, now, now1, t, w}
use Rattle.scenes.specs.Bounds.{AreIllFormed, letters}
use Rattle.cases_rules.specs.TaskCases.{wants}
use Rattle.book_rows.specs.declared.commands.Command.TheVariants as Commands
use Rattle.book_rows.specs.declared.kinds.LockKind.TheVariants as LockKinds
use Rattle.book_rows.specs.declared.kinds.TaskKind.TheVariants as TaskKinds

-- ---- wants

abbrev pub wanting_all : List Want → Command
wanting_all list = Commands.Submit a a w TaskKinds.Batch 50 list

-- a task wants at most 64 locks, in any order and also twice
abbrev pub WantsAtMost : Type 0
WantsAtMost =
    AllKeepForm
    (wanting_all (replicate 64 (wants LockKinds.Exclusive day))
    ∷ wanting_all (wants LockKinds.Exclusive next_day ∷ wants LockKinds.Append day ∷ wants LockKinds.Replace hour ∷ [])
    ∷ [])
    × AreIllFormed (wanting_all (replicate 65 (wants LockKinds.Exclusive day)) ∷ [])

-- ---- spans

-- spans stand by start and then by end; they may repeat and overlap
abbrev pub SpansInOrder : Type 0
SpansInOrder =
    AllKeepForm
    (insert_all a (day ∷ day ∷ []) (id day now 0 ∷ []) []
    ∷ insert_all a (morning ∷ day ∷ hour ∷ next_day ∷ []) (id day now 0 ∷ []) []
    ∷ [])
    × AreIllFormed
    (insert_all a (next_day ∷ day ∷ []) (id day now 0 ∷ []) []
    ∷ insert_all a (day ∷ morning ∷ []) (id day now 0 ∷ []) []
    ∷ insert_all a (day ∷ next_day ∷ hour ∷ []) (id day now 0 ∷ []) []
    ∷ [])

-- an insert has at least one span, and at most 4,096
abbrev pub SpansAtMost : Type 0
SpansAtMost =
    AllKeepForm (insert_all a (replicate 4096 day) (id day now 0 ∷ []) [] ∷ [])
    × AreIllFormed (insert_all a (replicate 4097 day) (id day now 0 ∷ []) [] ∷ insert_all a [] (id day now 0 ∷ []) [] ∷ [])

-- ---- ids and tombstones

abbrev pub by_source : List ℕ → Extent → SegId
by_source source span = record { source = source; span = span; version = now; part = 0 }

-- in order: each goes before the next by source, start, end, version or part alone
abbrev pub in_order : List (List SegId)
in_order =
    (by_source v next_day ∷ by_source w day ∷ [])
    ∷ (by_source w next_day ∷ by_source (codes "w0") day ∷ [])
    ∷ (id day now1 1 ∷ id hour now 0 ∷ [])
    ∷ (id morning now1 1 ∷ id day now 0 ∷ [])
    ∷ (id day now 1 ∷ id day now1 0 ∷ [])
    ∷ (id day now 0 ∷ id day now 1 ∷ [])
    ∷ (id day now 9 ∷ id day now 10 ∷ [])
    ∷ []

abbrev pub as_ids : List SegId → Command
as_ids names = insert a day names

abbrev pub as_tombstones : List SegId → Command
as_tombstones names = insert_all a (day ∷ []) [] names

-- ids stand by source, start, end, version and part, and so do tombstones
abbrev pub IdsInOrder : Type 0
IdsInOrder =
    AllKeepForm (map as_ids in_order ++ map as_tombstones in_order)
    × AreIllFormed (map (λ names. as_ids (reverse names)) in_order ++ map (λ names. as_tombstones (reverse names)) in_order)

-- no id is there twice, and no tombstone, but one may be both; an insert has at least one
abbrev pub IdsOnce : Type 0
IdsOnce =
    AllKeepForm (insert_all a (day ∷ []) (id day now 0 ∷ []) (id day now 0 ∷ []) ∷ [])
    × AreIllFormed
    (as_ids (id day now 0 ∷ id day now 0 ∷ [])
    ∷ as_ids (id day now 0 ∷ id day now 1 ∷ id day now 1 ∷ [])
    ∷ as_tombstones (id day now 0 ∷ id day now 0 ∷ [])
    ∷ [])
    × AllKeepForm (as_ids (id day now 0 ∷ []) ∷ as_tombstones (id day now 0 ∷ []) ∷ []) × AreIllFormed (insert_all a (day ∷ []) [] [] ∷ [])

-- so many ids of one day
abbrev pub ids_from : ℕ → ℕ → List SegId
ids_from zero part = []
ids_from (suc n) part = id day now part ∷ ids_from n (part + 1)

-- an insert has at most 4,096 ids, and at most 4,096 tombstones
abbrev pub IdsAtMost : Type 0
IdsAtMost =
    AllKeepForm (as_ids (ids_from 4096 0) ∷ []) × AreIllFormed (as_ids (ids_from 4097 0) ∷ [])
    × AllKeepForm (as_tombstones (ids_from 4096 0) ∷ []) × AreIllFormed (as_tombstones (ids_from 4097 0) ∷ [])

-- ---- ranges

abbrev pub reading : List ℕ → List Range → Command
reading stream parts = Commands.Insert a (day ∷ []) (id day now 0 ∷ []) [] (ranges_of stream parts)

-- ranges have a name as stream, and at least one partition; partitions ascend
abbrev pub RangesInOrder : Type 0
RangesInOrder =
    AllKeepForm (reading t (range 0 0 10 ∷ []) ∷ reading (letters 200) (range 1 0 10 ∷ range 3 0 10 ∷ []) ∷ [])
    × AreIllFormed
    (reading t []
    ∷ reading t (range 1 0 10 ∷ range 0 0 10 ∷ [])
    ∷ reading t (range 1 0 10 ∷ range 1 10 20 ∷ [])
    ∷ reading [] (range 0 0 10 ∷ [])
    ∷ reading (letters 201) (range 0 0 10 ∷ [])
    ∷ reading (codes "a:b") (range 0 0 10 ∷ [])
    ∷ [])

-- partitions have 31 bits, and offsets 63; a range that ends before it starts keeps the form
abbrev pub RangeNumbers : Type 0
RangeNumbers =
    AllKeepForm
    (reading t (range 2147483647 0 10 ∷ [])
    ∷ reading t (range 0 9223372036854775807 9223372036854775807 ∷ [])
    ∷ reading t (range 0 10 0 ∷ [])
    ∷ [])
    × AreIllFormed
    (reading t (range 2147483648 0 10 ∷ [])
    ∷ reading t (range 0 0 9223372036854775808 ∷ [])
    ∷ reading t (range 0 9223372036854775808 9223372036854775808 ∷ [])
    ∷ [])

abbrev pub reads_from : ℕ → ℕ → List Range
reads_from zero partition = []
reads_from (suc n) partition = range partition 0 10 ∷ reads_from n (partition + 1)

-- at most 4,096 partitions
abbrev pub RangesAtMost : Type 0
RangesAtMost = AllKeepForm (reading t (reads_from 4096 0) ∷ []) × AreIllFormed (reading t (reads_from 4097 0) ∷ [])
