-- The ids of a sequence's replicas are ids of tasks.
use Rattle.std.proofs.Common.{◌≡◌, ℕ, suc, zero, ◌+◌, ◌<◌, ◌≤◌, ◌^◌, true, List, map, refl, arith}
use Rattle.std.specs.List.{list_all, range_with_len}
use Rattle.std.proofs.lemmas.Bool.{and_from}
use Rattle.seg_names.specs.Names.{is_name, is_task_id}
use Rattle.book_rows.specs.Names.{replica_name, sequence_name}
use Rattle.book_rows.specs.Ticks.{replicas_of}
use Rattle.laws_sequences.proofs.ReplicaTexts.{replica_is_id}

replicas_from : (s : List ℕ) (g i a n : ℕ) → is_name s ≡ true → g < 10 ^ 4 → i < 10 ^ 10 → a + n ≤ 16 → list_all is_task_id (map (replica_name (sequence_name s g i)) (range_with_len a n)) ≡ true
replicas_from s g i a zero name gs is few = refl
replicas_from s g i a (suc n) name gs is few =
    and_from (is_task_id (replica_name (sequence_name s g i) a)) (list_all is_task_id (map (replica_name (sequence_name s g i)) (range_with_len (a + 1) n))) (replica_is_id s g i a name gs is (omega arith)) (replicas_from s g i (a + 1) n name gs is (omega arith))

pub replicas_fit : (s : List ℕ) (g i n : ℕ) → is_name s ≡ true → g < 10 ^ 4 → i < 10 ^ 10 → n ≤ 16 → list_all is_task_id (replicas_of (sequence_name s g i) n) ≡ true
replicas_fit s g i n name gs is few = replicas_from s g i 0 n name gs is (omega arith)
