-- What the crates above may use besides the contracts: how the header of a file and the whole file agree.
use Rattle.std.proofs.Common.{◌≡◌, inl, inr, ℕ, ◌+◌, ◌^◌, ◌<◌, Bool, true, false, List, [], length, take, drop, get_or, refl, sym, ◌∙◌, ap, arith, length-drop}
use Rattle.std.proofs.lemmas.List.{length-take-le}
use Rattle.gate_log.specs.Format.{Opening, absent, corrupt, opened, opening_of, is_absent, is_corrupt, is_log, says, says_after, log_of, Records, records_at, has_magic, new_file, EndsAt}
use Rattle.gate_log.specs.Log.{Mark, ReadUpTo, HasEnded}
use Rattle.gate_log.specs.Making.{CanBeMade}
use Rattle.gate_log.proofs.Files.{parts, is_opened}
use Rattle.gate_log.proofs.Made.{absent_named, magic_take, says_new as says_new_file, opening_new as opening_new_file}

-- a header that says no log, or a fault, speaks for its file
pub says_absent : (bytes : List ℕ) → opening_of bytes ≡ absent → says bytes ≡ is_absent
says_absent bytes is = ap (λ (o : Opening). says_after o bytes) is

pub says_corrupt : (bytes : List ℕ) (at : ℕ) → opening_of bytes ≡ corrupt at → says bytes ≡ is_corrupt at
says_corrupt bytes at is = ap (λ (o : Opening). says_after o bytes) is

-- no other header says that there is no log
pub opening_absent : (bytes : List ℕ) → says bytes ≡ is_absent → opening_of bytes ≡ absent
opening_absent bytes is = by_header (opening_of bytes) refl is
  where
    by_records : (generation : ℕ) (snapshot : List ℕ) (records : Records) (whole : Bool) → records.is_whole ≡ whole → log_of generation snapshot records ≡ is_absent → ⊥
    by_records generation snapshot records true w is = cc
    by_records generation snapshot records false w is = cc

    by_header : (o : Opening) → opening_of bytes ≡ o → says_after o bytes ≡ is_absent → opening_of bytes ≡ absent
    by_header absent e is = e
    by_header (corrupt at) e is = absurd (cc)
    by_header (opened generation size) e is = absurd (by_records generation (take size (drop 26 bytes)) (records_at bytes (26 + size)) (records_at bytes (26 + size)).is_whole refl is)

-- the header of a log names its generation and the length of its snapshot
pub opening_log : (bytes : List ℕ) (generation : ℕ) (snapshot : List ℕ) (bodies : List (List ℕ)) (place : ℕ) → says bytes ≡ is_log generation snapshot bodies place → opening_of bytes ≡ opened generation (length snapshot)
opening_log bytes generation snapshot bodies place is =
    let p = parts bytes generation snapshot bodies place is in
    let long : 26 + p.size < length bytes = (is_opened (take 26 bytes) (length bytes) generation p.size p.header).long in
    let size : p.size ≡ length snapshot = sym (length-take-le p.size (drop 26 bytes) (omega (arith, length-drop 26 bytes))) ∙ ap length p.snapshot_is in
    p.header ∙ ap (λ (n : ℕ). opened generation n) size

-- a log may be made where the header says that there is none, and where it says one
pub can_over_absent : (bytes : List ℕ) → opening_of bytes ≡ absent → CanBeMade bytes
can_over_absent bytes is = inl (says_absent bytes is)

pub can_over_log : (bytes : List ℕ) (generation size : ℕ) → opening_of bytes ≡ opened generation size → CanBeMade bytes
can_over_log bytes generation size is = inr (sym (magic_take bytes) ∙ (is_opened (take 26 bytes) (length bytes) generation size is).named)

-- A longer file whose gate is neither 0 nor 1, with the name behind it, is absent, whatever its other bytes. So it needs no shutting.
pub says_unsettled : (bytes : List ℕ) → (get_or bytes 0 0 ≡ 1 → ⊥) → has_magic bytes ≡ true → says bytes ≡ is_absent
says_unsettled bytes gate named = absent_named bytes gate named

-- a new file says a log without records
pub says_new : (generation : ℕ) (snapshot : List ℕ) → generation < 2 ^ 64 → length snapshot < 2 ^ 64 → says (new_file generation snapshot) ≡ is_log generation snapshot [] (26 + length snapshot)
says_new generation snapshot fits small = says_new_file generation snapshot fits small

pub opening_new : (generation : ℕ) (snapshot : List ℕ) → generation < 2 ^ 64 → length snapshot < 2 ^ 64 → opening_of (new_file generation snapshot) ≡ opened generation (length snapshot)
opening_new generation snapshot fits small = opening_new_file generation snapshot fits small

-- a log that was read to its end ends at its place
pub ends_at : (bytes : List ℕ) (log : Mark) (bodies : List (List ℕ)) → ReadUpTo bytes log bodies → HasEnded bytes log → EndsAt bytes log.place
ends_at bytes log bodies read ended = record { generation = log.generation; snapshot = take log.snapshot_length (drop 26 bytes); bodies = bodies; is = ended.read bodies read }
