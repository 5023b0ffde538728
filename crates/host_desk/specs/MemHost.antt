-- A host in memory, as its contracts see it.
use Rattle.std.specs.Prelude.{◌≡◌, ◌<◌, ◌≤◌, ◌⊎◌, ℕ, List, length, Contains, IsSomeAnd, Option, String, string_bytes, option_map}
use Rattle.std.specs.declared.alloc.Global.{Global}
use Rattle.host_desk.specs.declared.memory.MemHost.{MemHost}
use Rattle.host_desk.specs.declared.stop.Pick.{Pick}
use Rattle.host_desk.specs.declared.stop.Image.{Image}
use Rattle.host_desk.specs.Desk.{Desk, Rose}
use Rattle.host_desk.specs.Image.{IsPicked}
use Rattle.host_desk.specs.Replay.{items_of}
use Rattle.host_desk.specs.ReplayLaws.{desk_of, opened_of}

-- The bytes of a name.
abbrev pub name_of : Option (String Global) → Option (List ℕ)
name_of name = option_map string_bytes name

-- What is known of the host: what its calls made of the files that it had at first.
abbrev pub desk_now : MemHost → Desk
desk_now host = desk_of (opened_of (name_of host.first_name) (name_of host.second_name)) (items_of host.first.items) host.calls.items host.store_faults host.say_faults

-- The image is what the pick says of the call of this number.
abbrev pub IsImage : MemHost → ℕ → Pick → Image → Type 0
IsImage host number pick image = IsPicked pick (items_of host.first.items) host.calls.items number image

-- The call of this number was named to fail.
abbrev pub IsNamed : MemHost → ℕ → Type 0
IsNamed host number = Contains host.failing.items number ⊎ IsSomeAnd host.failing_from (λ first. first ≤ number)

-- How many calls failed for want of memory.
abbrev pub short_count : MemHost → ℕ
short_count host = host.short

-- How many bytes one `say` takes at most.
abbrev pub most_taken : MemHost → ℕ
most_taken host = host.most

-- Which calls are named to fail, and how much one `say` takes, is as it was.
pub record KeepsPlan (old new : MemHost) : Type 0 where
  pub failing : new.failing.items ≡ old.failing.items
  pub failing_from : new.failing_from ≡ old.failing_from
  pub most : new.most ≡ old.most

-- The call may fail: it was named to, or it found no memory, and the count of those calls rose.
abbrev pub IsExcused : MemHost → MemHost → Type 0
IsExcused old new = IsNamed old (length old.calls.items) ⊎ Rose old.short new.short

-- The count of faults of the calls on files is as it was, or this call may fail. The other count is as it was.
pub record StoreIsQuiet (old new : MemHost) : Type 0 where
  pub store : (new.store_faults ≡ old.store_faults) ⊎ IsExcused old new
  pub say : new.say_faults ≡ old.say_faults

-- The count of faults of `say` is as it was, or this call may fail, or it may take nothing of a piece that isn't empty.
-- The other count is as it was.
pub record SayIsQuiet (old new : MemHost) (piece : List ℕ) : Type 0 where
  pub say : (new.say_faults ≡ old.say_faults) ⊎ (IsExcused old new ⊎ ((old.most ≡ 0) × (0 < length piece)))
  pub store : new.store_faults ≡ old.store_faults
