-- A list of files as the bytes of each.
use Rattle.std.proofs.Common.{◌≡◌, ◌<◌, ℕ, Bool, true, List, [], length, take, set, get_or, Vec, sym, ◌∙◌, ap}
use Rattle.std.specs.Prelude.{if◌then◌else◌}
use Rattle.std.proofs.lemmas.List.{map-set, get_or-map, length-map}
use Rattle.std.proofs.Math.Seq.{map-set_same}
use Rattle.std.specs.declared.alloc.Global.{Global}
use Rattle.host_desk.specs.declared.call.Call.{Call}
use Rattle.host_desk.specs.declared.call.Call.TheVariants.{Write, Cut as CutCall}
use Rattle.host_desk.specs.Replay.{items_of, file_of, seen_step, written}

module _ (files : List (Vec ℕ Global)) (file : ℕ) where
  -- a file that is read out of the list
  pub items_of-read : (old : Vec ℕ Global) → old ≡ get_or files file old → file < length files → old.items ≡ file_of (items_of files) file
  items_of-read old is less = ap (λ (v : Vec ℕ Global). v.items) is ∙ sym (get_or-map (λ (v : Vec ℕ Global). v.items) files file old [] less)

  -- a file that is put into the list
  pub items_of-set : (new : Vec ℕ Global) (bytes : List ℕ) → new.items ≡ bytes → items_of (set files file new) ≡ set (items_of files) file bytes
  items_of-set new bytes is = map-set (λ (v : Vec ℕ Global). v.items) files file new ∙ ap (λ (b : List ℕ). set (items_of files) file b) is

  -- a file that is put back as it was
  pub items_of-set_same : (old new : Vec ℕ Global) → old ≡ get_or files file old → new.items ≡ old.items → items_of (set files file new) ≡ items_of files
  items_of-set_same old new is same = map-set_same (λ (v : Vec ℕ Global). v.items) files file new old (same ∙ ap (λ (v : Vec ℕ Global). v.items) is)

  -- what a call that was done made of a file
  pub wrote : (call : Call) (at : ℕ) (bytes : Vec ℕ Global) (done : Bool) (new : Vec ℕ Global) → call ≡ Write file at bytes done → done ≡ true → new.items ≡ written at bytes.items (file_of (items_of files) file) → items_of (set files file new) ≡ seen_step (items_of files) call
  wrote call at bytes done new is was made = items_of-set new (written at bytes.items (file_of (items_of files) file)) made ∙ sym (ap (λ (b : Bool). if b then set (items_of files) file (written at bytes.items (file_of (items_of files) file)) else items_of files) was) ∙ sym (ap (seen_step (items_of files)) is)

  pub made_shorter : (call : Call) (len : ℕ) (done : Bool) (new : Vec ℕ Global) → call ≡ CutCall file len done → done ≡ true → new.items ≡ take len (file_of (items_of files) file) → items_of (set files file new) ≡ seen_step (items_of files) call
  made_shorter call len done new is was made = items_of-set new (take len (file_of (items_of files) file)) made ∙ sym (ap (λ (b : Bool). if b then set (items_of files) file (take len (file_of (items_of files) file)) else items_of files) was) ∙ sym (ap (seen_step (items_of files)) is)

-- as many files as there are lists of bytes
pub length-items_of : (old new : List (Vec ℕ Global)) → items_of new ≡ items_of old → length new ≡ length old
length-items_of old new same = sym (length-map new (λ (v : Vec ℕ Global). v.items)) ∙ ap length same ∙ length-map old (λ (v : Vec ℕ Global). v.items)
