-- What a stop leaves after some calls, a call at a time.
use Rattle.std.proofs.Common.{◌≡◌, ◌<◌, ◌≤◌, ◌+◌, ◌-◌, ℕ, Bool, true, List, [], ◌∷◌, ◌++◌, length, take, set, replicate, Vec, Option, Some, refl, sym, ◌∙◌, ap, arith, length-append, append_assoc, drop, get_or}
use Rattle.std.specs.Prelude.{if◌then◌else◌}
use Rattle.std.proofs.lemmas.List.{take_more, append-nil, take-append-drop}
use Rattle.std.specs.declared.alloc.Global.{Global}
use Rattle.host_desk.specs.declared.call.Call.{Call}
use Rattle.host_desk.specs.declared.call.Call.TheVariants.{Write, Cut as CutCall, Sync, Say, Look}
use Rattle.host_desk.specs.Replay.{Disk, items_of, file_of, written, torn, left_by, left_after, said_step, step, run}
use Rattle.host_desk.specs.ReplayLaws.{run_push}
use Rattle.host_desk.proofs.FileLists.{items_of-set}

module _ (files : List (Vec ℕ Global)) (file : ℕ) (call : Call) (new : Vec ℕ Global) where
  -- what a write, a cut and a sync leave of a file
  pub tore_write : (byte at : ℕ) (bytes : Vec ℕ Global) (done : Bool) → call ≡ Write file at bytes done → new.items ≡ written at (replicate (length bytes.items) byte) (file_of (items_of files) file) → items_of (set files file new) ≡ torn (Some byte) (items_of files) call
  tore_write byte at bytes done is made = items_of-set files file new (written at (replicate (length bytes.items) byte) (file_of (items_of files) file)) made ∙ sym (ap (torn (Some byte) (items_of files)) is)

  pub tore_cut : (byte len : ℕ) (done : Bool) → call ≡ CutCall file len done → new.items ≡ written len (replicate (length (file_of (items_of files) file) - len) byte) (file_of (items_of files) file) → items_of (set files file new) ≡ torn (Some byte) (items_of files) call
  tore_cut byte len done is made = items_of-set files file new (written len (replicate (length (file_of (items_of files) file) - len) byte) (file_of (items_of files) file)) made ∙ sym (ap (torn (Some byte) (items_of files)) is)

  pub settled : (fill : Option ℕ) (seen : List (List ℕ)) (done : Bool) → call ≡ Sync file done → done ≡ true → new.items ≡ file_of seen file → items_of (set files file new) ≡ left_by fill seen (items_of files) call
  settled fill seen done is was made = items_of-set files file new (file_of seen file) made ∙ sym (ap (λ (b : Bool). if b then set (items_of files) file (file_of seen file) else items_of files) was) ∙ sym (ap (left_by fill seen (items_of files)) is)

-- one call more
pub left_push : (fill : Option ℕ) (d : Disk) (left : List (List ℕ)) (calls : List Call) (call : Call) → left_after fill d left (calls ++ call ∷ []) ≡ left_by fill (run d calls).seen (left_after fill d left calls) call
left_push fill d left [] call = refl
left_push fill d left (c ∷ calls) call = left_push fill (step d c) (left_by fill d.seen left c) calls call

-- what a call says comes after what was said
pub length-said_step : (said : List ℕ) (call : Call) → length (said_step said call) ≡ length said + length (said_step [] call)
length-said_step said (Write file at bytes done) = omega arith
length-said_step said (CutCall file len done) = omega arith
length-said_step said (Sync file done) = omega arith
length-said_step said (Say bytes) = length-append said bytes.items
length-said_step said Look = omega arith

-- what a run of calls says comes after what was said
pub said_rest : (s : Disk) (calls : List Call) → (rest : List ℕ) × ((run s calls).said ≡ s.said ++ rest)
said_rest s [] = ([], sym (append-nil s.said))
said_rest s (call ∷ calls) = let piece = said_piece s.said call in let more = said_rest (step s call) calls in (piece.0 ++ more.0, more.1 ∙ ap (λ (l : List ℕ). l ++ more.0) piece.1 ∙ append_assoc s.said piece.0 more.0)
  where
    said_piece : (said : List ℕ) (c : Call) → (rest : List ℕ) × (said_step said c ≡ said ++ rest)
    said_piece said (Write file at bytes done) = ([], sym (append-nil said))
    said_piece said (CutCall file len done) = ([], sym (append-nil said))
    said_piece said (Sync file done) = ([], sym (append-nil said))
    said_piece said (Say bytes) = (bytes.items, refl)
    said_piece said Look = ([], sym (append-nil said))

pub run_append : (s : Disk) (calls more : List Call) → run s (calls ++ more) ≡ run (run s calls) more
run_append s [] more = refl
run_append s (call ∷ calls) more = run_append (step s call) calls more

-- what was said at a moment is the front of what was said later
pub said_front : (s : Disk) (calls : List Call) (i : ℕ) → (rest : List ℕ) × ((run s calls).said ≡ (run s (take i calls)).said ++ rest)
said_front s calls i = let more = said_rest (run s (take i calls)) (drop i calls) in (more.0, ap (λ (l : List Call). (run s l).said) (sym (take-append-drop i calls)) ∙ ap (λ (d : Disk). d.said) (run_append s (take i calls) (drop i calls)) ∙ more.1)

pub said_within : (s : Disk) (calls : List Call) (i : ℕ) → length (run s (take i calls)).said ≤ length (run s calls).said
said_within s calls i = let front = said_front s calls i in omega (arith, ap length front.1, length-append (run s (take i calls)).said front.0)

-- one call more of a list of calls
module _ (calls : List Call) (i : ℕ) (call : Call) (less : i < length calls) (is : call ≡ get_or calls i call) where
  pub take_call : take (i + 1) calls ≡ take i calls ++ call ∷ []
  take_call = take_more calls i call less ∙ ap (λ (c : Call). take i calls ++ c ∷ []) (sym is)

  pub run_call : (s : Disk) → run s (take (i + 1) calls) ≡ step (run s (take i calls)) call
  run_call s = ap (run s) take_call ∙ run_push s (take i calls) call

  pub left_call : (fill : Option ℕ) (s : Disk) (left : List (List ℕ)) → left_after fill s left (take (i + 1) calls) ≡ left_by fill (run s (take i calls)).seen (left_after fill s left (take i calls)) call
  left_call fill s left = ap (left_after fill s left) take_call ∙ left_push fill s left (take i calls) call

  pub said_call : (s : Disk) → length (run s (take (i + 1) calls)).said ≡ length (run s (take i calls)).said + length (said_step [] call)
  said_call s = ap (λ (d : Disk). length d.said) (run_call s) ∙ length-said_step (run s (take i calls)).said call

  -- what is said with this call fits where all that is said fits
  pub said_fits : (s : Disk) (said bound : ℕ) → said ≡ length (run s (take i calls)).said → length (run s calls).said < bound → said + length (said_step [] call) < bound
  said_fits s said bound is fits = omega (arith, said_call s, said_within s calls (i + 1))
