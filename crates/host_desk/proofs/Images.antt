-- What a stop is picked to leave is one of the outcomes of the disk.
use Rattle.std.proofs.Common.{◌≡◌, ◌⊎◌, inl, inr, ◌<◌, ◌≤◌, ◌+◌, ◌-◌, ℕ, Bool, true, false, List, [], ◌∷◌, ◌++◌, length, take, drop, set, get_or, replicate, Vec, Option, Some, None, refl, sym, ◌∙◌, ap, subst, ⊎_elim, arith}
use Rattle.std.specs.Prelude.{if◌then◌else◌, MatchBool, nat_le}
use Rattle.std.proofs.lemmas.Bool.{cases_eq, cases_lt, cases_Bool, eq-eqb, ne_eqb, leb-true}
use Rattle.std.proofs.lemmas.List.{length-replicate, get_or-set_same, get_or-set_other, set_past, get_or_past, length-set, length-map, take_at}
use Rattle.std.specs.declared.alloc.Global.{Global}
use Rattle.host_desk.specs.Desk.{Torn, Cut}
use Rattle.host_desk.specs.declared.call.Call.{Call}
use Rattle.host_desk.specs.declared.call.Call.TheVariants.{Write, Cut as CutCall, Sync, Say, Look}
use Rattle.host_desk.specs.declared.stop.Pick.{Pick}
use Rattle.host_desk.specs.declared.stop.Image.{Image}
use Rattle.host_desk.specs.Image.{IsPicked}
use Rattle.host_desk.specs.Replay.{Disk, items_of, file_of, written, torn, left_by, left_after, step, run, start, WasLeft}
use Rattle.host_desk.specs.ReplayLaws.{reads_one, reads_now, torn_same, torn_done, cut_same, length_step}
use Rattle.host_desk.specs.Picked.{disk_after, settled_after, filled_after, picked_files, picked_said}
use Rattle.host_desk.proofs.Stops.{said_front, run_call}

-- these files are among the outcomes of the disk
abbrev pub Leaves : Disk → List (List ℕ) → Type 0
Leaves d left = (i : ℕ) → d.left i (file_of left i)

-- the disk with these files in the place of what a read gives
abbrev with_files : Disk → List (List ℕ) → Disk
with_files d left = record { seen = left; said = d.said; left = d.left }

torn_filled : (at n byte : ℕ) (old : List ℕ) → Torn at n old (written at (replicate n byte) old)
torn_filled at n byte old = subst (λ (m : ℕ). Torn at m old (written at (replicate n byte) old)) (length-replicate n byte) (torn_done at (replicate n byte) old)

abbrev filled_past : ℕ → ℕ → List ℕ → Bool → List ℕ
filled_past len byte old b = if b then take len old ++ replicate (length old - len) byte ++ drop (len + length (replicate (length old - len) byte)) old else old

cut_filled : (len byte : ℕ) (old : List ℕ) → Cut len old (written len (replicate (length old - len) byte) old)
cut_filled len byte old = by_place (cases_Bool (nat_le len (length old)))
  where
    by_place : (nat_le len (length old) ≡ true) ⊎ (nat_le len (length old) ≡ false) → Cut len old (written len (replicate (length old - len) byte) old)
    by_place (inr not) = subst (λ (b : Bool). Cut len old (filled_past len byte old b)) (sym not) (cut_same len old)
    by_place (inl is) =
        let le : len ≤ length old = leb-true len (length old) is in
        let torn_one = torn_filled len (length old - len) byte old in
        let short : length (filled_past len byte old true) ≤ length old = omega (arith, ap (λ (b : Bool). length (filled_past len byte old b)) is, torn_one.no_longer) in
        subst (λ (b : Bool). Cut len old (filled_past len byte old b)) (sym is) (record { before = ap (λ (b : Bool). take len (filled_past len byte old b)) (sym is) ∙ torn_one.before; no_longer = short })

module _ (d : Disk) (left : List (List ℕ)) (leaves : Leaves d left) where
  wrote : (byte file at : ℕ) (bytes : Vec ℕ Global) (done : Bool) → Leaves (step d (Write file at bytes done)) (torn (Some byte) left (Write file at bytes done))
  wrote byte file at bytes done = reads_one (with_files d left) file (Torn at (length bytes.items)) true (written at (replicate (length bytes.items) byte) (file_of left file)) (torn_same at (length bytes.items)) (torn_filled at (length bytes.items) byte (file_of left file)) leaves

  wrote_none : (file at : ℕ) (bytes : Vec ℕ Global) (done : Bool) → Leaves (step d (Write file at bytes done)) left
  wrote_none file at bytes done = reads_one (with_files d left) file (Torn at (length bytes.items)) false (file_of left file) (torn_same at (length bytes.items)) (torn_same at (length bytes.items) (file_of left file)) leaves

  made_shorter : (byte file len : ℕ) (done : Bool) → Leaves (step d (CutCall file len done)) (torn (Some byte) left (CutCall file len done))
  made_shorter byte file len done = reads_one (with_files d left) file (Cut len) true (written len (replicate (length (file_of left file) - len) byte) (file_of left file)) (cut_same len) (cut_filled len byte (file_of left file)) leaves

  made_shorter_none : (file len : ℕ) (done : Bool) → Leaves (step d (CutCall file len done)) left
  made_shorter_none file len done = reads_one (with_files d left) file (Cut len) false (file_of left file) (cut_same len) (cut_same len (file_of left file)) leaves

  settled : (same : length left ≡ length d.seen) (fill : Option ℕ) (file : ℕ) (done : Bool) → Leaves (step d (Sync file done)) (left_by fill d.seen left (Sync file done))
  settled same fill file false i = leaves i
  settled same fill file true i = elim (cases_eq i file) [
    | inl is ↦ subst (λ (b : Bool). MatchBool b (file_of (set left file (file_of d.seen file)) i ≡ file_of d.seen file) (d.left i (file_of (set left file (file_of d.seen file)) i))) (sym (eq-eqb i file is)) (ap (λ (j : ℕ). file_of (set left file (file_of d.seen file)) j) is ∙ there)
    | inr other ↦ subst (λ (b : Bool). MatchBool b (file_of (set left file (file_of d.seen file)) i ≡ file_of d.seen file) (d.left i (file_of (set left file (file_of d.seen file)) i))) (sym (ne_eqb i file other)) (subst (λ (c : List ℕ). d.left i c) (sym (get_or-set_other left file i (file_of d.seen file) [] other)) (leaves i))
  ]
    where
      there : file_of (set left file (file_of d.seen file)) file ≡ file_of d.seen file
      there = ⊎_elim (λ less. get_or-set_same left file (file_of d.seen file) [] less) (λ past. ap (λ (l : List (List ℕ)). file_of l file) (set_past left file (file_of d.seen file) past) ∙ get_or_past left file [] past ∙ sym (get_or_past d.seen file [] (omega arith))) (cases_lt file (length left))

  -- after one call more
  leaves_step : (same : length left ≡ length d.seen) (fill : Option ℕ) (call : Call) → Leaves (step d call) (left_by fill d.seen left call)
  leaves_step same None (Write file at bytes done) = wrote_none file at bytes done
  leaves_step same (Some byte) (Write file at bytes done) = wrote byte file at bytes done
  leaves_step same None (CutCall file len done) = made_shorter_none file len done
  leaves_step same (Some byte) (CutCall file len done) = made_shorter byte file len done
  leaves_step same fill (Sync file done) = settled same fill file done
  leaves_step same fill (Say bytes) = leaves
  leaves_step same fill Look = leaves

-- as many files as before
pub length-torn : (fill : Option ℕ) (left : List (List ℕ)) (call : Call) → length (torn fill left call) ≡ length left
length-torn None left call = refl
length-torn (Some byte) left (Write file at bytes done) = length-set left file (written at (replicate (length bytes.items) byte) (file_of left file))
length-torn (Some byte) left (CutCall file len done) = length-set left file (written len (replicate (length (file_of left file) - len) byte) (file_of left file))
length-torn (Some byte) left (Sync file done) = refl
length-torn (Some byte) left (Say bytes) = refl
length-torn (Some byte) left Look = refl

length-left_by : (fill : Option ℕ) (seen left : List (List ℕ)) (call : Call) → length (left_by fill seen left call) ≡ length left
length-left_by fill seen left (Write file at bytes done) = length-torn fill left (Write file at bytes done)
length-left_by fill seen left (CutCall file len done) = length-torn fill left (CutCall file len done)
length-left_by fill seen left (Sync file true) = length-set left file (file_of seen file)
length-left_by fill seen left (Sync file false) = refl
length-left_by fill seen left (Say bytes) = refl
length-left_by fill seen left Look = refl

pub length-left_after : (fill : Option ℕ) (d : Disk) (left : List (List ℕ)) (calls : List Call) → length (left_after fill d left calls) ≡ length left
length-left_after fill d left [] = refl
length-left_after fill d left (call ∷ calls) = length-left_after fill (step d call) (left_by fill d.seen left call) calls ∙ length-left_by fill d.seen left call

pub length-run : (d : Disk) (calls : List Call) → length (run d calls).seen ≡ length d.seen
length-run d [] = refl
length-run d (call ∷ calls) = length-run (step d call) calls ∙ length_step d.seen call

-- after any calls
pub leaves_after : (fill : Option ℕ) (d : Disk) (left : List (List ℕ)) (calls : List Call) → length left ≡ length d.seen → Leaves d left → Leaves (run d calls) (left_after fill d left calls)
leaves_after fill d left [] same leaves = leaves
leaves_after fill d left (call ∷ calls) same leaves = leaves_after fill (step d call) (left_by fill d.seen left call) calls (length-left_by fill d.seen left call ∙ same ∙ sym (length_step d.seen call)) (leaves_step d left leaves same fill call)

-- a stop within a call of these
module _ (first : List (List ℕ)) (calls : List Call) (number : ℕ) (call : Call) (less : number < length calls) (is : call ≡ get_or calls number call) where
  -- what the disk leaves at a moment from the call on
  observed_at : (moment : ℕ) → number ≤ moment → moment ≤ length calls → (count : ℕ) (files : List (List ℕ)) → count ≡ length (disk_after first calls moment).said → Leaves (disk_after first calls moment) files → WasLeft first calls number (take count (run (start first) calls).said) (λ i. file_of files i)
  observed_at moment from to count files same leaves =
      let front = said_front (start first) calls moment in
      (moment, from, to, record { told = ap (λ (l : List ℕ). take count l) front.1 ∙ take_at (disk_after first calls moment).said front.0 count (sym same); each = λ i four. leaves i })

  pub observed_settled : (count : ℕ) (files : List (List ℕ)) → count ≡ length (disk_after first calls number).said → files ≡ settled_after first calls number → WasLeft first calls number (take count (run (start first) calls).said) (λ i. file_of files i)
  observed_settled count files same are = observed_at number (omega arith) (omega arith) count files same (subst (λ (l : List (List ℕ)). Leaves (disk_after first calls number) l) (sym are) (leaves_after None (start first) first (take number calls) refl (λ i. refl)))

  pub observed_seen : (count : ℕ) (files : List (List ℕ)) → count ≡ length (disk_after first calls (number + 1)).said → files ≡ (disk_after first calls (number + 1)).seen → WasLeft first calls number (take count (run (start first) calls).said) (λ i. file_of files i)
  observed_seen count files same are = observed_at (number + 1) (omega arith) (omega arith) count files same (subst (λ (l : List (List ℕ)). Leaves (disk_after first calls (number + 1)) l) (sym are) (λ i. reads_now first (take (number + 1) calls) i))

  module _ (byte : ℕ) where
    abbrev filled : List (List ℕ)
    filled = filled_after byte first calls number

    leaves_filled : Leaves (disk_after first calls number) filled
    leaves_filled = leaves_after (Some byte) (start first) first (take number calls) refl (λ i. refl)

    same_count : length filled ≡ length (disk_after first calls number).seen
    same_count = length-left_after (Some byte) (start first) first (take number calls) ∙ sym (length-run (start first) (take number calls))

    -- after a call that changes what is left, or before a sync
    later : (count : ℕ) (c : Call) → disk_after first calls (number + 1) ≡ step (disk_after first calls number) c → torn (Some byte) filled c ≡ left_by (Some byte) (disk_after first calls number).seen filled c → count ≡ length (disk_after first calls (number + 1)).said → WasLeft first calls number (take count (run (start first) calls).said) (λ i. file_of (torn (Some byte) filled c) i)
    later count c stepped alike same = observed_at (number + 1) (omega arith) (omega arith) count (torn (Some byte) filled c) same (subst (λ (l : List (List ℕ)). Leaves (disk_after first calls (number + 1)) l) (sym alike) (subst (λ (d : Disk). Leaves d (left_by (Some byte) (disk_after first calls number).seen filled c)) (sym stepped) (leaves_step (disk_after first calls number) filled leaves_filled same_count (Some byte) c)))

    by_call : (count : ℕ) (c : Call) → disk_after first calls (number + 1) ≡ step (disk_after first calls number) c → count ≡ length (disk_after first calls (number + 1)).said → WasLeft first calls number (take count (run (start first) calls).said) (λ i. file_of (torn (Some byte) filled c) i)
    by_call count (Write file at bytes done) stepped same = later count (Write file at bytes done) stepped refl same
    by_call count (CutCall file len done) stepped same = later count (CutCall file len done) stepped refl same
    by_call count (Sync file done) stepped same = observed_at number (omega arith) (omega arith) count filled (same ∙ ap (λ (d : Disk). length d.said) stepped) leaves_filled
    by_call count (Say bytes) stepped same = later count (Say bytes) stepped refl same
    by_call count Look stepped same = later count Look stepped refl same

    pub observed_filled : (count : ℕ) (files : List (List ℕ)) → count ≡ length (disk_after first calls (number + 1)).said → files ≡ torn (Some byte) filled call → WasLeft first calls number (take count (run (start first) calls).said) (λ i. file_of files i)
    observed_filled count files same are = subst (λ (l : List (List ℕ)). WasLeft first calls number (take count (run (start first) calls).said) (λ i. file_of l i)) (sym are) (by_call count call (run_call calls number call less is (start first)) same)

  -- the image of a pick
  pub picked_by : (pick p : Pick) (image : Image) → pick ≡ p → items_of image.files.items ≡ picked_files p first calls number → image.said ≡ length (picked_said p first calls number) → IsPicked pick first calls number image
  picked_by pick p image same files said = subst (λ (q : Pick). IsPicked q first calls number image) (sym same) (record { files = files; said = said })

-- as many files as at first
pub four_left : (fill : Option ℕ) (first files : List (Vec ℕ Global)) (calls : List Call) → length first ≡ 4 → items_of files ≡ left_after fill (start (items_of first)) (items_of first) calls → length files ≡ 4
four_left fill first files calls four are = sym (length-map files (λ (v : Vec ℕ Global). v.items)) ∙ ap length are ∙ length-left_after fill (start (items_of first)) (items_of first) calls ∙ length-map first (λ (v : Vec ℕ Global). v.items) ∙ four

pub four_seen : (first files : List (Vec ℕ Global)) (calls : List Call) → length first ≡ 4 → items_of files ≡ (run (start (items_of first)) calls).seen → length files ≡ 4
four_seen first files calls four are = sym (length-map files (λ (v : Vec ℕ Global). v.items)) ∙ ap length are ∙ length-run (start (items_of first)) calls ∙ length-map first (λ (v : Vec ℕ Global). v.items) ∙ four

-- as many at first as there are now
pub four_first : (first files : List (Vec ℕ Global)) (calls : List Call) → length files ≡ 4 → items_of files ≡ (run (start (items_of first)) calls).seen → length first ≡ 4
four_first first files calls four are = sym (length-map first (λ (v : Vec ℕ Global). v.items)) ∙ sym (length-run (start (items_of first)) calls) ∙ sym (ap length are) ∙ length-map files (λ (v : Vec ℕ Global). v.items) ∙ four

pub four_torn : (byte : ℕ) (first files : List (Vec ℕ Global)) (calls : List Call) (call : Call) → length first ≡ 4 → items_of files ≡ torn (Some byte) (left_after (Some byte) (start (items_of first)) (items_of first) calls) call → length files ≡ 4
four_torn byte first files calls call four are = sym (length-map files (λ (v : Vec ℕ Global). v.items)) ∙ ap length are ∙ length-torn (Some byte) (left_after (Some byte) (start (items_of first)) (items_of first) calls) call ∙ length-left_after (Some byte) (start (items_of first)) (items_of first) calls ∙ length-map first (λ (v : Vec ℕ Global). v.items) ∙ four
