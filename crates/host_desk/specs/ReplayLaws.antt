-- A replayed disk keeps the rules of the disk.
use Rattle.std.proofs.Common.{◌≡◌, ◌≢◌, ◌⊎◌, ◌↔◌, inl, inr, ⊎_elim, ℕ, ◌+◌, ◌<◌, ◌≤◌, Bool, true, false, List, [], ◌∷◌, ◌++◌, length, take, drop, set, refl, sym, ◌∙◌, ap, subst, arith, length-append, append_assoc}
use Rattle.std.specs.Prelude.{nat_le, ◌==◌, ◌&&◌, if◌then◌else◌, MatchBool, Vec, Option, None}
use Rattle.std.proofs.lemmas.Bool.{MatchBool-at_true, MatchBool-at_false, cases_eq, cases_lt, eq-eqb, ne_eqb, le-leb, leb-true, cases_Bool, and_right, and_parts, eqb-true}
use Rattle.std.proofs.lemmas.List.{take-append-le, take_all, take_at, drop_at, get_or-set_same, get_or-set_other, set_past, length-take-le, length-drop, take-take, length-take, length-set, length-map}
use Rattle.std.specs.declared.alloc.Global.{Global}
use Rattle.host_desk.specs.Desk.{Desk, Torn, Cut, Same, Holds, Elapses, IsNow, Changes, Stays, Says}
use Rattle.host_desk.specs.declared.call.Call.{Call}
use Rattle.host_desk.specs.declared.call.Call.TheVariants.{Write, Cut as CutCall, Sync, Say, Look}
use Rattle.host_desk.specs.Replay.{Disk, start, file_of, items_of, written, seen_step, left_step, goes_by, said_step, step, run, IsLeft, WasLeft, AddsSay}

-- The host that these calls made.
abbrev pub desk_of : (ℕ → Option (List ℕ)) → List (List ℕ) → List Call → ℕ → ℕ → Desk
desk_of opened first calls store say = record {
  opened = opened;
  seen = λ i. file_of (run (start first) calls).seen i;
  said = (run (start first) calls).said;
  left = (run (start first) calls).left;
  trusted = λ i. true;
  moment = length calls;
  observed = λ t said files. WasLeft first calls t said files;
  store_faults = store;
  say_faults = say;
}

pub run_push : (d : Disk) (calls : List Call) (call : Call) → run d (calls ++ call ∷ []) ≡ step (run d calls) call
run_push d [] call = refl
run_push d (c ∷ calls) call = run_push (step d c) calls call

-- One step of a disk, in which one file goes by a step.
pub record StepChanges (rel : List ℕ → List ℕ → Type 0) (file : ℕ) (old new : Disk) : Type 0 where
  pub this : (c : List ℕ) → new.left file c → (d : List ℕ) × old.left file d × rel d c
  pub others_seen : (i : ℕ) → i ≢ file → file_of new.seen i ≡ file_of old.seen i
  pub others_left : (i : ℕ) (c : List ℕ) → i ≢ file → new.left i c ↔ old.left i c
  pub said : new.said ≡ old.said

one_other : (d : Disk) (file : ℕ) (rel : List ℕ → List ℕ → Type 0) (i : ℕ) (c : List ℕ) → i ≢ file → goes_by rel file d.left i c ↔ d.left i c
one_other d file rel i c other = (
  λ x. MatchBool-at_false {b = i == file} ((e : List ℕ) × d.left file e × rel e c) (d.left i c) (ne_eqb i file other) x,
  λ x. subst (λ b. MatchBool b ((e : List ℕ) × d.left file e × rel e c) (d.left i c)) (sym (ne_eqb i file other)) x,
)

one_this : (d : Disk) (file : ℕ) (rel : List ℕ → List ℕ → Type 0) (c : List ℕ) → goes_by rel file d.left file c → (e : List ℕ) × d.left file e × rel e c
one_this d file rel c x = MatchBool-at_true {b = file == file} ((e : List ℕ) × d.left file e × rel e c) (d.left file c) (eq-eqb file file refl) x

set_other : (done : Bool) (files : List (List ℕ)) (file i : ℕ) (new : List ℕ) → i ≢ file → file_of (if done then set files file new else files) i ≡ file_of files i
set_other true files file i new other = get_or-set_other files file i new [] other
set_other false files file i new other = refl

pub step_write : (d : Disk) (file at : ℕ) (bytes : Vec ℕ Global) (done : Bool) → StepChanges (Torn at (length bytes.items)) file d (step d (Write file at bytes done))
step_write d file at bytes done = record {
  this = λ c x. one_this d file (Torn at (length bytes.items)) c x;
  others_seen = λ i other. set_other done d.seen file i (written at bytes.items (file_of d.seen file)) other;
  others_left = λ i c other. one_other d file (Torn at (length bytes.items)) i c other;
  said = refl;
}

pub step_cut : (d : Disk) (file len : ℕ) (done : Bool) → StepChanges (Cut len) file d (step d (CutCall file len done))
step_cut d file len done = record {
  this = λ c x. one_this d file (Cut len) c x;
  others_seen = λ i other. set_other done d.seen file i (take len (file_of d.seen file)) other;
  others_left = λ i c other. one_other d file (Cut len) i c other;
  said = refl;
}

-- What stands there may be left.
abbrev pub Reads : Disk → Type 0
Reads d = (i : ℕ) → d.left i (file_of d.seen i)

pub torn_same : (at n : ℕ) (c : List ℕ) → Torn at n c c
torn_same at n c = record { before = refl; after = refl; no_shorter = omega arith; no_longer = omega arith }

pub torn_done : (at : ℕ) (bytes old : List ℕ) → Torn at (length bytes) old (written at bytes old)
torn_done at bytes old = by_place (cases_Bool (nat_le at (length old)))
  where
    inside : nat_le at (length old) ≡ true → Torn at (length bytes) old (take at old ++ bytes ++ drop (at + length bytes) old)
    inside is =
        let le : at ≤ length old = leb-true at (length old) is in
        let front : length (take at old) ≡ at = length-take-le at old le in
        let rest = bytes ++ drop (at + length bytes) old in
        let split : take at old ++ bytes ++ drop (at + length bytes) old ≡ take at old ++ rest = append_assoc (take at old) bytes (drop (at + length bytes) old) in
        let both : length (take at old ++ bytes) ≡ at + length bytes = omega (arith, length-append (take at old) bytes) in
        let size : length (take at old ++ bytes ++ drop (at + length bytes) old) ≡ at + length bytes + length (drop (at + length bytes) old) = omega (arith, length-append (take at old ++ bytes) (drop (at + length bytes) old)) in
        record {
          before = ap (λ (l : List ℕ). take at l) split ∙ take_at (take at old) rest at front;
          after = drop_at (take at old ++ bytes) (drop (at + length bytes) old) (at + length bytes) both;
          no_shorter = omega (arith, size, length-drop (at + length bytes) old);
          no_longer = omega (arith, size, length-drop (at + length bytes) old);
        }

    by_place : (nat_le at (length old) ≡ true) ⊎ (nat_le at (length old) ≡ false) → Torn at (length bytes) old (written at bytes old)
    by_place (inl is) = subst (λ (b : Bool). Torn at (length bytes) old (if b then take at old ++ bytes ++ drop (at + length bytes) old else old)) (sym is) (inside is)
    by_place (inr is) = subst (λ (b : Bool). Torn at (length bytes) old (if b then take at old ++ bytes ++ drop (at + length bytes) old else old)) (sym is) (torn_same at (length bytes) old)

cut_done : (len : ℕ) (old : List ℕ) → Cut len old (take len old)
cut_done len old = record { before = take-take len len old (omega arith); no_longer = omega (arith, length-take len old) }

pub cut_same : (len : ℕ) (c : List ℕ) → Cut len c c
cut_same len c = record { before = refl; no_longer = omega arith }

-- The files with one put in the place of another, if the call was done.
abbrev pub files_after : Bool → Disk → ℕ → List ℕ → List (List ℕ)
files_after done d file new = if done then set d.seen file new else d.seen

-- An outcome that comes from an earlier one by a step.
abbrev pub Outcome : (List ℕ → List ℕ → Type 0) → Disk → ℕ → List ℕ → Type 0
Outcome rel d file c = (e : List ℕ) × d.left file e × rel e c

-- One file goes by a step that what stands there keeps to.
pub reads_one : (d : Disk) (file : ℕ) (rel : List ℕ → List ℕ → Type 0) (done : Bool) (new : List ℕ) → ((c : List ℕ) → rel c c) → rel (file_of d.seen file) new → Reads d
    → (i : ℕ) → goes_by rel file d.left i (file_of (files_after done d file new) i)
reads_one d file rel done new same changed reads i = elim (cases_eq i file) [
  | inl is ↦ subst (λ (b : Bool). MatchBool b (Outcome rel d file (file_of (files_after done d file new) i)) (d.left i (file_of (files_after done d file new) i))) (sym (eq-eqb i file is)) (here is done)
  | inr other ↦ subst (λ (b : Bool). MatchBool b (Outcome rel d file (file_of (files_after done d file new) i)) (d.left i (file_of (files_after done d file new) i))) (sym (ne_eqb i file other)) (subst (λ (c : List ℕ). d.left i c) (sym (set_other done d.seen file i new other)) (reads i))
]
  where
    there : (b : Bool) → rel (file_of d.seen file) (file_of (files_after b d file new) file)
    there false = same (file_of d.seen file)
    there true = ⊎_elim (λ less. subst (λ (c : List ℕ). rel (file_of d.seen file) c) (sym (get_or-set_same d.seen file new [] less)) changed) (λ past. subst (λ (c : List ℕ). rel (file_of d.seen file) c) (sym (ap (λ (l : List (List ℕ)). file_of l file) (set_past d.seen file new past))) (same (file_of d.seen file))) (cases_lt file (length d.seen))

    here : i ≡ file → (b : Bool) → Outcome rel d file (file_of (files_after b d file new) i)
    here is b = (file_of d.seen file, reads file, subst (λ (j : ℕ). rel (file_of d.seen file) (file_of (files_after b d file new) j)) (sym is) (there b))

reads_sync : (d : Disk) (file : ℕ) (done : Bool) → Reads d → Reads (step d (Sync file done))
reads_sync d file done reads i = by_test (done && (i == file)) refl
  where
    by_test : (b : Bool) → (done && (i == file)) ≡ b → MatchBool (done && (i == file)) (file_of d.seen i ≡ file_of d.seen file) (d.left i (file_of d.seen i))
    by_test true e = subst (λ (b : Bool). MatchBool b (file_of d.seen i ≡ file_of d.seen file) (d.left i (file_of d.seen i))) (sym e) (ap (λ (j : ℕ). file_of d.seen j) (eqb-true i file (and_parts done (i == file) e).1))
    by_test false e = subst (λ (b : Bool). MatchBool b (file_of d.seen i ≡ file_of d.seen file) (d.left i (file_of d.seen i))) (sym e) (reads i)

reads_step : (d : Disk) (call : Call) → Reads d → Reads (step d call)
reads_step d (Write file at bytes done) reads = reads_one d file (Torn at (length bytes.items)) done (written at bytes.items (file_of d.seen file)) (torn_same at (length bytes.items)) (torn_done at bytes.items (file_of d.seen file)) reads
reads_step d (CutCall file len done) reads = reads_one d file (Cut len) done (take len (file_of d.seen file)) (cut_same len) (cut_done len (file_of d.seen file)) reads
reads_step d (Sync file done) reads = reads_sync d file done reads
reads_step d (Say bytes) reads = reads
reads_step d Look reads = reads

reads_run : (d : Disk) (calls : List Call) → Reads d → Reads (run d calls)
reads_run d [] reads = reads
reads_run d (call ∷ calls) reads = reads_run (step d call) calls (reads_step d call reads)

-- A stop may leave what a read gives.
pub reads_now : (first : List (List ℕ)) (calls : List Call) (i : ℕ) → (run (start first) calls).left i (file_of (run (start first) calls).seen i)
reads_now first calls i = reads_run (start first) calls (λ j. refl) i

-- Since a moment, and now.
pub counts_now : (first : List (List ℕ)) (calls : List Call) (t : ℕ) (said : List ℕ) (files : ℕ → List ℕ) → t ≤ length calls → IsLeft (run (start first) calls) said files → WasLeft first calls t said files
counts_now first calls t said files le is = (length calls, le, omega arith, subst (λ (l : List Call). IsLeft (run (start first) l) said files) (sym (take_all (length calls) calls (omega arith))) is)

pub only_now : (first : List (List ℕ)) (calls : List Call) (said : List ℕ) (files : ℕ → List ℕ) → WasLeft first calls (length calls) said files → IsLeft (run (start first) calls) said files
only_now first calls said files was = subst (λ (l : List Call). IsLeft (run (start first) l) said files) (take_all was.0 calls was.1) was.3

module _ (o o' : ℕ → Option (List ℕ)) (first : List (List ℕ)) (calls : List Call) (call : Call) (a b a' b' : ℕ) where
  abbrev earlier : Desk
  earlier = desk_of o first calls a b

  abbrev later : Desk
  later = desk_of o' first (calls ++ call ∷ []) a' b'

  -- one call more
  pub elapses_push : Elapses earlier later (IsNow later)
  elapses_push = record {
    later = omega (arith, length-append calls (call ∷ []));
    nothing_else = λ t said files le was. by_moment t said files was (cases_lt (length calls) was.0);
    keeps = λ t said files le was. (was.0, was.1, omega (arith, was.2, length-append calls (call ∷ [])), subst (λ (l : List Call). IsLeft (run (start first) l) said files) (sym (take-append-le was.0 calls (call ∷ []) was.2)) was.3);
  }
    where
      by_moment : (t : ℕ) (said : List ℕ) (files : ℕ → List ℕ) (was : WasLeft first (calls ++ call ∷ []) t said files) → (length calls < was.0) ⊎ (was.0 ≤ length calls) → WasLeft first calls t said files ⊎ IsNow later said files
      by_moment t said files was (inr le) = inl (was.0, was.1, le, subst (λ (l : List Call). IsLeft (run (start first) l) said files) (take-append-le was.0 calls (call ∷ []) le) was.3)
      by_moment t said files was (inl more) =
          let is = subst (λ (l : List Call). IsLeft (run (start first) l) said files) (take_all was.0 (calls ++ call ∷ []) (omega (arith, length-append calls (call ∷ [])))) was.3 in
          inr (record { told = is.told; each = is.each })

  -- a call that changes one file
  pub changes_push : (rel : List ℕ → List ℕ → Type 0) (file : ℕ) → StepChanges rel file (run (start first) calls) (step (run (start first) calls) call) → Changes rel file earlier later
  changes_push rel file changes =
      let pushed = subst (λ (d : Disk). StepChanges rel file (run (start first) calls) d) (sym (run_push (start first) calls call)) changes in
      record { this = pushed.this; others_seen = pushed.others_seen; others_left = pushed.others_left; others_trusted = λ i other. refl; said = pushed.said; time = elapses_push }

  -- a call that changes none
  pub stays_push : step (run (start first) calls) call ≡ run (start first) calls → Stays earlier later
  stays_push same =
      let is : run (start first) (calls ++ call ∷ []) ≡ run (start first) calls = run_push (start first) calls call ∙ same in
      let reader : Disk → ℕ → List ℕ = λ d i. file_of d.seen i in
      record { seen = ap reader is; left = λ i c. subst (λ (d : Disk). d.left i c ↔ (run (start first) calls).left i c) (sym is) (λ x. x, λ x. x); trusted = refl; said = ap (λ (d : Disk). d.said) is; time = elapses_push }

  -- a call that says
  pub says_push : (bytes : Vec ℕ Global) (whole : List ℕ) (n : ℕ) → call ≡ Say bytes → bytes.items ≡ take n whole → Says whole n earlier later
  says_push bytes whole n is piece =
      let pushed = run_push (start first) calls call ∙ ap (λ (c : Call). step (run (start first) calls) c) is in
      let reader : Disk → ℕ → List ℕ = λ d i. file_of d.seen i in
      let told : later.said ≡ earlier.said ++ take n whole = ap (λ (d : Disk). d.said) pushed ∙ ap (λ (l : List ℕ). earlier.said ++ l) piece in
      let same : (i : ℕ) (c : List ℕ) → later.left i c ↔ earlier.left i c = λ i c. subst (λ (d : Disk). d.left i c ↔ earlier.left i c) (sym pushed) (λ x. x, λ x. x) in
      record {
        said = told;
        seen = ap reader pushed;
        left = same;
        trusted = refl;
        time = record {
          later = elapses_push.later;
          nothing_else = λ t said files le was. ⊎_elim (λ o. inl o) (λ now. inr (n, omega arith, now.told ∙ told, λ i less. (same i (files i)).0 (now.each i less))) (elapses_push.nothing_else t said files le was);
          keeps = elapses_push.keeps;
        };
      }

-- A call that wasn't kept.
module _ (o o' : ℕ → Option (List ℕ)) (first : List (List ℕ)) (calls : List Call) (a b a' b' : ℕ) where
  abbrev here : Desk
  here = desk_of o first calls a b

  abbrev there : Desk
  there = desk_of o' first calls a' b'

  pub stays_none : Stays here there
  stays_none = record {
    seen = refl;
    left = λ i c. (λ x. x, λ x. x);
    trusted = refl;
    said = refl;
    time = record { later = omega arith; nothing_else = λ t said files le was. inl was; keeps = λ t said files le was. was };
  }

  pub changes_none : (rel : List ℕ → List ℕ → Type 0) (file : ℕ) → ((c : List ℕ) → rel c c) → Changes rel file here there
  changes_none rel file same = record {
    this = λ c x. (c, x, same c);
    others_seen = λ i other. refl;
    others_left = λ i c other. (λ x. x, λ x. x);
    others_trusted = λ i other. refl;
    said = refl;
    time = stays_none.time;
  }

-- The names under which the pairs were opened: that of the first, that of the second, and no other.
abbrev pub opened_of : Option (List ℕ) → Option (List ℕ) → ℕ → Option (List ℕ)
opened_of first second pair = if pair == 0 then first else (if pair == 1 then second else None)

-- What is kept goes on to agree with the calls.
pub seen_kept : (s : Disk) (calls after_it : List Call) (call : Call) (files new : List (List ℕ)) → files ≡ (run s calls).seen → new ≡ seen_step files call → after_it ≡ calls ++ call ∷ [] → new ≡ (run s after_it).seen
seen_kept s calls after_it call files new is done kept = done ∙ ap (λ (f : List (List ℕ)). seen_step f call) is ∙ sym (ap (λ (d : Disk). d.seen) (run_push s calls call)) ∙ sym (ap (λ (l : List Call). (run s l).seen) kept)

pub said_kept : (s : Disk) (calls after_it : List Call) (call : Call) (said new : List ℕ) → said ≡ (run s calls).said → new ≡ said_step said call → after_it ≡ calls ++ call ∷ [] → new ≡ (run s after_it).said
said_kept s calls after_it call said new is done kept = done ∙ ap (λ (f : List ℕ). said_step f call) is ∙ sym (ap (λ (d : Disk). d.said) (run_push s calls call)) ∙ sym (ap (λ (l : List Call). (run s l).said) kept)

length_if : (b : Bool) (files : List (List ℕ)) (file : ℕ) (new : List ℕ) → length (if b then set files file new else files) ≡ length files
length_if true files file new = length-set files file new
length_if false files file new = refl

pub length_step : (files : List (List ℕ)) (call : Call) → length (seen_step files call) ≡ length files
length_step files (Write file at bytes done) = length_if done files file (written at bytes.items (file_of files file))
length_step files (CutCall file len done) = length_if done files file (take len (file_of files file))
length_step files (Sync file done) = refl
length_step files (Say bytes) = refl
length_step files Look = refl

pub four_kept : (files new : List (Vec ℕ Global)) (call : Call) → length files ≡ 4 → items_of new ≡ seen_step (items_of files) call → length new ≡ 4
four_kept files new call four done = sym (length-map new (λ (v : Vec ℕ Global). v.items)) ∙ ap length done ∙ length_step (items_of files) call ∙ length-map files (λ (v : Vec ℕ Global). v.items) ∙ four

-- The same between two hosts that share their first files.
module _ (o o' : ℕ → Option (List ℕ)) (first first' : List (Vec ℕ Global)) (calls calls' : List Call) (call : Call) (a b a' b' : ℕ) (same_first : first' ≡ first) (kept : calls' ≡ calls ++ call ∷ []) where
  abbrev at_first : Desk
  at_first = desk_of o (items_of first) calls a b

  abbrev at_last : Desk
  at_last = desk_of o' (items_of first') calls' a' b'

  onto : (P : Desk → Type 0) → P (desk_of o' (items_of first) (calls ++ call ∷ []) a' b') → P at_last
  onto P is = subst (λ (f : List (Vec ℕ Global)). P (desk_of o' (items_of f) calls' a' b')) (sym same_first) (subst (λ (l : List Call). P (desk_of o' (items_of first) l a' b')) (sym kept) is)

  pub stays_kept : step (run (start (items_of first)) calls) call ≡ run (start (items_of first)) calls → Stays at_first at_last
  stays_kept same = onto (λ d. Stays at_first d) (stays_push o o' (items_of first) calls call a b a' b' same)

  pub changes_kept : (rel : List ℕ → List ℕ → Type 0) (file : ℕ) → StepChanges rel file (run (start (items_of first)) calls) (step (run (start (items_of first)) calls) call) → Changes rel file at_first at_last
  changes_kept rel file changes = onto (λ d. Changes rel file at_first d) (changes_push o o' (items_of first) calls call a b a' b' rel file changes)

  pub seen_after_kept : (file : ℕ) → at_last.seen file ≡ file_of (seen_step (run (start (items_of first)) calls).seen call) file
  seen_after_kept file = onto (λ d. d.seen file ≡ file_of (seen_step (run (start (items_of first)) calls).seen call) file) (ap (λ (d : Disk). file_of d.seen file) (run_push (start (items_of first)) calls call))

  pub left_after_kept : (file : ℕ) (c : List ℕ) → at_last.left file c → left_step (run (start (items_of first)) calls).seen (run (start (items_of first)) calls).left call file c
  left_after_kept file c = onto (λ d. d.left file c → left_step (run (start (items_of first)) calls).seen (run (start (items_of first)) calls).left call file c) (λ x. subst (λ (d : Disk). d.left file c) (run_push (start (items_of first)) calls call) x)

pub written_kept : (o o' : ℕ → Option (List ℕ)) (first first' : List (Vec ℕ Global)) (calls calls' : List Call) (file at : ℕ) (bytes : Vec ℕ Global) (done : Bool) (a b a' b' : ℕ) (now : List ℕ) → first' ≡ first → calls' ≡ calls ++ Write file at bytes done ∷ [] → bytes.items ≡ now
    → Changes (Torn at (length now)) file (desk_of o (items_of first) calls a b) (desk_of o' (items_of first') calls' a' b')
written_kept o o' first first' calls calls' file at bytes done a b a' b' now same_first kept same =
    subst (λ (l : List ℕ). Changes (Torn at (length l)) file (desk_of o (items_of first) calls a b) (desk_of o' (items_of first') calls' a' b')) same
    (changes_kept o o' first first' calls calls' (Write file at bytes done) a b a' b' same_first kept (Torn at (length bytes.items)) file (step_write (run (start (items_of first)) calls) file at bytes done))

pub write_holds : (d : Disk) (file at : ℕ) (bytes : List ℕ) → file < length d.seen → at ≤ length (file_of d.seen file) → Holds (file_of d.seen file) at bytes (file_of (set d.seen file (written at bytes (file_of d.seen file))) file)
write_holds d file at bytes less le = get_or-set_same d.seen file (written at bytes (file_of d.seen file)) [] less ∙ (rw (le-leb at (length (file_of d.seen file)) le))

-- What stands in a file is what the calls made of it.
pub stands : (first files : List (Vec ℕ Global)) (calls : List Call) (file : ℕ) (bytes : List ℕ) → items_of files ≡ (run (start (items_of first)) calls).seen → bytes ≡ file_of (items_of files) file → bytes ≡ file_of (run (start (items_of first)) calls).seen file
stands first files calls file bytes is there = there ∙ ap (λ (l : List (List ℕ)). file_of l file) is

pub step_sync : (d : Disk) (file : ℕ) (done : Bool) → Reads d → StepChanges Same file d (step d (Sync file done))
step_sync d file done reads = record {
  this = λ c x. by_test done c x;
  others_seen = λ i other. refl;
  others_left = λ i c other. let off : (done && (i == file)) ≡ false = and_right done (i == file) (ne_eqb i file other) in
      (λ x. MatchBool-at_false {b = done && (i == file)} (c ≡ file_of d.seen file) (d.left i c) off x, λ x. subst (λ (b : Bool). MatchBool b (c ≡ file_of d.seen file) (d.left i c)) (sym off) x);
  said = refl;
}
  where
    by_test : (b : Bool) (c : List ℕ) → MatchBool (b && (file == file)) (c ≡ file_of d.seen file) (d.left file c) → (e : List ℕ) × d.left file e × (c ≡ e)
    by_test false c x = (c, x, refl)
    by_test true c x = (file_of d.seen file, reads file, MatchBool-at_true {b = file == file} (c ≡ file_of d.seen file) (d.left file c) (eq-eqb file file refl) x)

pub sync_only : (d : Disk) (file : ℕ) (c : List ℕ) → left_step d.seen d.left (Sync file true) file c → c ≡ file_of d.seen file
sync_only d file c x = MatchBool-at_true {b = file == file} (c ≡ file_of d.seen file) (d.left file c) (eq-eqb file file refl) x

pub cut_holds : (d : Disk) (file len : ℕ) → file < length d.seen → file_of (set d.seen file (take len (file_of d.seen file))) file ≡ take len (file_of d.seen file)
cut_holds d file len less = get_or-set_same d.seen file (take len (file_of d.seen file)) [] less

pub seen_there : (first files : List (Vec ℕ Global)) (calls : List Call) (file : ℕ) → items_of files ≡ (run (start (items_of first)) calls).seen → length files ≡ 4 → file < 4 → file < length (run (start (items_of first)) calls).seen
seen_there first files calls file is four less = omega (arith, ap length is, length-map files (λ (v : Vec ℕ Global). v.items))

-- A call that says, between two hosts.
pub said_after : (s : Disk) (calls calls' : List Call) (said said' piece : List ℕ) → said ≡ (run s calls).said → said' ≡ said ++ piece → AddsSay piece calls calls' → said' ≡ (run s calls').said
said_after s calls calls' said said' piece is adds call = said_kept s calls calls' (Say call.bytes) said said' is (adds ∙ ap (λ (l : List ℕ). said ++ l) (sym call.piece_is)) call.kept

pub seen_after_say : (s : Disk) (calls calls' : List Call) (files : List (List ℕ)) (piece : List ℕ) → files ≡ (run s calls).seen → AddsSay piece calls calls' → files ≡ (run s calls').seen
seen_after_say s calls calls' files piece is call = seen_kept s calls calls' (Say call.bytes) files files is refl call.kept

pub says_kept : (o o' : ℕ → Option (List ℕ)) (first : List (Vec ℕ Global)) (calls calls' : List Call) (whole piece : List ℕ) (n a b a' b' : ℕ) → AddsSay piece calls calls' → piece ≡ take n whole → Says whole n (desk_of o (items_of first) calls a b) (desk_of o' (items_of first) calls' a' b')
says_kept o o' first calls calls' whole piece n a b a' b' call is =
    subst (λ (l : List Call). Says whole n (desk_of o (items_of first) calls a b) (desk_of o' (items_of first) l a' b')) (sym call.kept)
    (says_push o o' (items_of first) calls (Say call.bytes) a b a' b' call.bytes whole n refl (call.piece_is ∙ is))
