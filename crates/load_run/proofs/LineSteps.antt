-- The line is put out behind the last item.
use Rattle.std.proofs.Common.{◌+◌, ◌++◌, ◌∙◌, ◌≡◌, ⊎_elim, List, None, Some, [], ap, arith, inl, inr, length, refl, subst, sym, take, ℕ}
use Rattle.std.proofs.lemmas.List.{append-nil, take_all}
use Rattle.host_desk.specs.Desk.{Desk, KeepsCounts}
use Rattle.host_desk.specs.Since.{Since}
use Rattle.host_desk.proofs.Moments.{rose_before, since_then}
use Rattle.machine_run.specs.Rules.{IsKeptByRecords, state_after}
use Rattle.machine_run.specs.Runs.{IsDone, LacksMemory, Plan, Stored}
use Rattle.machine_run.specs.Steps.{BatchStop, Between}
use Rattle.machine_run.specs.Stores.{Content, content_of, is_state, store_of}
use Rattle.machine_run.specs.declared.stop.Stop.{Stop}
use Rattle.machine_run.specs.declared.stop.Stop.TheVariants.{StoreFault, StoreCorrupt, InputFault, OutputFault, NoMemory, StoreFull, InputTooLong}
use Rattle.machine_run.proofs.Laws.{opens_of}
use Rattle.machine_run.proofs.Replying.{since_weaken}
use Rattle.load_run.specs.Loads.{AreLoaded, AreStored, IsLineCut, LoadLeft, Loading, LoadingStop, line_of}
use Rattle.load_run.proofs.Silence.{none_said}

-- all items are stored, and nothing was said
module _ {State Item J : Type 0} (p : Plan State Item) (kept : IsKeptByRecords p.rules) (silent : (s : State) (item : Item) → p.rules.reply s item ≡ []) (holds : J → Content → Desk → Type 0) (t : State) (journal : J) (mid : Desk)
    (state_is : t ≡ state_after p.rules p.first p.items) (stored : Stored p.rules holds t journal mid) (done : IsDone p mid) where
  pub said_none : mid.said ≡ p.before
  said_none = done.said_is ∙ none_said p.rules silent p.before p.first p.items

  same_content : done.holds.content ≡ stored.content
  same_content = let both : Some done.holds.content ≡ Some stored.content = sym done.holds.holds ∙ stored.seen in cc

  -- files that hold it open as the state behind all items
  opens_all : (f0 f1 : List ℕ) → content_of f0 f1 ≡ Some stored.content → store_of p.rules f0 f1 ≡ is_state (state_after p.rules p.first p.items)
  opens_all f0 f1 has = opens_of p.rules kept f0 f1 stored.content t has stored.stands ∙ ap (λ (u : State). is_state u) state_is

  -- memory lacks for the line
  pub lacks_line : LacksMemory p (Unit {0}) mid
  lacks_line = record {
    stands = record { done = p.items; rest = []; split = sym (append-nil p.items); opens = done.opens; holds = done.holds; said_is = done.said_is };
    cause = inr tt;
  }

  -- the line is being put out, or is out
  module _ (line : List ℕ) (adds_up : (a b c : Content) (f g h : ℕ → List ℕ) → p.kept a b f g → p.kept b c g h → p.kept a c f h) (new : Desk) (seen : content_of (new.seen 0) (new.seen 1) ≡ Some stored.content) (keeps : p.kept stored.content stored.content mid.seen new.seen) where
    still_stored : AreStored p new
    still_stored = record {
      opens = opens_all (new.seen 0) (new.seen 1) seen;
      holds = record {
        content = stored.content;
        holds = seen;
        fold = λ c is. sym same_content ∙ done.holds.fold c is;
        had_room = done.holds.had_room;
        kept = λ c is. adds_up c stored.content stored.content p.files mid.seen new.seen (subst (λ (k : Content). p.kept c k p.files mid.seen) same_content (done.holds.kept c is)) keeps;
      };
    }

    pub line_cut : (out : ℕ) → new.said ≡ mid.said ++ take out line → IsLineCut p line new
    line_cut out said = record { stored = still_stored; out = out; said_is = said ∙ ap (λ (s : List ℕ). s ++ take out line) said_none }

    pub line_out : new.said ≡ mid.said ++ line → AreLoaded p line new
    line_out said = record { stored = still_stored; said_is = said ∙ ap (λ (s : List ℕ). s ++ line) said_none }

-- What a stop leaves meanwhile: nothing of the line, or a part of it, and all items.
module _ {State Item J : Type 0} (l : Loading State Item) (kept : IsKeptByRecords l.rules) (first : State) (items : List Item) (before : List ℕ) (holds : J → Content → Desk → Type 0) (t : State) (journal : J) (mid : Desk)
    (state_is : t ≡ state_after l.rules first items) (stored : Stored l.rules holds t journal mid) (said_is : mid.said ≡ before) where
  all_taken : state_after l.rules first items ≡ state_after l.rules first (take (length items) items)
  all_taken = ap (λ (some : List Item). state_after l.rules first some) (sym (take_all (length items) items (omega arith)))

  opens_taken : (f0 f1 : List ℕ) → content_of f0 f1 ≡ Some stored.content → store_of l.rules f0 f1 ≡ is_state (state_after l.rules first (take (length items) items))
  opens_taken f0 f1 has = opens_of l.rules kept f0 f1 stored.content t has stored.stands ∙ ap (λ (u : State). is_state u) (state_is ∙ all_taken)

  line_left_at : (out : ℕ) (said : List ℕ) (files : ℕ → List ℕ) → content_of (files 0) (files 1) ≡ Some stored.content → said ≡ mid.said ++ take out (line_of l first items) → LoadLeft l first items before said files
  line_left_at out said files has is = record {
    i = length items;
    within = omega arith;
    opens = opens_taken (files 0) (files 1) has;
    out = out;
    said_is = is ∙ ap (λ (s : List ℕ). s ++ take out (line_of l first items)) said_is;
    last = inl refl;
  }

  pub line_left : (said : List ℕ) (files : ℕ → List ℕ) → Between stored.content None (line_of l first items) mid said files → LoadLeft l first items before said files
  line_left said files b = ⊎_elim
      (λ off. line_left_at 0 said files off.0 (off.1 ∙ sym (append-nil mid.said)))
      (λ on. line_left_at on.0 said files on.1 on.2)
      b.stage

  pub line_since : (old new : Desk) → Since (LoadLeft l first items before) old mid → Since (Between stored.content None (line_of l first items) mid) mid new → Since (LoadLeft l first items before) old new
  line_since old new so_far since = since_then (LoadLeft l first items before) old mid new so_far (since_weaken (Between stored.content None (line_of l first items) mid) (LoadLeft l first items before) mid new since line_left)

-- The line isn't out, for a fault of the files or the output: neither a record nor memory is wanted.
pub line_stop : {State Item : Type 0} (p : Plan State Item) (line : List ℕ) (told : Type 0) (old mid new : Desk) (room : ℕ → Type 0) (cut : Type 0) → KeepsCounts old mid → (stop : Stop) → (stop ≡ NoMemory → ⊥) → ((n : ℕ) → room n → told → ⊥) → (cut → told → IsLineCut p line new) → BatchStop room cut mid new stop → LoadingStop p line told old new stop
line_stop p line told old mid new room cut counts StoreFault memory full breaks rose = rose_before old.store_faults mid.store_faults new.store_faults counts.store rose
line_stop p line told old mid new room cut counts (StoreCorrupt file at) memory full breaks never = absurd never
line_stop p line told old mid new room cut counts InputFault memory full breaks never = absurd never
line_stop p line told old mid new room cut counts OutputFault memory full breaks is = (rose_before old.say_faults mid.say_faults new.say_faults counts.say is.0, breaks is.1)
line_stop p line told old mid new room cut counts NoMemory memory full breaks free = absurd (memory refl)
line_stop p line told old mid new room cut counts (StoreFull n) memory full breaks is = λ t. absurd (full n is t)
line_stop p line told old mid new room cut counts InputTooLong memory full breaks never = absurd never
