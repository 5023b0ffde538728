-- A store whose log stands in the first file is opened.
use Rattle.std.proofs.Common.{◌≡◌, ℕ, zero, suc, ◌+◌, ◌<◌, Bool, true, false, IsTrue, List, [], length, take, drop, Option, Some, None, Result, Ok, Err, IfOk, IfErr, refl, sym, ◌∙◌, ap, subst, arith}
use Rattle.host_desk.specs.Desk.{Desk, Stays, KeepsCounts}
use Rattle.host_desk.specs.Since.{IsSettled}
use Rattle.host_desk.proofs.Moments.{rose_before}
use Rattle.gate_log.specs.Format.{Opening, absent, corrupt, opened, opening_of, says, is_log, records_at}
use Rattle.gate_log.specs.Log.{Mark, Describes, ReadUpTo, snapshot_in}
use Rattle.gate_log.proofs.Laws.{opening_log}
use Rattle.machine_run.specs.Rules.{Rules, IsKeptByRecords}
use Rattle.machine_run.specs.Stores.{Content, is_bad, no_log, behind, store_alone, store_by, store_of, restored_by, opened_files, content_of, state_in}
use Rattle.machine_run.specs.OneLogLaws.{content_says}
use Rattle.machine_run.specs.Opening.{IsOpened, StoreIs, OpenStop, LoadStop, IsRestored, RestoreStop}
use Rattle.machine_run.specs.declared.stop.Stop.{Stop}
use Rattle.machine_run.specs.declared.stop.Stop.TheVariants.{StoreFault, StoreCorrupt, InputFault, OutputFault, NoMemory, StoreFull, InputTooLong}
use Rattle.machine_run.proofs.OpenedFiles.{opened_same, opened_by}
use Rattle.machine_run.proofs.Laws.{loaded, opens_of}

-- what is known of an answer, and what follows
pub if_ok : {T E : Type 0} (P Q : T → Type 0) (r : Result T E) → ((x : T) → r ≡ Ok x → P x → Q x) → IfOk r P → IfOk r Q
if_ok P Q (Ok x) f h = f x refl h
if_ok P Q (Err e) f h = tt

-- two facts of one answer
pub if_ok_both : {T E : Type 0} (P Q : T → Type 0) (r : Result T E) → IfOk r P → IfOk r Q → IfOk r (λ x. P x × Q x)
if_ok_both P Q (Ok x) p q = (p, q)
if_ok_both P Q (Err e) p q = tt

pub if_err : {T E : Type 0} (P Q : E → Type 0) (r : Result T E) → ((e : E) → P e → Q e) → IfErr r P → IfErr r Q
if_err P Q (Ok x) f h = tt
if_err P Q (Err e) f h = f e h

-- a store is opened where its files were settled before
pub opened_before : {State Item : Type 0} (m : Rules State Item) (a b c : Desk) → b.seen ≡ a.seen → b.said ≡ a.said → (state : State) (log : Mark) → IsOpened m b c state log → IsOpened m a c state log
opened_before m a b c seen said state log is = record {
  content = is.content;
  store = is.store;
  stands = is.stands;
  held = ap (λ (s : ℕ → List ℕ). content_of (s 0) (s 1)) (sym seen) ∙ is.held;
  stood = ap (λ (s : ℕ → List ℕ). store_of m (s 0) (s 1)) (sym seen) ∙ is.stood;
  said = is.said ∙ said;
  files = is.files ∙ ap (λ (s : ℕ → List ℕ). opened_files s) seen;
  made = λ none. is.made (ap (λ (s : ℕ → List ℕ). opening_of (s 0)) seen ∙ none);
}

-- the stops of loading the snapshot are stops of opening
pub load_stop : {State Item : Type 0} (m : Rules State Item) (tells : Bool) (limit : ℕ) (a c : Desk) → (IsTrue tells → c.seen ≡ a.seen) → (stop : Stop) → LoadStop tells a c stop → OpenStop m tells limit a c stop
load_stop m tells limit a c same StoreFault rose = rose
load_stop m tells limit a c same (StoreCorrupt file at) never = absurd never
load_stop m tells limit a c same InputFault never = absurd never
load_stop m tells limit a c same OutputFault never = absurd never
load_stop m tells limit a c same NoMemory free = same
load_stop m tells limit a c same (StoreFull length_now) never = absurd never
load_stop m tells limit a c same InputTooLong never = absurd never

-- the stops of reading the records are stops of opening
pub old_stop : {State Item : Type 0} (m : Rules State Item) (tells : Bool) (limit : ℕ) (first : State) (start : ℕ) (a b c : Desk) → KeepsCounts a b → ((file at : ℕ) → RestoreStop m tells (b.seen 0) first start b c (StoreCorrupt file at) → OpenStop m tells limit a c (StoreCorrupt file at)) → (IsTrue tells → c.seen ≡ a.seen) → (stop : Stop) → RestoreStop m tells (b.seen 0) first start b c stop → OpenStop m tells limit a c stop
old_stop m tells limit first start a b c counts bad_at same StoreFault rose = rose_before a.store_faults b.store_faults c.store_faults counts.store rose
old_stop m tells limit first start a b c counts bad_at same (StoreCorrupt file at) bad = bad_at file at bad
old_stop m tells limit first start a b c counts bad_at same InputFault never = absurd never
old_stop m tells limit first start a b c counts bad_at same OutputFault never = absurd never
old_stop m tells limit first start a b c counts bad_at same NoMemory free = same
old_stop m tells limit first start a b c counts bad_at same (StoreFull length_now) never = absurd never
old_stop m tells limit first start a b c counts bad_at same InputTooLong never = absurd never

-- a log in the first file
store_log : {State Item : Type 0} (m : Rules State Item) (first second : List ℕ) (generation size : ℕ) → opening_of first ≡ opened generation size → store_of m first second ≡ behind (m.load (take size (drop 26 first))) (λ s. store_alone m (no_log (opening_of second)) (26 + size) s first) 18
unfolding store_of
store_log m first second generation size is = ap (λ (o : Opening). store_by m o (no_log (opening_of second)) first) is

-- a fault in the header of the first file
pub store_corrupt : {State Item : Type 0} (m : Rules State Item) (first second : List ℕ) (at : ℕ) → opening_of first ≡ corrupt at → store_of m first second ≡ is_bad 0 at
unfolding store_of
store_corrupt m first second at is = ap (λ (o : Opening). store_by m o (no_log (opening_of second)) first) is

-- no log in the first file, and a second file that isn't absent
pub store_second : {State Item : Type 0} (m : Rules State Item) (first second : List ℕ) → opening_of first ≡ absent → no_log (opening_of second) ≡ false → store_of m first second ≡ is_bad 1 0
unfolding store_of
store_second m first second is some = (λ i. store_by m (is i) (some i) first)

module _ {State Item : Type 0} (m : Rules State Item) (kept : IsKeptByRecords m) (a : Desk) (log : Mark) (read : ReadUpTo (a.seen 0) log []) where
  abbrev start : ℕ
  start = 26 + log.snapshot_length

  -- what the log holds with these bodies
  abbrev content_with : List (List ℕ) → Content
  content_with bodies = record { generation = log.generation; snapshot = snapshot_in log (a.seen 0); bodies = bodies }

  -- its snapshot stands for no state
  pub old_snapshot : m.load (snapshot_in log (a.seen 0)) ≡ None → StoreIs m a ≡ is_bad 0 18
  old_snapshot none = store_log m (a.seen 0) (a.seen 1) log.generation log.snapshot_length read.describes.header ∙ ap (λ (o : Option State). behind o (λ s. store_alone m (no_log (opening_of (a.seen 1))) start s (a.seen 0)) 18) none

  module _ (first : State) (loads : m.load (snapshot_in log (a.seen 0)) ≡ Some first) where
    old_alone : (none : Bool) → no_log (opening_of (a.seen 1)) ≡ none → StoreIs m a ≡ store_alone m none start first (a.seen 0)
    old_alone none is = store_log m (a.seen 0) (a.seen 1) log.generation log.snapshot_length read.describes.header ∙ ap (λ (o : Option State). behind o (λ s. store_alone m (no_log (opening_of (a.seen 1))) start s (a.seen 0)) 18) loads ∙ ap (λ (b : Bool). store_alone m b start first (a.seen 0)) is

    -- and the second file isn't absent
    pub old_both : no_log (opening_of (a.seen 1)) ≡ false → StoreIs m a ≡ is_bad 1 0
    old_both some = old_alone false some

    module _ (b c : Desk) (looks : Stays a b) (reads : Stays b c) (none : no_log (opening_of (a.seen 1)) ≡ true) where
      seen : c.seen ≡ a.seen
      seen = reads.seen ∙ looks.seen

      -- the records can't be read
      pub old_corrupt : (from : ℕ) → from ≡ start → (file at : ℕ) → restored_by m from first (records_at (b.seen 0) from) ≡ is_bad file at → (StoreIs m a ≡ is_bad file at) × (c.seen ≡ a.seen)
      old_corrupt from is file at bad = (old_alone true none ∙ ap (λ (k : ℕ). restored_by m k first (records_at (a.seen 0) k)) (sym is) ∙ ap (λ (s : ℕ → List ℕ). restored_by m from first (records_at (s 0) from)) (sym looks.seen) ∙ bad, seen)

      -- they are read to the end
      pub old_store : IsSettled a 0 → IsSettled a 1 → log.file ≡ 0 → (state : State) (after : Mark) → after ≡ record log { place = after.place } → IsRestored m (b.seen 0) first state after → IsOpened m a c state after
      old_store settled second file state after is all = record {
        content = content_with all.bodies;
        store = record {
          file = ap (λ (l : Mark). l.file) is ∙ file;
          settled = still;
          second = ap (λ (s : ℕ → List ℕ). no_log (opening_of (s 1))) seen ∙ none;
          describes = subst (λ (l : List ℕ). Describes after l) (ap (λ (s : ℕ → List ℕ). s 0) (sym reads.seen)) all.describes;
          says_is = ap (λ (s : ℕ → List ℕ). says (s 0)) seen ∙ in_a;
          length_is = omega (arith, all.place_is, long);
        };
        stands = stands;
        held = held;
        stood = opens_of m kept (a.seen 0) (a.seen 1) (content_with all.bodies) state held stands;
        said = reads.said ∙ looks.said;
        files = opened_by a.seen c.seen (ap (λ (s : ℕ → List ℕ). s 0) seen ∙ sym (opened_same (a.seen 0) (ap no_log read.describes.header))) (λ file other. ap (λ (s : ℕ → List ℕ). s file) seen);
        made = λ empty. absurd (let both : opened log.generation log.snapshot_length ≡ absent = sym read.describes.header ∙ empty in cc);
      }
        where
          in_a : says (a.seen 0) ≡ is_log log.generation (snapshot_in log (a.seen 0)) all.bodies after.place
          in_a = ap (λ (s : ℕ → List ℕ). says (s 0)) (sym looks.seen) ∙ all.says_is ∙ ap (λ (l : Mark). is_log l.generation (snapshot_in l (b.seen 0)) all.bodies after.place) is ∙ ap (λ (s : ℕ → List ℕ). is_log log.generation (snapshot_in log (s 0)) all.bodies after.place) looks.seen

          held : content_of (a.seen 0) (a.seen 1) ≡ Some (content_with all.bodies)
          held = content_says (a.seen 0) (a.seen 1) (content_with all.bodies) after.place in_a none

          stands : state_in m (content_with all.bodies) ≡ Some state
          stands = loaded m (content_with all.bodies) first loads ∙ all.state_is

          long : after.snapshot_length ≡ length (snapshot_in log (a.seen 0))
          long =
              let one : opened log.generation (length (snapshot_in log (a.seen 0))) ≡ opened log.generation log.snapshot_length = sym (opening_log (a.seen 0) log.generation (snapshot_in log (a.seen 0)) all.bodies after.place in_a) ∙ read.describes.header in
              let same : length (snapshot_in log (a.seen 0)) ≡ log.snapshot_length = cc in
              ap (λ (l : Mark). l.snapshot_length) is ∙ sym same

          still_of : (i : ℕ) → IsSettled a i → IsSettled c i
          still_of i was = record {
            only = λ f left. was.only f ((looks.left i f).0 ((reads.left i f).0 left)) ∙ sym (ap (λ (s : ℕ → List ℕ). s i) seen);
            trusted = ap (λ (t : ℕ → Bool). t i) (reads.trusted ∙ looks.trusted) ∙ was.trusted;
          }

          still : (i : ℕ) → i < 2 → IsSettled c i
          still zero less = still_of 0 settled
          still (suc zero) less = still_of 1 second
          still (suc (suc n)) less = absurd (omega (arith, less))
