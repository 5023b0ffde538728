-- A store is opened.
use Rattle.std.proofs.Common.{◌≡◌, ◌≢◌, inl, inr, ⊎_elim, ℕ, zero, suc, ◌+◌, ◌<◌, ◌≤◌, ◌/◌, Bool, true, false, List, [], Result, Ok, Err, refl, sym, ◌∙◌, ap, subst, arith}
use Rattle.std.proofs.Math.Dec.{ltb}
use Rattle.std.proofs.lemmas.Bool.{ltb-true, ltb-false}
use Rattle.host_desk.specs.Desk.{Desk, Stays, IsNow}
use Rattle.host_desk.specs.Since.{IsSettled, OnlyFile, Touches, Since}
use Rattle.host_desk.proofs.Moments.{since_then, since_touches, since_stays}
use Rattle.gate_log.specs.Format.{Opening, absent, corrupt, opened, opening_of, LogSays, says, says_after, log_of, records_at, new_file}
use Rattle.gate_log.specs.Log.{Mark, Describes, ReadUpTo, snapshot_in, new_log}
use Rattle.gate_log.specs.Making.{CanBeMade, IsBeingMade}
use Rattle.gate_log.specs.declared.fault.LogFault.{LogFault}
use Rattle.gate_log.specs.declared.fault.LogFault.TheVariants.{Full, OutOfMemory}
use Rattle.gate_log.proofs.Laws.{opening_absent, can_over_absent, says_new, opening_new}
use Rattle.twin_store.specs.Pairs.{neither, choice, choice_in, new_store, in_log, store_says, store_in, first_file, second_file}
use Rattle.twin_store.specs.Moments.{Nothing, OnlyPair, IsPairSettled}
use Rattle.twin_store.specs.Stores.{IsBehind, IsCurrent, IsOpened, Stands, AreKept, Still}
use Rattle.twin_store.proofs.Current.{says_first, says_neither}
use Rattle.twin_store.proofs.Found.{newer_is_one, first_in, other_first}

-- neither header says a log
both_absent : (first second : Opening) → choice first second ≡ neither → (first ≡ absent) × (second ≡ absent)
both_absent (corrupt at) second is = absurd (cc)
both_absent absent absent is = (refl, refl)
both_absent absent (corrupt at) is = absurd (cc)
both_absent absent (opened generation size) is = absurd (cc)
both_absent (opened generation size) absent is = absurd (cc)
both_absent (opened generation size) (corrupt at) is = absurd (cc)
both_absent (opened first size) (opened second length) is = absurd (newer_is_one first second is)

-- a pair with a log isn't one of which neither file has one
log_there : (files : ℕ → List ℕ) (file : ℕ) → file < 4 → (generation size : ℕ) → opening_of (files file) ≡ opened generation size → choice_in (file / 2) files ≡ neither → ⊥
log_there files zero less generation size is none = let gone = (both_absent (opening_of (files 0)) (opening_of (files 1)) none).0 in absurd (cc)
log_there files (suc zero) less generation size is none = let gone = (both_absent (opening_of (files 0)) (opening_of (files 1)) none).1 in absurd (cc)
log_there files (suc (suc zero)) less generation size is none = let gone = (both_absent (opening_of (files 2)) (opening_of (files 3)) none).0 in absurd (cc)
log_there files (suc (suc (suc zero))) less generation size is none = let gone = (both_absent (opening_of (files 2)) (opening_of (files 3)) none).1 in absurd (cc)
log_there files (suc (suc (suc (suc n)))) less generation size is none = absurd (omega (arith, less))

pub found_there : (files : ℕ → List ℕ) (pair limit : ℕ) (log : Mark) → IsOpened pair limit log → IsCurrent log files → choice_in pair files ≡ neither → ⊥
found_there files pair limit log is_opened current none = log_there files log.file is_opened.number log.generation log.snapshot_length current.describes.header (subst (λ (p : ℕ). choice_in p files ≡ neither) (sym is_opened.pair_is) none)

-- what isn't below is at least
at_least : (low n : ℕ) → (n < low → ⊥) → low ≤ n
at_least low n above = by (ltb n low) refl
  where
    by : (below : Bool) → ltb n low ≡ below → low ≤ n
    by true e = absurd (above (ltb-true _ _ e))
    by false e = ltb-false _ _ e

-- a log that was made, or for which memory lacked, has room
pub made_room : {T : Type 0} (r : Result T LogFault) (limit : ℕ) (log : T) → (limit < 27 → r ≡ Err (Full 0)) → r ≡ Ok log → 27 ≤ limit
made_room r limit log full is = at_least 27 limit (λ below. (let both : Ok log ≡ Err (Full 0) = sym is ∙ full below in absurd (cc)))

pub wanting_room : {T : Type 0} (r : Result T LogFault) (limit : ℕ) → (limit < 27 → r ≡ Err (Full 0)) → r ≡ Err OutOfMemory → 27 ≤ limit
wanting_room r limit full is = at_least 27 limit (λ below. (let both = sym is ∙ full below in absurd (cc)))

-- the second file is another than the first
pub second_apart : (pair : ℕ) → second_file pair ≢ first_file pair
second_apart pair same = absurd (omega (arith, same))

-- a log that is described was read up to its first record
pub read_start : (log : Mark) (bytes : List ℕ) → Describes log bytes → log.place ≡ 26 + log.snapshot_length → ReadUpTo bytes log []
read_start log bytes describes place = record {
  describes = describes;
  is = ap (λ (o : Opening). says_after o bytes) describes.header ∙ ap (λ (p : ℕ). log_of log.generation (snapshot_in log bytes) (records_at bytes p)) (sym place);
}

-- what is said of the moments since both were made stable holds since before
pub moments_before : (pair : ℕ) (a b d : Desk) → b.seen ≡ a.seen → b.said ≡ a.said → ((i : ℕ) (c : List ℕ) → b.left i c → a.left i c) → Since Nothing a b
    → Since (OnlyPair pair b (Still (store_in pair b.seen))) b d → Since (OnlyPair pair a (Still (store_in pair a.seen))) a d
moments_before pair a b d seen said left synced run = since_then (OnlyPair pair a (Still (store_in pair a.seen))) a b d (all Nothing a b synced (λ s f never. absurd never)) (all (OnlyPair pair b (Still (store_in pair b.seen))) b d run before)
  where
    all : (Q : List ℕ → (ℕ → List ℕ) → Type 0) (x y : Desk) → Since Q x y → ((s : List ℕ) (f : ℕ → List ℕ) → Q s f → OnlyPair pair a (Still (store_in pair a.seen)) s f) → Since (OnlyPair pair a (Still (store_in pair a.seen))) x y
    all Q x y since here = record { later = since.later; left = λ t s f le o. ⊎_elim (λ was. inl was) (λ is. inr (here s f is)) (since.left t s f le o) }

    before : (s : List ℕ) (f : ℕ → List ℕ) → OnlyPair pair b (Still (store_in pair b.seen)) s f → OnlyPair pair a (Still (store_in pair a.seen)) s f
    before s f o = record {
      told = o.told ∙ said;
      others = λ i less out. left i (f i) (o.others i less out);
      this = o.this ∙ ap (λ (n : ℕ → List ℕ). store_in pair n) seen;
    }

-- the settled files of a pair, of one that is current
settled_by : (desk : Desk) (file : ℕ) → file < 4 → IsSettled desk (first_file (file / 2)) → IsSettled desk (second_file (file / 2)) → IsPairSettled file desk
settled_by desk zero less first second = record { this = first; other = second }
settled_by desk (suc zero) less first second = record { this = second; other = first }
settled_by desk (suc (suc zero)) less first second = record { this = first; other = second }
settled_by desk (suc (suc (suc zero))) less first second = record { this = second; other = first }
settled_by desk (suc (suc (suc (suc n)))) less first second = absurd (omega (arith, less))

pub pair_settled : (desk : Desk) (pair file : ℕ) → file < 4 → file / 2 ≡ pair → IsSettled desk (first_file pair) → IsSettled desk (second_file pair) → IsPairSettled file desk
pair_settled desk pair file less in_pair first second = settled_by desk file less (subst (λ (p : ℕ). IsSettled desk (first_file p)) (sym in_pair) first) (subst (λ (p : ℕ). IsSettled desk (second_file p)) (sym in_pair) second)

pub settled_still : (a b : Desk) (file : ℕ) → Stays a b → IsSettled a file → IsSettled b file
settled_still a b file stays settled = record {
  only = λ f left. settled.only f ((stays.left file f).0 left) ∙ sym (ap (λ (s : ℕ → List ℕ). s file) stays.seen);
  trusted = ap (λ (t : ℕ → Bool). t file) stays.trusted ∙ settled.trusted;
}

-- a store whose log was found
pub stands_found : (a b : Desk) (pair limit : ℕ) (log : Mark) → Stays a b → IsOpened pair limit log → IsCurrent log a.seen → ReadUpTo (a.seen log.file) log [] → IsSettled a (first_file pair) → IsSettled a (second_file pair) → Stands log b
stands_found a b pair limit log stays is_opened current read first second = record {
  current = subst (λ (s : ℕ → List ℕ). IsCurrent log s) (sym stays.seen) current;
  read = subst (λ (s : ℕ → List ℕ). ReadUpTo (s log.file) log []) (sym stays.seen) read;
  settled = pair_settled b pair log.file is_opened.number is_opened.pair_is (settled_still a b (first_file pair) stays first) (settled_still a b (second_file pair) stays second);
}

-- a new store in files that have no log
module _ (pair : ℕ) (small : pair < 2) (b : Desk) (none : choice_in pair b.seen ≡ neither) where
  first_none : opening_of (b.seen (first_file pair)) ≡ absent
  first_none = (both_absent (opening_of (b.seen (first_file pair))) (opening_of (b.seen (second_file pair))) none).0

  second_none : opening_of (b.seen (second_file pair)) ≡ absent
  second_none = (both_absent (opening_of (b.seen (first_file pair))) (opening_of (b.seen (second_file pair))) none).1

  pub can_make : CanBeMade (b.seen (first_file pair))
  can_make = can_over_absent (b.seen (first_file pair)) first_none

  says_new_store : store_in pair b.seen ≡ new_store
  says_new_store = says_neither (b.seen (first_file pair)) (b.seen (second_file pair)) first_none second_none

  -- while the first file is made a log
  says_making : (files : ℕ → List ℕ) → IsBeingMade (b.seen (first_file pair)) (new_file 1 []) (files (first_file pair)) → files (second_file pair) ≡ b.seen (second_file pair) → store_in pair files ≡ store_in pair b.seen
  says_making files being other =
      let other_none : opening_of (files (second_file pair)) ≡ absent = ap (λ (l : List ℕ). opening_of l) other ∙ second_none in
      ⊎_elim
      (λ was. λ i. store_says (was i) (other i))
      (λ more. ⊎_elim
      (λ gone. says_neither (files (first_file pair)) (files (second_file pair)) (opening_absent (files (first_file pair)) gone) other_none ∙ sym says_new_store)
      (λ made. made_says (files (first_file pair)) (files (second_file pair)) made other_none ∙ sym says_new_store) more)
      being
    where
      made_says : (first second : List ℕ) → first ≡ new_file 1 [] → opening_of second ≡ absent → store_says first second ≡ new_store
      made_says first second made absent_other =
          says_first first second 1 0 (ap (λ (l : List ℕ). opening_of l) made ∙ opening_new 1 [] (omega arith) (omega arith)) (subst (λ (o : Opening). IsBehind 1 o) (sym absent_other) tt)
          ∙ ap (λ (l : LogSays). in_log 0 l) (ap (λ (l : List ℕ). says l) made ∙ says_new 1 [] (omega arith) (omega arith))

  module _ (c : Desk) (run : Touches (first_file pair) (IsBeingMade (b.seen (first_file pair)) (new_file 1 [])) b c) where
    second_seen : c.seen (second_file pair) ≡ b.seen (second_file pair)
    second_seen = run.seen (second_file pair) (second_apart pair)

    -- the new store stands
    pub stands_new : (limit : ℕ) (log : Mark) → log ≡ new_log (first_file pair) 1 0 limit → Describes log (c.seen (first_file pair)) → IsSettled c (first_file pair) → IsSettled b (second_file pair) → Stands log c
    stands_new limit log is describes first second = subst (λ (m : Mark). Stands m c) (sym is) (record {
      current = record {
        describes = there;
        behind = subst (λ (n : ℕ). IsBehind 1 (opening_of (c.seen n))) (sym (other_first pair small)) (subst (λ (o : Opening). IsBehind 1 o) (sym (ap (λ (l : List ℕ). opening_of l) second_seen ∙ second_none)) tt);
      };
      read = read_start (new_log (first_file pair) 1 0 limit) (c.seen (first_file pair)) there refl;
      settled = pair_settled c pair (first_file pair) (omega (arith, small)) (first_in pair small) first (record {
        only = λ f left. second.only f ((run.left (second_file pair) f (second_apart pair)).0 left) ∙ sym second_seen;
        trusted = run.trusted (second_file pair) (second_apart pair) ∙ second.trusted;
      });
    })
      where
        there : Describes (new_log (first_file pair) 1 0 limit) (c.seen (first_file pair))
        there = subst (λ (m : Mark). Describes m (c.seen (first_file pair))) is describes

    module _ (a : Desk) (looks : Stays a b) (settled : IsSettled b (second_file pair)) where
      pub making_since : ((t : ℕ) (s : List ℕ) (f : ℕ → List ℕ) → t ≤ a.moment → IsNow a s f → a.observed t s f) → Since (OnlyPair pair a (Still (store_in pair a.seen))) a c
      making_since counts = since_then (OnlyPair pair a (Still (store_in pair a.seen))) a b c (since_stays (OnlyPair pair a (Still (store_in pair a.seen))) a b counts looks)
          (since_touches (OnlyPair pair a (Still (store_in pair a.seen))) (first_file pair) (IsBeingMade (b.seen (first_file pair)) (new_file 1 [])) b c run here)
        where
          here : (s : List ℕ) (f : ℕ → List ℕ) → OnlyFile (first_file pair) b (IsBeingMade (b.seen (first_file pair)) (new_file 1 [])) s f → OnlyPair pair a (Still (store_in pair a.seen)) s f
          here s f o = record {
            told = o.told ∙ looks.said;
            others = λ i less out. (looks.left i (f i)).0 (o.others i less (λ e. out (ap (λ (n : ℕ). n / 2) e ∙ first_in pair small)));
            this = says_making f o.this (settled.only (f (second_file pair)) (o.others (second_file pair) (omega (arith, small)) (second_apart pair))) ∙ ap (λ (s : ℕ → List ℕ). store_in pair s) looks.seen;
          }

      pub making_kept : ((i : ℕ) → i < 4 → c.left i (c.seen i)) → AreKept pair a c
      making_kept reads =
          let being : IsBeingMade (b.seen (first_file pair)) (new_file 1 []) (c.seen (first_file pair)) = run.now (c.seen (first_file pair)) (reads (first_file pair) (omega (arith, small))) in
          let before = ap (λ (s : ℕ → List ℕ). s (first_file pair)) looks.seen in record {
            says_is = says_making c.seen being second_seen ∙ ap (λ (s : ℕ → List ℕ). store_in pair s) looks.seen;
            first = ⊎_elim (λ was. inl (was ∙ before)) (λ more. inr (subst (λ (s : ℕ → List ℕ). choice_in pair s ≡ neither) looks.seen none, more)) being;
            others = λ i other. run.seen i other ∙ ap (λ (s : ℕ → List ℕ). s i) looks.seen;
            said = run.said ∙ looks.said;
          }
