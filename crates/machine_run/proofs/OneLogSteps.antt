-- A record is added to a store that is one log.
use Rattle.std.proofs.Common.{◌≡◌, inl, inr, ⊎_elim, ℕ, zero, suc, ◌+◌, ◌<◌, ◌≤◌, true, List, [], ◌∷◌, ◌++◌, length, Some, sym, ◌∙◌, ap, subst, arith}
use Rattle.std.proofs.lemmas.List.{append-nil}
use Rattle.host_desk.specs.Desk.{Desk}
use Rattle.host_desk.specs.Since.{IsSettled, OnlyFile, Touches, Since}
use Rattle.host_desk.proofs.Moments.{since_touches}
use Rattle.gate_log.specs.Format.{LogSays, says, is_log, EndsAt, opening_of, with_body as log_with_body}
use Rattle.gate_log.specs.Log.{Mark, Describes, grown, IsWithOrWithout, with_record_at}
use Rattle.machine_run.specs.Rules.{weight}
use Rattle.machine_run.specs.Stores.{Content, with_body, no_log, content_of, HasRoom, HasNoRoom, AreKept}
use Rattle.machine_run.specs.Steps.{Storing}
use Rattle.machine_run.specs.OneLogs.{IsStore}
use Rattle.machine_run.specs.Adding.{weight-append, kept_one}
use Rattle.machine_run.specs.OneLogLaws.{content_says}

-- each file reads as a stop leaves it
abbrev pub Reads : Desk → Type 0
Reads desk = (i : ℕ) → i < 4 → desk.left i (desk.seen i)

module _ (log : Mark) (c : Content) (desk : Desk) (store : IsStore log c desk) where
  pub ends_there : EndsAt (desk.seen log.file) log.place
  ends_there = subst (λ (k : ℕ). EndsAt (desk.seen k) log.place) (sym store.file) (record { generation = c.generation; snapshot = c.snapshot; bodies = c.bodies; is = store.says_is })

  -- the second file is as it was
  second_stays : (file : List ℕ) → desk.left 1 file → no_log (opening_of file) ≡ true
  second_stays file left = ap (λ (l : List ℕ). no_log (opening_of l)) ((store.settled 1 (omega arith)).only file left) ∙ store.second

  module _ (body : List ℕ) where
    log_more : (file : List ℕ) → says file ≡ log_with_body (says (desk.seen 0)) body → says file ≡ is_log c.generation c.snapshot (c.bodies ++ body ∷ []) (log.place + 5 + length body)
    log_more file is = is ∙ ap (λ (l : LogSays). log_with_body l body) store.says_is

    without : (one two : List ℕ) → says one ≡ says (desk.seen 0) → desk.left 1 two → content_of one two ≡ Some c
    without one two is left = content_says one two c log.place (is ∙ store.says_is) (second_stays two left)

    with : (one two : List ℕ) → says one ≡ log_with_body (says (desk.seen 0)) body → desk.left 1 two → content_of one two ≡ Some (with_body c body)
    with one two is left = content_says one two (with_body c body) (log.place + 5 + length body) (log_more one is) (second_stays two left)

    stage_of : (said : List ℕ) (files : ℕ → List ℕ) → said ≡ desk.said → desk.left 1 (files 1) → IsWithOrWithout (says (desk.seen 0)) body (files 0) → ((i : ℕ) → i < 4 → 2 ≤ i → desk.left i (files i)) → Storing c (Some body) desk said files
    stage_of said files same left is others = record {
      others = others;
      stage = ⊎_elim (λ off. inl (without (files 0) (files 1) off left, same)) (λ on. inr (0, with (files 0) (files 1) on left, same ∙ sym (append-nil desk.said))) is;
    }

    pub room_there : log.place + 6 + length body ≤ log.limit → HasRoom log.limit c (Some body)
    room_there room b is = let same : body ≡ b = cc in omega (arith, room, store.length_is, ap length same)

    pub no_room_there : (n : ℕ) → n ≡ log.place + 1 → log.limit < log.place + 6 + length body → HasNoRoom log.limit c (Some body) n
    no_room_there n is above = (is ∙ store.length_is, omega (arith, above, store.length_is))

    module _ (new : Desk) (run : Touches 0 (IsWithOrWithout (says (desk.seen 0)) body) desk new) where
      pub store_since : Since (Storing c (Some body) desk) desk new
      store_since = since_touches (Storing c (Some body) desk) 0 (IsWithOrWithout (says (desk.seen 0)) body) desk new run here
        where
          here : (s : List ℕ) (f : ℕ → List ℕ) → OnlyFile 0 desk (IsWithOrWithout (says (desk.seen 0)) body) s f → Storing c (Some body) desk s f
          here s f o = stage_of s f o.told (o.others 1 (omega arith) (λ e. omega arith)) o.this (λ i less high. o.others i less (λ e. omega (arith, high, e)))

      pub store_now : Reads new → Storing c (Some body) desk new.said new.seen
      store_now reads = stage_of new.said new.seen run.said ((run.left 1 (new.seen 1) (λ e. omega arith)).0 (reads 1 (omega arith))) (run.now (new.seen 0) (reads 0 (omega arith))) (λ i less high. (run.left i (new.seen i) (λ e. omega (arith, high, e))).0 (reads i less))

      pub store_others : (i : ℕ) (f : List ℕ) → 2 ≤ i → new.left i f → desk.left i f
      store_others i f high left = (run.left i f (λ e. omega (arith, high, e))).0 left

      pub store_keeps : new.seen 0 ≡ with_record_at log.place body (desk.seen 0) → AreKept c (with_body c body) desk.seen new.seen
      store_keeps bytes = kept_one c body log.place desk.seen new.seen store.length_is bytes (λ file other. run.seen file other)

      pub store_more : (after : Mark) → says (new.seen 0) ≡ log_with_body (says (desk.seen 0)) body → after ≡ grown log (length body) → Describes after (new.seen 0) → IsSettled new 0 → IsStore after (with_body c body) new
      store_more after added is describes settled = record {
        file = ap (λ (l : Mark). l.file) is ∙ store.file;
        settled = settled_by;
        second = ap (λ (l : List ℕ). no_log (opening_of l)) (run.seen 1 (λ e. omega arith)) ∙ store.second;
        describes = describes;
        says_is = log_more (new.seen 0) added ∙ ap (λ (k : ℕ). is_log c.generation c.snapshot (c.bodies ++ body ∷ []) k) (sym place);
        length_is = let all : weight (c.bodies ++ body ∷ []) ≡ weight c.bodies + weight (body ∷ []) = weight-append c.bodies (body ∷ []) in omega (arith, all, place, store.length_is);
      }
        where
          place : after.place ≡ log.place + 5 + length body
          place = ap (λ (l : Mark). l.place) is

          settled_by : (file : ℕ) → file < 2 → IsSettled new file
          settled_by zero less = settled
          settled_by (suc zero) less = record { only = λ f left. (store.settled 1 (omega arith)).only f ((run.left 1 f (λ e. omega arith)).0 left) ∙ sym (run.seen 1 (λ e. omega arith)); trusted = run.trusted 1 (λ e. omega arith) ∙ (store.settled 1 (omega arith)).trusted }
          settled_by (suc (suc n)) less = absurd (omega (arith, less))

-- what an append to a log in the first file leaves
module _ (log : Mark) (file : log.file ≡ 0) (frame : List ℕ) (old new : Desk) (run : Touches log.file (IsWithOrWithout (says (old.seen log.file)) frame) old new) where
  pub run_first : Touches 0 (IsWithOrWithout (says (old.seen 0)) frame) old new
  run_first = subst (λ (k : ℕ). Touches k (IsWithOrWithout (says (old.seen k)) frame) old new) file run

  pub append_others : (i : ℕ) (f : List ℕ) → 2 ≤ i → new.left i f → old.left i f
  append_others i f high left = (run.left i f (λ e. omega (arith, high, e, file))).0 left

  module _ (c : Content) (store : IsStore log c old) where
    pub append_since : Since (Storing c (Some frame) old) old new
    append_since = store_since log c old store frame new run_first

    pub append_now : Reads new → Storing c (Some frame) old new.said new.seen
    append_now reads = store_now log c old store frame new run_first reads

    pub append_keeps : new.seen log.file ≡ with_record_at log.place frame (old.seen log.file) → AreKept c (with_body c frame) old.seen new.seen
    append_keeps bytes = store_keeps log c old store frame new run_first (subst (λ (k : ℕ). new.seen k ≡ with_record_at log.place frame (old.seen k)) file bytes)

    pub append_store : (after : Mark) → says (new.seen log.file) ≡ log_with_body (says (old.seen log.file)) frame → after ≡ grown log (length frame) → Describes after (new.seen log.file) → IsSettled new log.file → IsStore after (with_body c frame) new
    append_store after added grows describes settled = store_more log c old store frame new run_first after
        (subst (λ (k : ℕ). says (new.seen k) ≡ log_with_body (says (old.seen k)) frame) file added) grows (subst (λ (k : ℕ). Describes after (new.seen k)) file describes) (subst (λ (k : ℕ). IsSettled new k) file settled)
