-- A run goes on by a batch.
use Rattle.std.proofs.Common.{◌<◌, ◌≤◌, ◌≡◌, inl, ⊎_elim, ℕ, ◌+◌, Bool, IsTrue, List, [], ◌∷◌, ◌++◌, length, take, Option, Some, None, refl, sym, ◌∙◌, ap, subst, arith, append_assoc, length-append}
use Rattle.std.proofs.lemmas.List.{append-nil, take_all}
use Rattle.std.proofs.Math.Seq.{take-append_seam, take-append-add}
use Rattle.host_desk.specs.Desk.{Desk}
use Rattle.host_desk.specs.Since.{Since}
use Rattle.host_desk.proofs.Moments.{since_refl, since_then}
use Rattle.machine_run.specs.Rules.{Rules, IsKeptByRecords, body_of, state_after, said_of, changes_of}
use Rattle.machine_run.specs.Stores.{Content, with_record, content_of, is_state, state_in, store_of, length_of, HasRoom, HasNoRoom}
use Rattle.machine_run.specs.Steps.{Between}
use Rattle.machine_run.specs.Fold.{Filling, Turn, start, stored, closed, filled, fold_to, HaveRoom, EndedBy, IsFilled}
use Rattle.machine_run.specs.Runs.{Plan, Left, Opens, HadRoom, Holds, Stored, IsBetween, Stands, IsDone, BreaksOff, HasNoRoomFor, LacksMemory, Running}
use Rattle.machine_run.specs.declared.stop.Stop.{Stop}
use Rattle.machine_run.specs.declared.filling.End.{End}
use Rattle.machine_run.specs.declared.filling.End.TheVariants.{Full, Done, Failed}
use Rattle.machine_run.proofs.Laws.{Leads, leads_all, state_behind, opens_of}
use Rattle.machine_run.proofs.Replying.{since_weaken}
use Rattle.machine_run.proofs.Items.{state_after-append, said_of-append, filled-append, room-append, room-split, ended_map}

-- without a turn a batch adds its record and no more
stored_plain : {State : Type 0} (turn : Option (Turn State)) → turn ≡ None → (s : State) (c : Content) (body : Option (List ℕ)) → stored turn s c body ≡ with_record c body
stored_plain turn none s c None = refl
stored_plain turn none s c (Some body) = ap (λ (t : Option (Turn _)). stored t s c (Some body)) none

-- the front of nothing
front_none : {Item : Type 0} (items rest : List Item) → items ++ rest ≡ [] → items ≡ []
front_none [] rest e = refl
front_none (item ∷ items) rest e = absurd (cc)

-- a stop behind these items, with a part of their replies out
pub left_at : {State Item : Type 0} (m : Rules State Item) (first : State) (items done rest : List Item) (before said : List ℕ) (files : ℕ → List ℕ) (out : ℕ) → items ≡ done ++ rest → store_of m (files 0) (files 1) ≡ is_state (state_after m first done) → said ≡ before ++ take out (said_of m first done) → Left m first items before said files
left_at m first items done rest before said files out split opens is =
    let front : take (length done) items ≡ done = ap (λ (l : List _). take (length done) l) split ∙ take-append_seam done rest in
    record {
      i = length done;
      within = omega (arith, ap length split, length-append done rest);
      opens = opens ∙ ap (λ (d : List _). is_state (state_after m first d)) (sym front);
      out = out;
      said_is = is ∙ ap (λ (d : List _). before ++ take out (said_of m first d)) (sym front);
    }

-- the store behind a batch stands for the state behind its items
pub stored_more : {State Item Place J : Type 0} (m : Rules State Item) → IsKeptByRecords m → (batch : ℕ) (s : State) (tells : Bool) (before after : List Item) (was now : Place → List Item → Type 0) (here : Place) (changes replies : List ℕ) (t : State) (end : End) (holds : J → Content → Desk → Type 0) (journal : J) (mid : Desk) (so_far : Stored m holds s journal mid)
    → IsFilled m batch s tells before after was now here changes replies t end → (journal' : J) (new : Desk) → holds journal' (with_record so_far.content (body_of changes)) new → content_of (new.seen 0) (new.seen 1) ≡ Some (with_record so_far.content (body_of changes)) → Stored m holds t journal' new
stored_more m kept batch s tells before after was now here changes replies t end holds journal mid so_far fill journal' new on seen = record {
  content = with_record so_far.content (body_of changes);
  store = on;
  seen = seen;
  stands = state_behind m so_far.content s changes t so_far.stands (subst (λ (l : List ℕ). Leads m s l t) (sym fill.changes_is) (subst (λ u. Leads m s (changes_of m s fill.items) u) (sym fill.state_is) (leads_all m kept s fill.items)));
}

module _ {State Item Place J : Type 0} (p : Plan State Item) (kept : IsKeptByRecords p.rules) (holds : J → Content → Desk → Type 0) (was : Place → List Item → Type 0) (old : Desk) where
  -- before the first batch
  pub running_start : (journal : J) (so_far : Stored p.rules holds p.first journal old) → p.held ≡ content_of (old.seen 0) (old.seen 1) → p.before ≡ old.said → p.files ≡ old.seen → p.kept so_far.content so_far.content old.seen old.seen → Running p holds was was old old journal p.items p.first
  running_start journal so_far held before files keeps = record {
    done = [];
    split = refl;
    read = λ place more is. is;
    state_is = refl;
    stored = so_far;
    fold = λ c is. ap (λ (k : Content). start k p.first) (one c is);
    had_room = λ c is. tt;
    kept = λ c is. subst (λ (k : Content). p.kept k so_far.content p.files old.seen) (sym (one c is)) (subst (λ (f : ℕ → List ℕ). p.kept so_far.content so_far.content f old.seen) (sym files) keeps);
    said_is = sym (append-nil p.before ∙ before);
    since = since_refl (Left p.rules p.first p.items p.before) old;
  }
    where
      one : (c : Content) → p.held ≡ Some c → c ≡ so_far.content
      one c is = let same : Some c ≡ Some so_far.content = sym is ∙ held ∙ so_far.seen in cc

  module _ (mid : Desk) (journal : J) (now : Place → List Item → Type 0) (left : List Item) (s : State) (running : Running p holds was now old mid journal left s) where
    stands_for : state_in p.rules running.stored.content ≡ Some (state_after p.rules p.first running.done)
    stands_for = running.stored.stands ∙ ap (λ (u : State). Some u) running.state_is

    opens_then : Opens p.rules mid (state_after p.rules p.first running.done)
    opens_then = opens_of p.rules kept (mid.seen 0) (mid.seen 1) running.stored.content (state_after p.rules p.first running.done) running.stored.seen stands_for

    holds_then : Holds p running.done mid
    holds_then = record {
      content = running.stored.content;
      holds = running.stored.seen;
      fold = λ c is. sym (ap (λ (f : Filling State). (closed p.turn f).content) (running.fold c is));
      had_room = running.had_room;
      kept = running.kept;
    }

    pub running_stands : Stands p mid
    running_stands = record {
      done = running.done;
      rest = left;
      split = running.split;
      opens = opens_then;
      holds = holds_then;
      said_is = running.said_is;
    }

    said_whole : p.before ++ said_of p.rules p.first running.done ≡ p.before ++ take (length (said_of p.rules p.first running.done)) (said_of p.rules p.first running.done)
    said_whole = ap (λ (l : List ℕ). p.before ++ l) (sym (take_all (length (said_of p.rules p.first running.done)) (said_of p.rules p.first running.done) (omega arith)))

    pub running_left : Left p.rules p.first p.items p.before mid.said mid.seen
    running_left = left_at p.rules p.first p.items running.done left p.before mid.said mid.seen (length (said_of p.rules p.first running.done)) running.split opens_then (running.said_is ∙ said_whole)

    pub between_then : IsBetween p running.done
    between_then c is = (running.stored.content, running.fold c is ∙ ap (λ (u : State). start running.stored.content u) running.state_is)

    -- memory lacks for an item
    pub lacks_then : (own : Type 0) → (left ≡ [] → ⊥) → LacksMemory p own mid
    unfolding running_stands
    lacks_then own some = record { stands = running_stands; cause = inl (between_then, some) }

    -- a batch was taken
    module _ (tells : Bool) (after : List Item) (then : Place → List Item → Type 0) (here : Place) (changes replies : List ℕ) (t : State) (end : End) (fill : IsFilled p.rules p.batch s tells left after now then here changes replies t end) (told : IsTrue tells) where
      abbrev done : List Item
      done = running.done

      abbrev both : List Item
      both = running.done ++ fill.items

      -- what the store holds before the batch and behind it
      abbrev before : Content
      before = running.stored.content

      abbrev behind : Content
      behind = with_record running.stored.content (body_of changes)

      split_now : p.items ≡ done ++ fill.items ++ fill.rest
      split_now = running.split ∙ ap (λ (l : List Item). done ++ l) (fill.taken told) ∙ sym (append_assoc done fill.items fill.rest)

      state_both : t ≡ state_after p.rules p.first both
      state_both = fill.state_is ∙ ap (λ (u : State). state_after p.rules u fill.items) running.state_is ∙ sym (state_after-append p.rules p.first done fill.items)

      replies_then : replies ≡ said_of p.rules (state_after p.rules p.first done) fill.items
      replies_then = fill.replies_is ∙ ap (λ (u : State). said_of p.rules u fill.items) running.state_is

      said_both : said_of p.rules p.first both ≡ said_of p.rules p.first done ++ replies
      said_both = said_of-append p.rules p.first done fill.items ∙ ap (λ (l : List ℕ). said_of p.rules p.first done ++ l) (sym replies_then)

      leads : Leads p.rules s changes t
      leads = subst (λ (l : List ℕ). Leads p.rules s l t) (sym fill.changes_is) (subst (λ (u : State). Leads p.rules s (changes_of p.rules s fill.items) u) (sym fill.state_is) (leads_all p.rules kept s fill.items))

      opens_before : (f0 f1 : List ℕ) → content_of f0 f1 ≡ Some before → store_of p.rules f0 f1 ≡ is_state (state_after p.rules p.first done)
      opens_before f0 f1 has = opens_of p.rules kept f0 f1 before (state_after p.rules p.first done) has stands_for

      opens_after : (f0 f1 : List ℕ) → content_of f0 f1 ≡ Some behind → store_of p.rules f0 f1 ≡ is_state (state_after p.rules p.first both)
      opens_after f0 f1 has = opens_of p.rules kept f0 f1 behind (state_after p.rules p.first both) has (state_behind p.rules before s changes t running.stored.stands leads ∙ ap (λ (u : State). Some u) state_both)

      said_cut : (k : ℕ) (said : List ℕ) → said ≡ mid.said ++ take k replies → said ≡ p.before ++ said_of p.rules p.first done ++ take k replies
      said_cut k said is = is ∙ ap (λ (l : List ℕ). l ++ take k replies) running.said_is

      -- a stop within the batch is one behind some of the items
      pub between_left : (said : List ℕ) (files : ℕ → List ℕ) → Between before (body_of changes) replies mid said files → Left p.rules p.first p.items p.before said files
      between_left said files b = ⊎_elim
          (λ off. left_at p.rules p.first p.items done left p.before said files (length (said_of p.rules p.first done)) running.split (opens_before (files 0) (files 1) off.0) (off.1 ∙ running.said_is ∙ said_whole))
          (λ on. left_at p.rules p.first p.items both fill.rest p.before said files (length (said_of p.rules p.first done) + on.0) split_now (opens_after (files 0) (files 1) on.1)
          (said_cut on.0 said on.2 ∙ append_assoc p.before (said_of p.rules p.first done) (take on.0 replies) ∙ ap (λ (l : List ℕ). p.before ++ l) (sym (take-append-add (said_of p.rules p.first done) replies on.0) ∙ ap (λ (l : List ℕ). take (length (said_of p.rules p.first done) + on.0) l) (sym said_both))))
          b.stage

      pub batch_since : (new : Desk) → Since (Between before (body_of changes) replies mid) mid new → Since (Left p.rules p.first p.items p.before) old new
      batch_since new since = since_then (Left p.rules p.first p.items p.before) old mid new running.since (since_weaken (Between before (body_of changes) replies mid) (Left p.rules p.first p.items p.before) mid new since between_left)

      abbrev last_open : Filling State
      last_open = record { content = before; state = t; changes = changes; count = fill.count; bytes = fill.bytes }

      fold_both : (c : Content) → p.held ≡ Some c → filled p.rules p.batch p.turn (start c p.first) both ≡ fold_to p.turn end last_open
      fold_both c is = filled-append p.rules p.batch p.turn (start c p.first) done fill.items ∙ ap (λ (f : Filling State). filled p.rules p.batch p.turn f fill.items) (running.fold c is) ∙ fill.fold p.turn before

      -- where it has changes there were items
      pub some_left : 0 < length changes → left ≡ [] → ⊥
      some_left some none =
          let empty : changes ≡ [] = fill.changes_is ∙ ap (λ (l : List Item). changes_of p.rules s l) (front_none fill.items fill.rest (sym (fill.taken told) ∙ none)) in
          absurd (omega (arith, some, ap length empty))

      -- the log has no room for the record of the batch
      no_room : (n : ℕ) → (body : Option (List ℕ)) → body_of changes ≡ body → HasNoRoom p.limit before body n → HasNoRoomFor p done left before n
      no_room n None e never = absurd never
      no_room n (Some body) e full = record {
        now = fill.items;
        later = fill.rest;
        split = fill.taken told;
        between = between_then;
        end = end;
        whole = fill.whole;
        last = fill.done told;
        state = t;
        count = fill.count;
        bytes = fill.bytes;
        fold = ap (λ (u : State). filled p.rules p.batch p.turn (start before u) fill.items) (sym running.state_is) ∙ fill.fold p.turn before ∙ ap (λ (l : List ℕ). fold_to p.turn end (record { content = before; state = t; changes = l; count = fill.count; bytes = fill.bytes })) changes_then;
        body = body;
        is = ap body_of (sym changes_then) ∙ e;
        length_is = full.0;
        above = omega (arith, full.1, full.0);
        none = λ c is all. (
            let here : HaveRoom p.rules p.batch p.turn p.limit (start before s) fill.items = subst (λ (f : Filling State). HaveRoom p.rules p.batch p.turn p.limit f fill.items) (running.fold c is) (room-split p.rules p.batch p.turn p.limit (start c p.first) done fill.items all).1 in
            let room : length_of before + 5 + length body ≤ p.limit = (fill.room p.turn p.limit before).0 here body e in
            omega (arith, room, full.1));
      }
        where
          changes_then : changes ≡ changes_of p.rules (state_after p.rules p.first done) fill.items
          changes_then = fill.changes_is ∙ ap (λ (u : State). changes_of p.rules u fill.items) running.state_is

      pub running_full : (n : ℕ) → HasNoRoom p.limit before (body_of changes) n → (stands : Stands p mid) × HasNoRoomFor p stands.done stands.rest stands.holds.content n
      unfolding running_stands holds_then
      running_full n full = (running_stands, no_room n (body_of changes) refl full)

      -- the batch is stored
      module _ (no_turn : p.turn ≡ None) (adds_up : (a b c : Content) (f g h : ℕ → List ℕ) → p.kept a b f g → p.kept b c g h → p.kept a c f h) (new : Desk) (seen : content_of (new.seen 0) (new.seen 1) ≡ Some behind) (room : HasRoom p.limit before (body_of changes)) (keeps : p.kept before behind mid.seen new.seen) where
        had_room_both : (c : Content) → p.held ≡ Some c → HadRoom p c both
        had_room_both c is = room-append p.rules p.batch p.turn p.limit (start c p.first) done fill.items (running.had_room c is) (subst (λ (f : Filling State). HaveRoom p.rules p.batch p.turn p.limit f fill.items) (sym (running.fold c is)) ((fill.room p.turn p.limit before).1 room))

        kept_both : (c : Content) → p.held ≡ Some c → p.kept c behind p.files new.seen
        kept_both c is = adds_up c before behind p.files mid.seen new.seen (running.kept c is) keeps

        -- whatever ended the batch, closing it gives what the store holds
        closed_is : (e : End) → (closed p.turn (fold_to p.turn e last_open)).content ≡ behind
        closed_is Full = stored_plain p.turn no_turn t before (body_of changes)
        closed_is Done = stored_plain p.turn no_turn t before (body_of changes)
        closed_is (Failed stop) = stored_plain p.turn no_turn t before (body_of changes)

        holds_both : Holds p both new
        holds_both = record {
          content = behind;
          holds = seen;
          fold = λ c is. sym (ap (λ (f : Filling State). (closed p.turn f).content) (fold_both c is) ∙ closed_is end);
          had_room = had_room_both;
          kept = kept_both;
        }

        pub batch_cut : 0 < length replies → (out : ℕ) → new.said ≡ mid.said ++ take out replies → BreaksOff p new
        batch_cut some out said = record {
          done = done;
          now = fill.items;
          rest = fill.rest;
          split = split_now;
          between = between_then;
          end = end;
          whole = fill.whole;
          last = fill.done told;
          some = subst (λ (l : List ℕ). 0 < length l) replies_then some;
          opens = opens_after (new.seen 0) (new.seen 1) seen;
          holds = holds_both;
          out = out;
          said_is = said_cut out new.said said ∙ ap (λ (l : List ℕ). p.before ++ said_of p.rules p.first done ++ take out l) replies_then;
        }

        -- and its replies are out
        module _ (said : new.said ≡ mid.said ++ replies) where
          said_now : new.said ≡ p.before ++ said_of p.rules p.first both
          said_now = said ∙ ap (λ (l : List ℕ). l ++ replies) running.said_is ∙ append_assoc p.before (said_of p.rules p.first done) replies ∙ ap (λ (l : List ℕ). p.before ++ l) (sym said_both)

          -- it was full
          pub batch_full : end ≡ Full → (journal' : J) (on : holds journal' behind new) → Since (Between before (body_of changes) replies mid) mid new → Running p holds was then old new journal' after t
          batch_full full journal' on since = record {
            done = both;
            split = split_now ∙ ap (λ (l : List Item). both ++ l) (fill.rest_is full);
            read = λ place more is. subst (λ (l : List Item). was place l) (sym (append_assoc done fill.items more)) (running.read place (fill.items ++ more) (fill.read told full place more is));
            state_is = state_both;
            stored = record { content = behind; store = on; seen = seen; stands = state_behind p.rules before s changes t running.stored.stands leads };
            fold = λ c is. fold_both c is ∙ ap (λ (e : End). fold_to p.turn e last_open) full ∙ ap (λ (k : Content). start k t) (stored_plain p.turn no_turn t before (body_of changes));
            had_room = had_room_both;
            kept = kept_both;
            said_is = said_now;
            since = batch_since new since;
          }

          -- a read failed behind it
          pub batch_stands : Stands p new
          batch_stands = record {
            done = both;
            rest = fill.rest;
            split = split_now;
            opens = opens_after (new.seen 0) (new.seen 1) seen;
            holds = holds_both;
            said_is = said_now;
          }

          pub batch_failed : (stop : Stop) → end ≡ Failed stop → (stands : Stands p new) × EndedBy stop (was here stands.done)
          unfolding batch_stands
          batch_failed stop off = (batch_stands, ended_map stop (now here fill.items) (was here both) (running.read here fill.items) (fill.broken told stop off))

          -- it was the last
          pub batch_done : end ≡ Done → IsDone p new
          batch_done last =
              let whole : both ≡ p.items = sym (split_now ∙ ap (λ (l : List Item). both ++ l) (fill.done told last) ∙ append-nil both) in
              record {
                opens = opens_after (new.seen 0) (new.seen 1) seen ∙ ap (λ (l : List Item). is_state (state_after p.rules p.first l)) whole;
                holds = subst (λ (l : List Item). Holds p l new) whole holds_both;
                said_is = said_now ∙ ap (λ (l : List Item). p.before ++ said_of p.rules p.first l) whole;
              }
