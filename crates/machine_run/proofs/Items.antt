-- Items are decided one after another, and the fold goes on with them.
use Rattle.std.proofs.Common.{◌≡◌, ◌≤◌, inl, inr, ℕ, ◌+◌, Bool, true, false, IsTrue, List, [], ◌∷◌, ◌++◌, length, Option, refl, sym, ◌∙◌, ap, subst, arith, append_assoc, length-append}
use Rattle.std.proofs.lemmas.List.{append-nil}
use Rattle.machine_run.specs.Rules.{Rules, bytes_of, body_of, state_after, said_of, changes_of}
use Rattle.machine_run.specs.Stores.{Content, length_of, HasRoom}
use Rattle.machine_run.specs.Fold.{Filling, Turn, start, is_full, added, closed_if, step, filled, HaveRoom, NoneFills, LastFills, EndedBy, IsFilled, IsFilling}
use Rattle.machine_run.specs.declared.stop.Stop.{Stop}
use Rattle.machine_run.specs.declared.stop.Stop.TheVariants.{StoreFault, StoreCorrupt, InputFault, OutputFault, NoMemory, StoreFull, InputTooLong}
use Rattle.machine_run.specs.declared.filling.End.TheVariants.{Full, Done, Failed}

-- no bytes have room
room_none : (limit : ℕ) (c : Content) → HasRoom limit c (body_of [])
room_none limit c b is = absurd (cc)

-- where more bytes have room, a first part of them has
room_front : (limit : ℕ) (c : Content) (a b : List ℕ) → HasRoom limit c (body_of (a ++ b)) → HasRoom limit c (body_of a)
room_front limit c [] b room body is = room_none limit c body is
room_front limit c (x ∷ xs) b room body is =
    let all : length_of c + 5 + length ((x ∷ xs) ++ b) ≤ limit = room ((x ∷ xs) ++ b) refl in
    let same : x ∷ xs ≡ body = cc in
    omega (arith, all, length-append (x ∷ xs) b, ap length same)

-- where an item was read there was one
pub some_taken : {Item : Type 0} (item : Item) (later items left before : List Item) → left ≡ item ∷ later → before ≡ items ++ left → before ≡ [] → ⊥
some_taken item later items left before read taken none = absurd (omega (arith, ap length none, ap length taken, length-append items left, ap length read))

-- more is known of where the items broke off
pub ended_map : (stop : Stop) (P Q : Type 0) → (P → Q) → EndedBy stop P → EndedBy stop Q
ended_map StoreFault P Q f is = tt
ended_map (StoreCorrupt file at) P Q f is = tt
ended_map InputFault P Q f is = f is
ended_map OutputFault P Q f is = tt
ended_map NoMemory P Q f is = tt
ended_map (StoreFull n) P Q f is = tt
ended_map InputTooLong P Q f is = f is

module _ {State Item : Type 0} (m : Rules State Item) where
  -- an item more
  pub state_after-push : (s : State) (items : List Item) (item : Item) → state_after m s (items ++ item ∷ []) ≡ m.next (state_after m s items) item
  state_after-push s [] item = refl
  state_after-push s (i ∷ items) item = state_after-push (m.next s i) items item

  pub said_of-push : (s : State) (items : List Item) (item : Item) → said_of m s (items ++ item ∷ []) ≡ said_of m s items ++ m.reply (state_after m s items) item
  said_of-push s [] item = append-nil (m.reply s item)
  said_of-push s (i ∷ items) item = ap (λ (t : List ℕ). m.reply s i ++ t) (said_of-push (m.next s i) items item) ∙ sym (append_assoc (m.reply s i) (said_of m (m.next s i) items) (m.reply (state_after m (m.next s i) items) item))

  pub changes_of-push : (s : State) (items : List Item) (item : Item) → changes_of m s (items ++ item ∷ []) ≡ changes_of m s items ++ bytes_of (m.body (state_after m s items) item)
  changes_of-push s [] item = append-nil (bytes_of (m.body s item))
  changes_of-push s (i ∷ items) item = ap (λ (t : List ℕ). bytes_of (m.body s i) ++ t) (changes_of-push (m.next s i) items item) ∙ sym (append_assoc (bytes_of (m.body s i)) (changes_of m (m.next s i) items) (bytes_of (m.body (state_after m (m.next s i) items) item)))

  -- some items, and then others
  pub state_after-append : (s : State) (items more : List Item) → state_after m s (items ++ more) ≡ state_after m (state_after m s items) more
  state_after-append s [] more = refl
  state_after-append s (i ∷ items) more = state_after-append (m.next s i) items more

  pub said_of-append : (s : State) (items more : List Item) → said_of m s (items ++ more) ≡ said_of m s items ++ said_of m (state_after m s items) more
  said_of-append s [] more = refl
  said_of-append s (i ∷ items) more = ap (λ (t : List ℕ). m.reply s i ++ t) (said_of-append (m.next s i) items more) ∙ sym (append_assoc (m.reply s i) (said_of m (m.next s i) items) (said_of m (state_after m (m.next s i) items) more))

  module _ (batch : ℕ) (turn : Option (Turn State)) where
    pub filled-append : (f : Filling State) (items more : List Item) → filled m batch turn f (items ++ more) ≡ filled m batch turn (filled m batch turn f items) more
    filled-append f [] more = refl
    filled-append f (i ∷ items) more = filled-append (step m batch turn f i) items more

    pub room-append : (limit : ℕ) (f : Filling State) (items more : List Item) → HaveRoom m batch turn limit f items → HaveRoom m batch turn limit (filled m batch turn f items) more → HaveRoom m batch turn limit f (items ++ more)
    room-append limit f [] more first then = then
    room-append limit f (i ∷ items) more first then = (first.0, room-append limit (step m batch turn f i) items more first.1 then)

    pub room-split : (limit : ℕ) (f : Filling State) (items more : List Item) → HaveRoom m batch turn limit f (items ++ more) → HaveRoom m batch turn limit f items × HaveRoom m batch turn limit (filled m batch turn f items) more
    room-split limit f [] more all = (tt, all)
    room-split limit f (i ∷ items) more all = let rest = room-split limit (step m batch turn f i) items more all.1 in ((all.0, rest.0), rest.1)

  module _ {Place : Type 0} (batch : ℕ) (s : State) (tells : Bool) (before : List Item) (was : Place → List Item → Type 0) where
    -- before the first item
    pub filling_start : (changes replies : List ℕ) → changes ≡ [] → replies ≡ [] → IsFilling m batch s tells before before was was changes replies s 0 0
    filling_start changes replies none empty = record {
      items = [];
      none_fills = λ rest is. is;
      last_fills = λ rest is. is;
      taken = λ told. refl;
      read = λ told place more is. is;
      changes_is = none;
      replies_is = empty;
      state_is = refl;
      fold = λ turn c. ap (λ (l : List ℕ). record { content = c; state = s; changes = l; count = 0; bytes = 0 }) (sym none);
      room = λ turn limit c. (λ all. subst (λ (l : List ℕ). HasRoom limit c (body_of l)) (sym none) (room_none limit c), λ room. tt);
    }

    module _ (now : Place → List Item → Type 0) (left : List Item) (changes replies : List ℕ) (t : State) (count bytes : ℕ) (so_far : IsFilling m batch s tells before left was now changes replies t count bytes) where
      module _ (item : Item) (later : List Item) (then : Place → List Item → Type 0) (taken : IsTrue tells → left ≡ item ∷ later) (read : IsTrue tells → (place : Place) (more : List Item) → then place more → now place (item ∷ more)) (changes' replies' : List ℕ) (t' : State) (changes_is : changes' ≡ changes ++ bytes_of (m.body t item)) (replies_is : replies' ≡ replies ++ m.reply t item) (state_is : t' ≡ m.next t item) where
        abbrev items : List Item
        items = so_far.items ++ item ∷ []

        taken_more : IsTrue tells → before ≡ items ++ later
        taken_more told = so_far.taken told ∙ ap (λ (l : List Item). so_far.items ++ l) (taken told) ∙ sym (append_assoc so_far.items (item ∷ []) later)

        read_more : IsTrue tells → (place : Place) (more : List Item) → then place more → was place (items ++ more)
        read_more told place more is = subst (λ (l : List Item). was place l) (sym (append_assoc so_far.items (item ∷ []) more)) (so_far.read told place (item ∷ more) (read told place more is))

        changes_more : changes' ≡ changes_of m s items
        changes_more = changes_is ∙ (λ i. so_far.changes_is i ++ bytes_of (m.body (so_far.state_is i) item)) ∙ sym (changes_of-push s so_far.items item)

        replies_more : replies' ≡ said_of m s items
        replies_more = replies_is ∙ (λ i. so_far.replies_is i ++ m.reply (so_far.state_is i) item) ∙ sym (said_of-push s so_far.items item)

        state_more : t' ≡ state_after m s items
        state_more = state_is ∙ ap (λ (u : State). m.next u item) so_far.state_is ∙ sym (state_after-push s so_far.items item)

        -- the open batch before the item, and with it
        abbrev begun : Content → Filling State
        begun c = record { content = c; state = t; changes = changes; count = count; bytes = bytes }

        abbrev opened : Content → Filling State
        opened c = record { content = c; state = t'; changes = changes'; count = count + 1; bytes = bytes + m.weigh item }

        stepped : (full : Bool) → is_full batch (count + 1) (bytes + m.weigh item) ≡ full → (turn : Option (Turn State)) (c : Content) → filled m batch turn (start c s) items ≡ closed_if turn full (opened c)
        stepped full e turn c =
            filled-append batch turn (start c s) so_far.items (item ∷ [])
            ∙ ap (λ (f : Filling State). step m batch turn f item) (so_far.fold turn c)
            ∙ ap (λ (b : Bool). closed_if turn b (added m (begun c) item)) e
            ∙ (λ i. closed_if turn full (record { content = c; state = sym state_is i; changes = sym changes_is i; count = count + 1; bytes = bytes + m.weigh item }))

        room_all : (turn : Option (Turn State)) (limit : ℕ) (c : Content) → HaveRoom m batch turn limit (start c s) items → HasRoom limit c (body_of changes')
        room_all turn limit c all =
            let last : HaveRoom m batch turn limit (begun c) (item ∷ []) = subst (λ (f : Filling State). HaveRoom m batch turn limit f (item ∷ [])) (so_far.fold turn c) (room-split batch turn limit (start c s) so_far.items (item ∷ []) all).1 in
            subst (λ (l : List ℕ). HasRoom limit c (body_of l)) (sym changes_is) last.0

        room_each : (turn : Option (Turn State)) (limit : ℕ) (c : Content) → HasRoom limit c (body_of changes') → HaveRoom m batch turn limit (start c s) items
        room_each turn limit c room =
            let whole : HasRoom limit c (body_of (changes ++ bytes_of (m.body t item))) = subst (λ (l : List ℕ). HasRoom limit c (body_of l)) changes_is room in
            let first : HaveRoom m batch turn limit (start c s) so_far.items = (so_far.room turn limit c).1 (room_front limit c changes (bytes_of (m.body t item)) whole) in
            room-append batch turn limit (start c s) so_far.items (item ∷ []) first (subst (λ (f : Filling State). HaveRoom m batch turn limit f (item ∷ [])) (sym (so_far.fold turn c)) (whole, tt))

        -- one that doesn't fill the batch leaves it to those that follow
        none_more : is_full batch (count + 1) (bytes + m.weigh item) ≡ false → (rest : List Item) → NoneFills m batch (count + 1) (bytes + m.weigh item) rest → NoneFills m batch 0 0 (items ++ rest)
        none_more off rest is = subst (λ (l : List Item). NoneFills m batch 0 0 l) (sym (append_assoc so_far.items (item ∷ []) rest)) (so_far.none_fills (item ∷ rest) (off, is))

        last_more : is_full batch (count + 1) (bytes + m.weigh item) ≡ false → (rest : List Item) → LastFills m batch (count + 1) (bytes + m.weigh item) rest → LastFills m batch 0 0 (items ++ rest)
        last_more off rest is = subst (λ (l : List Item). LastFills m batch 0 0 l) (sym (append_assoc so_far.items (item ∷ []) rest)) (so_far.last_fills (item ∷ rest) (inr (off, is)))

        pub filling_more : is_full batch (count + 1) (bytes + m.weigh item) ≡ false → IsFilling m batch s tells before later was then changes' replies' t' (count + 1) (bytes + m.weigh item)
        filling_more off = record { items = items; none_fills = none_more off; last_fills = last_more off; taken = taken_more; read = read_more; changes_is = changes_more; replies_is = replies_more; state_is = state_more; fold = stepped false off; room = λ turn limit c. (room_all turn limit c, room_each turn limit c) }

        pub filling_full : (here : Place) → is_full batch (count + 1) (bytes + m.weigh item) ≡ true → IsFilled m batch s tells before later was then here changes' replies' t' Full
        filling_full here full = record {
          items = items;
          rest = later;
          whole = so_far.last_fills (item ∷ []) (inl (full, refl));
          taken = taken_more;
          rest_is = λ e. refl;
          done = λ told e. absurd (cc);
          read = λ told e. read_more told;
          broken = λ told stop e. absurd (cc);
          changes_is = changes_more;
          replies_is = replies_more;
          state_is = state_more;
          count = count + 1;
          bytes = bytes + m.weigh item;
          fold = stepped true full;
          room = λ turn limit c. (room_all turn limit c, room_each turn limit c);
        }

      -- none has filled it
      still_open : NoneFills m batch 0 0 so_far.items
      still_open = subst (λ (l : List Item). NoneFills m batch 0 0 l) (append-nil so_far.items) (so_far.none_fills [] tt)

      pub filling_done : (after : List Item) (then : Place → List Item → Type 0) (here : Place) → (IsTrue tells → left ≡ []) → IsFilled m batch s tells before after was then here changes replies t Done
      filling_done after then here none = record {
        items = so_far.items;
        rest = left;
        whole = still_open;
        taken = so_far.taken;
        rest_is = λ e. absurd (cc);
        done = λ told e. none told;
        read = λ told e. absurd (cc);
        broken = λ told stop e. absurd (cc);
        changes_is = so_far.changes_is;
        replies_is = so_far.replies_is;
        state_is = so_far.state_is;
        count = count;
        bytes = bytes;
        fold = so_far.fold;
        room = so_far.room;
      }

      -- where the items broke off
      ended_then : (place : Place) → IsTrue tells → (stop : Stop) → EndedBy stop (now place []) → EndedBy stop (was place so_far.items)
      ended_then place told stop is = ended_map stop (now place []) (was place so_far.items) (λ broken. subst (λ (l : List Item). was place l) (append-nil so_far.items) (so_far.read told place [] broken)) is

      pub filling_failed : (after : List Item) (then : Place → List Item → Type 0) (here : Place) (stop : Stop) → (IsTrue tells → EndedBy stop (now here [])) → IsFilled m batch s tells before after was then here changes replies t (Failed stop)
      filling_failed after then here stop is = record {
        items = so_far.items;
        rest = left;
        whole = still_open;
        taken = so_far.taken;
        rest_is = λ e. absurd (cc);
        done = λ told e. absurd (cc);
        read = λ told e. absurd (cc);
        broken = λ told other e. (let same : stop ≡ other = cc in subst (λ (k : Stop). EndedBy k (was here so_far.items)) same (ended_then here told stop (is told)));
        changes_is = so_far.changes_is;
        replies_is = so_far.replies_is;
        state_is = so_far.state_is;
        count = count;
        bytes = bytes;
        fold = so_far.fold;
        room = so_far.room;
      }
