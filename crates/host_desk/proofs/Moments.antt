-- How a run of calls goes on.
use Rattle.std.proofs.Common.{◌≡◌, ◌<◌, ◌≤◌, ◌⊎◌, ◌↔◌, inl, inr, ⊎_elim, ℕ, Bool, List, refl, sym, ◌∙◌, ap, subst, arith, ◌+◌, ◌++◌, ◌-◌, length, take, drop, append_assoc, length-drop}
use Rattle.std.proofs.lemmas.List.{append-nil, take-take, drop-take, take-append-drop, drop-drop}
use Rattle.host_desk.specs.Desk.{Desk, Rose, Changes, Stays, Says, SaysSome, IsNow, Same}
use Rattle.std.proofs.lemmas.Bool.{cases_eq}
use Rattle.host_desk.specs.Since.{OnlyFile, Touches, Since}

pub rose_later : (a b c : ℕ) → a ≤ b → Rose a b → b ≤ c → Rose a c
rose_later a b c le rose more = grind arith

pub rose_before : (a b c : ℕ) → a ≤ b → Rose b c → Rose a c
rose_before a b c le (inl less) = inl (omega arith)
rose_before a b c le (inr last) = inr last

-- both ways, twice
both : {A B C : Type 0} → A ↔ B → B ↔ C → A ↔ C
both f g = (λ x. g.0 (f.0 x), λ x. f.1 (g.1 x))

module _ (file : ℕ) (P : List ℕ → Type 0) where
  -- before the first call
  pub touches_start : (old : Desk) → ((c : List ℕ) → old.left file c → P c) → Touches file P old old
  touches_start old here = record {
    seen = λ i other. refl;
    left = λ i c other. (λ x. x, λ x. x);
    trusted = λ i other. refl;
    said = refl;
    later = omega arith;
    now = here;
    since = λ t s f le o. inl o;
  }

  -- the same of a run that goes on from there
  pub touches_then : (Q : List ℕ → Type 0) (old mid new : Desk) → Touches file P old mid → Touches file Q mid new → ((c : List ℕ) → Q c → P c) → Touches file P old new
  touches_then Q old mid new so_far more weaker = record {
    seen = λ i other. more.seen i other ∙ so_far.seen i other;
    left = λ i c other. both (more.left i c other) (so_far.left i c other);
    trusted = λ i other. more.trusted i other ∙ so_far.trusted i other;
    said = more.said ∙ so_far.said;
    later = omega (arith, so_far.later, more.later);
    now = λ c left. weaker c (more.now c left);
    since = λ t s f le o. ⊎_elim (so_far.since t s f le) (λ is. inr (of s f is)) (more.since t s f (omega (arith, le, so_far.later)) o);
  }
    where
      of : (s : List ℕ) (f : ℕ → List ℕ) → OnlyFile file mid Q s f → OnlyFile file old P s f
      of s f is = record {
        told = is.told ∙ so_far.said;
        others = λ i le other. (so_far.left i (f i) other).0 (is.others i le other);
        this = weaker (f file) is.this;
      }

  -- one call, after which a stop leaves what has P
  pub touches_one : (step : List ℕ → List ℕ → Type 0) (old new : Desk) → file < 4 → Changes step file old new → ((c : List ℕ) → new.left file c → P c) → Touches file P old new
  touches_one step old new four call here = record {
    seen = call.others_seen;
    left = call.others_left;
    trusted = call.others_trusted;
    said = call.said;
    later = call.time.later;
    now = here;
    since = λ t s f le o. ⊎_elim (λ was. inl was) (λ is. inr (of s f is)) (call.time.nothing_else t s f le o);
  }
    where
      of : (s : List ℕ) (f : ℕ → List ℕ) → IsNow new s f → OnlyFile file old P s f
      of s f is = record {
        told = is.told ∙ call.said;
        others = λ i le other. (call.others_left i (f i) other).0 (is.each i le);
        this = here (f file) (is.each file four);
      }

  -- one call more, after which a stop leaves what has P
  pub touches_change : (step : List ℕ → List ℕ → Type 0) (old mid new : Desk) → file < 4 → Touches file P old mid → Changes step file mid new → ((c : List ℕ) → new.left file c → P c) → Touches file P old new
  touches_change step old mid new four so_far call here = touches_then P old mid new so_far (touches_one step mid new four call here) (λ c has. has)

  -- one that changes nothing
  pub touches_stay : (old mid new : Desk) → file < 4 → Touches file P old mid → Stays mid new → Touches file P old new
  touches_stay old mid new four so_far call = touches_change Same old mid new four so_far (as_change call) (λ c left. so_far.now c ((call.left file c).0 left))
    where
      as_change : Stays mid new → Changes Same file mid new
      as_change s = record {
        this = λ c left. (c, (s.left file c).0 left, refl);
        others_seen = λ i other. ap (λ (seen : ℕ → List ℕ). seen i) s.seen;
        others_left = λ i c other. s.left i c;
        others_trusted = λ i other. ap (λ (t : ℕ → Bool). t i) s.trusted;
        said = s.said;
        time = s.time;
      }

-- less is asked of what a stop leaves
pub touches_weaken : (file : ℕ) (P Q : List ℕ → Type 0) (old new : Desk) → Touches file P old new → ((c : List ℕ) → P c → Q c) → Touches file Q old new
touches_weaken file P Q old new so_far weaker = record {
  seen = so_far.seen;
  left = so_far.left;
  trusted = so_far.trusted;
  said = so_far.said;
  later = so_far.later;
  now = λ c left. weaker c (so_far.now c left);
  since = λ t s f le o. ⊎_elim (λ was. inl was) (λ is. inr (of s f is)) (so_far.since t s f le o);
}
  where
    of : (s : List ℕ) (f : ℕ → List ℕ) → OnlyFile file old P s f → OnlyFile file old Q s f
    of s f is = record { told = is.told; others = is.others; this = weaker (f file) is.this }

pub stays_refl : (a : Desk) → Stays a a
stays_refl a = record {
  seen = refl;
  left = λ i c. (λ x. x, λ x. x);
  trusted = refl;
  said = refl;
  time = record { later = omega arith; nothing_else = λ t s f le o. inl o; keeps = λ t s f le o. o };
}

pub stays_then : (a b c : Desk) → Stays a b → Stays b c → Stays a c
stays_then a b c first next = record {
  seen = next.seen ∙ first.seen;
  left = λ i l. both (next.left i l) (first.left i l);
  trusted = next.trusted ∙ first.trusted;
  said = next.said ∙ first.said;
  time = record {
    later = omega (arith, first.time.later, next.time.later);
    nothing_else = λ t s f le o. ⊎_elim (λ was. ⊎_elim (λ o. inl o) (λ is. inr (still s f is)) (first.time.nothing_else t s f le was)) (λ is. inr is) (next.time.nothing_else t s f (omega (arith, le, first.time.later)) o);
    keeps = λ t s f le o. next.time.keeps t s f (omega (arith, le, first.time.later)) (first.time.keeps t s f le o);
  };
}
  where
    still : (s : List ℕ) (f : ℕ → List ℕ) → IsNow b s f → IsNow c s f
    still s f is = record { told = is.told ∙ sym next.said; each = λ i le. (next.left i (f i)).1 (is.each i le) }

pub touches_stays : (file : ℕ) (P : List ℕ → Type 0) (old new : Desk) → file < 4 → Stays old new → ((c : List ℕ) → old.left file c → P c) → Touches file P old new
touches_stays file P old new four stays here = touches_stay file P old old new four (touches_start file P old here) stays

-- a run of any calls
module _ (P : List ℕ → (ℕ → List ℕ) → Type 0) where
  pub since_refl : (a : Desk) → Since P a a
  since_refl a = record { later = omega arith; left = λ t s f le o. inl o }

  pub since_then : (a b c : Desk) → Since P a b → Since P b c → Since P a c
  since_then a b c first next = record {
    later = omega (arith, first.later, next.later);
    left = λ t s f le o. ⊎_elim (λ was. first.left t s f le was) (λ is. inr is) (next.left t s f (omega (arith, le, first.later)) o);
  }

  pub since_touches : (file : ℕ) (Q : List ℕ → Type 0) (a b : Desk) → Touches file Q a b → ((s : List ℕ) (f : ℕ → List ℕ) → OnlyFile file a Q s f → P s f) → Since P a b
  since_touches file Q a b run here = record { later = run.later; left = λ t s f le o. ⊎_elim (λ was. inl was) (λ is. inr (here s f is)) (run.since t s f le o) }

  pub since_says : (bytes : List ℕ) (n : ℕ) (a b : Desk) → Says bytes n a b → ((k : ℕ) (f : ℕ → List ℕ) → k ≤ n → ((i : ℕ) → i < 4 → a.left i (f i)) → P (a.said ++ take k bytes) f) → Since P a b
  since_says bytes n a b says here = record {
    later = says.time.later;
    left = λ t s f le o. ⊎_elim (λ was. inl was) (λ d. inr (subst (λ (l : List ℕ). P l f) (sym d.2) (here d.0 f d.1 d.3))) (says.time.nothing_else t s f le o);
  }

take-add : (n k : ℕ) (l : List ℕ) → take (n + k) l ≡ take n l ++ take k (drop n l)
take-add n k l = sym (take-append-drop n (take (n + k) l)) ∙ (λ i. take-take n (n + k) l (omega arith) i ++ drop-take n k l i)

-- saying goes on
pub says_none : (bytes : List ℕ) (a : Desk) → Says bytes 0 a a
says_none bytes a = record {
  said = sym (append-nil a.said);
  seen = refl;
  left = λ i c. (λ x. x, λ x. x);
  trusted = refl;
  time = record { later = omega arith; nothing_else = λ t s f le o. inl o; keeps = λ t s f le o. o };
}

pub says_then : (bytes : List ℕ) (n m : ℕ) (a b c : Desk) → n ≤ length bytes → Says bytes n a b → Says (drop n bytes) m b c → Says bytes (n + m) a c
says_then bytes n m a b c le first next = record {
  said = next.said ∙ ap (λ (l : List ℕ). l ++ take m (drop n bytes)) first.said ∙ joined m;
  seen = next.seen ∙ first.seen;
  left = λ i l. both (next.left i l) (first.left i l);
  trusted = next.trusted ∙ first.trusted;
  time = record {
    later = omega (arith, first.time.later, next.time.later);
    nothing_else = λ t s f le o. ⊎_elim (λ was. ⊎_elim (λ o. inl o) (λ d. inr (d.0, omega (arith, d.1), d.2, d.3)) (first.time.nothing_else t s f le was)) (λ d. inr (more s f d)) (next.time.nothing_else t s f (omega (arith, le, first.time.later)) o);
    keeps = λ t s f le o. next.time.keeps t s f (omega (arith, le, first.time.later)) (first.time.keeps t s f le o);
  };
}
  where
    joined : (k : ℕ) → a.said ++ take n bytes ++ take k (drop n bytes) ≡ a.said ++ take (n + k) bytes
    joined k = append_assoc a.said (take n bytes) (take k (drop n bytes)) ∙ ap (λ (l : List ℕ). a.said ++ l) (sym (take-add n k bytes))

    more : (s : List ℕ) (f : ℕ → List ℕ) → (k : ℕ) × (k ≤ m) × (s ≡ b.said ++ take k (drop n bytes)) × ((i : ℕ) → i < 4 → b.left i (f i)) → (k : ℕ) × (k ≤ n + m) × (s ≡ a.said ++ take k bytes) × ((i : ℕ) → i < 4 → a.left i (f i))
    more s f d = (n + d.0, omega (arith, d.1), d.2 ∙ ap (λ (l : List ℕ). l ++ take d.0 (drop n bytes)) first.said ∙ joined d.0, λ i less. (first.left i (f i)).0 (d.3 i less))

-- the rest, a piece further on
pub rest_next : (bytes rest : List ℕ) → rest ≡ drop (length bytes - length rest) bytes → length rest ≤ length bytes → (count : ℕ) (later : List ℕ) → count ≤ length rest → later ≡ drop count rest → later ≡ drop (length bytes - length later) bytes
rest_next bytes rest is le count later within then =
    let same : length bytes - length rest + count ≡ length bytes - length later = omega (arith, ap length then, length-drop count rest) in
    then ∙ ap (λ (l : List ℕ). drop count l) is ∙ drop-drop count (length bytes - length rest) bytes ∙ ap (λ (n : ℕ). drop n bytes) same

-- what was said of the rest of the bytes
module _ (bytes rest : List ℕ) (a b c : Desk) (is : rest ≡ drop (length bytes - length rest) bytes) (le : length rest ≤ length bytes) (so_far : Says bytes (length bytes - length rest) a b) where
  pub says_next : (count : ℕ) (later : List ℕ) → count ≤ length rest → later ≡ drop count rest → Says rest count b c → Says bytes (length bytes - length later) a c
  says_next count later within then says =
      let whole = says_then bytes (length bytes - length rest) count a b c (omega arith) so_far (subst (λ (r : List ℕ). Says r count b c) is says) in
      let same : length bytes - length rest + count ≡ length bytes - length later = omega (arith, ap length then, length-drop count rest) in
      subst (λ (n : ℕ). Says bytes n a c) same whole

  pub says_some : SaysSome rest b c → SaysSome bytes a c
  says_some some = record {
    count = length bytes - length rest + some.count;
    within = omega (arith, some.within);
    says = says_then bytes (length bytes - length rest) some.count a b c (omega arith) so_far (subst (λ (r : List ℕ). Says r some.count b c) is some.says);
  }

-- a call that adds no outcome adds no observation: reads and syncs
module _ (P : List ℕ → (ℕ → List ℕ) → Type 0) (a b : Desk) (counts : (t : ℕ) (s : List ℕ) (f : ℕ → List ℕ) → t ≤ a.moment → IsNow a s f → a.observed t s f) where
  pub since_stays : Stays a b → Since P a b
  since_stays stays = record {
    later = stays.time.later;
    left = λ t s f le o. ⊎_elim (λ was. inl was) (λ is. inl (counts t s f le (record { told = is.told ∙ stays.said; each = λ i less. (stays.left i (f i)).0 (is.each i less) }))) (stays.time.nothing_else t s f le o);
  }

  pub since_sync : (file : ℕ) → Changes Same file a b → Since P a b
  since_sync file sync = record {
    later = sync.time.later;
    left = λ t s f le o. ⊎_elim (λ was. inl was) (λ is. inl (counts t s f le (record { told = is.told ∙ sync.said; each = λ i less. was i (f i) (is.each i less) (cases_eq i file) }))) (sync.time.nothing_else t s f le o);
  }
    where
      was : (i : ℕ) (c : List ℕ) → b.left i c → (i ≡ file) ⊎ (i ≡ file → ⊥) → a.left i c
      was i c left (inr other) = (sync.others_left i c other).0 left
      was i c left (inl same) = let from = sync.this c (subst (λ (j : ℕ). b.left j c) same left) in subst (λ (j : ℕ). a.left j c) (sym same) (subst (λ (d : List ℕ). a.left file d) (sym from.2) from.1)

-- every observation since a settled start has P, where what stood there has P
pub each_since : (P : List ℕ → (ℕ → List ℕ) → Type 0) (a b : Desk) → ((s : List ℕ) (f : ℕ → List ℕ) → a.observed a.moment s f → IsNow a s f) → Since P a b → ((s : List ℕ) (f : ℕ → List ℕ) → IsNow a s f → P s f) → (s : List ℕ) (f : ℕ → List ℕ) → b.observed a.moment s f → P s f
each_since P a b only since here s f o = ⊎_elim (λ was. here s f (only s f was)) (λ p. p) (since.left a.moment s f (omega arith) o)
