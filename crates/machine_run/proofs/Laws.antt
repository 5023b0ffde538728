-- What bodies of several changes tell, and what stores stand for.
use Rattle.std.proofs.Common.{◌≡◌, ℕ, ◌+◌, Bool, true, false, if◌then◌else◌, List, [], ◌∷◌, ◌++◌, length, take, drop, Option, Some, None, refl, sym, ◌∙◌, ap, subst}
use Rattle.std.proofs.lemmas.List.{append-nil}
use Rattle.gate_log.specs.Format.{Opening, absent, opened, opening_of, LogSays, is_absent, is_corrupt, is_log, says, says_after, log_of, Records, records_at}
use Rattle.gate_log.proofs.Laws.{opening_absent, opening_log}
use Rattle.machine_run.specs.Rules.{Rules, IsKeptByRecords, bytes_of, body_of, state_after, changes_of}
use Rattle.machine_run.specs.Stores.{Content, new_content, with_body, with_record, then_on, replayed, state_in, no_log, in_log, content_of, is_state, behind, restored, restored_by, store_alone, store_by, store_of}

module _ {State Item : Type 0} (m : Rules State Item) where
  -- these bytes lead from one state to the other: no bytes stay, and others are a record
  abbrev pub Leads : State → List ℕ → State → Type 0
  Leads s [] t = t ≡ s
  Leads s (byte ∷ bytes) t = m.restore s (byte ∷ bytes) ≡ Some t

  module _ (kept : IsKeptByRecords m) where
    -- an item, and then what tells the others
    leads_item : (s : State) (item : Item) (rest : List ℕ) (t : State) → (body : Option (List ℕ)) → m.body s item ≡ body → Leads (m.next s item) rest t → Leads s (bytes_of body ++ rest) t
    leads_item s item rest t None is more = subst (λ (u : State). Leads u rest t) (kept.unchanged s item is) more
    leads_item s item rest t (Some []) is more = absurd (kept.some s item is)
    leads_item s item [] t (Some (byte ∷ bytes)) is more =
        let last : m.restore s (byte ∷ bytes) ≡ Some t = kept.restores s item (byte ∷ bytes) is ∙ ap (λ (u : State). Some u) (sym more) in
        ap (λ (l : List ℕ). m.restore s l) (append-nil (byte ∷ bytes)) ∙ last
    leads_item s item (b ∷ rest) t (Some (byte ∷ bytes)) is more = kept.joins s item (byte ∷ bytes) (b ∷ rest) t is more

    pub leads_all : (s : State) (items : List Item) → Leads s (changes_of m s items) (state_after m s items)
    leads_all s [] = refl
    leads_all s (item ∷ items) = leads_item s item (changes_of m (m.next s item) items) (state_after m (m.next s item) items) (m.body s item) refl (leads_all (m.next s item) items)

  -- what follows of the first body and the others
  by_first : (s : State) (b : List ℕ) (bodies : List (List ℕ)) (body : List ℕ) (now next : State) → (after : Option State) → m.restore s b ≡ after → replayed m s (b ∷ bodies) ≡ Some now → ((t : State) → replayed m t bodies ≡ Some now → replayed m t (bodies ++ body ∷ []) ≡ Some next) → replayed m s ((b ∷ bodies) ++ body ∷ []) ≡ Some next
  by_first s b bodies body now next None e is rest = absurd (let none : replayed m s (b ∷ bodies) ≡ None = rw e refl in let both : None ≡ Some now = sym none ∙ is in cc)
  by_first s b bodies body now next (Some t) e is rest = let here : replayed m s (b ∷ bodies) ≡ replayed m t bodies = rw e refl in rw e (rest t (sym here ∙ is))

  -- one body more
  pub replayed-push : (s : State) (bodies : List (List ℕ)) (now : State) (body : List ℕ) (next : State) → replayed m s bodies ≡ Some now → m.restore now body ≡ Some next → replayed m s (bodies ++ body ∷ []) ≡ Some next
  replayed-push s [] now body next is on = let same : s ≡ now = cc in rw (ap (λ (u : State). m.restore u body) same ∙ on) refl
  replayed-push s (b ∷ bodies) now body next is on = by_first s b bodies body now next (m.restore s b) refl is (λ t rest. replayed-push t bodies now body next rest on)

  -- the snapshot of a state, and then the bodies
  pub loaded : (c : Content) (s : State) → m.load c.snapshot ≡ Some s → state_in m c ≡ replayed m s c.bodies
  loaded c s e = ap (λ (o : Option State). then_on o (λ u. replayed m u c.bodies)) e

  pub loads_some : (c : Content) (now : State) → state_in m c ≡ Some now → (s : State) × (m.load c.snapshot ≡ Some s) × (replayed m s c.bodies ≡ Some now)
  loads_some c now is = by (m.load c.snapshot) refl
    where
      by : (o : Option State) → m.load c.snapshot ≡ o → (s : State) × (m.load c.snapshot ≡ Some s) × (replayed m s c.bodies ≡ Some now)
      by None e = absurd (let none : state_in m c ≡ None = ap (λ (o : Option State). then_on o (λ u. replayed m u c.bodies)) e in let both : None ≡ Some now = sym none ∙ is in cc)
      by (Some s) e = (s, e, sym (loaded c s e) ∙ is)

  state-push : (c : Content) (now : State) (body : List ℕ) (next : State) → state_in m c ≡ Some now → m.restore now body ≡ Some next → state_in m (with_body c body) ≡ Some next
  state-push c now body next is on = let from = loads_some c now is in loaded (with_body c body) from.0 from.1 ∙ replayed-push from.0 c.bodies now body next from.2 on

  -- the store behind a batch stands for the state behind its items
  pub state_behind : (c : Content) (now : State) (changes : List ℕ) (next : State) → state_in m c ≡ Some now → Leads now changes next → state_in m (with_record c (body_of changes)) ≡ Some next
  state_behind c now [] next is leads = is ∙ ap (λ (u : State). Some u) (sym leads)
  state_behind c now (byte ∷ bytes) next is leads = state-push c now (byte ∷ bytes) next is leads

  -- ---- what a store stands for

  -- the first body, and what follows of the others
  whole_first : (at place : ℕ) (s : State) (b : List ℕ) (bodies : List (List ℕ)) (now : State) → (o : Option State) → m.restore s b ≡ o → replayed m s (b ∷ bodies) ≡ Some now → ((t : State) → replayed m t bodies ≡ Some now → restored m (at + 5 + length b) t bodies true place ≡ is_state now) → restored m at s (b ∷ bodies) true place ≡ is_state now
  whole_first at place s b bodies now None e is rest = absurd (let none : replayed m s (b ∷ bodies) ≡ None = rw e refl in let both : None ≡ Some now = sym none ∙ is in cc)
  whole_first at place s b bodies now (Some t) e is rest = let here : replayed m s (b ∷ bodies) ≡ replayed m t bodies = rw e refl in rw e (rest t (sym here ∙ is))

  -- bodies that are whole are restored where they can be replayed, wherever they stand
  pub restored_whole : (at place : ℕ) (s : State) (bodies : List (List ℕ)) (now : State) → replayed m s bodies ≡ Some now → restored m at s bodies true place ≡ is_state now
  restored_whole at place s [] now is = let same : s ≡ now = cc in ap (λ (u : State). is_state u) same
  restored_whole at place s (b ∷ bodies) now is = whole_first at place s b bodies now (m.restore s b) refl is (λ t rest. restored_whole (at + 5 + length b) place t bodies now rest)

  -- what a whole log's records are
  records_of : (generation : ℕ) (snapshot : List ℕ) (records : Records) (g : ℕ) (s : List ℕ) (bodies : List (List ℕ)) (place : ℕ) → log_of generation snapshot records ≡ is_log g s bodies place → (records ≡ record { bodies = bodies; is_whole = true; place = place }) × (snapshot ≡ s)
  records_of generation snapshot records g s bodies place is = by records.is_whole refl
    where
      by : (whole : Bool) → records.is_whole ≡ whole → (records ≡ record { bodies = bodies; is_whole = true; place = place }) × (snapshot ≡ s)
      by true w =
          let same : is_log generation snapshot records.bodies records.place ≡ is_log g s bodies place = (let f : log_of generation snapshot records ≡ is_log generation snapshot records.bodies records.place = rw w refl in sym f ∙ is) in
          let b : records.bodies ≡ bodies = cc in
          let p : records.place ≡ place = cc in
          let n : snapshot ≡ s = cc in
          (λ i. record { bodies = b i; is_whole = w i; place = p i }, n)
      by false w = absurd (let f : log_of generation snapshot records ≡ is_corrupt records.place = rw w refl in let both : is_corrupt records.place ≡ is_log g s bodies place = sym f ∙ is in cc)

  -- a log that is alone and whole stands for what its content does
  log_opens : (first second : List ℕ) (generation : ℕ) (snapshot : List ℕ) (bodies : List (List ℕ)) (place : ℕ) (s : State) → no_log (opening_of second) ≡ true → says first ≡ is_log generation snapshot bodies place → state_in m (record { generation = generation; snapshot = snapshot; bodies = bodies }) ≡ Some s → store_of m first second ≡ is_state s
  unfolding store_of
  log_opens first second generation snapshot bodies place s none is stands =
      let header : opening_of first ≡ opened generation (length snapshot) = opening_log first generation snapshot bodies place is in
      let after : log_of generation (take (length snapshot) (drop 26 first)) (records_at first (26 + length snapshot)) ≡ is_log generation snapshot bodies place = sym (ap (λ (o : Opening). says_after o first) header) ∙ is in
      let parts = records_of generation (take (length snapshot) (drop 26 first)) (records_at first (26 + length snapshot)) generation snapshot bodies place after in
      let from = loads_some (record { generation = generation; snapshot = snapshot; bodies = bodies }) s stands in
      (λ i. store_by m (header i) (none i) first)
      ∙ ap (λ (l : List ℕ). behind (m.load l) (λ u. store_alone m true (26 + length snapshot) u first) 18) parts.1
      ∙ ap (λ (o : Option State). behind o (λ u. store_alone m true (26 + length snapshot) u first) 18) from.1
      ∙ ap (λ (r : Records). restored_by m (26 + length snapshot) from.0 r) parts.0
      ∙ restored_whole (26 + length snapshot) place from.0 bodies s from.2

  -- no log in either file
  pub absent_opens : (first second : List ℕ) → opening_of first ≡ absent → no_log (opening_of second) ≡ true → store_of m first second ≡ is_state m.first
  unfolding store_of
  absent_opens first second is none = (λ i. store_by m (is i) (none i) first)

  -- the second file has a log, or a fault
  pub content_second : (first second : List ℕ) (c : Content) → content_of first second ≡ Some c → (no_log (opening_of second) ≡ true) × (in_log (says first) ≡ Some c)
  unfolding content_of
  content_second first second c is = by (no_log (opening_of second)) refl is
    where
      by : (none : Bool) → no_log (opening_of second) ≡ none → (if none then in_log (says first) else None) ≡ Some c → (no_log (opening_of second) ≡ true) × (in_log (says first) ≡ Some c)
      by true e is = (e, is)
      by false e is = absurd (cc)

  -- what two files stand for that hold this
  pub opens_of : IsKeptByRecords m → (first second : List ℕ) (c : Content) (s : State) → content_of first second ≡ Some c → state_in m c ≡ Some s → store_of m first second ≡ is_state s
  opens_of kept first second c s holds stands = by (says first) refl (content_second first second c holds).1
    where
      none : no_log (opening_of second) ≡ true
      none = (content_second first second c holds).0

      by : (l : LogSays) → says first ≡ l → in_log l ≡ Some c → store_of m first second ≡ is_state s
      by is_absent e is =
          let same : new_content ≡ c = cc in
          let begun : state_in m new_content ≡ Some m.first = loaded new_content m.first kept.loads in
          let both : Some m.first ≡ Some s = sym begun ∙ ap (λ (k : Content). state_in m k) same ∙ stands in
          let first_is : m.first ≡ s = cc in
          absent_opens first second (opening_absent first e) none ∙ ap (λ (u : State). is_state u) first_is
      by (is_corrupt at) e is = absurd (cc)
      by (is_log generation snapshot bodies place) e is =
          let same : record { generation = generation; snapshot = snapshot; bodies = bodies } ≡ c = cc in
          log_opens first second generation snapshot bodies place s none e (ap (λ (k : Content). state_in m k) same ∙ stands)
