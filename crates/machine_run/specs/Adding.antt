-- Records are added to a file one after another.
use Rattle.std.proofs.Common.{◌≡◌, ◌≢◌, ℕ, ◌+◌, List, [], ◌∷◌, ◌++◌, length, refl, sym, ◌∙◌, ap, arith, append_assoc}
use Rattle.std.proofs.lemmas.List.{append-nil}
use Rattle.gate_log.specs.Log.{with_record_at}
use Rattle.machine_run.specs.Rules.{weight}
use Rattle.machine_run.specs.Stores.{Content, with_body, with_bodies, length_of, with_records_at, AreAdded, AreKept}

pub weight-append : (xs ys : List (List ℕ)) → weight (xs ++ ys) ≡ weight xs + weight ys
weight-append [] ys = omega arith
weight-append (x ∷ xs) ys = let e : weight (xs ++ ys) ≡ weight xs + weight ys = weight-append xs ys in omega (arith, e)

-- some, and then others behind them
pub with_records-append : (place : ℕ) (bodies more : List (List ℕ)) (file : List ℕ) → with_records_at place (bodies ++ more) file ≡ with_records_at (place + weight bodies) more (with_records_at place bodies file)
with_records-append place [] more file = let same : place ≡ place + 0 = omega arith in ap (λ (n : ℕ). with_records_at n more file) same
with_records-append place (body ∷ bodies) more file =
    let same : place + 5 + length body + weight bodies ≡ place + (5 + length body + weight bodies) = omega arith in
    with_records-append (place + 5 + length body) bodies more (with_record_at place body file)
    ∙ ap (λ (n : ℕ). with_records_at n more (with_records_at (place + 5 + length body) bodies (with_record_at place body file))) same

added_then : (start place : ℕ) (bodies more : List (List ℕ)) (a b c : ℕ → List ℕ) → place ≡ start + weight bodies → AreAdded start bodies a b → AreAdded place more b c → AreAdded start (bodies ++ more) a c
added_then start place bodies more a b c at so_far next = record {
  first = next.first ∙ (λ i. with_records_at (at i) more (so_far.first i)) ∙ sym (with_records-append start bodies more (a 0));
  others = λ file other. next.others file other ∙ so_far.others file other;
}

-- nothing is added
pub kept_none : (c : Content) (files : ℕ → List ℕ) → AreKept c c files files
kept_none c files = record {
  bodies = [];
  bodies_are = ap (λ (l : List (List ℕ)). record { generation = c.generation; snapshot = c.snapshot; bodies = l }) (sym (append-nil c.bodies));
  place = 26 + length c.snapshot + weight c.bodies;
  length_is = omega arith;
  added = record { first = refl; others = λ file other. refl };
}

-- a record is added
pub kept_one : (c : Content) (body : List ℕ) (place : ℕ) (old new : ℕ → List ℕ) → place + 1 ≡ length_of c → new 0 ≡ with_record_at place body (old 0) → ((file : ℕ) → file ≢ 0 → new file ≡ old file) → AreKept c (with_body c body) old new
kept_one c body place old new size first others = record {
  bodies = body ∷ [];
  bodies_are = refl;
  place = place;
  length_is = sym size;
  added = record { first = first; others = others };
}

-- and then others
pub kept_then : (a b c : Content) (f g h : ℕ → List ℕ) → AreKept a b f g → AreKept b c g h → AreKept a c f h
kept_then a b c f g h one two = record {
  bodies = one.bodies ++ two.bodies;
  bodies_are = two.bodies_are ∙ ap (λ (k : Content). with_bodies k two.bodies) one.bodies_are ∙ ap (λ (l : List (List ℕ)). record { generation = a.generation; snapshot = a.snapshot; bodies = l }) (append_assoc a.bodies one.bodies two.bodies);
  place = one.place;
  length_is = one.length_is;
  added = added_then one.place two.place one.bodies two.bodies f g h at one.added two.added;
}
  where
    grown : length_of b ≡ length_of a + weight one.bodies
    grown = let all : weight (a.bodies ++ one.bodies) ≡ weight a.bodies + weight one.bodies = weight-append a.bodies one.bodies in ap length_of one.bodies_are ∙ omega (arith, all)

    at : two.place ≡ one.place + weight one.bodies
    at = omega (arith, grown, one.length_is, two.length_is)
