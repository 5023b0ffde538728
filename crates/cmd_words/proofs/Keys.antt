-- The keys of an object's members.
use Rattle.std.proofs.Common.{◌≡◌, ℕ, List, [], ◌∷◌, ap, refl, ◌&&◌, ◌||◌, map, Some}
use Rattle.std.specs.Prelude.{String, string_bytes, bytes_eq}
use Rattle.std.specs.Borrow.{Bor}
use Rattle.std.specs.List.{list_all, list_any}
use Rattle.std.specs.declared.alloc.Global.{Global}
use Rattle.serde_json.specs.View.{members_view}
use Rattle.serde_json.specs.declared.value.Value.{Value}
use Rattle.serde_json.specs.Data.{Data, null, boolean, number, string, array, object, Members}
use Rattle.serde_json.specs.Find.{as_object}
use Rattle.cmd_words.specs.Values.{keys_of, has_only}

pub any_map : (key : List ℕ) (known : List (Bor (List ℕ))) → list_any (λ x. bytes_eq x key) (map (λ k. k.now) known) ≡ list_any (λ x. bytes_eq x.now key) known
any_map key [] = refl
any_map key (k ∷ ks) = ap (λ b. bytes_eq k.now key || b) (any_map key ks)

pub known_keys : (known : List (Bor (List ℕ))) (es : List (String Global × Value)) → list_all (λ k. list_any (λ x. bytes_eq x k) (map (λ k. k.now) known)) (keys_of (members_view es)) ≡ list_all (λ k. list_any (λ x. bytes_eq x.now (string_bytes k)) known) (map (λ e. e.0) es)
known_keys known [] = refl
known_keys known (e ∷ es) = rw (any_map (string_bytes e.0) known) (ap (λ b. list_any (λ x. bytes_eq x.now (string_bytes e.0)) known && b) (known_keys known es))

pub only_of_members : (known : List (Bor (List ℕ))) (d : Data) (ms : Members) → as_object d ≡ Some ms → has_only (map (λ k. k.now) known) d ≡ list_all (λ k. list_any (λ x. bytes_eq x k) (map (λ k. k.now) known)) (keys_of ms)
only_of_members known null ms h = cc
only_of_members known (boolean b) ms h = cc
only_of_members known (number n) ms h = cc
only_of_members known (string s) ms h = cc
only_of_members known (array ds) ms h = cc
only_of_members known (object ns) ms h = let e : ns ≡ ms = cc in rw e refl
