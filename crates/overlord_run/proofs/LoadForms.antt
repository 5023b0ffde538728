-- The commands of a load keep their forms, and are few.
use Rattle.std.proofs.Common.{◌*◌, ◌+◌, ◌-◌, ◌++◌, ◌<◌, ◌≡◌, ◌≤◌, ◌∙◌, ◌∷◌, Bool, List, [], ap, arith, false, get_or, if◌then◌else◌, length, refl, replicate, reverse, suc, sym, true, zero, ℕ}
use Rattle.std.specs.Prelude.{◌%◌, ◌==◌}
use Rattle.std.specs.List.{All, list_all}
use Rattle.std.proofs.lemmas.Bool.{and_parts}
use Rattle.std.proofs.lemmas.List.{length-append, length-reverse, reverse-append, reverse-reverse}
use Rattle.std.proofs.lemmas.List.Elements.{All-append, All-cons, All-nil}
use Rattle.book_rows.specs.Form.{keeps_form}
use Rattle.book_rows.specs.declared.commands.Command.{Command}
use Rattle.load_gen.specs.Blocks.{appending, replacing}
use Rattle.load_gen.specs.Draws.{draw, span_of}
use Rattle.load_gen.specs.Load.{IsOnTheWay, Load, after, begun, block_of, commands_from, load, next_hour, no_hour}
use Rattle.load_gen.specs.declared.generator.Hour.{Hour}
use Rattle.load_gen.proofs.Forms.{block_kept, hour_below}
use Rattle.load_gen.proofs.Hours.{at_first, at_hour, gone_on}

abbrev pub KeepsForm : Command → Type 0
KeepsForm c = keeps_form c ≡ true

all_kept : (cs : List Command) → list_all keeps_form cs ≡ true → All KeepsForm cs
all_kept [] is = All-nil KeepsForm
all_kept (c ∷ cs) is = let both = and_parts (keeps_form c) (list_all keeps_form cs) is in All-cons KeepsForm c cs both.0 (all_kept cs both.1)

pub from_kept : (n : ℕ) (g : Load) → IsOnTheWay g.blocks g.hours → g.blocks + n ≤ 50000 → All KeepsForm (commands_from n g)
from_kept zero g way few = All-nil KeepsForm
from_kept (suc n) g way few =
    let below = hour_below (draw g.drawn) in
    let now : g.blocks < 50000 = omega (arith, few) in
    let kept = block_kept g.blocks now (next_hour g) below (get_or g.hours (next_hour g) no_hour) (at_hour g.blocks (next_hour g) g.hours way below) in
    All-append KeepsForm (block_of g) (commands_from n (after g)) (all_kept (block_of g) kept) (from_kept n (after g) (gone_on g.blocks (next_hour g) g.hours way now below) (omega (arith, few)))

-- each command of a load keeps its form
pub load_kept : (number blocks : ℕ) → blocks ≤ 50000 → All KeepsForm (load number blocks)
load_kept number blocks few = from_kept blocks (begun number) (at_first (replicate 720 no_hour) refl) (omega (arith, few))

-- ---- a block has five commands

five_by : (block number : ℕ) (hour : Hour) (test : Bool) → length (if test then replacing block (span_of number) else appending block (span_of number) hour) ≡ 5
five_by block number hour true = refl
five_by block number hour false = refl

pub five : (g : Load) → length (block_of g) ≡ 5
five g = five_by g.blocks (next_hour g) (get_or g.hours (next_hour g) no_hour) (g.blocks % 4 == 3)

count : (n : ℕ) (g : Load) → length (commands_from n g) ≡ 5 * n
count zero g = refl
count (suc n) g =
    let whole = length-append (block_of g) (commands_from n (after g)) in
    let first = five g in
    let rest = count n (after g) in
    omega (arith, whole, first, rest)

pub load_few : (number blocks : ℕ) → blocks ≤ 50000 → length (load number blocks) < 18446744073709551616
load_few number blocks few = let all = count blocks (begun number) in omega (arith, all, few)

-- ---- one after another

-- the last of those that lie ready is the first that is left
pub taken : (ready rest : List Command) (c : Command) (more : List Command) → ready ≡ rest ++ c ∷ [] → reverse ready ++ more ≡ c ∷ reverse rest ++ more
taken ready rest c more is = ap (λ (l : List Command). reverse l ++ more) is ∙ ap (λ (l : List Command). l ++ more) (reverse-append rest (c ∷ []))

going : (n : ℕ) (g : Load) → (n ≡ 0 → ⊥) → commands_from n g ≡ block_of g ++ commands_from (n - 1) (after g)
going zero g is = absurd (is refl)
going (suc n) g is = let e : suc n - 1 ≡ n = omega arith in rw e refl

-- none lies ready, and a block is given: its first command is the first that is left
pub given : (n : ℕ) (g next : Load) (block turned rest : List Command) (c : Command) → (n ≡ 0 → ⊥) → block ≡ block_of g → next ≡ after g → turned ≡ reverse block → turned ≡ rest ++ c ∷ []
    → commands_from n g ≡ c ∷ reverse rest ++ commands_from (n - 1) next
given n g next block turned rest c some gives on turns is =
    let back : block_of g ≡ reverse turned = sym gives ∙ sym (ap reverse turns ∙ reverse-reverse block) in
    going n g some ∙ (ap (λ (l : List Command). l ++ commands_from (n - 1) (after g)) back ∙ (ap (λ (h : Load). reverse turned ++ commands_from (n - 1) h) (sym on) ∙ taken turned rest c (commands_from (n - 1) next) is))

pub none_ready : (ready more : List Command) → length ready ≡ 0 → reverse ready ++ more ≡ more
none_ready [] more is = refl
none_ready (c ∷ cs) more is = absurd (omega (arith, is))

-- a block isn't empty
pub some_given : (g : Load) (block turned rest : List Command) → block ≡ block_of g → turned ≡ reverse block → turned ≡ rest ++ [] → length rest ≡ 0 → ⊥
some_given g block turned rest gives turns is none =
    let size : length turned ≡ 5 = ap length turns ∙ (length-reverse block ∙ (ap length gives ∙ five g)) in
    let same : length turned ≡ length rest + 0 = ap length is ∙ length-append rest [] in
    omega (arith, size, same, none)
