-- Earlier records read as the same commands.
use Rattle.std.proofs.Common.{◌≡◌, ℕ, zero, suc, true, cond, List, [], ◌∷◌, ◌++◌, Option, Some, None, refl, sym, ap, subst, ◌∙◌, nat_le}
use Rattle.std.proofs.lemmas.Option.{some_pair_parts}
use Rattle.wire_fields.specs.Fields.{◌>>=◌, AreBytes, byte_at}
use Rattle.wire_fields.proofs.FieldsTaken.{AreBytes-append_right, bind_some, byte_taken}
use Rattle.book_rows.specs.Form.{keeps_form}
use Rattle.book_rows.specs.declared.commands.Command.{Command}
use Rattle.book_rows.specs.declared.commands.Command.TheVariants.{Submit, Manage, Lock, Unlock, Allocate, Append, Insert, Replace, End, Drop, Reset, Supervise, Tick, Paused, Checkpoint, ToReplace, Show}
use Rattle.cmd_codec.specs.Spelling.{spelling}
use Rattle.cmd_codec.specs.Reading.{code_at, tag_of, values_at, command_at}
use Rattle.cmd_codec.specs.Records.{each_to_end, body_of, commands_of}
use Rattle.cmd_codec.specs.Earlier.{earlier_tag_of, earlier_command_at, earlier_commands_of, has_no_tombstones, HaveNoTombstones}
use Rattle.cmd_codec.specs.declared.tag.Tag.{Tag}
use Rattle.cmd_codec.proofs.Readers.{when_some, some_is}
use Rattle.cmd_codec.proofs.Commands.{command_takes}

abbrev checked : Command × List ℕ → Option (Command × List ℕ)
checked x = cond (keeps_form x.0) (Some x) None

-- the tag's byte, and the tag
record FirstByte (bytes : List ℕ) (tag : Tag × List ℕ) : Type 0 where
  pub byte : ℕ
  pub parts : bytes ≡ byte ∷ tag.1
  pub few : nat_le byte 15 ≡ true
  pub same : code_at tag_of bytes ≡ Some tag

first_byte : (bytes : List ℕ) (tag : Tag × List ℕ) → AreBytes bytes → code_at earlier_tag_of bytes ≡ Some tag → FirstByte bytes tag
unfolding code_at
first_byte bytes tag fits e =
    let b = bind_some (byte_at bytes) (λ (code : ℕ × List ℕ). earlier_tag_of code.0 >>= λ (t : Tag). Some (t, code.1)) tag e in
    let d = bind_some (earlier_tag_of b.0.0) (λ (t : Tag). Some (t, b.0.1)) tag b.2 in
    let w = when_some (nat_le b.0.0 15) (tag_of b.0.0) d.0 d.1 in
    let rest : b.0.1 ≡ tag.1 = (some_pair_parts d.0 tag.0 b.0.1 tag.1 d.2).1 in
    let taken = byte_taken bytes b.0.0 b.0.1 fits b.1 in
    record {
      byte = b.0.0;
      parts = taken.0 ∙ ap (λ (r : List ℕ). b.0.0 ∷ r) rest;
      few = w.0;
      same = rw (b.1, w.1) d.2;
    }

-- a spelling that begins with one of the earlier tags has no tombstones
no_tombstones : (c : Command) (n : ℕ) (tail rest : List ℕ) → nat_le n 15 ≡ true → spelling c ++ rest ≡ n ∷ tail → has_no_tombstones c ≡ true
no_tombstones (Insert task spans ids [] ranges) n tail rest few e = refl
no_tombstones (Insert task spans ids (t ∷ ts) ranges) n tail rest few e = let is : 16 ≡ n = cc in let no : nat_le 16 15 ≡ true = subst (λ (k : ℕ). nat_le k 15 ≡ true) (sym is) few in absurd cc
no_tombstones (Replace task spans ids [] ranges) n tail rest few e = refl
no_tombstones (Replace task spans ids (t ∷ ts) ranges) n tail rest few e = let is : 17 ≡ n = cc in let no : nat_le 17 15 ≡ true = subst (λ (k : ℕ). nat_le k 15 ≡ true) (sym is) few in absurd cc
no_tombstones (Submit task group source kind priority locks) n tail rest few e = refl
no_tombstones (Manage now) n tail rest few e = refl
no_tombstones (Lock task kind span now) n tail rest few e = refl
no_tombstones (Unlock task lock) n tail rest few e = refl
no_tombstones (Allocate task kind sequence previous at granularity now) n tail rest few e = refl
no_tombstones (Append task ids ranges) n tail rest few e = refl
no_tombstones (End task status) n tail rest few e = refl
no_tombstones (Drop source span) n tail rest few e = refl
no_tombstones (Reset source stream offsets) n tail rest few e = refl
no_tombstones (Supervise source stream partitions task_count replicas task_duration completion_timeout) n tail rest few e = refl
no_tombstones (Tick now) n tail rest few e = refl
no_tombstones (Paused task offsets) n tail rest few e = refl
no_tombstones (Checkpoint task offsets) n tail rest few e = refl
no_tombstones (ToReplace task span) n tail rest few e = refl
no_tombstones (Show what) n tail rest few e = refl

record SameCommand (bytes : List ℕ) (x : Command × List ℕ) : Type 0 where
  pub read : command_at bytes ≡ Some x
  pub none : has_no_tombstones x.0 ≡ true
  pub fits : AreBytes x.1

same_command : (bytes : List ℕ) (x : Command × List ℕ) → AreBytes bytes → earlier_command_at bytes ≡ Some x → SameCommand bytes x
unfolding earlier_command_at command_at
same_command bytes x fits e =
    let b = bind_some (code_at earlier_tag_of bytes) (λ (tag : Tag × List ℕ). values_at tag.0 tag.1 >>= checked) x e in
    let first = first_byte bytes b.0 fits b.1 in
    let read : command_at bytes ≡ Some x = rw first.same b.2 in
    let t = command_takes bytes x.0 x.1 fits read in
    record {
      read = read;
      none = no_tombstones x.0 first.byte b.0.1 x.1 first.few (sym t.0 ∙ first.parts);
      fits = AreBytes-append_right (spelling x.0) x.1 (subst AreBytes t.0 fits);
    }

same_to_end : (n : ℕ) (bytes : List ℕ) (cs : List Command) → AreBytes bytes → each_to_end earlier_command_at n bytes ≡ Some cs → (each_to_end command_at n bytes ≡ Some cs) × HaveNoTombstones cs
unfolding each_to_end
same_to_end zero [] cs fits e = (e, subst HaveNoTombstones (some_is [] cs e) tt)
same_to_end (suc n) [] cs fits e = (e, subst HaveNoTombstones (some_is [] cs e) tt)
same_to_end zero (x ∷ xs) cs fits e = absurd cc
same_to_end (suc n) (x ∷ xs) cs fits e =
    let b = bind_some (earlier_command_at (x ∷ xs)) (λ (first : Command × List ℕ). each_to_end earlier_command_at n first.1 >>= λ (others : List Command). Some (first.0 ∷ others)) cs e in
    let d = bind_some (each_to_end earlier_command_at n b.0.1) (λ (others : List Command). Some (b.0.0 ∷ others)) cs b.2 in
    let s = same_command (x ∷ xs) b.0 fits b.1 in
    let others = same_to_end n b.0.1 d.0 s.fits d.1 in
    let is : b.0.0 ∷ d.0 ≡ cs = some_is (b.0.0 ∷ d.0) cs d.2 in
    (rw (s.read, others.0) d.2, subst HaveNoTombstones is (s.none, others.1))

-- An earlier record's body reads as the same commands, which have no tombstones.
pub same_commands : (body : List ℕ) (cs : List Command) → AreBytes body → earlier_commands_of body ≡ Some cs → (commands_of body ≡ Some cs) × HaveNoTombstones cs
unfolding body_of
same_commands [] cs fits e = absurd cc
same_commands (x ∷ xs) cs fits e = same_to_end _ (x ∷ xs) cs fits e
