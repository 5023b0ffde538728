-- The two commands that may have tombstones read as they are written.
use Rattle.std.proofs.Common.{◌≡◌, ℕ, Bool, true, false, List, [], ◌∷◌, ◌++◌, Option, Some, refl, sym, ap, ◌∙◌}
use Rattle.std.proofs.lemmas.List.{append-nil}
use Rattle.iv_span.specs.Extent.{Extent}
use Rattle.seg_names.specs.Names.{is_task_id}
use Rattle.seg_names.specs.declared.seg_id.SegId.{SegId}
use Rattle.wire_fields.specs.Fields.{AreBytes, text_field}
use Rattle.book_rows.specs.Lists.{is_empty}
use Rattle.book_rows.specs.Form.{is_id}
use Rattle.book_rows.specs.Spans.{is_span}
use Rattle.book_rows.specs.declared.rows.Ranges.{Ranges}
use Rattle.book_rows.specs.declared.commands.Command.{Command}
use Rattle.cmd_codec.specs.Fields.{span_field, id_field, list_field, option_field, ranges_field}
use Rattle.cmd_codec.specs.Spelling.{overwrite_field}
use Rattle.cmd_codec.specs.Reading.{plain_at, marked_at}
use Rattle.cmd_codec.proofs.FieldLists.{again4, again5_unless, takes4, takes5_unless}
use Rattle.cmd_codec.proofs.Numbers.{a_task}
use Rattle.cmd_codec.proofs.FieldBytes.{a_span, an_id}
use Rattle.cmd_codec.proofs.Lists.{is_list, is_option, are_some_ranges, list_of, option_of, some_ranges}

abbrev pub Make : Type 0
Make = List ℕ → List Extent → List SegId → List SegId → Option Ranges → Command

-- the command without tombstones, and with them as the last value
abbrev plain_make : Make → List ℕ → List Extent → List SegId → Option Ranges → Command
plain_make make task spans ids ranges = make task spans ids [] ranges

abbrev marked_make : Make → List ℕ → List Extent → List SegId → Option Ranges → List SegId → Command
marked_make make task spans ids ranges tombstones = make task spans ids tombstones ranges

abbrev plain_field : List ℕ → List Extent → List SegId → Option Ranges → List ℕ
plain_field task spans ids ranges = text_field task ++ (list_field span_field spans ++ (list_field id_field ids ++ option_field ranges_field ranges))

-- no tombstones have no bytes
no_tail : (a b c d : List ℕ) → a ++ (b ++ (c ++ (d ++ []))) ≡ a ++ (b ++ (c ++ d))
no_tail a b c d = ap (λ (x : List ℕ). a ++ (b ++ (c ++ x))) (append-nil d)

pub plain_again : (make : Make) (task : List ℕ) (spans : List Extent) (ids : List SegId) (ranges : Option Ranges) (rest : List ℕ) → is_task_id task ≡ true → is_list is_span spans ≡ true → is_list is_id ids ≡ true → is_option are_some_ranges ranges ≡ true
    → plain_at make (overwrite_field task spans ids [] ranges ++ rest) ≡ Some (make task spans ids [] ranges, rest)
unfolding plain_at
plain_again make task spans ids ranges rest h k l m =
    ap (λ (x : List ℕ). plain_at make (x ++ rest)) (no_tail (text_field task) (list_field span_field spans) (list_field id_field ids) (option_field ranges_field ranges))
    ∙ again4 a_task (list_of a_span) (list_of an_id) (option_of some_ranges) (plain_make make) task spans ids ranges rest h k l m

pub marked_again : (make : Make) (task : List ℕ) (spans : List Extent) (ids : List SegId) (t : SegId) (ts : List SegId) (ranges : Option Ranges) (rest : List ℕ) → is_task_id task ≡ true → is_list is_span spans ≡ true → is_list is_id ids ≡ true → is_option are_some_ranges ranges ≡ true → is_list is_id (t ∷ ts) ≡ true
    → marked_at make (overwrite_field task spans ids (t ∷ ts) ranges ++ rest) ≡ Some (make task spans ids (t ∷ ts) ranges, rest)
unfolding marked_at
marked_again make task spans ids t ts ranges rest h k l m n =
    again5_unless a_task (list_of a_span) (list_of an_id) (option_of some_ranges) (list_of an_id) is_empty (marked_make make) task spans ids ranges (t ∷ ts) rest h k l m n refl

-- what an `insert` or `replace` was read from
pub record Overwrite (make : Make) (bytes : List ℕ) (empty : Bool) (c : Command) (rest : List ℕ) : Type 0 where
  pub task : List ℕ
  pub spans : List Extent
  pub ids : List SegId
  pub tombstones : List SegId
  pub ranges : Option Ranges
  pub made : make task spans ids tombstones ranges ≡ c
  pub parts : bytes ≡ overwrite_field task spans ids tombstones ranges ++ rest
  pub has_none : is_empty tombstones ≡ empty

pub plain_takes : (make : Make) (bytes : List ℕ) (c : Command) (rest : List ℕ) → AreBytes bytes → plain_at make bytes ≡ Some (c, rest) → Overwrite make bytes true c rest
unfolding plain_at
plain_takes make bytes c rest fits e =
    let t = takes4 a_task (list_of a_span) (list_of an_id) (option_of some_ranges) (plain_make make) bytes c rest fits e in
    record {
      task = t.a;
      spans = t.b;
      ids = t.c;
      tombstones = [];
      ranges = t.d;
      made = t.made;
      parts = t.parts ∙ ap (λ (x : List ℕ). x ++ rest) (sym (no_tail (text_field t.a) (list_field span_field t.b) (list_field id_field t.c) (option_field ranges_field t.d)));
      has_none = refl;
    }

marked_parts : (task : List ℕ) (spans : List Extent) (ids tombstones : List SegId) (ranges : Option Ranges) → is_empty tombstones ≡ false
    → text_field task ++ (list_field span_field spans ++ (list_field id_field ids ++ (option_field ranges_field ranges ++ list_field id_field tombstones))) ≡ overwrite_field task spans ids tombstones ranges
marked_parts task spans ids [] ranges h = absurd cc
marked_parts task spans ids (t ∷ ts) ranges h = refl

pub marked_takes : (make : Make) (bytes : List ℕ) (c : Command) (rest : List ℕ) → AreBytes bytes → marked_at make bytes ≡ Some (c, rest) → Overwrite make bytes false c rest
unfolding marked_at
marked_takes make bytes c rest fits e =
    let t = takes5_unless a_task (list_of a_span) (list_of an_id) (option_of some_ranges) (list_of an_id) is_empty (marked_make make) bytes c rest fits e in
    record {
      task = t.a;
      spans = t.b;
      ids = t.c;
      tombstones = t.e;
      ranges = t.d;
      made = t.made;
      parts = t.parts ∙ ap (λ (x : List ℕ). x ++ rest) (marked_parts t.a t.b t.c t.e t.d t.tested);
      has_none = t.tested;
    }
