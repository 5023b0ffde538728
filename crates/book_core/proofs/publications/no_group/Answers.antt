use Rattle.std.proofs.Common.{◌∷◌, ◌≡◌, [], false, refl}
use Rattle.std.proofs.lemmas.Bool.{true≢false}
use Rattle.std.specs.Str.{chars, is_utf8}
use lib.Utf8.{encode}
use Rattle.seg_names.specs.Names.{is_task_id}
use Rattle.book_core.proofs.publications.no_group.Goals as goal

-- `-` is a task id
pub unreachable-requires : goal.unreachable-requires
unfolding is_utf8 chars encode
unreachable-requires c =
    let bad : is_task_id (45 ∷ []) ≡ false = c.new.ensures.bad (rw (c.in-Err-BadName.is, c.in-Err-BadName.field-0-is) refl) in
    true≢false bad
