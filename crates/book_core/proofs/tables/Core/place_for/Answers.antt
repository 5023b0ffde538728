use Rattle.std.proofs.Common.{rules}
use Rattle.std.proofs.lemmas.Int.{to_z-of_z}
use mir.Val.{SFits}
use mir.Syntax.{w64}
use Rattle.book_core.proofs.Conditions.{is_within}
use Rattle.book_core.proofs.tables.Core.place_for.Goals as goal

pub choose-requires : goal.choose-requires
choose-requires c =
    let fits : SFits w64 c.args.request.now.at = search rules in
    simp to_z-of_z (is_within c.args.request.now.at c.requires)
