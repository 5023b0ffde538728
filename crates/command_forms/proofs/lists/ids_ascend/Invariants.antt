use Rattle.std.proofs.Common.{◌≡◌, ◌∷◌, drop}
use Rattle.book_rows.specs.Lists.{list_links}
use Rattle.book_rows.specs.Ids.{id_before}
use Rattle.command_forms.proofs.lists.ids_ascend.Given as goal

-- whether the last item and those still to be passed are in order is what is asked of all
abbrev pub invariant-loop-id : goal.invariant-loop-id
invariant-loop-id l = list_links id_before (l.last ∷ drop l.id-index l.rest) ≡ list_links id_before l.ids
