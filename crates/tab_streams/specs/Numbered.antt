-- Publications, each with its place in the list.
use Rattle.std.specs.Prelude.{◌+◌, ◌∷◌, ◌≡◌, List, [], map, ℕ}
use Rattle.book_rows.specs.declared.rows.Publication.{Publication}
use Rattle.tab_streams.specs.declared.keys.Entry.{Entry}

-- each entry has the number of its place, where the first of the list has place n
abbrev pub AreNumbered : ℕ → List Entry → Type 0
AreNumbered n [] = Unit {0}
AreNumbered n (e ∷ es) = (e.number ≡ n) × AreNumbered (n + 1) es

abbrev pub rows_of : List Entry → List Publication
rows_of es = map (λ e. e.row) es
