-- The line about a load.
use Rattle.std.specs.Prelude.{◌++◌, List, codes, decimal, ℕ}
use Rattle.load_gen.specs.declared.summary.Summary.{Summary}

-- one object, its keys in ascending order, and byte 10
abbrev pub summary_text : Summary → List ℕ
summary_text s =
    codes "{\"commits\":" ++ decimal s.commits ++ codes ",\"done\":" ++ decimal s.done ++ codes ",\"refused\":" ++ decimal s.refused ++ codes ",\"visible\":" ++ decimal s.visible ++ codes "}\n"
