-- How a run over lines ends.
use Rattle.std.specs.Prelude.{ℕ, Bool, false, IsTrue, List, [], length}
use Rattle.host_desk.specs.Desk.{Desk}
use Rattle.input_lines.specs.Reading.{Reading}
use Rattle.machine_run.specs.Rules.{Rules}
use Rattle.machine_run.specs.LineItems.{LineItem, items_of, Breaks, LineFails}
use Rattle.machine_run.specs.Ends.{RunStop}
use Rattle.machine_run.specs.declared.stop.Stop.{Stop}

-- a reader that has read nothing, and may read so many bytes
abbrev pub fresh_reading : ℕ → Reading
fresh_reading limit = record { buffered = []; taken = 0; limit = limit; is_ended = false }

-- A run over the lines of a source ended with a stop, by what the source had and has left and its counts of faults.
abbrev pub LinesStop : {State : Type 0} → Rules State LineItem → (batch log input : ℕ) → (host_tells source_tells : Bool) → Desk → List ℕ → ℕ → Desk → List ℕ → ℕ → Stop → Type 0
LinesStop m batch log input host_tells source_tells old bytes faults new left later stop =
    let told = IsTrue host_tells × IsTrue source_tells in
    let fails = LineFails source_tells (fresh_reading input) bytes faults left later in
    let broken = λ (items : List LineItem). Breaks (fresh_reading input) bytes left (length items) in
    RunStop m batch log (items_of bytes) host_tells told fails broken old new stop
