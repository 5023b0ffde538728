pub mod WorkedOffsets
pub mod WorkedRows
pub mod WorkedSound
pub mod WorkedSequences
pub mod WorkedMoves
pub mod WorkedPublishes
pub mod WorkedRule
