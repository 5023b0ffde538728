pub mod WorkedEdges
