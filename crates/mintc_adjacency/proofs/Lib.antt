pub mod SharedAdjacencyLaws
