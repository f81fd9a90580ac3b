pub mod AllPairs
pub mod BentPaths
pub mod SharedEnds
