pub mod QuarterTurns
