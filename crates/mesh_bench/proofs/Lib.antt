pub mod HalfTurns
