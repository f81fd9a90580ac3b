pub mod Slivers
