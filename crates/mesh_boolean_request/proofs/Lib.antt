pub mod ZoneLists
