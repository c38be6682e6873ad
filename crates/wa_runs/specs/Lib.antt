pub mod Law
pub mod Regions
pub mod RunsTo
pub mod Simulation
pub mod StraightLine
pub mod Words
