pub mod Tested
pub mod RealWorlds
