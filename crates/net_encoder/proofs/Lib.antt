pub mod TrueWorlds
