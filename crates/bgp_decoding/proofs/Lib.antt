mod Rows
mod Rooms
mod Opened
mod Placed
mod Numbered
mod Announced
mod SlotSteps
mod World
