pub mod History
pub mod Machine
pub mod Rename
pub mod Renamed
pub mod Told
pub mod Entries
