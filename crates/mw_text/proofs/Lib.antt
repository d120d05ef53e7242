pub mod Found
pub mod Lists
pub mod Numbers
pub mod Octets
pub mod Reading
pub mod Results
pub mod WordCounts
