pub mod ChannelLaws
pub mod SendLaws
pub mod AnnouncedLaws
pub mod FailureLaws
pub mod QuietLaws
pub mod Start
pub mod Reached
pub mod NextLaws
