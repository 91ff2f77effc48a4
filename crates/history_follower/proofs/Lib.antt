pub mod FollowedReplays
