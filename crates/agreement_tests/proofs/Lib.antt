pub mod SentOn
