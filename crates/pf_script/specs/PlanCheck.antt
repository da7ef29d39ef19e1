pub mod Checked
pub mod Reports
pub mod Unread
