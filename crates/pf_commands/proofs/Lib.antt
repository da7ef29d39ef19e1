pub mod Answering
pub mod Ends
pub mod Listed
pub mod Outside
pub mod Refusing
pub mod ScriptsWorked
