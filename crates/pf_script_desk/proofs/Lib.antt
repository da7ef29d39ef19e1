pub mod Answered
mod AskedExamples
