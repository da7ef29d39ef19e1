mod Lateness
mod Behind
