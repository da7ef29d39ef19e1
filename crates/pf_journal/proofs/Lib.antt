mod Reading
mod Sizes
mod States
pub mod Resting
mod Shapes
mod Opening
mod Putting
mod Pushing
mod Counting
mod Adding
mod RecorderLemmas
