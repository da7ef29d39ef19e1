pub mod Lacks
pub mod Reaching
pub mod Ranking
pub mod Weights
pub mod Scaling
pub mod Keys
pub mod Demands
