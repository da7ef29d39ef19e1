pub mod Found
pub mod Rising
pub mod Standing
pub mod Walking
