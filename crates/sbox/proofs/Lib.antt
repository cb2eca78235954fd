pub mod Sizes
pub mod Linear
pub mod Affine
pub mod Table
pub mod Inverse
pub mod Only
