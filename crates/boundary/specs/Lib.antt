pub mod Boundary
pub mod PrefixBoundary
pub mod HatchBoundary
pub mod MoveBoundary
pub mod ConversionBoundary
