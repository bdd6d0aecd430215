pub mod HatchCalls
pub mod SeedBoundary
pub mod MoveCalls
pub mod ConversionCalls
