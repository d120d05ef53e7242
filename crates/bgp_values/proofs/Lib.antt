pub mod MarkSteps
pub mod NumberSteps
pub mod RouteSteps
pub mod RowSteps
pub mod IdSteps
pub mod RealShapes
