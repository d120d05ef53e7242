pub mod RouteKinds
pub mod LeastOffers
pub mod EquationTests
pub mod FileRouters
pub mod Solutions
pub mod Reach
