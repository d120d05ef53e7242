pub mod Grammar
pub mod Orders
