pub mod ExprContext
pub mod Kinds
pub mod Typed
