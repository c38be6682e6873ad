pub mod TopFrame
