pub mod Help
pub mod Line
pub mod Numbers
pub mod Program
pub mod Texts
