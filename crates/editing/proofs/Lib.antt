pub mod Numbers
pub mod Editing
pub mod Admitting
