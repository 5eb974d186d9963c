-- What the proofs of several functions use.
mod Exporting
mod Reading
mod Beyond
mod Showing
mod Walks
