-- What only the functions of the crate need: no public clause cites it.
pub mod Joined
pub mod NotePlaces
pub mod Gathering
pub mod Firsts
pub mod FilePlaces
pub mod Slashes
pub mod ImageViews
pub mod Listings
pub mod CodeMaps
pub mod HeldRest
