-- Messages go between sites of the catalogue. It uses all of the above but Told.
pub mod Holders
pub mod TableRoutes
pub mod InvRoutes
