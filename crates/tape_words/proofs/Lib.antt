pub mod SeedLists
