pub mod ThreadLinks
