pub mod UnusedLinks
