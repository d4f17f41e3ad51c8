pub mod DealtSummands
