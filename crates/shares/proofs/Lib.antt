pub mod Gates
pub mod RoundTrip
