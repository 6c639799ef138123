mod Joining
mod RoundTrip
mod Whole
