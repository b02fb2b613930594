pub mod CallPlaces
pub mod Copying
pub mod Places
pub mod PlacesCode
pub mod Receiving
pub mod Sending
pub mod Waiting
pub mod WakeLaws
