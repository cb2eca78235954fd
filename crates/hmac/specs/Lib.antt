pub mod Hmac
pub mod Count
pub mod Pieces
