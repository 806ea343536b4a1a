pub mod BadDraws
pub mod Drawing
