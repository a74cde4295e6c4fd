pub mod Device
pub mod Put
