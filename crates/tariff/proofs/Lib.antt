pub mod TariffLaws
pub mod ChargeLaws
