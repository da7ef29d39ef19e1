mod Opened
pub mod RatesLemmas
pub mod SoakLemmas
