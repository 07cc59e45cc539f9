pub mod LimitPrice
