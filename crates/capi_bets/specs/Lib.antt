pub mod Bets
