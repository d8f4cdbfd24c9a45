-- Bytes held in a buffer, and a read behind them.
pub mod HeldBytes
