-- Lists of events, and what was acknowledged, stored and applied.
pub mod World
