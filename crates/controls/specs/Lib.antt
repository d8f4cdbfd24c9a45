-- Phases and controls: 01 "Phases", and controls 5 to 8 of "Refusals by number".

-- the paper
pub mod Phases
pub mod Controls
