pub mod BestScope
pub mod Joined
pub mod Lines
pub mod PrintedExpressions
pub mod PrintedLines
pub mod PrintedTokens
pub mod Spacing
