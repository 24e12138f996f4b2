pub mod AnswerTexts
pub mod Findings
pub mod Nodes
pub mod Replies
pub mod Rules
pub mod Searches
pub mod Trees
pub mod inside
