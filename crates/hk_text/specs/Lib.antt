pub mod Bytes
pub mod Lexemes
pub mod Lines
pub mod Numbers
pub mod Sets
pub mod Texts
pub mod Tokens
pub mod inside
