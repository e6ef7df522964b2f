pub mod Lexemes
pub mod Lexing
pub mod Layout
pub mod Parts
pub mod ProperLexemes
pub mod LexResults
