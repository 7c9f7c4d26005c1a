mod Counted
pub mod FirstBlank
pub mod OneMore
mod SaidLines
pub mod ScriptLines
