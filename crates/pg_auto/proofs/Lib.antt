-- Why the laws hold: the stages stand for the parts, states lead to those that follow them, ranks fall, walks are known by their bindings.
pub mod Members
pub mod Stands
pub mod Steps
pub mod Ranks
pub mod Ways
pub mod Once
