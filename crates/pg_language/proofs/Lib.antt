-- That the language of scripts says one thing, and what its definitions and changes keep.
pub mod Firsts
pub mod Exact
pub mod Keeps
pub mod ValueKinds
pub mod FitRows
pub mod FitChanges
pub mod Fitting
