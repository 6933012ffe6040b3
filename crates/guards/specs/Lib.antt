-- What document 02 says of guards typed as a line: their trees, the grammar, the text that is written, the grammar as rules, the lists of nodes, and the two calls.
pub mod Trees
pub mod Grammar
pub mod Texts
pub mod Rules
pub mod Lists
pub mod Calls
