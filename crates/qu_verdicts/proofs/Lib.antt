pub mod VerdictForms
