pub mod KeptLists
