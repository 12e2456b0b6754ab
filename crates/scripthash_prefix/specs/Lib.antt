pub mod PrefixFree
