mod Entries
mod Numbers
