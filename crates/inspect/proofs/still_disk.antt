mod Read
mod Unchanged
