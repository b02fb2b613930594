pub mod TrackedList
